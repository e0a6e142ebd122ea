use Rattle.std.proofs.Common.{◌≡◌, ◌≤◌, ◌∙◌, ap, subst, length, List, ℕ, IfOk, sym, Vec, Global, Ok, Err}
use Rattle.std.proofs.lemmas.Result.{IfOk-weaker}
use Rattle.std.specs.Prelude.{Result}
use Rattle.tm_bits.specs.declared.memory.NoMemory.{NoMemory}
use Rattle.tm_circuit.specs.Plain.{Plain}
use Rattle.blif_read.specs.declared.TheConstants.{MAPPED}
use Rattle.blif_read.specs.Text.{IsCircuitOf}
use Rattle.blif_write.specs.Text.{text_of}
use Rattle.tm_make.specs.Sample.{sample_text}
use Rattle.tm_make.specs.SampleCircuit.{sample_circuit, HasNarrowCircuit}
use Rattle.tm_make.proofs.TextLemmas.{text_written}
use Rattle.tm_make.proofs.ShortLemmas.{text_is_short, narrow_circuit}
use Rattle.tm_make.proofs.make.sample.Goals as goal

-- The bytes that are answered are a text with the circuit that was written.
both : (r : Result (Vec ℕ Global) NoMemory) (bytes : List ℕ) (made : Plain) (n : ℕ)
    → ((text : List ℕ) → IsCircuitOf MAPPED (sample_text n) (sample_circuit n) → text ≡ sample_text n → HasNarrowCircuit text (sample_circuit n)) → bytes ≡ sample_text n
    → made ≡ sample_circuit n → IfOk r (λ text. text.items ≡ bytes) → IfOk r (λ text. IsCircuitOf MAPPED text.items made)
    → IfOk r (λ text. HasNarrowCircuit text.items (sample_circuit n))
both (Ok text) bytes made n narrow is same written found =
    let e : text.items ≡ sample_text n = written ∙ is in
    narrow text.items (subst (λ (t : List ℕ). IsCircuitOf MAPPED t (sample_circuit n)) e (subst (λ (c : Plain). IsCircuitOf MAPPED text.items c) same found)) e
both (Err fault) bytes made n narrow is same written found = tt

pub returns-clause-text : goal.returns-clause-text
returns-clause-text c =
    let n = c.args.number in
    let is : text_of c.in_ok-circuit.circuit ≡ sample_text n = ap text_of c.in_ok-circuit.ensures ∙ text_written n c.requires.some in
    IfOk-weaker c.text.result (λ (text : Vec ℕ Global). text.items ≡ text_of c.in_ok-circuit.circuit) (λ (text : Vec ℕ Global). text.items ≡ sample_text n)
    (λ text written. written ∙ is) c.text.ensures.text

pub returns-clause-circuit : goal.returns-clause-circuit
returns-clause-circuit c =
    let n = c.args.number in
    let made = c.in_ok-circuit.circuit in
    let is : text_of made ≡ sample_text n = ap text_of c.in_ok-circuit.ensures ∙ text_written n c.requires.some in
    both c.text.result (text_of made) made n (narrow_circuit n c.requires.some c.requires.few) is c.in_ok-circuit.ensures
    c.text.ensures.text c.text.ensures.circuit

pub returns-clause-short : goal.returns-clause-short
returns-clause-short c =
    let n = c.args.number in
    let is : text_of c.in_ok-circuit.circuit ≡ sample_text n = ap text_of c.in_ok-circuit.ensures ∙ text_written n c.requires.some in
    IfOk-weaker c.text.result (λ (text : Vec ℕ Global). text.items ≡ text_of c.in_ok-circuit.circuit) (λ (text : Vec ℕ Global). length text.items ≤ 16777216)
    (λ text written. subst (λ (bytes : List ℕ). length bytes ≤ 16777216) (sym (written ∙ is)) (text_is_short n c.requires.some c.requires.few)) c.text.ensures.text
