-- The bit kept is that of the table with inputs 0.
use Rattle.std.proofs.Common.{◌≡◌, ◌<◌, ℕ, List, eqb, length, ap, ◌∙◌, arith}
use Rattle.std.specs.Int.{bit_at}
use Rattle.std.proofs.lemmas.List.{get_or_read}
use Rattle.tm_init.specs.Starts.{Bits, bit_in}
use Rattle.tm_init.proofs.StartLemmas.{kept_bit}
use Rattle.tm_init.proofs.starts.Starts.value.Goals as goal

pub returns-clause-first : goal.returns-clause-first
returns-clause-first c circuit d t are obeys =
    let step = c.args.step in
    let place = c.gate.inside.0 in
    let bytes = c.self.inside.bytes.items in
    let same : bytes ≡ c.args.self.now.bytes = ap (λ (kept : Bits). kept.bytes) c.self.view_is in
    let within : place < length bytes = omega (arith, c.requires.gate, c.gate.view_is, ap length same) in
    let read : c.bit.result ≡ bit_in bytes place step = c.bit.ensures
    ∙ ap (λ (n : ℕ). eqb (bit_at n step) 1) (get_or_read bytes place c.index.result.now within c.index.ensures 0) in
    read ∙ ap (λ (kept : List ℕ). bit_in kept place step) same ∙ ap (λ (s : ℕ). bit_in c.args.self.now.bytes s step) c.gate.view_is
    ∙ kept_bit circuit d c.args.gate step c.args.self.now t are c.requires.gate c.requires.step obeys
