-- A line with the words of its keyword, or its fault.
use Rattle.std.proofs.Common.{◌≡◌, ℕ, false, eqb, length, map, Bor, List, sym, ap, ◌∙◌, arith}
use Rattle.std.proofs.lemmas.List.{length-map}
use Rattle.cert_text.specs.declared.fault.CertKind.TheVariants.{Word}
use Rattle.cert_text.specs.Words.{words_in}
use Rattle.cert_text.specs.Faults.{later, has_words, pieces_of}
use Rattle.cert_text.proofs.Lists.{length-pieces}
use Rattle.cert_text.proofs.StepLemmas.{stops_unended, stops_line, fault-words, if_none}
use Rattle.cert_text.proofs.lines.words_due.Goals as goal

pub returns-in_default-clause-fault : goal.returns-in_default-clause-fault
returns-in_default-clause-fault c =
    let one = ap length (if_none c.cut_line.result _ c.in_default.not-Some c.cut_line.ensures.none) in
    rw c.at.ensures (stops_unended (later c.args.keyword) (pieces_of c.args.lines.rest.now) c.args.lines.number one)

pub has_words-requires : goal.has_words-requires
has_words-requires c =
    let line = c.in-Some.line.now in
    let items = c.in_ok-words.words.items in
    let many : length (map (λ (w : Bor (List ℕ)). w.now) items) ≡ length (words_in line) = ap length c.in_ok-words.ensures in
    let same : length c.deref.result.now ≡ length items = ap length c.deref.ensures.value in
    omega (arith, many, same, length-map items (λ (w : Bor (List ℕ)). w.now), length-pieces (λ (b : ℕ). eqb b 32) line)

pub returns-then-not-has_words-clause-fault : goal.returns-then-not-has_words-clause-fault
returns-then-not-has_words-clause-fault c =
    let line = c.in-Some.line.now in
    let rest = c.in-Some.rest.now in
    let words = ap (map (λ (w : Bor (List ℕ)). w.now)) c.deref.ensures.value ∙ c.in_ok-words.ensures in
    let test : has_words c.args.keyword (words_in line) ≡ false = sym (ap (has_words c.args.keyword) words) ∙ sym c.has_words.ensures ∙ c.if-not-has_words.true in
    rw c.at-then-not-has_words.ensures (stops_line (later c.args.keyword) (pieces_of c.args.lines.rest.now) line (pieces_of rest) c.args.lines.number Word c.in-Some.ensures.some
    (length-pieces (λ (b : ℕ). eqb b 10) rest) (fault-words c.args.keyword line test))

pub returns-clause-line : goal.returns-clause-line
returns-clause-line c =
    let rest = c.in-Some.rest.now in
    let words = ap (map (λ (w : Bor (List ℕ)). w.now)) c.deref.ensures.value in
    record {
      line = c.in-Some.line.now;
      whole = c.in-Some.ensures.some;
      some = length-pieces (λ (b : ℕ). eqb b 10) rest;
      are_words = c.in_ok-words.ensures;
      lawful = sym (ap (has_words c.args.keyword) words) ∙ sym c.has_words.ensures ∙ c.if-not-has_words.false;
    }
