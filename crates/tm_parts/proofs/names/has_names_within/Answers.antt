use Rattle.std.proofs.Common.{Bool, ◌≡◌, ◌+◌, ◌<◌, ◌≤◌, ℕ, List, ◌++◌, length, take, get_or, Some, slice_get, sym, ◌∙◌, subst, arith}
use Rattle.std.specs.Prelude.{All, Option, IsTrue, ◌↔◌}
use Rattle.std.proofs.lemmas.List.{take_all}
use Rattle.std.proofs.lemmas.List.Elements.{All-more, All-append}
use Rattle.std.proofs.lemmas.Option.{get_or_from_slice_get, slice_get_within}
use Rattle.tm_circuit.specs.declared.parts.Clock.{Clock}
use Rattle.tm_circuit.specs.Sound.{clock_name}
use Rattle.tm_parts.proofs.NameLemmas.{all_second}
use Rattle.tm_parts.proofs.names.has_names_within.Goals as goal

more : (most : ℕ) (names : List (List ℕ)) (s : ℕ) (name bytes : List ℕ) → slice_get names s ≡ Some name → bytes ≡ name → length bytes ≤ most
    → All (λ n. length n ≤ most) (take s names) → All (λ n. length n ≤ most) (take (s + 1) names)
more most names s name bytes is same short before =
    let within : s < length names = slice_get_within names s name is in
    let here : get_or names s name ≡ name = get_or_from_slice_get names s name name is in
    All-more (λ n. length n ≤ most) names s name within before (subst (λ (n : List ℕ). length n ≤ most) (same ∙ sym here) short)

-- Where the names of the signals are short, the clock's tells.
whole : (most : ℕ) (names others : List (List ℕ)) (test : Bool) → All (λ n. length n ≤ most) names
    → (IsTrue test ↔ All (λ n. length n ≤ most) others) → IsTrue test ↔ All (λ n. length n ≤ most) (names ++ others)
whole most names others test short is =
    (λ yes. All-append (λ n. length n ≤ most) names others short (is.0 yes), λ both. is.1 (all_second (λ n. length n ≤ most) names others both))

pub loop-s-preserved : goal.loop-s-preserved
loop-s-preserved c = more c.args.most c.args.circuit.now.names c.loop-s.s c.name.result.now c.bytes.result.now c.name.ensures c.bytes.ensures (omega arith) c.loop-s.invariant

pub returns : goal.returns
returns c =
    let named = c.signals-s-end.ensures.sound.named in
    let all : length c.args.circuit.now.names ≤ c.loop-s.s = omega arith in
    let names : All (λ n. length n ≤ c.args.most) c.args.circuit.now.names =
    subst (λ (ns : List (List ℕ)). All (λ n. length n ≤ c.args.most) ns) (take_all c.loop-s.s c.args.circuit.now.names all) c.loop-s.invariant in
    whole c.args.most c.args.circuit.now.names (clock_name c.args.circuit.now.clock) c.is_clock_within.result names
    (subst (λ (clock : Option Clock). IsTrue c.is_clock_within.result ↔ All (λ n. length n ≤ c.args.most) (clock_name clock)) c.clock.ensures c.is_clock_within.ensures)
