-- The lines of a report, written piece by piece, and all of them together.
use Rattle.std.proofs.Common.{◌≡◌, ℕ, zero, suc, ◌+◌, ◌<◌, List, [], ◌∷◌, ◌++◌, Some, map, length, get_or, take, sym, ◌∙◌, ap, arith, append_assoc}
use Rattle.std.specs.Prelude.{All, codes, slice_get}
use Rattle.std.specs.List.{flat_map}
use Rattle.std.proofs.lemmas.List.{take_more, map-append}
use Rattle.std.proofs.lemmas.Grind.{flat_map-append, common_steps}
use Rattle.std.proofs.lemmas.Option.{get_or_from_slice_get}
use Rattle.tm_circuit.specs.Plain.{Plain, Drive}
use Rattle.tm_circuit.specs.Chain.{IsChain, IsPeriod}
use Rattle.tm_circuit.specs.Sound.{IsSound}
use Rattle.tm_report.specs.declared.onward.Onward.{Onward}
use Rattle.tm_report.specs.Report.{name_of, behind_blank, chain_line, model_line, counts_line, widest_line, period_line, slack_line, gates_of, IsFirstLongest, IsReport}
use Rattle.tm_report.specs.Onward.{IsOnward, slack_of}
use Rattle.tm_report.proofs.Ways.{gate_inside, is_slack}

-- one name more
names_more : (c : Plain) (chain : List ℕ) (i s : ℕ) (name : List ℕ) → i < length chain → s ≡ get_or chain i s → slice_get c.names s ≡ Some name
    → flat_map behind_blank (map (name_of c) (take (i + 1) chain)) ≡ flat_map behind_blank (map (name_of c) (take i chain)) ++ behind_blank name
names_more c chain i s name inside here is =
    let e = take_more chain i s inside in
    let named : name_of c s ≡ name = get_or_from_slice_get c.names s name [] is in
    rw e (rw (← here) (grind (arith, common_steps, flat_map-append, map-append)))

pub chain_line_more : (c : Plain) (chain : List ℕ) (i s : ℕ) (name line : List ℕ) → i < length chain → s ≡ get_or chain i s → slice_get c.names s ≡ Some name
    → line ≡ chain_line c (take i chain) → (line ++ 32 ∷ []) ++ name ≡ chain_line c (take (i + 1) chain)
chain_line_more c chain i s name line inside here is before =
    let joined : (line ++ 32 ∷ []) ++ name ≡ line ++ behind_blank name = append_assoc line (32 ∷ []) name in
    let start : List ℕ = codes "chain" in
    let done : List ℕ = flat_map behind_blank (map (name_of c) (take i chain)) in
    joined ∙ ap (λ xs. xs ++ behind_blank name) before ∙ append_assoc start done (behind_blank name) ∙ ap (λ xs. start ++ xs) (sym (names_more c chain i s name inside here is))

-- the gates of a chain are signals
pub chain_inside : (drives : List Drive) (chain : List ℕ) → IsChain drives chain → All (λ s. s < length drives) chain
chain_inside drives [] linked = λ k d within. absurd (omega arith)
chain_inside drives (a ∷ rest) linked = λ k d within. at (chain_inside drives rest linked.2) k d within
  where
    at : All (λ s. s < length drives) rest → (k d : ℕ) → k < length (a ∷ rest) → get_or (a ∷ rest) k d < length drives
    at later zero d within = gate_inside drives a linked.0
    at later (suc k) d within = later k d (omega arith)

-- all lines together are the report
pub is_report : (c : Plain) (period : ℕ) (onward : List Onward) (chain : List ℕ) (heads lines : List (List ℕ)) → IsSound c → IsPeriod c period → IsOnward c onward
    → IsFirstLongest c chain → heads ≡ model_line c ∷ counts_line c ∷ widest_line c ∷ period_line period ∷ chain_line c chain ∷ []
    → lines ≡ heads ++ map (λ g. slack_line c g (slack_of c onward period g)) (gates_of c.drives) → IsReport c lines
is_report c period onward chain heads lines sound is_period is_onward is_first first all = record {
  period = period;
  chain = chain;
  slack = slack_of c onward period;
  is_period = is_period;
  is_first = is_first;
  are_slacks = λ g is_gate_g. is_slack c onward is_onward sound g period is_period is_gate_g;
  spelled = all ∙ ap (λ xs. xs ++ map (λ g. slack_line c g (slack_of c onward period g)) (gates_of c.drives)) first;
}
