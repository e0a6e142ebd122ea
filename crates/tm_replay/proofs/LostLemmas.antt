-- What labels refute, by the source of a signal and over all outputs.
use Rattle.std.proofs.Common.{◌≡◌, ℕ, ◌<◌, List, length, get_or, sym, ◌∙◌, subst}
use Rattle.std.specs.Prelude.{All, Contains, Option, ◌↔◌}
use Rattle.tm_circuit.specs.Plain.{Plain, Drive}
use Rattle.tm_circuit.specs.Sound.{IsSound}
use Rattle.tm_circuit.specs.Source.{IsSource}
use Rattle.tm_circuit.specs.declared.sources.Source.{Source}
use Rattle.tm_circuit.specs.declared.sources.Source.TheVariants.{Input, Gate, Ring}
use Rattle.tm_circuit.proofs.OneSource.{one_source}
use Rattle.tm_unroll.proofs.EachLemmas.{stands-at}
use Rattle.tm_replay.specs.declared.label.Label.{Label}
use Rattle.tm_replay.specs.Labels.{label_in}
use Rattle.tm_replay.specs.Replays.{FallsShort, HasLostSource}

-- A gate as the source decides.
pub gate_lost : (drives : List Drive) (labels : List (Option Label)) (s need : ℕ) (e : Source) (g : ℕ) → IsSource drives s e → e ≡ Gate g
    → FallsShort (label_in labels g) need ↔ HasLostSource drives labels s need
gate_lost drives labels s need e g is same = (
  λ short. (g, subst (λ (x : Source). IsSource drives s x) same is, short),
  λ lost.
      let one : Gate g ≡ Gate lost.0 = sym same ∙ one_source drives s e (Gate lost.0) is lost.1 in
      let gates : g ≡ lost.0 = cc in
      subst (λ i. FallsShort (label_in labels i) need) (sym gates) lost.2,
)

-- An input and a ring lose nothing.
pub input_keeps : (drives : List Drive) (labels : List (Option Label)) (s need i : ℕ) (e : Source) → IsSource drives s e → e ≡ Input i
    → HasLostSource drives labels s need → ⊥
input_keeps drives labels s need i e is same lost =
    let one : Input i ≡ Gate lost.0 = sym same ∙ one_source drives s e (Gate lost.0) is lost.1 in cc

pub ring_keeps : (drives : List Drive) (labels : List (Option Label)) (s need : ℕ) (e : Source) → IsSource drives s e → e ≡ Ring
    → HasLostSource drives labels s need → ⊥
ring_keeps drives labels s need e is same lost =
    let one : Ring ≡ Gate lost.0 = sym same ∙ one_source drives s e (Gate lost.0) is lost.1 in cc

-- The outputs that are read are signals, and outputs.
pub output_within : (c : Plain) → IsSound c → (xs : List ℕ) (i x : ℕ) → xs ≡ c.outputs → i < length xs → x ≡ get_or xs i x → x < length c.drives
output_within c sound xs i x same within at =
    let outputs = subst (λ (ys : List ℕ). All (λ s. s < length c.drives) ys) (sym same) sound.range.outputs in
    subst (λ n. n < length c.drives) (sym at) (outputs i x within)

pub output_stands : (c : Plain) (xs : List ℕ) (i x : ℕ) → xs ≡ c.outputs → i < length xs → x ≡ get_or xs i x → Contains c.outputs x
output_stands c xs i x same within at = subst (λ (ys : List ℕ). Contains ys x) same (stands-at xs i x within at)
