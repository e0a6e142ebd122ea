-- What a net of served nodes keeps: that its circuit is sound, which has at most one proof and so can be kept as a fact, and
-- with it the laws of a net.
use Rattle.std.proofs.Common.{ℕ, List, Option}
use Rattle.std.proofs.Props.{props}
use Rattle.tm_circuit.specs.Plain.{Plain, Drive, input, latch, gate}
use Rattle.tm_circuit.specs.Chain.{RisesTo}
use Rattle.tm_circuit.specs.Sound.{IsSound, IsPlaced, ReadsBelow, FitsPins}
use Rattle.tm_unroll.specs.NetCuts.{KeepsNetLaws}
use Rattle.tm_unroll.proofs.NetLemmas.{keeps_net_laws}
use Rattle.tm_replay.specs.declared.label.Label.{Label}
use Rattle.tm_replay.specs.Served.{most_advance, is_served, served}

placed_one : (inputs latches s : ℕ) (d : Drive) → IsProp (IsPlaced inputs latches s d)
placed_one inputs latches s input = hlevel props
placed_one inputs latches s (latch next init) = hlevel props
placed_one inputs latches s (gate pins cover) = hlevel props

reads_one : (n : ℕ) (d : Drive) → IsProp (ReadsBelow n d)
reads_one n input = hlevel props
reads_one n (latch next init) = hlevel props
reads_one n (gate pins cover) = hlevel props

pins_one : (d : Drive) → IsProp (FitsPins d)
pins_one input = hlevel props
pins_one (latch next init) = hlevel props
pins_one (gate pins cover) = hlevel props

rises_one : (rank : ℕ → ℕ) (s : ℕ) (d : Drive) → IsProp (RisesTo rank s d)
rises_one rank s input = hlevel props
rises_one rank s (latch next init) = hlevel props
rises_one rank s (gate pins cover) = hlevel props

pub sound_has_one_proof : (c : Plain) → IsProp (IsSound c)
sound_has_one_proof c = hlevel (props, placed_one, reads_one, pins_one, rises_one)

-- The net of served nodes keeps the laws of a net.
pub served_keeps : (base : ℕ) (c : Plain) (labels : List (Option Label)) (within : ℕ) → IsSound c → KeepsNetLaws (served base c labels within)
served_keeps base c labels within sound = keeps_net_laws most_advance c (λ x. is_served base c.drives labels within x) sound
