-- Whether an output has lost its label, and the lag that it needs step by step.
use Rattle.std.proofs.Common.{◌≡◌, ℕ, suc, ◌<◌, inl, inr, Bool, false, List, length, Option, None, Some, refl, sym, ◌∙◌, ap, arith}
use Rattle.std.proofs.lemmas.Bool.{cases_lt}
use Rattle.tm_circuit.specs.declared.parts.Driver.{Driver}
use Rattle.tm_circuit.specs.declared.parts.Driver.TheVariants.{Input as FromInput, Latch, Gate as FromGate}
use Rattle.tm_circuit.specs.Plain.{Plain, Drive, input, latch, gate, drive_of, drive_in, is_latch}
use Rattle.tm_circuit.specs.Sound.{IsSound}
use Rattle.tm_circuit.specs.declared.sources.Source.{Source}
use Rattle.tm_circuit.specs.declared.sources.Source.TheVariants.{Input, Gate, Ring}
use Rattle.tm_unroll.specs.declared.node.Node.{Node}
use Rattle.tm_unroll.specs.Nodes.{node_at}
use Rattle.tm_unroll.specs.Latches.{behind_of, behind_latches}
use Rattle.tm_unroll.proofs.ChoiceLemmas.{Holds, some_or_none}
use Rattle.tm_replay.specs.declared.label.Label.{Label}
use Rattle.tm_replay.specs.Labels.{label_in}
use Rattle.tm_replay.specs.Served.{source_of}
use Rattle.tm_replay.specs.Replays.{FallsShort, HasLostSource, HaveLost}
use Rattle.tm_replay.proofs.SourceLemmas.{source_is}
use Rattle.tm_replay.proofs.LostLemmas.{gate_lost, input_keeps, ring_keeps}

short_or_not : (x : Option Label) (need : ℕ) → Holds (FallsShort x need)
short_or_not None need = inl tt
short_or_not (Some x) need = elim (cases_lt x.lag need) [ inl short ↦ inl short | inr enough ↦ inr (λ short. omega (arith, short, enough)) ]

lost_source_or_not : (c : Plain) → IsSound c → (labels : List (Option Label)) (s need : ℕ) → Holds (HasLostSource c.drives labels s need)
lost_source_or_not c sound labels s need = by_source (source_of c.drives s) refl
  where
    by_source : (e : Source) → source_of c.drives s ≡ e → Holds (HasLostSource c.drives labels s need)
    by_source (Input i) is = inr (input_keeps c.drives labels s need i (source_of c.drives s) (source_is c sound s) is)
    by_source Ring is = inr (ring_keeps c.drives labels s need (source_of c.drives s) (source_is c sound s) is)
    by_source (Gate g) is =
        let lost = gate_lost c.drives labels s need (source_of c.drives s) g (source_is c sound s) is in
        elim (short_or_not (label_in labels g) need) [ inl short ↦ inl (lost.0 short) | inr enough ↦ inr (λ h. enough (lost.1 h)) ]

-- Labels refute or they do not.
pub lost_or_kept : (need : ℕ → ℕ) (c : Plain) → IsSound c → (labels : List (Option Label)) → Holds (HaveLost need c labels)
lost_or_kept need c sound labels =
    elim (some_or_none (λ s. HasLostSource c.drives labels s (need s)) c.outputs (λ s stands. lost_source_or_not c sound labels s (need s))) [
      | inl (s, stands, lost) ↦ inl (s, stands, lost)
      | inr none ↦ inr (λ (s, stands, lost). none s stands lost)
    ]
