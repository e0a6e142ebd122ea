-- Nodes behind latches, and what a gate reads there.
use Rattle.std.proofs.Common.{◌≡◌, ℕ, zero, suc, ◌<◌, ◌≤◌, false, List, length, sym, subst, arith}
use Rattle.std.specs.Prelude.{All, slice_index}
use Rattle.std.proofs.lemmas.List.Elements.{All-nil}
use Rattle.tm_bits.specs.Rows.{Rows}
use Rattle.tm_circuit.specs.Plain.{Plain, Drive, input, latch, gate, drive_in, pins_of}
use Rattle.tm_circuit.specs.Chain.{IsGate}
use Rattle.tm_circuit.specs.Sound.{IsSound, ReadsBelow, FitsPins}
use Rattle.tm_unroll.proofs.JudgeLemmas.{gate_within}
use Rattle.tm_inherit.specs.declared.reads.Read.{Read}
use Rattle.tm_inherit.specs.Reads.{IsRead}
use Rattle.tm_unroll.specs.declared.node.Node.{Node}
use Rattle.tm_unroll.specs.Nodes.{node_at}
use Rattle.tm_unroll.specs.Latches.{behind_of, behind_latches}
use Rattle.tm_replay.proofs.SourceLemmas.{reads_signals}

-- What latches lead to is a signal.
pub behind_within : (c : Plain) → IsSound c → (a s : ℕ) → s < length c.drives → (behind_latches c.drives a s).signal < length c.drives
behind_within c sound zero s within = within
behind_within c sound (suc less) s within = by_drive (λ next inside. behind_within c sound less next inside) (drive_in c.drives s) (reads_signals c sound s within)
  where
    by_drive : ((next : ℕ) → next < length c.drives → (behind_latches c.drives less next).signal < length c.drives) → (d : Drive) → ReadsBelow (length c.drives) d
        → (behind_of d (node_at (suc less) s) (λ n. behind_latches c.drives less n)).signal < length c.drives
    by_drive further input reads = within
    by_drive further (latch next init) reads = further next reads
    by_drive further (gate pins cover) reads = within

-- The pins of a gate are signals.
pins_within : (c : Plain) → IsSound c → (g : ℕ) → IsGate c.drives g → All (λ p. p < length c.drives) (pins_of (drive_in c.drives g))
pins_within c sound g is = by_drive (drive_in c.drives g) (reads_signals c sound g (gate_within c.drives g is))
  where
    by_drive : (d : Drive) → ReadsBelow (length c.drives) d → All (λ p. p < length c.drives) (pins_of d)
    by_drive input reads = All-nil (λ p. p < length c.drives)
    by_drive (latch next init) reads = All-nil (λ p. p < length c.drives)
    by_drive (gate pins cover) reads = reads

-- So is what a gate reads behind them.
pub pin_within : (c : Plain) → IsSound c → (g lag : ℕ) (r : Read) → IsGate c.drives g → IsRead c.drives g lag r → slice_index (pins_of (drive_in c.drives g)) r.index < length c.drives
pin_within c sound g lag r is read = pins_within c sound g is r.index 0 read.within

pub read_within : (c : Plain) → IsSound c → (g lag : ℕ) (r : Read) → IsGate c.drives g → IsRead c.drives g lag r → r.node.signal < length c.drives
read_within c sound g lag r is read =
    subst (λ (y : Node). y.signal < length c.drives) (sym read.node) (behind_within c sound lag (slice_index (pins_of (drive_in c.drives g)) r.index) (pin_within c sound g lag r is read))

-- A gate has few pins.
pub few_pins : (c : Plain) → IsSound c → (g : ℕ) (pins : List ℕ) (cover : Rows) → g < length c.drives → drive_in c.drives g ≡ gate pins cover → length pins < 256
few_pins c sound g pins cover within is =
    let fits : FitsPins (drive_in c.drives g) = sound.range.pins g (latch g false) within in
    let few = (subst (λ (d : Drive). FitsPins d) is fits).0 in
    omega (arith, few)

-- Latches take advance away.
pub behind_low : (drives : List Drive) (a s : ℕ) → (behind_latches drives a s).advance ≤ a
behind_low drives zero s = omega arith
behind_low drives (suc less) s = by_drive (λ next. behind_low drives less next) (drive_in drives s)
  where
    by_drive : ((next : ℕ) → (behind_latches drives less next).advance ≤ less) → (d : Drive) → (behind_of d (node_at (suc less) s) (λ n. behind_latches drives less n)).advance ≤ suc less
    by_drive further input = omega arith
    by_drive further (latch next init) = let low = further next in omega (arith, low)
    by_drive further (gate pins cover) = omega arith

pub read_low : (drives : List Drive) (g lag : ℕ) (r : Read) → IsRead drives g lag r → r.node.advance ≤ lag
read_low drives g lag r read = subst (λ (y : Node). y.advance ≤ lag) (sym read.node) (behind_low drives lag (slice_index (pins_of (drive_in drives g)) r.index))
