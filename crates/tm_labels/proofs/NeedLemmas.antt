-- What an output needs, latch by latch.
use Rattle.std.proofs.Common.{◌≡◌, ℕ, zero, suc, ◌-◌, ◌<◌, Bool, false, List, length, refl, ◌∙◌, ap, subst, arith}
use Rattle.tm_circuit.specs.Plain.{Plain, Drive, input, latch, gate, drive_in, is_latch}
use Rattle.tm_circuit.specs.Sound.{IsSound, ReadsBelow}
use Rattle.tm_unroll.specs.Nodes.{node_at}
use Rattle.tm_unroll.specs.Latches.{behind_of, behind_latches}
use Rattle.tm_replay.proofs.SourceLemmas.{reads_signals}

-- Behind a latch there is one advance less to go.
pub behind_latch : (drives : List Drive) (a s next : ℕ) (init : Bool) → drive_in drives s ≡ latch next init → 0 < a → behind_latches drives a s ≡ behind_latches drives (a - 1) next
behind_latch drives zero s next init is some = absurd (omega arith)
behind_latch drives (suc less) s next init is some =
    ap (λ (d : Drive). behind_of d (node_at (suc less) s) (λ n. behind_latches drives less n)) is ∙ ap (λ n. behind_latches drives n next) (omega arith)

-- An input and a gate end the way.
pub behind_ends : (drives : List Drive) (a s : ℕ) → is_latch (drive_in drives s) ≡ false → (behind_latches drives a s).advance ≡ a
behind_ends drives zero s is = refl
behind_ends drives (suc less) s is = by_drive (drive_in drives s) is
  where
    by_drive : (d : Drive) → is_latch d ≡ false → (behind_of d (node_at (suc less) s) (λ n. behind_latches drives less n)).advance ≡ suc less
    by_drive input is_no = refl
    by_drive (latch next init) is_no = cc
    by_drive (gate pins cover) is_no = refl

-- The next of a latch is a signal.
pub next_within : (c : Plain) → IsSound c → (s next : ℕ) (init : Bool) → s < length c.drives → drive_in c.drives s ≡ latch next init → next < length c.drives
next_within c sound s next init within is = subst (λ (d : Drive). ReadsBelow (length c.drives) d) is (reads_signals c sound s within)
