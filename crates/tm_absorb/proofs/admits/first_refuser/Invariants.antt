-- the gates so far admit the table
use Rattle.std.proofs.Common.{ℕ, take}
use Rattle.std.specs.Prelude.{Contains}
use Rattle.tm_unroll.specs.Mappings.{table_of}
use Rattle.tm_absorb.specs.Slots.{IsAdmittedAt}
use Rattle.tm_absorb.proofs.admits.first_refuser.Given as goal

abbrev pub invariant-loop-place : goal.invariant-loop-place
invariant-loop-place l = (g : ℕ) → Contains (take l.place l.gates) g → IsAdmittedAt l.circuit.drives l.k l.slots (table_of l.table) g
