-- none went, and the gate is a reader of the sources so far
use Rattle.std.proofs.Common.{ℕ, map, take}
use Rattle.std.specs.Prelude.{Contains}
use Rattle.tm_absorb.specs.Slots.{AddsReaders, row_in}
use Rattle.tm_absorb.proofs.readers.add_reader.Given as goal

abbrev pub invariant-loop-source : goal.invariant-loop-source
invariant-loop-source l = AddsReaders (map (λ list. list.items) l.fn.readers) (map (λ list. list.items) l.readers)
    × ((g : ℕ) → Contains (take l.source-index l.gates) g → Contains (row_in (map (λ list. list.items) l.readers) g) l.gate)
