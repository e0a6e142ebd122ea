-- The draft is in range, so its drivers can be ranked and followed.
use Rattle.std.proofs.Common.{◌∙◌, ap, map, length}
use Rattle.tm_circuit.specs.Plain.{drive_of, pins_of, greatest}
use Rattle.tm_circuit.proofs.RangeLemmas.{range_is, widest_is}
use Rattle.tm_circuit.proofs.build.finish.Goals as goal

pub rank_all-requires-clause-reads : goal.rank_all-requires-clause-reads
rank_all-requires-clause-reads c = rw c.deref.ensures.value ((range_is c.args.draft c.requires.laid_out).1 c.requires.lawful.range).reads

pub sources_of-requires-clause-reads : goal.sources_of-requires-clause-reads
sources_of-requires-clause-reads c = rw c.deref-2.ensures.value ((range_is c.args.draft c.requires.laid_out).1 c.requires.lawful.range).reads

pub widest_of-widest-requires : goal.widest_of-widest-requires
widest_of-widest-requires c = rw c.deref-4.ensures.value ((range_is c.args.draft c.requires.laid_out).1 c.requires.lawful.range).pins

pub of-requires-clause-width : goal.of-requires-clause-width
of-requires-clause-width c =
    widest_is c.args.draft.drivers.items c.widest_of-widest.result (c.widest_of-widest.ensures ∙ ap (λ ds. greatest (map (λ d. length (pins_of (drive_of d))) ds)) c.deref-4.ensures.value)
