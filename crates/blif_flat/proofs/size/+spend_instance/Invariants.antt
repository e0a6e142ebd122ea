-- what is left pays for the statements so far
use Rattle.std.proofs.Common.{map}
use Rattle.blif_unit.specs.Unit.{model_of}
use Rattle.blif_flat.specs.Around.{context_of}
use Rattle.blif_flat.proofs.Parts.{IsPaid, IsAtSite}
use Rattle.blif_flat.proofs.size.+spend_instance.Given as goal

abbrev pub invariant-loop-stated : goal.invariant-loop-stated
invariant-loop-stated l =
    IsPaid l.levels (map model_of l.units) l.joiner l.top (context_of l.joiner l.around) l.model l.number l.stated-index l.room l.left
    × IsAtSite (map model_of l.units) l.model l.number l.stated-index

abbrev pub decreases-spend_instance : goal.decreases-spend_instance
decreases-spend_instance l = l.levels
