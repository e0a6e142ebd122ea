-- the statements so far are there
use Rattle.std.proofs.Common.{map}
use Rattle.blif_unit.specs.Unit.{model_of, telling_of}
use Rattle.blif_flat.specs.Around.{context_of}
use Rattle.blif_flat.proofs.Parts.{IsMade, IsAtSite}
use Rattle.blif_flat.proofs.expand.+add_instance.Given as goal

abbrev pub invariant-loop-stated : goal.invariant-loop-stated
invariant-loop-stated l =
    IsMade l.levels (map model_of l.units) l.joiner l.top (context_of l.joiner l.around) l.model l.number l.stated-index (map telling_of l.initial.out.items) (map telling_of l.out.items)
    × IsAtSite (map model_of l.units) l.model l.number l.stated-index

abbrev pub decreases-add_instance : goal.decreases-add_instance
decreases-add_instance l = l.levels
