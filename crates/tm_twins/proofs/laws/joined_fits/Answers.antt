use Rattle.std.proofs.lemmas.List.{length-map}
use Rattle.tm_twins.specs.Joined.{joined_drive}
use Rattle.tm_twins.proofs.laws.joined_fits.Goals as goal

pub returns : goal.returns
returns call c joined fits is = record {
  few = rw (is.drives.2, length-map c.drives (joined_drive is.drives.0)) fits.few;
  names = rw (is.names, is.clock) fits.names;
  runs = rw (is.names, is.clock) fits.runs;
  clock = rw is.clock fits.clock;
}
