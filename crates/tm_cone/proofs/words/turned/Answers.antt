-- lane by lane
use Rattle.tm_cone.proofs.WordLemmas.{lanes_not}
use Rattle.tm_cone.proofs.words.turned.Goals as goal

pub returns : goal.returns
returns c = lanes_not c.args.lanes c.fits-lanes.0 c.fits-lanes.1
