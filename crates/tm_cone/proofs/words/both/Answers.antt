-- lane by lane
use Rattle.tm_cone.proofs.WordLemmas.{lanes_and}
use Rattle.tm_cone.proofs.words.both.Goals as goal

pub returns : goal.returns
returns c = lanes_and c.args.one c.args.other c.fits-one.0 c.fits-other.0
