-- lane by lane
use Rattle.tm_cone.proofs.WordLemmas.{lanes_or}
use Rattle.tm_cone.proofs.words.either.Goals as goal

pub returns : goal.returns
returns c = lanes_or c.args.one c.args.other c.fits-one.0 c.fits-other.0
