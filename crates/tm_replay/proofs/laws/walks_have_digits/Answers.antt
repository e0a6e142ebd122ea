use Rattle.tm_replay.proofs.DigitLemmas.{digit_walks}
use Rattle.tm_replay.proofs.laws.walks_have_digits.Goals as goal

pub returns : goal.returns
returns c = digit_walks
