use Rattle.tm_twins.proofs.JoinedLemmas.{one_joined}
use Rattle.tm_twins.proofs.SoundJoined.{some_joined, joined_sound}
use Rattle.tm_twins.proofs.laws.one_joined.Goals as goal

pub returns-clause-some : goal.returns-clause-some
returns-clause-some c = some_joined

pub returns-clause-one : goal.returns-clause-one
returns-clause-one c = one_joined

pub returns-clause-sound : goal.returns-clause-sound
returns-clause-sound c = joined_sound
