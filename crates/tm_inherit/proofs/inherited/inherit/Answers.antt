-- What is read is a signal.
use Rattle.tm_inherit.proofs.ReadLemmas.{read_within}
use Rattle.tm_inherit.proofs.inherited.inherit.Goals as goal

pub is_end-requires : goal.is_end-requires
is_end-requires c = read_within c.args.circuit.now c.signals-sound.ensures.sound c.args.aim.now.gate c.args.aim.now.lag c.args.read.now c.requires.gate c.requires.read
