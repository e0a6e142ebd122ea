use Rattle.aiger_read.specs.Lines.{lines_of}
use Rattle.aiger_read.proofs.WholeLemmas.{lines_meant}
use Rattle.aiger_read.proofs.laws.meaning.Goals as goal

pub returns : goal.returns
returns c = λ limits text circuit is sound. lines_meant limits (lines_of text) circuit is sound
