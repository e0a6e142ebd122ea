use Rattle.tm_parts.proofs.Measures.{runs_measured, runs_of_short, runs_followed}
use Rattle.tm_parts.proofs.laws.runs_are_measured.Goals as goal

pub returns-clause-longest : goal.returns-clause-longest
returns-clause-longest c = runs_measured

pub returns-clause-short : goal.returns-clause-short
returns-clause-short c = runs_of_short

pub returns-clause-followed : goal.returns-clause-followed
returns-clause-followed c = runs_followed
