use Rattle.tm_mapped.proofs.FunctionLemmas.{one_value, one_function}
use Rattle.tm_mapped.proofs.laws.function_is_one.Goals as goal

pub returns-clause-value : goal.returns-clause-value
returns-clause-value g = one_value

pub returns-clause-function : goal.returns-clause-function
returns-clause-function g = one_function
