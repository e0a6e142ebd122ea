use Rattle.two_way.proofs.MappingLemmas.{mapping_two, mapping_up, mapping_raised}
use Rattle.two_way.proofs.PeriodLemmas.{least_two, least_up}
use Rattle.two_way.proofs.ReplayLemmas.{refutes_two}
use Rattle.two_way.proofs.laws.two_ways_stand_on_a_base.Goals as goal

pub returns-clause-mappings : goal.returns-clause-mappings
returns-clause-mappings c = λ circuit k d back tables. (mapping_up back circuit k d tables, mapping_two back circuit k d tables)

pub returns-clause-all : goal.returns-clause-all
returns-clause-all c = mapping_raised

pub returns-clause-least : goal.returns-clause-least
returns-clause-least c = λ circuit k d back period. (least_up circuit k d back period, least_two circuit k d back period)

pub returns-clause-refuted : goal.returns-clause-refuted
returns-clause-refuted c = λ circuit k d back target drops is. refutes_two back circuit k d target drops is
