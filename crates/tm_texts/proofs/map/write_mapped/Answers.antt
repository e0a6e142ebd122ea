use Rattle.std.proofs.Common.{sym}
use Rattle.tm_texts.proofs.map.write_mapped.Goals as goal

pub returns-clause-spelled : goal.returns-clause-spelled
returns-clause-spelled c = record {
  spelled = c.in_ok-text.ensures.text;
  of_bytes = c.in_ok-text.ensures.circuit;
  only = c.in_ok-text.ensures.only;
  tables_are = sym c.gates.ensures;
  registers_are = sym c.latches.ensures;
}
