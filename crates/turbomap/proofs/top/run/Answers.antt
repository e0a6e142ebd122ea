use Rattle.std.proofs.Common.{refl, map}
use Rattle.std.specs.Prelude.{string_bytes}
use Rattle.turbomap.proofs.Tables.{words_have_tables}
use Rattle.turbomap.proofs.Runs as runs
use Rattle.turbomap.proofs.top.run.Goals as goal

pub returns : goal.returns
returns g c = let tables = words_have_tables (map string_bytes c.args.words.now) in rw c.number_of.ensures (record {
  answers = record { status = c.run_words.result; number_is = refl; says = c.run_words.ensures };
  words = runs.words _ _ c.run_words.result c.run_words.ensures;
  long = runs.long _ _ c.run_words.result tables c.run_words.ensures;
  refused = λ status. runs.refused _ _ c.run_words.result status tables c.run_words.ensures;
  complete = runs.complete _ _ c.run_words.result tables c.run_words.ensures;
})
