use Rattle.std.proofs.Common.{sym, ◌∙◌, arith}
use Rattle.tm_texts.specs.Limits.{least_sample, most_sample}
use Rattle.turbomap.proofs.Numbers.{number_parsed, number_unparsed}
use Rattle.turbomap.proofs.words.parsed.Goals as goal

pub returns-in-Ok-clause-number : goal.returns-in-Ok-clause-number
returns-in-Ok-clause-number c =
    c.within.ensures.number
    ∙ sym (number_parsed least_sample most_sample c.args.word.now c.parse.result c.in-Ok.number c.requires.headed c.parse.ensures.value.0 c.in-Ok.is)

pub returns-in-Err-clause-number : goal.returns-in-Err-clause-number
returns-in-Err-clause-number c =
    sym (number_unparsed least_sample most_sample c.args.word.now c.parse.result c.in-Err.field-0 (omega arith) c.requires.headed
    c.parse.ensures.value.0 c.in-Err.is)
