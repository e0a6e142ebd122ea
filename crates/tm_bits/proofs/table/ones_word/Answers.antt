use Rattle.std.proofs.Common.{◌≡◌, ◌+◌, ◌*◌, ltb, ◌∙◌, arith}
use Rattle.std.proofs.lemmas.Bool.Decides.{nat_tests}
use Rattle.tm_bits.proofs.Words.{bit_at_low_ones}
use Rattle.tm_bits.proofs.table.ones_word.Goals as goal

pub returns-else-here-eq0 : goal.returns-else-here-eq0
returns-else-here-eq0 c place below =
    let least : ltb place c.min-here.result ≡ ltb (64 * c.args.index + place) c.args.rows = grind (arith, nat_tests) in
    bit_at_low_ones c.min-here.result place (omega arith) ∙ least
