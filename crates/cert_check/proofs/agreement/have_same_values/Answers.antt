use Rattle.cert_check.proofs.AgreeLemmas.{values_from_bits}
use Rattle.cert_check.proofs.agreement.have_same_values.Goals as goal

pub returns-else-is_same_cover : goal.returns-else-is_same_cover
returns-else-is_same_cover c =
    values_from_bits c.args.one.now c.args.other.now c.args.pins c.table.result.inputs c.table.result.words c.table-else-is_same_cover.result.words c.have_same_bits.result
    c.table.ensures.inputs c.table.ensures.at_bits c.table-else-is_same_cover.ensures.at_bits c.table.ensures.values c.table-else-is_same_cover.ensures.values c.have_same_bits.ensures
