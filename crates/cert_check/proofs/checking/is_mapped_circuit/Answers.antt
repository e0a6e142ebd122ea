use Rattle.tm_unroll.specs.Mappings.{tables_of}
use Rattle.cert_check.proofs.checking.is_mapped_circuit.Goals as goal

pub returns : goal.returns
returns c =
    let by = c.single_rows_have_values.ensures c.args.circuit.now (tables_of c.args.mapping.now) c.in_ok-expected.expected c.in_ok-expected.ensures.mapped in
    let same = c.mapped_circuits_agree.ensures c.args.circuit.now c.args.k c.args.d (tables_of c.args.mapping.now) c.in_ok-expected.expected c.args.other.now c.signals-sound.ensures.sound c.requires.lawful by in
    (λ yes. same.1 (c.agree.ensures.0 yes), λ mapped. c.agree.ensures.1 (same.0 mapped))
