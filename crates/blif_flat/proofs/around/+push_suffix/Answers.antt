-- The suffix of the instance around, the joiner and the number, one after another.
use Rattle.std.proofs.Common.{◌≡◌, rules}
use Rattle.std.specs.Fmt.{decimal}
use Rattle.blif_flat.proofs.AroundLemmas.{suffix_pushed}
use Rattle.blif_flat.proofs.around.+push_suffix.Goals as goal

pub returns-in_ok-extend_from_slice-in-Inside-2 : goal.returns-in_ok-extend_from_slice-in-Inside-2
returns-in_ok-extend_from_slice-in-Inside-2 t c =
    let digits : c.as_bytes.result.now ≡ decimal c.in-Inside.number = search rules in
    suffix_pushed c.args.joiner.now c.args.around.now c.in-Inside.outer c.in-Inside.field-1 c.in-Inside.number c.args.out.now.items c.push_suffix.new.out.items c.extend_from_slice.new.self.items
    c.extend_from_slice-in-Inside.new.self.items c.as_bytes.result.now c.in-Inside.is
    c.in_ok-push_suffix-in-Inside.ensures c.in_ok-extend_from_slice-in-Inside.ensures.items c.in_ok-extend_from_slice-in-Inside-2.ensures.items digits
