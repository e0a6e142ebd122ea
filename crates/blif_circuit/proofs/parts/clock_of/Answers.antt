-- The clock is told part by part.
use Rattle.std.proofs.Common.{◌≡◌, Some, ◌∙◌, ap, sym, map, position, bytes_eq}
use Rattle.std.specs.Prelude.{option_copied}
use Rattle.std.specs.List.{list_any}
use Rattle.blif_unit.specs.declared.unit.Stated.{Stated}
use Rattle.blif_unit.specs.Unit.{told_of, telling_of, inputs_told, over}
use Rattle.blif_circuit.specs.Circuit.{declared_told, clock_name}
use Rattle.blif_circuit.proofs.SignalParts.{clock_parts}
use Rattle.blif_circuit.proofs.parts.clock_of.Goals as goal

pub returns-in_ok-try_clone-in-Some : goal.returns-in_ok-try_clone-in-Some
returns-in_ok-try_clone-in-Some c =
    let named : clock_name (map telling_of c.args.body.now) ≡ Some c.in-Some.name.now = sym c.requires.clock ∙ ap option_copied c.in-Some.is in
    clock_parts c.args.body.now c.in-Some.name.now c.in_ok-try_clone-in-Some.field-0 c.clock_edge.result c.is_declared.result c.clock_place.result named
    c.in_ok-try_clone-in-Some.ensures c.clock_edge.ensures
    (c.is_declared.ensures ∙ ap (λ n. list_any (λ (s : Stated). list_any (bytes_eq n) (declared_told (told_of s.what))) c.args.body.now) c.bytes.ensures)
    (c.clock_place.ensures ∙ ap (λ n. position (bytes_eq n) (over inputs_told (map telling_of c.args.body.now))) c.bytes-in-Some.ensures)
