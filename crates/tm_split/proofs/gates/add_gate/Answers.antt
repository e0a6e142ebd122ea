use Rattle.std.proofs.Common.{◌≡◌, ◌<◌, Bool, List, length, sym, ◌∙◌, ap, subst, arith}
use Rattle.tm_split.specs.declared.piece.Piece.{Piece}
use Rattle.tm_split.specs.Pieces.{pieces_of}
use Rattle.tm_split.specs.Making.{AreWired}
use Rattle.tm_split.proofs.Numbers.{some_pieces}
use Rattle.tm_split.proofs.Adding.{gate_wired}
use Rattle.tm_split.proofs.gates.add_gate.Goals as goal

pub overflow_sub-first : goal.overflow_sub-first
overflow_sub-first c =
    let some : 0 < length (pieces_of c.args.pins.now c.args.cover.now) = some_pieces c.args.pins.now c.args.cover.now in
    let same : length c.in_ok-pieces.pieces.items ≡ length (pieces_of c.args.pins.now c.args.cover.now) = ap (λ (ps : List Piece). length ps) c.in_ok-pieces.ensures.pieces in
    omega arith

pub add_pieces-requires-clause-wired : goal.add_pieces-requires-clause-wired
add_pieces-requires-clause-wired c =
    let is : c.deref-2.result.now ≡ pieces_of c.args.pins.now c.args.cover.now = c.deref-2.ensures.value ∙ c.in_ok-pieces.ensures.pieces in
    subst (λ (on : Bool). AreWired on (length c.args.plan.now.numbers.items) 0 c.deref-2.result.now) (sym c.on.ensures)
    (subst (λ (ps : List Piece). AreWired c.args.cover.now.on (length c.args.plan.now.numbers.items) 0 ps) (sym is)
    (gate_wired (length c.args.plan.now.numbers.items) c.args.pins.now c.args.cover.now c.in_ok-pieces.ensures.even c.requires.reads))
