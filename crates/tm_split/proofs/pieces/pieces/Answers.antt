use Rattle.std.proofs.Common.{◌≡◌, ◌<◌, true, false, length, eqb, vec_len, sym, ◌∙◌, ap, arith}
use Rattle.std.specs.List.{list_any}
use Rattle.tm_split.specs.Counts.{literal_count}
use Rattle.tm_split.proofs.Literals.{IsMadeOf, made_of, made_none, made_some, made_bare, some_by_test, some_by_count, none_by_count}
use Rattle.tm_split.proofs.pieces.pieces.Goals as goal

pub returns-then-has_bare_row-clause-pieces : goal.returns-then-has_bare_row-clause-pieces
returns-then-has_bare_row-clause-pieces c =
    let bare : list_any (λ row. eqb (literal_count row) 0) c.args.cover.now.rows ≡ true =
    ap (λ rows. list_any (λ row. eqb (literal_count row) 0) rows) (sym c.rows-2.ensures.rows) ∙ (sym c.has_bare_row.ensures ∙ c.if-has_bare_row.true) in
    c.in_ok-vec-2.ensures.items ∙ sym (made_bare c.args.pins.now c.args.cover.now.rows c.requires bare)

pub returns-then-is_empty-2-clause-pieces : goal.returns-then-is_empty-2-clause-pieces
returns-then-is_empty-2-clause-pieces c =
    let some_row : 0 < length c.args.cover.now.rows = some_by_test c.rows.result.now c.args.cover.now.rows c.is_empty.result c.is_empty.ensures c.if-is_empty.false c.rows.ensures.rows in
    let bare : list_any (λ row. eqb (literal_count row) 0) c.args.cover.now.rows ≡ false =
    ap (λ rows. list_any (λ row. eqb (literal_count row) 0) rows) (sym c.rows-2.ensures.rows) ∙ (sym c.has_bare_row.ensures ∙ c.if-has_bare_row.false) in
    let is : IsMadeOf c.args.pins.now c.args.cover.now.rows c.reduce.new.pieces.items c.in_ok-left-2.left.items =
    made_of c.args.pins.now c.args.cover.now.rows c.rows-3.result.now c.new-pieces.result.items c.reduce_rows.new.pieces.items c.reduce.new.pieces.items c.in_ok-left.left.items c.in_ok-left-2.left.items some_row c.requires bare c.rows-3.ensures.rows c.new-pieces.ensures.items c.in_ok-left.ensures c.in_ok-left-2.ensures in
    let no_piece : vec_len c.reduce.new.pieces ≡ 0 = none_by_count (vec_len c.reduce.new.pieces) c.is_empty-2.result c.is_empty-2.ensures c.if-is_empty-2.true in
    let none : length c.reduce.new.pieces.items ≡ 0 = omega arith in
    made_none c.args.pins.now c.args.cover.now.rows c.reduce.new.pieces.items c.in_ok-pieces.pieces.items c.in_ok-left-2.left.items c.deref.result.now is none c.deref.ensures.value c.in_ok-pieces.ensures

pub returns-clause-pieces : goal.returns-clause-pieces
returns-clause-pieces c =
    let some_row : 0 < length c.args.cover.now.rows = some_by_test c.rows.result.now c.args.cover.now.rows c.is_empty.result c.is_empty.ensures c.if-is_empty.false c.rows.ensures.rows in
    let bare : list_any (λ row. eqb (literal_count row) 0) c.args.cover.now.rows ≡ false =
    ap (λ rows. list_any (λ row. eqb (literal_count row) 0) rows) (sym c.rows-2.ensures.rows) ∙ (sym c.has_bare_row.ensures ∙ c.if-has_bare_row.false) in
    let is : IsMadeOf c.args.pins.now c.args.cover.now.rows c.reduce.new.pieces.items c.in_ok-left-2.left.items =
    made_of c.args.pins.now c.args.cover.now.rows c.rows-3.result.now c.new-pieces.result.items c.reduce_rows.new.pieces.items c.reduce.new.pieces.items c.in_ok-left.left.items c.in_ok-left-2.left.items some_row c.requires bare c.rows-3.ensures.rows c.new-pieces.ensures.items c.in_ok-left.ensures c.in_ok-left-2.ensures in
    let some_piece : 0 < vec_len c.reduce.new.pieces = some_by_count (vec_len c.reduce.new.pieces) c.is_empty-2.result c.is_empty-2.ensures c.if-is_empty-2.false in
    let some : 0 < length c.reduce.new.pieces.items = omega arith in
    made_some c.args.pins.now c.args.cover.now.rows c.reduce.new.pieces.items c.in_ok-left-2.left.items is some
