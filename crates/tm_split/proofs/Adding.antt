-- The loop that adds the gates of pieces.
use Rattle.std.proofs.Common.{◌≡◌, ℕ, suc, ◌+◌, ◌-◌, ◌<◌, ◌≤◌, Bool, true, false, not, ◌||◌, cond, eqb, List, [], ◌∷◌, ◌++◌, length, take, drop, get_or, refl, sym, ◌∙◌, ap, subst, append_assoc, arith}
use Rattle.std.specs.Prelude.{All}
use Rattle.std.specs.Fmt.{decimal}
use Rattle.std.proofs.Math.Dec.{eqb-suc-zero}
use Rattle.std.proofs.lemmas.List.{append-nil, take_all, map-append}
use Rattle.tm_circuit.specs.declared.parts.GatePart.{GatePart}
use Rattle.tm_split.specs.declared.piece.Wire.{Wire}
use Rattle.tm_split.specs.declared.piece.Wire.TheVariants.{Pin, Made}
use Rattle.tm_split.specs.declared.piece.Piece.{Piece}
use Rattle.tm_split.specs.declared.piece.Piece.TheVariants.{NoRow, BareRow, Alone, Both, Either}
use Rattle.tm_bits.specs.declared.cover.Place.{Place}
use Rattle.tm_bits.specs.Rows.{Rows, IsEven}
use Rattle.tm_split.specs.Pieces.{is_empty, rows_of, pieces_of, pieces_of_rows}
use Rattle.tm_split.specs.Names.{piece_names}
use Rattle.tm_split.specs.Subject.{piece_drive, gates_of}
use Rattle.tm_parts.specs.Parts.{part_drive, part_names, part_drives}
use Rattle.tm_split.specs.Making.{IsWireOf, IsWired, IsReadOf, AreWired}
use Rattle.tm_split.proofs.Whole.{pieces_wired}
use Rattle.tm_split.proofs.Literals.{rows_of_literals, rows_wired_by}

one_first : (rest : List Piece) (piece : Piece) → 1 ≤ length rest → piece ≡ get_or rest 0 piece
    → rest ≡ piece ∷ take (length rest - 1) (drop 1 rest)
one_first [] piece some is = absurd (omega arith)
one_first (x ∷ more) piece some is =
    let all : take (length more) more ≡ more = take_all (length more) more (omega arith) in
    let count : length (x ∷ more) - 1 ≡ length more = omega arith in
    let same : take (length (x ∷ more) - 1) more ≡ more = ap (λ n. take n more) count ∙ all in
    ap (λ z. z ∷ more) (sym is) ∙ ap (λ zs. piece ∷ zs) (sym same)

empty_test : (pieces : List Piece) (test : Bool) → test ≡ eqb (length pieces) 0 → test ≡ is_empty pieces
empty_test [] test is = is
empty_test (piece ∷ pieces) test is = is ∙ eqb-suc-zero (length pieces)

on_test : (on last : Bool) → (on || not last) ≡ cond last on true
on_test true true = refl
on_test true false = refl
on_test false true = refl
on_test false false = refl

-- ---- what a piece reads, and its rows

wire_read : (signals n : ℕ) (w : Wire) → n ≤ 100000 → IsWireOf signals n w → IsWireOf signals 100000 w
wire_read signals n (Pin s) few is = is
wire_read signals n (Made m) few is = omega arith

pub wired_read : (on : Bool) (signals n : ℕ) (piece : Piece) → n ≤ 100000 → IsWired on signals n piece → IsReadOf signals piece
wired_read on signals n NoRow few is = refl
wired_read on signals n BareRow few is = tt
wired_read on signals n (Alone a) few is = wire_read signals n a.wire few is
wired_read on signals n (Both a b) few is = (wire_read signals n a.wire few is.0, wire_read signals n b.wire few is.1)
wired_read on signals n (Either a b) few is = (wire_read signals n a.wire few is.0, wire_read signals n b.wire few is.1)

off_rows : (signals n : ℕ) (piece : Piece) → IsWired false signals n piece → rows_of piece ≡ [] → ⊥
off_rows signals n NoRow is none = cc
off_rows signals n BareRow is none = cc
off_rows signals n (Alone a) is none = cc
off_rows signals n (Both a b) is none = cc
off_rows signals n (Either a b) is none = cc

pub wired_rows : (on last : Bool) (signals n : ℕ) (piece : Piece) → IsWired on signals n piece → (on || not last) ≡ false
    → rows_of piece ≡ [] → ⊥
wired_rows true last signals n piece is off = cc
wired_rows false last signals n piece is off = off_rows signals n piece is

-- ---- the loop

-- Together with what the rest gives, the gates are those of all pieces.
pub record IsAdding (on : Bool) (moved : ℕ → ℕ) (first : ℕ) (name joiner : List ℕ) (signals : ℕ) (before gates : List GatePart) (all rest : List Piece) (next : ℕ) : Type 0 where
  pub names : part_names before ++ piece_names name joiner 1 all ≡ part_names gates ++ piece_names name joiner next rest
  pub drives : part_drives before ++ gates_of on moved first all ≡ part_drives gates ++ gates_of on moved first rest
  pub wired : (n : ℕ) × (suc n ≡ next) × (n + length rest ≡ length all) × AreWired on signals n rest

pub adding_first : (on : Bool) (moved : ℕ → ℕ) (first : ℕ) (name joiner : List ℕ) (signals : ℕ) (before : List GatePart) (all : List Piece)
    → AreWired on signals 0 all → IsAdding on moved first name joiner signals before before all all 1
adding_first on moved first name joiner signals before all wired = record { names = refl; drives = refl; wired = (0, refl, omega arith, wired) }

-- What is known of the piece that comes next.
pub record IsNextPiece (on : Bool) (signals next most : ℕ) (piece : Piece) : Type 0 where
  pub wired : (n : ℕ) × (suc n ≡ next) × (suc n ≤ most) × IsWired on signals n piece

pub next_piece : (on : Bool) (moved : ℕ → ℕ) (first : ℕ) (name joiner : List ℕ) (signals : ℕ) (before gates : List GatePart) (all rest : List Piece) (next : ℕ) (piece : Piece)
    → IsAdding on moved first name joiner signals before gates all rest next → 1 ≤ length rest → piece ≡ get_or rest 0 piece
    → IsNextPiece on signals next (length all) piece
next_piece on moved first name joiner signals before gates all rest next piece is some at_first =
    let (n, count, size, wired) = is.wired in
    let split : rest ≡ piece ∷ take (length rest - 1) (drop 1 rest) = one_first rest piece some at_first in
    let both : AreWired on signals n (piece ∷ take (length rest - 1) (drop 1 rest)) = subst (λ (ps : List Piece). AreWired on signals n ps) split wired in
    record { wired = (n, count, omega arith, both.0) }

pub next_read : (on : Bool) (signals next most : ℕ) (piece : Piece) → IsNextPiece on signals next most piece → most ≤ 100000 → IsReadOf signals piece
next_read on signals next most piece is few =
    let (n, count, less, wired) = is.wired in
    wired_read on signals n piece (omega arith) wired

pub next_rows : (on last : Bool) (signals next most : ℕ) (piece : Piece) → IsNextPiece on signals next most piece → (on || not last) ≡ false
    → rows_of piece ≡ [] → ⊥
next_rows on last signals next most piece is off =
    let (n, count, less, wired) = is.wired in
    wired_rows on last signals n piece wired off

pub next_fits : (on : Bool) (signals next most : ℕ) (piece : Piece) → IsNextPiece on signals next most piece → next ≤ most
next_fits on signals next most piece is =
    let (n, count, less, wired) = is.wired in
    omega arith

pub adding_more : (on : Bool) (moved : ℕ → ℕ) (first : ℕ) (name joiner : List ℕ) (signals : ℕ) (before gates gates' : List GatePart) (all rest : List Piece)
    (next next' : ℕ) (piece : Piece) (last : Bool) (part : GatePart) (made : List ℕ)
    → IsAdding on moved first name joiner signals before gates all rest next → 1 ≤ length rest → piece ≡ get_or rest 0 piece
    → last ≡ eqb (length (take (length rest - 1) (drop 1 rest))) 0
    → made ≡ cond last name (name ++ joiner ++ decimal next) → part.name ≡ made
    → part_drive part ≡ piece_drive (on || not last) moved first piece
    → gates' ≡ gates ++ part ∷ [] → next' ≡ next + 1
    → IsAdding on moved first name joiner signals before gates' all (take (length rest - 1) (drop 1 rest)) next'
adding_more on moved first name joiner signals before gates gates' all rest next next' piece last part made is some at_first tested is_made named driven push after =
    let others : List Piece = take (length rest - 1) (drop 1 rest) in
    let split : rest ≡ piece ∷ take (length rest - 1) (drop 1 rest) = one_first rest piece some at_first in
    let is_last : last ≡ is_empty (take (length rest - 1) (drop 1 rest)) = empty_test (take (length rest - 1) (drop 1 rest)) last tested in
    let one : next' ≡ suc next = omega arith in
    let name_here : part.name ≡ cond (is_empty others) name (name ++ joiner ++ decimal next) = named ∙ (is_made ∙ ap (λ b. cond b name (name ++ joiner ++ decimal next)) is_last) in
    let drive_here : part_drive part ≡ piece_drive (cond (is_empty others) on true) moved first piece = driven ∙ ap (λ b. piece_drive b moved first piece) (on_test on last ∙ ap (λ b. cond b on true) is_last) in
    let (n, count, size, wired) = is.wired in
    let both : AreWired on signals n (piece ∷ take (length rest - 1) (drop 1 rest)) = subst (λ (ps : List Piece). AreWired on signals n ps) split wired in
    let long : length rest ≡ suc (length (take (length rest - 1) (drop 1 rest))) = ap (λ (ps : List Piece). length ps) split in
    record {
      names = is.names
          ∙ (ap (λ ps. part_names gates ++ piece_names name joiner next ps) split
          ∙ (ap (λ x. part_names gates ++ x ∷ piece_names name joiner (suc next) others) (sym name_here)
          ∙ (sym (append_assoc (part_names gates) (part.name ∷ []) (piece_names name joiner (suc next) others))
          ∙ (ap (λ xs. xs ++ piece_names name joiner (suc next) others) (sym (map-append (λ (g : GatePart). g.name) gates (part ∷ [])) ∙ ap (λ gs. part_names gs) (sym push))
          ∙ ap (λ m. part_names gates' ++ piece_names name joiner m others) (sym one)))));
      drives = is.drives
          ∙ (ap (λ ps. part_drives gates ++ gates_of on moved first ps) split
          ∙ (ap (λ x. part_drives gates ++ x ∷ gates_of on moved first others) (sym drive_here)
          ∙ (sym (append_assoc (part_drives gates) (part_drive part ∷ []) (gates_of on moved first others))
          ∙ ap (λ xs. xs ++ gates_of on moved first others) (sym (map-append part_drive gates (part ∷ [])) ∙ ap (λ gs. part_drives gs) (sym push)))));
      wired = (suc n, omega arith, omega arith, both.1);
    }

none_left : (rest : List Piece) → length rest < 1 → rest ≡ []
none_left [] none = refl
none_left (piece ∷ rest) none = absurd (omega arith)

pub added_names : (on : Bool) (moved : ℕ → ℕ) (first : ℕ) (name joiner : List ℕ) (signals : ℕ) (before gates : List GatePart) (all rest : List Piece) (next : ℕ)
    → IsAdding on moved first name joiner signals before gates all rest next → length rest < 1
    → part_names gates ≡ part_names before ++ piece_names name joiner 1 all
added_names on moved first name joiner signals before gates all rest next is none =
    sym (is.names ∙ (ap (λ ps. part_names gates ++ piece_names name joiner next ps) (none_left rest none) ∙ append-nil (part_names gates)))

pub added_drives : (on : Bool) (moved : ℕ → ℕ) (first : ℕ) (name joiner : List ℕ) (signals : ℕ) (before gates : List GatePart) (all rest : List Piece) (next : ℕ)
    → IsAdding on moved first name joiner signals before gates all rest next → length rest < 1
    → part_drives gates ≡ part_drives before ++ gates_of on moved first all
added_drives on moved first name joiner signals before gates all rest next is none =
    sym (is.drives ∙ (ap (λ ps. part_drives gates ++ gates_of on moved first ps) (none_left rest none) ∙ append-nil (part_drives gates)))

-- ---- the pieces of a gate

wired_on : (free : Bool) (signals n : ℕ) (pieces : List Piece) → AreWired free signals n pieces → AreWired true signals n pieces
wired_on free signals n [] is = tt
wired_on free signals n (NoRow ∷ rest) is = (refl, wired_on free signals (suc n) rest is.1)
wired_on free signals n (BareRow ∷ rest) is = (tt, wired_on free signals (suc n) rest is.1)
wired_on free signals n (Alone a ∷ rest) is = (is.0, wired_on free signals (suc n) rest is.1)
wired_on free signals n (Both a b ∷ rest) is = (is.0, wired_on free signals (suc n) rest is.1)
wired_on free signals n (Either a b ∷ rest) is = (is.0, wired_on free signals (suc n) rest is.1)

by_polarity : (on : Bool) (signals : ℕ) (pins : List ℕ) (rows : List (List Place)) → (on ≡ false → rows ≡ [] → ⊥) → All (λ p. p < signals) pins
    → AreWired on signals 0 (pieces_of_rows (rows_of_literals pins rows))
by_polarity true signals pins rows some below =
    wired_on (is_empty (rows_of_literals pins rows)) signals 0 (pieces_of_rows (rows_of_literals pins rows)) (pieces_wired (λ s. s < signals) (rows_of_literals pins rows) (rows_wired_by (λ s. s < signals) pins rows below))
by_polarity false signals pins [] some below = absurd (some refl refl)
by_polarity false signals pins (row ∷ rows) some below = pieces_wired (λ s. s < signals) (rows_of_literals pins (row ∷ rows)) (rows_wired_by (λ s. s < signals) pins (row ∷ rows) below)

-- The pieces of a gate read its pins and pieces before themselves.
pub gate_wired : (signals : ℕ) (pins : List ℕ) (cover : Rows) → IsEven cover → All (λ p. p < signals) pins
    → AreWired cover.on signals 0 (pieces_of pins cover)
gate_wired signals pins cover even below = by_polarity cover.on signals pins cover.rows even.off_has_row below
