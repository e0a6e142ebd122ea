-- The subject circuit is Same as the circuit: each trace of it, read at the numbers of the old signals, is a trace of the circuit.
use Rattle.std.proofs.Common.{◌≡◌, ℕ, suc, ◌+◌, ◌-◌, ◌<◌, Bool, true, false, not, ◌&&◌, ◌||◌, cond, eqb, List, [], ◌∷◌, map, length, refl, sym, ◌∙◌, ap, subst, arith}
use Rattle.std.specs.Prelude.{All}
use Rattle.std.specs.List.{list_any}
use Rattle.std.proofs.lemmas.Bool.{ne_eqb, eq-eqb}
use Rattle.tm_bits.specs.Rows.{Rows, holds, row_agrees, agrees_at}
use Rattle.tm_bits.specs.Tables.{place_of}
use Rattle.tm_circuit.specs.Plain.{Drive, input, latch, gate}
use Rattle.tm_split.specs.declared.piece.Wire.{Wire}
use Rattle.tm_split.specs.declared.piece.Wire.TheVariants.{Pin, Made}
use Rattle.tm_split.specs.declared.piece.Piece.{Piece}
use Rattle.tm_split.specs.declared.piece.Piece.TheVariants.{NoRow, BareRow, Alone, Both, Either}
use Rattle.tm_split.specs.Pieces.{is_empty, pieces_of, wires_of, rows_of}
use Rattle.tm_split.specs.Subject.{wire_number, gates_of}
use Rattle.tm_split.specs.Making.{IsWireOf, IsWired, AreWired}
use Rattle.tm_split.proofs.Values.{literal_value, piece_value, Obeys}
use Rattle.tm_split.proofs.Whole.{pieces_wired, pieces_value}
use Rattle.tm_split.proofs.Literals.{rows_of_literals, rows_wired_by, rows_agree}
use Rattle.tm_split.proofs.Numbers.{some_pieces}

-- ---- the value of a piece as a gate

one_agrees : (p x : Bool) → agrees_at (place_of p) x ≡ cond p x (not x)
one_agrees true x = refl
one_agrees false x = refl

alone_holds : (a : Bool) → ((a && true) || false) ≡ a
alone_holds true = refl
alone_holds false = refl

both_hold : (a b : Bool) → ((a && (b && true)) || false) ≡ (a && b)
both_hold true true = refl
both_hold true false = refl
both_hold false b = refl

either_holds : (a b : Bool) → ((a && (true && true)) || ((true && (b && true)) || false)) ≡ (a || b)
either_holds true b = refl
either_holds false true = refl
either_holds false false = refl

-- The value of the rows of a piece where its wires have these bits.
rows_value : (v : Wire → Bool) (piece : Piece)
    → list_any (λ row. row_agrees row (map v (wires_of piece))) (rows_of piece) ≡ piece_value v piece
rows_value v NoRow = refl
rows_value v BareRow = refl
rows_value v (Alone a) =
    alone_holds (agrees_at (place_of a.positive) (v a.wire)) ∙ one_agrees a.positive (v a.wire)
rows_value v (Both a b) =
    both_hold (agrees_at (place_of a.positive) (v a.wire)) (agrees_at (place_of b.positive) (v b.wire))
    ∙ (ap (λ x. x && agrees_at (place_of b.positive) (v b.wire)) (one_agrees a.positive (v a.wire))
    ∙ ap (λ y. literal_value v a && y) (one_agrees b.positive (v b.wire)))
rows_value v (Either a b) =
    either_holds (agrees_at (place_of a.positive) (v a.wire)) (agrees_at (place_of b.positive) (v b.wire))
    ∙ (ap (λ x. x || agrees_at (place_of b.positive) (v b.wire)) (one_agrees a.positive (v a.wire))
    ∙ ap (λ y. literal_value v a || y) (one_agrees b.positive (v b.wire)))

-- Bits that agree on the wires that a piece reads.
wires_agree : (free : Bool) (f : ℕ → ℕ) (first signals n : ℕ) (now : ℕ → Bool) (v : Wire → Bool) (piece : Piece)
    → ((w : Wire) → IsWireOf signals n w → now (wire_number f first w) ≡ v w) → IsWired free signals n piece
    → map now (map (wire_number f first) (wires_of piece)) ≡ map v (wires_of piece)
wires_agree free f first signals n now v NoRow agree is = refl
wires_agree free f first signals n now v BareRow agree is = refl
wires_agree free f first signals n now v (Alone a) agree is = ap (λ x. x ∷ []) (agree a.wire is)
wires_agree free f first signals n now v (Both a b) agree is =
    ap (λ x. x ∷ now (wire_number f first b.wire) ∷ []) (agree a.wire is.0) ∙ ap (λ y. v a.wire ∷ y ∷ []) (agree b.wire is.1)
wires_agree free f first signals n now v (Either a b) agree is =
    ap (λ x. x ∷ now (wire_number f first b.wire) ∷ []) (agree a.wire is.0) ∙ ap (λ y. v a.wire ∷ y ∷ []) (agree b.wire is.1)

piece_holds : (free on : Bool) (f : ℕ → ℕ) (first signals n : ℕ) (now : ℕ → Bool) (v : Wire → Bool) (piece : Piece)
    → ((w : Wire) → IsWireOf signals n w → now (wire_number f first w) ≡ v w) → IsWired free signals n piece
    → holds (record { on = on; rows = rows_of piece }) (map now (map (wire_number f first) (wires_of piece)))
    ≡ cond on (piece_value v piece) (not (piece_value v piece))
piece_holds free on f first signals n now v piece agree is =
    ap (λ bits. holds (record { on = on; rows = rows_of piece }) bits) (wires_agree free f first signals n now v piece agree is)
    ∙ ap (λ b. cond on b (not b)) (rows_value v piece)

-- ---- the wires of a gate that is split

-- The bit of a wire: of a pin that of its signal, of a new gate its own, of the last that of the rows.
abbrev wire_bit : Bool → (ℕ → ℕ) → ℕ → ℕ → (ℕ → Bool) → Wire → Bool
wire_bit on f first size now (Pin s) = now (f s)
wire_bit on f first size now (Made n) = cond (eqb (suc n) size) (cond on (now (first + n)) (not (now (first + n)))) (now (first + n))

-- Gates one after another have the bits that their drives ask for.
abbrev pub GatesObey : (ℕ → Bool) → ℕ → List Drive → Type 0
GatesObey now n [] = Unit {0}
GatesObey now n (input ∷ rest) = GatesObey now (suc n) rest
GatesObey now n (latch next init ∷ rest) = GatesObey now (suc n) rest
GatesObey now n (gate pins cover ∷ rest) = (now n ≡ holds cover (map now pins)) × GatesObey now (suc n) rest

not_not : (b : Bool) → not (not b) ≡ b
not_not true = refl
not_not false = refl

last_bit : (on x value : Bool) → x ≡ cond on value (not value) → cond on x (not x) ≡ value
last_bit true x value is = is
last_bit false x value is = ap not is ∙ not_not value

back : (on x : Bool) → cond on (cond on x (not x)) (not (cond on x (not x))) ≡ x
back true x = refl
back false x = not_not x

inner_bit : (on : Bool) (f : ℕ → ℕ) (first size signals n : ℕ) (now : ℕ → Bool) → n < size → (w : Wire) → IsWireOf signals n w
    → now (wire_number f first w) ≡ wire_bit on f first size now w
inner_bit on f first size signals n now within (Pin s) is = refl
inner_bit on f first size signals n now within (Made m) is =
    let before : suc m ≡ size → ⊥ = λ e. omega arith in
    ap (λ b. cond b (cond on (now (first + m)) (not (now (first + m)))) (now (first + m))) (sym (ne_eqb (suc m) size before))

pieces_obey : (free on : Bool) (f : ℕ → ℕ) (first size signals n : ℕ) (now : ℕ → Bool) (pieces : List Piece) → AreWired free signals n pieces
    → n + length pieces ≡ size → GatesObey now (first + n) (gates_of on f first pieces)
    → Obeys (wire_bit on f first size now) n pieces
pieces_obey free on f first size signals n now [] are sized obey = tt
pieces_obey free on f first size signals n now (piece ∷ []) are sized obey =
    let v : Wire → Bool = wire_bit on f first size now in
    let holds_here : now (first + n) ≡ cond on (piece_value (wire_bit on f first size now) piece) (not (piece_value (wire_bit on f first size now) piece)) =
    obey.0 ∙ piece_holds free on f first signals n now (wire_bit on f first size now) piece (inner_bit on f first size signals n now (omega arith)) are.0 in
    let last : suc n ≡ size = omega arith in
    let picked : v (Made n) ≡ cond on (now (first + n)) (not (now (first + n))) = ap (λ b. cond b (cond on (now (first + n)) (not (now (first + n)))) (now (first + n))) (eq-eqb (suc n) size last) in
    (picked ∙ last_bit on (now (first + n)) (piece_value (wire_bit on f first size now) piece) holds_here, tt)
pieces_obey free on f first size signals n now (piece ∷ next ∷ rest) are sized obey =
    let v : Wire → Bool = wire_bit on f first size now in
    let holds_here : now (first + n) ≡ piece_value (wire_bit on f first size now) piece =
    obey.0 ∙ piece_holds free true f first signals n now (wire_bit on f first size now) piece (inner_bit on f first size signals n now (omega arith)) are.0 in
    let inner : suc n ≡ size → ⊥ = λ e. omega arith in
    let picked : v (Made n) ≡ now (first + n) = ap (λ b. cond b (cond on (now (first + n)) (not (now (first + n)))) (now (first + n))) (ne_eqb (suc n) size inner) in
    let index : suc (first + n) ≡ first + suc n = omega arith in
    (picked ∙ holds_here, pieces_obey free on f first size signals (suc n) now (next ∷ rest) are.1 (omega arith) (subst (λ (m : ℕ). GatesObey now m (gates_of on f first (next ∷ rest))) index obey.1))

-- The last gate in the place of a gate that is split has the value of that gate.
pub split_value : (signals : ℕ) (pins : List ℕ) (cover : Rows) (f : ℕ → ℕ) (first : ℕ) (now : ℕ → Bool) → All (λ p. p < signals) pins
    → GatesObey now first (gates_of cover.on f first (pieces_of pins cover))
    → now (first + (length (pieces_of pins cover) - 1)) ≡ holds cover (map (λ p. now (f p)) pins)
split_value signals pins cover f first now below obey =
    let size : ℕ = length (pieces_of pins cover) in
    let v : Wire → Bool = wire_bit cover.on f first (length (pieces_of pins cover)) now in
    let wired : AreWired (is_empty (rows_of_literals pins cover.rows)) signals 0 (pieces_of pins cover) = pieces_wired (λ s. s < signals) (rows_of_literals pins cover.rows) (rows_wired_by (λ s. s < signals) pins cover.rows below) in
    let from : first ≡ first + 0 = omega arith in
    let obeys : Obeys (wire_bit cover.on f first (length (pieces_of pins cover)) now) 0 (pieces_of pins cover) =
    pieces_obey (is_empty (rows_of_literals pins cover.rows)) cover.on f first (length (pieces_of pins cover)) signals 0 now (pieces_of pins cover) wired (omega arith) (subst (λ (m : ℕ). GatesObey now m (gates_of cover.on f first (pieces_of pins cover))) from obey) in
    let some : 0 < length (pieces_of pins cover) = some_pieces pins cover in
    let last : suc (length (pieces_of pins cover) - 1) ≡ length (pieces_of pins cover) = omega arith in
    let x : Bool = now (first + (length (pieces_of pins cover) - 1)) in
    let picked : wire_bit cover.on f first (length (pieces_of pins cover)) now (Made (length (pieces_of pins cover) - 1)) ≡ cond cover.on (now (first + (length (pieces_of pins cover) - 1))) (not (now (first + (length (pieces_of pins cover) - 1)))) =
    ap (λ b. cond b (cond cover.on (now (first + (length (pieces_of pins cover) - 1))) (not (now (first + (length (pieces_of pins cover) - 1))))) (now (first + (length (pieces_of pins cover) - 1)))) (eq-eqb (suc (length (pieces_of pins cover) - 1)) (length (pieces_of pins cover)) last) in
    let rows : wire_bit cover.on f first (length (pieces_of pins cover)) now (Made (length (pieces_of pins cover) - 1)) ≡ list_any (λ row. row_agrees row (map (λ p. now (f p)) pins)) cover.rows =
    pieces_value (wire_bit cover.on f first (length (pieces_of pins cover)) now) (rows_of_literals pins cover.rows) obeys ∙ sym (rows_agree (wire_bit cover.on f first (length (pieces_of pins cover)) now) pins cover.rows) in
    sym (ap (λ b. cond cover.on b (not b)) (sym rows ∙ picked) ∙ back cover.on (now (first + (length (pieces_of pins cover) - 1))))
