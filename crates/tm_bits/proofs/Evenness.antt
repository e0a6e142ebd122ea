-- Rows of one length: against a known width, and against the first row.
use Rattle.std.proofs.Common.{◌≡◌, ℕ, ◌<◌, List, length, get_or, All, sym, ◌∙◌, ap, zero, suc, arith}
use Rattle.std.proofs.lemmas.List.{get_or_read}
use Rattle.tm_bits.specs.Rows.{AreEven}
use Rattle.tm_bits.specs.declared.cover.Place.{Place}

-- Rows that all have one width differ nowhere.
pub even_from_width : (rows : List (List Place)) (width : ℕ) → All (λ row. length row ≡ width) rows → AreEven rows
even_from_width rows width all i j d below inside =
    let here : i < length rows = omega arith in
    all i d here ∙ sym (all j d inside)

-- Where no two rows differ, all are as long as the first.
pub width_from_even : (rows : List (List Place)) (first : List Place) → 0 < length rows → first ≡ get_or rows 0 first → AreEven rows → All (λ row. length row ≡ length first) rows
width_from_even rows first some is even zero d inside = ap length (sym (get_or_read rows zero first some is d))
width_from_even rows first some is even (suc k) d inside =
    sym (even zero (suc k) d (omega arith) inside) ∙ ap length (sym (get_or_read rows zero first some is d))
