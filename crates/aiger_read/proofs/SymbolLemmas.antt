-- The lines of symbols, and the names that they give.
use Rattle.std.proofs.Common.{◌≡◌, ℕ, ◌+◌, ◌-◌, ◌<◌, ◌≤◌, Bool, true, false, not, cond, List, [], ◌∷◌, ◌++◌, map, length, take, drop, get_or, set, Option, None, Some, Bor, position, inl, inr, refl, sym, ◌∙◌, ap, arith}
use Rattle.std.specs.List.{position_or_len, prefix_len, before_first}
use Rattle.std.specs.Prelude.{option_map, replicate}
use Rattle.std.proofs.lemmas.Bool.{lt-ltb, le-ltb, cases_lt}
use Rattle.std.proofs.lemmas.List.{take_all, take_rest, get_or-map, map-set, take_more, length-take-le, get_or-take, get_or-drop, length-drop, length-map, drop-map}
use Rattle.aiger_read.specs.declared.header.Header.{Header}
use Rattle.aiger_read.specs.Lines.{line_at, is_blank, is_number, number_in}
use Rattle.aiger_read.specs.Header.{header_of, counted}
use Rattle.aiger_read.specs.Symbols.{Symbol, slot_count, slot_of, with_name, symbol_parted, symbol_in, is_comment, symbol_lines, with_symbol, with_symbols, names_given, fault_in_symbol, fault_among_symbols}
use Rattle.aiger_read.specs.Faults.{fault_at, AreLawful}
use Rattle.aiger_read.specs.Steps.{texts, maybe_texts, IsLawfulTo}
use Rattle.aiger_read.proofs.ReadLemmas.{at_symbol}

-- ---- the lines of symbols

prefix_len-map : {A B : Type 0} (f : A → B) (p : B → Bool) (xs : List A) → prefix_len p (map f xs) ≡ prefix_len (λ x. p (f x)) xs
prefix_len-map f p [] = refl
prefix_len-map f p (x ∷ xs) = ap (λ n. cond (p (f x)) (1 + n) 0) (prefix_len-map f p xs)

position-map : {A B : Type 0} (f : A → B) (p : B → Bool) (xs : List A) → position_or_len p (map f xs) ≡ position_or_len (λ x. p (f x)) xs
position-map f p xs = prefix_len-map f (λ y. not (p y)) xs

-- How many lines of symbols there are, and where they stand.
pub record AreSymbolLines (lines symbols : List (List ℕ)) (first many : ℕ) : Type 0 where
  pub count : length symbols ≡ many
  pub within : first + many ≤ length lines
  pub at : (k : ℕ) → k < many → line_at symbols k ≡ line_at lines (first + k)

pub symbols_found : (words : List (Bor (List ℕ))) (h : Header) (rest : List (Bor (List ℕ))) (many : ℕ) → rest ≡ drop (1 + counted h) words
    → 1 + counted h ≤ length words → many ≡ position_or_len (λ (line : Bor (List ℕ)). is_comment line.now) rest → many ≤ length rest
    → AreSymbolLines (texts words) (symbol_lines h (texts words)) (1 + counted h) many
unfolding symbol_lines
symbols_found words h rest many is inside found few =
    let first : ℕ = 1 + counted h in
    let seen : drop (1 + counted h) (texts words) ≡ texts rest = drop-map (λ (w : Bor (List ℕ)). w.now) (1 + counted h) words ∙ ap texts (sym is) in
    let place : position_or_len is_comment (drop (1 + counted h) (texts words)) ≡ many =
    ap (position_or_len is_comment) seen ∙ position-map (λ (w : Bor (List ℕ)). w.now) is_comment rest ∙ sym found in
    let size : length (drop (1 + counted h) (texts words)) ≡ length rest = ap length seen ∙ length-map rest (λ (w : Bor (List ℕ)). w.now) in
    let sized : length rest ≡ length words - (1 + counted h) = ap length is ∙ length-drop (1 + counted h) words in
    let all : length (texts words) ≡ length words = length-map words (λ (w : Bor (List ℕ)). w.now) in
    let taken : before_first is_comment (drop (1 + counted h) (texts words)) ≡ take many (drop (1 + counted h) (texts words)) =
    ap (λ n. take n (drop (1 + counted h) (texts words))) place in
    record {
      count = ap length taken ∙ length-take-le many (drop (1 + counted h) (texts words)) (omega (arith, size, few));
      within = omega (arith, few, sized, all, inside);
      at = λ k below. ap (λ xs. line_at xs k) taken ∙ get_or-take many (drop (1 + counted h) (texts words)) k [] below ∙ get_or-drop (1 + counted h) (texts words) k [];
    }

-- ---- the symbol of a line

pub symbol_split : (h : Header) (line : List ℕ) → 1 ≤ length line
    → symbol_in h line ≡ symbol_parted h (get_or line 0 0) (take (length line - 1) (drop 1 line)) (position is_blank (take (length line - 1) (drop 1 line)))
unfolding symbol_in
symbol_split h [] some = absurd (omega arith)
symbol_split h (b ∷ rest) some = ap (λ r. symbol_parted h b r (position is_blank r)) (sym (take_all (length (b ∷ rest) - 1) rest (omega arith)))

pub symbol_none : (h : Header) (line : List ℕ) → length line ≡ 0 → symbol_in h line ≡ None
unfolding symbol_in
symbol_none h [] none = refl
symbol_none h (b ∷ rest) none = absurd (omega (arith, none))

pub parted_none : (h : Header) (letter : ℕ) (rest : List ℕ) → position is_blank rest ≡ None → symbol_parted h letter rest (position is_blank rest) ≡ None
parted_none h letter rest none = ap (symbol_parted h letter rest) none

pub parted_unnumbered : (h : Header) (letter : ℕ) (rest : List ℕ) (blank : ℕ) → position is_blank rest ≡ Some blank → is_number (take blank rest) ≡ false
    → symbol_parted h letter rest (position is_blank rest) ≡ None
parted_unnumbered h letter rest blank there fails =
    ap (symbol_parted h letter rest) there ∙ ap (λ b. cond b (with_name (drop (blank + 1) rest) (slot_of h letter (number_in (take blank rest)))) None) fails

pub parted_slot : (h : Header) (letter : ℕ) (rest : List ℕ) (blank place : ℕ) → position is_blank rest ≡ Some blank → is_number (take blank rest) ≡ true
    → place ≡ number_in (take blank rest) → symbol_parted h letter rest (position is_blank rest) ≡ with_name (drop (blank + 1) rest) (slot_of h letter place)
parted_slot h letter rest blank place there holds is =
    ap (symbol_parted h letter rest) there ∙ ap (λ b. cond b (with_name (drop (blank + 1) rest) (slot_of h letter (number_in (take blank rest)))) None) holds
    ∙ ap (λ n. with_name (drop (blank + 1) rest) (slot_of h letter n)) (sym is)

-- ---- names given so far

pub texts-set : (names : List (Option (Bor (List ℕ)))) (i : ℕ) (name : Option (Bor (List ℕ))) → maybe_texts (set names i name) ≡ set (maybe_texts names) i (option_map (λ w. w.now) name)
texts-set names i name = map-set (λ (o : Option (Bor (List ℕ))). option_map (λ (w : Bor (List ℕ)). w.now) o) names i name

pub with_none : (names : List (Option (List ℕ))) (o : Option Symbol) → o ≡ None → with_symbol names o ≡ names
with_none names o is = ap (with_symbol names) is

pub with_some : (names : List (Option (List ℕ))) (o : Option Symbol) (slot : ℕ) (name : List ℕ) → o ≡ Some (slot, name) → with_symbol names o ≡ set names slot (Some name)
with_some names o slot name is = ap (with_symbol names) is

with_more : (h : Header) (names : List (Option (List ℕ))) (lines : List (List ℕ)) (line : List ℕ)
    → with_symbols h names (lines ++ line ∷ []) ≡ with_symbol (with_symbols h names lines) (symbol_in h line)
with_more h names [] line = refl
with_more h names (l ∷ lines) line = with_more h (with_symbol names (symbol_in h l)) lines line

pub given_more : (h : Header) (symbols : List (List ℕ)) (k : ℕ) → k < length symbols
    → names_given h (take (k + 1) symbols) ≡ with_symbol (names_given h (take k symbols)) (symbol_in h (line_at symbols k))
unfolding names_given
given_more h symbols k inside =
    ap (λ ls. with_symbols h (replicate (slot_count h) None) ls) (take_more symbols k [] inside)
    ∙ with_more h (replicate (slot_count h) None) (take k symbols) (line_at symbols k)

pub given_none : (h : Header) (symbols : List (List ℕ)) → names_given h (take 0 symbols) ≡ replicate (slot_count h) None
unfolding names_given
given_none h symbols = refl

-- ---- faults

among : (h : Header) (symbols : List (List ℕ)) (k : ℕ) → k < length symbols
    → fault_among_symbols h symbols k ≡ fault_in_symbol h (names_given h (take k symbols)) (line_at symbols k)
unfolding fault_among_symbols
among h symbols k inside = ap (λ b. cond b (fault_in_symbol h (names_given h (take k symbols)) (line_at symbols k)) None) (lt-ltb k (length symbols) inside)

behind : (h : Header) (symbols : List (List ℕ)) (k : ℕ) → length symbols ≤ k → fault_among_symbols h symbols k ≡ None
unfolding fault_among_symbols
behind h symbols k past = ap (λ b. cond b (fault_in_symbol h (names_given h (take k symbols)) (line_at symbols k)) None) (le-ltb k (length symbols) past)

-- The fault at the place of a symbol.
pub symbol_fault : (lines : List (List ℕ)) (h : Header) (many k : ℕ) → h ≡ header_of lines → AreSymbolLines lines (symbol_lines h lines) (1 + counted h) many → k < many
    → fault_at lines ((1 + counted h) + k) ≡ fault_in_symbol h (names_given h (take k (symbol_lines h lines))) (line_at lines ((1 + counted h) + k))
symbol_fault lines h many k is found below =
    ap (λ x. fault_at lines ((1 + counted x) + k)) is ∙ at_symbol lines k ∙ ap (λ x. fault_among_symbols x (symbol_lines x lines) k) (sym is)
    ∙ among h (symbol_lines h lines) k (omega (arith, found.count)) ∙ ap (fault_in_symbol h (names_given h (take k (symbol_lines h lines)))) (found.at k below)

pub all_lawful : (lines : List (List ℕ)) (h : Header) (many : ℕ) → h ≡ header_of lines → AreSymbolLines lines (symbol_lines h lines) (1 + counted h) many
    → IsLawfulTo lines ((1 + counted h) + many) → AreLawful lines
all_lawful lines h many is found so_far = record {
  each = λ place. elim (cases_lt place ((1 + counted h) + many)) [
    | inl below ↦ so_far.each place below
    | inr past ↦
        let k : ℕ = place - (1 + counted h) in
        let same : place ≡ (1 + counted h) + (place - (1 + counted h)) = omega arith in
        ap (fault_at lines) same ∙ ap (λ x. fault_at lines ((1 + counted x) + (place - (1 + counted h)))) is ∙ at_symbol lines (place - (1 + counted h))
        ∙ ap (λ x. fault_among_symbols x (symbol_lines x lines) (place - (1 + counted h))) (sym is)
        ∙ behind h (symbol_lines h lines) (place - (1 + counted h)) (omega (arith, found.count))
  ];
}

-- ---- as they are read

pub symbols_read : (words : List (Bor (List ℕ))) (h : Header) (n many : ℕ) → n ≡ counted h → counted h < length words
    → many ≡ position_or_len (λ (line : Bor (List ℕ)). is_comment line.now) (take (length words - (n + 1)) (drop (n + 1) words))
    → many ≤ length (take (length words - (n + 1)) (drop (n + 1) words)) → AreSymbolLines (texts words) (symbol_lines h (texts words)) (1 + counted h) many
symbols_read words h n many is inside found few =
    let first : n + 1 ≡ 1 + counted h = omega (arith, is) in
    symbols_found words h (take (length words - (n + 1)) (drop (n + 1) words)) many (take_rest words (n + 1) ∙ ap (λ k. drop k words) first) (omega (arith, inside)) found few

seen_at : (words : List (Bor (List ℕ))) (h : Header) (n many k : ℕ) (d : Bor (List ℕ)) → n ≡ counted h
    → AreSymbolLines (texts words) (symbol_lines h (texts words)) (1 + counted h) many → k < many
    → line_at (texts words) ((1 + counted h) + k) ≡ (get_or words ((n + 1) + k) d).now
seen_at words h n many k d is found below =
    let same : (1 + counted h) + k ≡ (n + 1) + k = omega (arith, is) in
    let size : length (texts words) ≡ length words = length-map words (λ (w : Bor (List ℕ)). w.now) in
    let inside = found.within in
    ap (line_at (texts words)) same ∙ get_or-map (λ (w : Bor (List ℕ)). w.now) words ((n + 1) + k) d [] (omega (arith, size, inside, below, is))

pub place_fault : (words : List (Bor (List ℕ))) (h : Header) (n many k : ℕ) (d : Bor (List ℕ)) (names : List (Option (List ℕ))) → h ≡ header_of (texts words) → n ≡ counted h
    → AreSymbolLines (texts words) (symbol_lines h (texts words)) (1 + counted h) many → k < many → names ≡ names_given h (take k (symbol_lines h (texts words)))
    → fault_at (texts words) ((n + 1) + k) ≡ fault_in_symbol h names (get_or words ((n + 1) + k) d).now
place_fault words h n many k d names header is found below given =
    let same : (n + 1) + k ≡ (1 + counted h) + k = omega (arith, is) in
    ap (fault_at (texts words)) same ∙ symbol_fault (texts words) h many k header found below
    ∙ ap (λ ns. fault_in_symbol h ns (line_at (texts words) ((1 + counted h) + k))) (sym given)
    ∙ ap (fault_in_symbol h names) (seen_at words h n many k d is found below)

pub place_names : (words : List (Bor (List ℕ))) (h : Header) (n many k : ℕ) (d : Bor (List ℕ)) (names more : List (Option (List ℕ))) → n ≡ counted h
    → AreSymbolLines (texts words) (symbol_lines h (texts words)) (1 + counted h) many → k < many → names ≡ names_given h (take k (symbol_lines h (texts words)))
    → more ≡ with_symbol names (symbol_in h (get_or words ((n + 1) + k) d).now) → more ≡ names_given h (take (k + 1) (symbol_lines h (texts words)))
place_names words h n many k d names more is found below given next =
    let line : line_at (symbol_lines h (texts words)) k ≡ (get_or words ((n + 1) + k) d).now = found.at k below ∙ seen_at words h n many k d is found below in
    next ∙ ap (λ ns. with_symbol ns (symbol_in h (get_or words ((n + 1) + k) d).now)) given
    ∙ ap (λ l. with_symbol (names_given h (take k (symbol_lines h (texts words)))) (symbol_in h l)) (sym line)
    ∙ sym (given_more h (symbol_lines h (texts words)) k (omega (arith, found.count, below)))
