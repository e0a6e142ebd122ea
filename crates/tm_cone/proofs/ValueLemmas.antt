-- The words of nodes, from leaves up.
use Rattle.std.proofs.Common.{◌≡◌, ℕ, zero, suc, ◌+◌, ◌-◌, ◌^◌, ◌<◌, ◌≤◌, ◌⊎◌, inl, inr, Bool, true, false, cond, eqb, List, [], ◌∷◌, ◌++◌, map, length, get_or, take, Option, Some, refl, sym, ◌∙◌, ap, subst, arith}
use Rattle.std.specs.Prelude.{Contains, slice_get, unwrap_or, IsSome}
use Rattle.std.specs.Int.{bit_at}
use Rattle.std.proofs.lemmas.List.{take_more, length-map, map-append}
use Rattle.std.proofs.lemmas.List.Elements.{Contains-push_cases}
use Rattle.indexmap.specs.IndexMap.{IndexMap, get}
use Rattle.tm_bits.specs.Rows.{Rows, holds}
use Rattle.tm_bits.specs.Tables.{bit_of, bits_of, row_number}
use Rattle.tm_bits.proofs.RowNumbers.{get_or-bits_of, row_number-lt, bits_of-row_number}
use Rattle.tm_bits.proofs.Words.{rows_fit}
use Rattle.tm_circuit.specs.Plain.{Drive, input, latch, gate, drive_in}
use Rattle.tm_circuit.proofs.ListLemmas.{contains-first, contains-map, map-agree}
use Rattle.tm_unroll.specs.declared.node.Node.{Node}
use Rattle.tm_unroll.specs.Nodes.{node_at, reads_of, reads, is_end_of, is_end}
use Rattle.tm_unroll.proofs.SearchLemmas.{node_decides}
use Rattle.tm_cone.specs.Cones.{asked_of, Evaluates}
use Rattle.tm_cone.specs.Values.{HaveBits, HasValue, HasWordsFor, AreValues, bits_on, bits_in, node_eq, words_in}

-- The row that the bits of few leaves name is one of 256.
few_rows : (bits : Node → Bool) (leaves : List Node) → length leaves ≤ 8 → row_number (map bits leaves) < 256
few_rows bits leaves few =
    let low = row_number-lt (map bits leaves) in
    let as_many : length (map bits leaves) ≡ length leaves = length-map leaves bits in
    let fits : 2 ^ length (map bits leaves) ≤ 256 = rows_fit (length (map bits leaves)) (omega arith) in
    omega arith

-- What stands at a place is read there.
pub read_at : (nodes : List Node) (i : ℕ) (x : Node) → slice_get nodes i ≡ Some x → x ≡ get_or nodes i x
read_at [] i x is = cc
read_at (y ∷ nodes) zero x is = cc
read_at (y ∷ nodes) (suc i) x is = read_at nodes i x is

-- ---- a leaf

at-map : {A B : Type 0} (f : A → B) (xs : List A) (i : ℕ) (x : A) (d : B) → slice_get xs i ≡ Some x → get_or (map f xs) i d ≡ f x
at-map f [] i x d is = cc
at-map f (y ∷ xs) zero x d is = cc
at-map f (y ∷ xs) (suc i) x d is = at-map f xs i x d is

at-low : {A : Type 0} (xs : List A) (i : ℕ) (x : A) → slice_get xs i ≡ Some x → i < length xs
at-low [] i x is = cc
at-low (y ∷ xs) zero x is = omega arith
at-low (y ∷ xs) (suc i) x is = let low = at-low xs i x is in omega arith

-- A leaf has the words of its place in the row's number.
pub leaf_value : (drives : List Drive) (leaves : List Node) (i : ℕ) (x : Node) (words : List ℕ) → length leaves ≤ 8 → slice_get leaves i ≡ Some x
    → HaveBits words (λ row. eqb (bit_at row (length leaves - 1 - i)) 1) → HasValue drives leaves x words
leaf_value drives leaves i x words few is has = record {
  at = λ bits evaluates.
      let row = row_number (map bits leaves) in
      let as_many : length (map bits leaves) ≡ length leaves = length-map leaves bits in
      let low : i < length leaves = at-low leaves i x is in
      let back : bits_of (length leaves) row ≡ map bits leaves = subst (λ n. bits_of n row ≡ map bits leaves) as_many (bits_of-row_number (map bits leaves)) in
      has.each row (few_rows bits leaves few) ∙ sym (get_or-bits_of (length leaves) row i false low) ∙ ap (λ (l : List Bool). get_or l i false) back
      ∙ at-map bits leaves i x false is;
}

-- ---- any other node

-- What a node asks for is known by the bits of the nodes that it reads.
asked_agree : (d : Drive) (a : ℕ) (f g : Node → Bool) (own other : Bool) → is_end_of d a ≡ false → ((y : Node) → Contains (reads_of d a) y → f y ≡ g y)
    → asked_of d a f own ≡ asked_of d a g other
asked_agree input a f g own other goes agree = cc
asked_agree (latch next init) zero f g own other goes agree = cc
asked_agree (latch next init) (suc less) f g own other goes agree = agree (node_at less next) (contains-first (node_at less next) [])
asked_agree (gate pins cover) a f g own other goes agree =
    ap (holds cover) (map-agree (λ p. f (node_at a p)) (λ p. g (node_at a p)) pins (λ p stands. agree (node_at a p) (contains-map (λ q. node_at a q) pins p stands)))

-- A node has the words that it asks for, where all that it reads has words.
pub node_value : (drives : List Drive) (leaves : List Node) (x : Node) (known : Node → List ℕ) (words : List ℕ) → length leaves ≤ 8 → ¬ Contains leaves x
    → is_end drives x ≡ false → ((y : Node) → Contains (reads drives x) y → HasValue drives leaves y (known y))
    → HaveBits words (λ row. asked_of (drive_in drives x.signal) x.advance (bits_on row known) false) → HasValue drives leaves x words
node_value drives leaves x known words few other goes values has = record {
  at = λ bits evaluates.
      let row = row_number (map bits leaves) in
      has.each row (few_rows bits leaves few)
      ∙ asked_agree (drive_in drives x.signal) x.advance (bits_on row known) bits false (bits x) goes (λ y read. (values y read).at bits evaluates)
      ∙ sym (evaluates x other);
}

-- ---- the words that a map has

-- A map has the words for a node that it gives for it.
words_are : {S : Type 0} (values : IndexMap Node (List ℕ) S) (x : Node) (words : List ℕ) → get node_eq values x ≡ Some words → words ≡ words_in values x
words_are values x words is = ap (λ (o : Option (List ℕ)). unwrap_or o []) (sym is)

-- A pin at an advance is among those of all pins.
pub pin_stands : (pins : List ℕ) (a i p : ℕ) → i < length pins → p ≡ get_or pins i p → Contains (map (λ q. node_at a q) pins) (node_at a p)
pin_stands pins a i p within is = contains-map (λ q. node_at a q) pins p (i, within, sym is)

-- The words of one pin more.
pub words_more : {S : Type 0} (values : IndexMap Node (List ℕ) S) (pins : List ℕ) (a i p : ℕ) (before after : List (List ℕ)) (words : List ℕ)
    → before ≡ map (λ q. words_in values (node_at a q)) (take i pins) → i < length pins → p ≡ get_or pins i p → get node_eq values (node_at a p) ≡ Some words
    → after ≡ before ++ words ∷ [] → after ≡ map (λ q. words_in values (node_at a q)) (take (i + 1) pins)
words_more values pins a i p before after words so_far within is has pushed =
    let f = λ (q : ℕ). words_in values (node_at a q) in
    let more : take (i + 1) pins ≡ take i pins ++ p ∷ [] = take_more pins i p within ∙ ap (λ v. take i pins ++ v ∷ []) (sym is) in
    pushed ∙ ap (λ (l : List (List ℕ)). l ++ words ∷ []) so_far ∙ ap (λ (w : List ℕ). map f (take i pins) ++ w ∷ []) (words_are values (node_at a p) words has)
    ∙ sym (map-append f (take i pins) (p ∷ [])) ∙ ap (λ l. map f l) (sym more)

-- A latch that is no end reads its next one advance less.
latch_reads : (next : ℕ) (init : Bool) (a : ℕ) → is_end_of (latch next init) a ≡ false → Contains (reads_of (latch next init) a) (node_at (a - 1) next)
latch_reads next init zero goes = cc
latch_reads next init (suc less) goes =
    let e : less ≡ suc less - 1 = omega arith in
    subst (λ b. Contains (node_at less next ∷ []) (node_at b next)) e (contains-first (node_at less next) [])

latch_asks : (next : ℕ) (init : Bool) (a : ℕ) (f : Node → Bool) (own : Bool) → is_end_of (latch next init) a ≡ false → f (node_at (a - 1) next) ≡ asked_of (latch next init) a f own
latch_asks next init zero f own goes = cc
latch_asks next init (suc less) f own goes = let e : suc less - 1 ≡ less = omega arith in ap (λ b. f (node_at b next)) e

module _ {S : Type 0} (values : IndexMap Node (List ℕ) S) (drives : List Drive) (x : Node) where
  pub next_known : (next : ℕ) (init : Bool) → drive_in drives x.signal ≡ latch next init → is_end drives x ≡ false → HasWordsFor values (reads drives x)
      → IsSome (get node_eq values (node_at (x.advance - 1) next))
  next_known next init is goes known =
      known (node_at (x.advance - 1) next)
      (subst (λ d. Contains (reads_of d x.advance) (node_at (x.advance - 1) next)) (sym is)
      (latch_reads next init x.advance (subst (λ d. is_end_of d x.advance ≡ false) is goes)))

  -- A latch has the words of its next.
  pub next_words : (next : ℕ) (init : Bool) (words : List ℕ) → drive_in drives x.signal ≡ latch next init → is_end drives x ≡ false
      → get node_eq values (node_at (x.advance - 1) next) ≡ Some words
      → HaveBits words (λ row. asked_of (drive_in drives x.signal) x.advance (bits_on row (words_in values)) false)
  next_words next init words is goes has = record {
    each = λ row low.
        ap (λ w. bit_of w row) (words_are values (node_at (x.advance - 1) next) words has)
        ∙ latch_asks next init x.advance (bits_on row (words_in values)) false (subst (λ d. is_end_of d x.advance ≡ false) is goes)
        ∙ ap (λ d. asked_of d x.advance (bits_on row (words_in values)) false) (sym is);
  }

  -- A gate has the words that its cover comes to.
  pub gate_words : (pins : List ℕ) (cover : Rows) (each : List (List ℕ)) (words : List ℕ) → drive_in drives x.signal ≡ gate pins cover
      → each ≡ map (λ p. words_in values (node_at x.advance p)) pins → HaveBits words (λ row. holds cover (bits_in row each))
      → HaveBits words (λ row. asked_of (drive_in drives x.signal) x.advance (bits_on row (words_in values)) false)
  gate_words pins cover each words is each_is has = record {
    each = λ row low.
        has.each row low
        ∙ ap (λ l. holds cover (bits_in row l)) each_is
        ∙ ap (holds cover) (map-map (λ p. words_in values (node_at x.advance p)) (λ w. bit_of w row) pins)
        ∙ ap (λ d. asked_of d x.advance (bits_on row (words_in values)) false) (sym is);
  }
    where
      map-map : {A B C : Type 0} (f : A → B) (g : B → C) (xs : List A) → map g (map f xs) ≡ map (λ y. g (f y)) xs
      map-map f g [] = refl
      map-map f g (y ∷ xs) = ap (λ l. g (f y) ∷ l) (map-map f g xs)

-- ---- the words so far

-- A map after an entry more.
pub record Enters {S : Type 0} (x : Node) (words : List ℕ) (old new : IndexMap Node (List ℕ) S) : Type 0 where
  pub each : (y : Node) → get node_eq new y ≡ cond (node_eq x y) (Some words) (get node_eq old y)

module _ {S : Type 0} (drives : List Drive) (leaves : List Node) (x : Node) (words : List ℕ) (old new : IndexMap Node (List ℕ) S) (enters : Enters x words old new) where
  entered : (y : Node) → node_eq x y ≡ true → get node_eq new y ≡ Some words
  entered y is = enters.each y ∙ ap (λ b. cond b (Some words) (get node_eq old y)) is

  stayed : (y : Node) → node_eq x y ≡ false → get node_eq new y ≡ get node_eq old y
  stayed y not_is = enters.each y ∙ ap (λ b. cond b (Some words) (get node_eq old y)) not_is

  known_by : (y : Node) → (IsSome (get node_eq old y)) → (b : Bool) → node_eq x y ≡ b → IsSome (get node_eq new y)
  known_by y before true is = subst (λ (o : Option (List ℕ)). IsSome o) (sym (entered y is)) refl
  known_by y before false is = subst (λ (o : Option (List ℕ)). IsSome o) (sym (stayed y is)) before

  known_here : IsSome (get node_eq new x)
  known_here = subst (λ (o : Option (List ℕ)). IsSome o) (sym (entered x ((node_decides x x).1 refl))) refl

  right_by : HasValue drives leaves x words → (y : Node) → HasValue drives leaves y (words_in old y) → (b : Bool) → node_eq x y ≡ b → HasValue drives leaves y (words_in new y)
  right_by value y before true is =
      subst (λ (w : List ℕ). HasValue drives leaves y w) (sym (ap (λ (o : Option (List ℕ)). unwrap_or o []) (entered y is)))
      (subst (λ (z : Node). HasValue drives leaves z words) ((node_decides x y).0 is) value)
  right_by value y before false is =
      subst (λ (w : List ℕ). HasValue drives leaves y w) (sym (ap (λ (o : Option (List ℕ)). unwrap_or o []) (stayed y is))) before

  right_here : HasValue drives leaves x words → HasValue drives leaves x (words_in new x)
  right_here value = subst (λ (w : List ℕ). HasValue drives leaves x w) (sym (ap (λ (o : Option (List ℕ)). unwrap_or o []) (entered x ((node_decides x x).1 refl)))) value

  -- The values of one node more.
  pub values_more : (nodes : List Node) (i : ℕ) → AreValues drives leaves (take i nodes) old → i < length nodes → x ≡ get_or nodes i x → HasValue drives leaves x words
      → AreValues drives leaves (take (i + 1) nodes) new
  values_more nodes i are within is value = record {
    known = λ y h. elim (cases y h) [ inl before ↦ known_by y (are.known y before) (node_eq x y) refl | inr this ↦ subst (λ (z : Node). IsSome (get node_eq new z)) this known_here ];
    right = λ y h. elim (cases y h) [
      | inl before ↦ right_by value y (are.right y before) (node_eq x y) refl
      | inr this ↦ subst (λ (z : Node). HasValue drives leaves z (words_in new z)) this (right_here value)
    ];
  }
    where
      cases : (y : Node) → Contains (take (i + 1) nodes) y → Contains (take i nodes) y ⊎ (x ≡ y)
      cases y h =
          let more : take (i + 1) nodes ≡ take i nodes ++ x ∷ [] = take_more nodes i x within ∙ ap (λ (z : Node). take i nodes ++ z ∷ []) (sym is) in
          Contains-push_cases (take i nodes) x y (subst (λ (l : List Node). Contains l y) more h)

-- ---- the function

-- A table that agrees with the words of the root on its rows is the function of the root.
pub function_from : (drives : List Drive) (leaves : List Node) (x : Node) (words rows : List ℕ) (inputs : ℕ) → HasValue drives leaves x words → inputs ≡ length leaves
    → ((row : ℕ) → row < 2 ^ inputs → bit_of rows row ≡ bit_of words row) → (bits : Node → Bool) → Evaluates drives leaves bits
    → bits x ≡ bit_of rows (row_number (map bits leaves))
function_from drives leaves x words rows inputs value as_many same bits evaluates =
    let long : length (map bits leaves) ≡ inputs = length-map leaves bits ∙ sym as_many in
    let low : row_number (map bits leaves) < 2 ^ inputs = subst (λ n. row_number (map bits leaves) < 2 ^ n) long (row_number-lt (map bits leaves)) in
    sym (value.at bits evaluates) ∙ sym (same (row_number (map bits leaves)) low)

-- A map has the value of a node that it gives words for.
pub value_read : {S : Type 0} (drives : List Drive) (leaves nodes : List Node) (values : IndexMap Node (List ℕ) S) (x : Node) (words : List ℕ) → AreValues drives leaves nodes values
    → Contains nodes x → get node_eq values x ≡ Some words → HasValue drives leaves x words
value_read drives leaves nodes values x words are stands is = subst (λ (w : List ℕ). HasValue drives leaves x w) (sym (words_are values x words is)) (are.right x stands)
