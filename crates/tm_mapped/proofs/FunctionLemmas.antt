-- The value of a covered node is told by the bits of the leaves.
use Rattle.std.proofs.Common.{◌≡◌, ℕ, zero, suc, inl, inr, Bool, false, List, [], ◌∷◌, map, length, ◌<◌, refl, sym, ◌∙◌, ap, subst, arith}
use Rattle.std.specs.Prelude.{Contains}
use Rattle.std.proofs.lemmas.Bool.{cases_Bool}
use Rattle.tm_bits.specs.Rows.{holds}
use Rattle.tm_circuit.specs.Plain.{Plain, Drive, input, latch, gate, drive_in}
use Rattle.tm_circuit.specs.Sound.{IsSound}
use Rattle.tm_circuit.proofs.ListLemmas.{contains-first, contains-rest, contains-cases, contains-map, contains-none, map-agree}
use Rattle.tm_unroll.specs.declared.node.Node.{Node}
use Rattle.tm_unroll.specs.Nodes.{node_at, reads_of, reads, is_end_of, is_end, IsBefore}
use Rattle.tm_unroll.specs.Walks.{IsWalk, MeetsLeaf, Covers}
use Rattle.tm_unroll.specs.Mappings.{Table, root, IsLawful}
use Rattle.tm_unroll.specs.Falls.{height}
use Rattle.tm_unroll.proofs.ReadLemmas.{by_reads, height_falls}
use Rattle.tm_unroll.proofs.ChoiceLemmas.{Holds, node_stands, same_or_other}
use Rattle.tm_unroll.proofs.ListLemmas.{AreApart, apart_from_pairs, before-never}
use Rattle.tm_cone.specs.Cones.{asked_of, Evaluates, IsFunctionOf}
use Rattle.tm_mapped.specs.Functions.{HasOneValue, HasOneFunction}

-- Bits that agree on what a node reads give it the same bit, where it is no end.
pub asked_agree : (d : Drive) (a : ℕ) (bits others : Node → Bool) (own own' : Bool) → is_end_of d a ≡ false
    → ((y : Node) → Contains (reads_of d a) y → bits y ≡ others y) → asked_of d a bits own ≡ asked_of d a others own'
asked_agree input a bits others own own' inner agree = cc
asked_agree (latch next init) zero bits others own own' inner agree = cc
asked_agree (latch next init) (suc less) bits others own own' inner agree = agree (node_at less next) (contains-first (node_at less next) [])
asked_agree (gate pins cover) a bits others own own' inner agree =
    ap (holds cover) (map-agree (λ p. bits (node_at a p)) (λ p. others (node_at a p)) pins (λ p stands. agree (node_at a p) (contains-map (λ q. node_at a q) pins p stands)))

-- A leaf is met on each walk, where the node itself counts.
abbrev IsGuarded : List Drive → List Node → Node → Type 0
IsGuarded drives leaves y = (walk : List Node) → IsWalk drives y walk → MeetsLeaf leaves (y ∷ walk)

module _ (c : Plain) (leaves : List Node) (sound : IsSound c) (bits others : Node → Bool) (first : Evaluates c.drives leaves bits)
    (second : Evaluates c.drives leaves others) (agree : (y : Node) → Contains leaves y → bits y ≡ others y)
  where
    -- What stands before a guarded node that is no leaf is no end, and guards what it reads.
    no_end : (y : Node) → IsGuarded c.drives leaves y → ¬ Contains leaves y → is_end c.drives y ≡ false
    no_end y guarded other =
        elim (cases_Bool (is_end c.drives y)) [
          | inl ends ↦
              let (z, among, leaf) = guarded [] ends in
              elim (contains-cases y [] z among) [ inl is ↦ absurd (other (subst (λ (n : Node). Contains leaves n) (sym is) leaf)) | inr none ↦ absurd (contains-none z none) ]
          | inr inner ↦ inner
        ]

    read_guarded : (y z : Node) → IsGuarded c.drives leaves y → ¬ Contains leaves y → Contains (reads c.drives y) z → IsGuarded c.drives leaves z
    read_guarded y z guarded other read walk is =
        let (w, among, leaf) = guarded (z ∷ walk) (read, is) in
        elim (contains-cases y (z ∷ walk) w among) [
          | inl same ↦ absurd (other (subst (λ (n : Node). Contains leaves n) (sym same) leaf))
          | inr later ↦ (w, later, leaf)
        ]

    agree_at : (y : Node) → IsGuarded c.drives leaves y → bits y ≡ others y
    agree_at = by_reads c sound (λ y. IsGuarded c.drives leaves y → bits y ≡ others y) (λ y earlier guarded. elim (node_stands leaves y) [
      | inl leaf ↦ agree y leaf
      | inr other ↦
          first y other
          ∙ (asked_agree (drive_in c.drives y.signal) y.advance bits others (bits y) (others y) (no_end y guarded other) (λ z read. earlier z read (read_guarded y z guarded other read))
          ∙ sym (second y other))
    ])

    covered_agree : (x : Node) → Covers c.drives leaves x → bits x ≡ others x
    covered_agree x covers = agree_at x (λ walk is. let (z, among, leaf) = covers.met walk is in (z, contains-rest x walk z among, leaf))

pub one_value : (c : Plain) (leaves : List Node) (x : Node) → IsSound c → Covers c.drives leaves x → HasOneValue c.drives leaves x
one_value c leaves x sound covers bits others first second agree = covered_agree c leaves sound bits others first second agree x covers

-- ---- some assignment for any bits of the leaves

-- The bit given for a node: that of the first leaf that is the node.
abbrev bit_given : List Node → List Bool → Node → Bool
bit_given [] values y = false
bit_given (leaf ∷ leaves) [] y = false
bit_given (leaf ∷ leaves) (value ∷ values) y = elim (same_or_other leaf y) [ inl is ↦ value | inr other ↦ bit_given leaves values y ]

module _ (c : Plain) (leaves : List Node) (given : Node → Bool) where
  -- The bit of a node that is a leaf or is none.
  bit_if : (y : Node) → Bool → Holds (Contains leaves y) → Bool
  bit_if y asked (inl leaf) = given y
  bit_if y asked (inr other) = asked

  if_leaf : (y : Node) (asked : Bool) (h : Holds (Contains leaves y)) → Contains leaves y → bit_if y asked h ≡ given y
  unfolding bit_if
  if_leaf y asked (inl leaf) is = refl
  if_leaf y asked (inr other) is = absurd (other is)

  if_other : (y : Node) (asked : Bool) (h : Holds (Contains leaves y)) → ¬ Contains leaves y → bit_if y asked h ≡ asked
  unfolding bit_if
  if_other y asked (inl leaf) isnt = absurd (isnt leaf)
  if_other y asked (inr other) isnt = refl

  -- The bits of nodes, worked out so many reads deep.
  deep : ℕ → Node → Bool
  deep zero y = false
  deep (suc n) y = bit_if y (asked_of (drive_in c.drives y.signal) y.advance (deep n) false) (node_stands leaves y)

  asked_alike : (d : Drive) (a : ℕ) (bits others : Node → Bool) (own : Bool) → ((y : Node) → Contains (reads_of d a) y → bits y ≡ others y)
      → asked_of d a bits own ≡ asked_of d a others own
  asked_alike input a bits others own agree = refl
  asked_alike (latch next init) zero bits others own agree = refl
  asked_alike (latch next init) (suc less) bits others own agree = asked_agree (latch next init) (suc less) bits others own own refl agree
  asked_alike (gate pins cover) a bits others own agree = asked_agree (gate pins cover) a bits others own own refl agree

  -- Two depths above the height of a node are the same to it.
  deep_steady : IsSound c → (n m : ℕ) (y : Node) → height c y < n → height c y < m → deep n y ≡ deep m y
  unfolding deep
  deep_steady sound zero m y low low' = absurd (omega arith)
  deep_steady sound (suc n) zero y low low' = absurd (omega arith)
  deep_steady sound (suc n) (suc m) y low low' =
      ap (λ b. bit_if y b (node_stands leaves y)) (asked_alike (drive_in c.drives y.signal) y.advance (deep n) (deep m) false (λ z read.
      let falls = height_falls c sound y z read in
      deep_steady sound n m z (omega (arith, falls, low)) (omega (arith, falls, low'))))

  pub worked_out : Node → Bool
  worked_out y = deep (suc (height c y)) y

  -- What an end asks for is its own bit, and all else asks for the same whatever its own bit is.
  asked_own : (d : Drive) (a : ℕ) (bits others : Node → Bool) (own : Bool) → own ≡ asked_of d a bits false
      → ((y : Node) → Contains (reads_of d a) y → bits y ≡ others y) → own ≡ asked_of d a others own
  asked_own input a bits others own is agree = refl
  asked_own (latch next init) zero bits others own is agree = refl
  asked_own (latch next init) (suc less) bits others own is agree = is ∙ asked_agree (latch next init) (suc less) bits others false own refl agree
  asked_own (gate pins cover) a bits others own is agree = is ∙ asked_agree (gate pins cover) a bits others false own refl agree

  pub worked_evaluates : IsSound c → Evaluates c.drives leaves worked_out
  unfolding worked_out deep
  worked_evaluates sound y other =
      asked_own (drive_in c.drives y.signal) y.advance (deep (height c y)) worked_out (deep (suc (height c y)) y)
      (if_other y (asked_of (drive_in c.drives y.signal) y.advance (deep (height c y)) false) (node_stands leaves y) other)
      (λ z read. let falls = height_falls c sound y z read in deep_steady sound (height c y) (suc (height c z)) z falls (omega arith))

  pub worked_given : (y : Node) → Contains leaves y → worked_out y ≡ given y
  unfolding worked_out deep
  worked_given y leaf = if_leaf y (asked_of (drive_in c.drives y.signal) y.advance (deep (height c y)) false) (node_stands leaves y) leaf

-- ---- the function of a table

given_here : (leaf y : Node) (leaves : List Node) (value : Bool) (values : List Bool) → leaf ≡ y → bit_given (leaf ∷ leaves) (value ∷ values) y ≡ value
given_here leaf y leaves value values is = by_test (same_or_other leaf y)
  where
    by_test : (h : Holds (leaf ≡ y)) → elim h [ inl e ↦ value | inr other ↦ bit_given leaves values y ] ≡ value
    by_test (inl e) = refl
    by_test (inr other) = absurd (other is)

given_later : (leaf y : Node) (leaves : List Node) (value : Bool) (values : List Bool) → (leaf ≡ y → ⊥)
    → bit_given (leaf ∷ leaves) (value ∷ values) y ≡ bit_given leaves values y
given_later leaf y leaves value values isnt = by_test (same_or_other leaf y)
  where
    by_test : (h : Holds (leaf ≡ y)) → elim h [ inl e ↦ value | inr other ↦ bit_given leaves values y ] ≡ bit_given leaves values y
    by_test (inl e) = absurd (isnt e)
    by_test (inr other) = refl

-- Bits read off the leaves are given back.
given_mapped : (leaves : List Node) (bits : Node → Bool) (y : Node) → Contains leaves y → bit_given leaves (map bits leaves) y ≡ bits y
given_mapped [] bits y stands = absurd (contains-none y stands)
given_mapped (leaf ∷ leaves) bits y stands =
    elim (same_or_other leaf y) [
      | inl is ↦ given_here leaf y leaves (bits leaf) (map bits leaves) is ∙ ap bits is
      | inr other ↦
          elim (contains-cases leaf leaves y stands) [
            | inl is ↦ absurd (other is)
            | inr later ↦ given_later leaf y leaves (bits leaf) (map bits leaves) other ∙ given_mapped leaves bits y later
          ]
    ]

-- Bits given for leaves that are apart are those that the leaves have.
given_all : (leaves : List Node) (values : List Bool) → AreApart leaves → length values ≡ length leaves → map (bit_given leaves values) leaves ≡ values
given_all [] [] apart long = refl
given_all [] (value ∷ values) apart long = cc
given_all (leaf ∷ leaves) [] apart long = cc
given_all (leaf ∷ leaves) (value ∷ values) apart long =
    let here = given_here leaf leaf leaves value values refl in
    let later : map (bit_given (leaf ∷ leaves) (value ∷ values)) leaves ≡ map (bit_given leaves values) leaves =
    map-agree (bit_given (leaf ∷ leaves) (value ∷ values)) (bit_given leaves values) leaves (λ y stands.
    given_later leaf y leaves value values (λ is. apart.0 (subst (λ (n : Node). Contains leaves n) (sym is) stands))) in
    let rest = given_all leaves values apart.1 (omega (arith, long)) in
    let whole : map (bit_given (leaf ∷ leaves) (value ∷ values)) leaves ≡ values = later ∙ rest in
    cc

-- The value of the root for any bits of the leaves.
value_for : Plain → Table → List Bool → Bool
value_for c t values = worked_out c t.leaves (bit_given t.leaves values) (root t)

value_is_function : (c : Plain) (t : Table) → IsSound c → Covers c.drives t.leaves (root t) → IsFunctionOf c.drives t (value_for c t)
unfolding value_for
value_is_function c t sound covers bits evaluates =
    let given : Node → Bool = bit_given t.leaves (map bits t.leaves) in
    one_value c t.leaves (root t) sound covers bits (worked_out c t.leaves given) evaluates (worked_evaluates c t.leaves given sound) (λ y leaf.
    sym (worked_given c t.leaves given y leaf ∙ given_mapped t.leaves bits y leaf))

pub one_function : (c : Plain) (k d : ℕ) (tables : List Table) (t : Table) → IsSound c → IsLawful c k d tables → Contains tables t → HasOneFunction c.drives t
one_function c k d tables t sound lawful stands =
    let table = lawful.each t stands in
    record {
      some = (value_for c t, value_is_function c t sound table.covers);
      one = λ f g is_f is_g values long.
          let given : Node → Bool = bit_given t.leaves values in
          let e : Node → Bool = worked_out c t.leaves given in
          let back : map e t.leaves ≡ values = map-agree e given t.leaves (λ y leaf. worked_given c t.leaves given y leaf)
          ∙ given_all t.leaves values (apart_from_pairs IsBefore t.leaves before-never table.leaves.ascending) long in
          let evaluates = worked_evaluates c t.leaves given sound in
          ap f (sym back) ∙ (sym (is_f e evaluates) ∙ (is_g e evaluates ∙ ap g back));
    }
