-- How the classes of equal latches grow, and what they are in the end.
use Rattle.std.proofs.Common.{◌≡◌, ◌≢◌, ℕ, ◌+◌, ◌<◌, ◌≤◌, ◌⊎◌, inl, inr, Bool, true, false, List, [], ◌∷◌, ◌++◌, length, get_or, set, reverse, Some, None, Contains, refl, sym, ◌∙◌, ap, subst, arith}
use Rattle.std.specs.Prelude.{◌↔◌, IsTrue, not, Option, unwrap_or, slice_index_or}
use Rattle.std.proofs.lemmas.Bool.{cases_lt, cases_eq, not-true, not-false, both_ways}
use Rattle.std.proofs.lemmas.List.{get_or-set_same, get_or-set_other, length-set, get_or_past, get_or_read, get_or_append_left, get_or_push, length_push, reverse-append}
use Rattle.std.proofs.lemmas.List.Elements.{Contains-append_left, Contains-push, Contains-push_cases}
use Rattle.tm_circuit.specs.declared.sources.Source.TheVariants.{Input, Gate, Ring}
use Rattle.tm_circuit.specs.Plain.{Drive, latch, drive_in, is_latch}
use Rattle.tm_circuit.specs.Source.{step_back, IsSource}
use Rattle.tm_twins.specs.declared.classes.Firsts.{Firsts}
use Rattle.tm_twins.specs.declared.classes.Classes.{Classes}
use Rattle.tm_twins.specs.Twins.{IsWord, AreEqual}
use Rattle.tm_twins.specs.Classes.{IsFed, known_at, head_in, first_of, with_first, no_firsts, first_at, IsPlaced, IsFirst, AreClasses, Gathers, IsKnown, Leads, IsTrail, LeadsHome, Learns, AreHeads}
use Rattle.tm_twins.proofs.Words.{past_no_word, worded_within, word_from_input, word_from_gate, ring_no_word}

-- ---- which latches are fed

fed_from_word : (drives : List Drive) (s e : ℕ) (w : List Bool) → is_latch (drive_in drives s) ≡ true
    → IsWord drives s w e → IsFed drives s
fed_from_word drives s e [] is h = absurd (let isnt : is_latch (drive_in drives s) ≡ false = h.1 in cc)
fed_from_word drives s e (init ∷ w) is h = (init, (w, (e, h)))

pub fed_from_input : (drives : List Drive) (s e : ℕ) → is_latch (drive_in drives s) ≡ true
    → IsSource drives s (Input e) → IsFed drives s
fed_from_input drives s e is h = let (w, word) = word_from_input drives s e h in fed_from_word drives s e w is word

pub fed_from_gate : (drives : List Drive) (s e : ℕ) → is_latch (drive_in drives s) ≡ true
    → IsSource drives s (Gate e) → IsFed drives s
fed_from_gate drives s e is h = let (w, word) = word_from_gate drives s e h in fed_from_word drives s e w is word

pub unfed_from_ring : (drives : List Drive) (s : ℕ) → IsSource drives s Ring → IsFed drives s → ⊥
unfed_from_ring drives s ring (init, (w, (e, h))) = ring_no_word drives s e (init ∷ w) ring h

pub fed_latch : (drives : List Drive) (s : ℕ) → IsFed drives s → is_latch (drive_in drives s) ≡ true
fed_latch drives s (init, (w, (e, h))) = ap is_latch h.1

pub fed_within : (drives : List Drive) (s : ℕ) → IsFed drives s → s < length drives
fed_within drives s (init, (w, (e, h))) = worded_within drives s (init ∷ w) e h

-- A latch with a source takes a signal with a word.
pub fed_leads : (drives : List Drive) (s : ℕ) → IsFed drives s → Leads drives s (step_back s (drive_in drives s))
fed_leads drives s (init, (w, (e, h))) =
    let back : h.0 ≡ step_back s (drive_in drives s) = sym (ap (λ d. step_back s d) h.1) in
    subst (λ x. Leads drives s x) back (init, (w, (e, h.1, h.2)))

pub leads_fed : (drives : List Drive) (s to : ℕ) → Leads drives s to → IsFed drives s
leads_fed drives s to (init, (w, (e, is, rest))) = (init, (w, (e, (to, is, rest))))

pub leads_within : (drives : List Drive) (s to : ℕ) → Leads drives s to → to < length drives
leads_within drives s to (init, (w, (e, is, rest))) = worded_within drives to w e rest

-- ---- the first latches

first_with : (f : Firsts) (init : Bool) (q : ℕ) → first_of (with_first f init q) init ≡ Some q
first_with f true q = refl
first_with f false q = refl

first_without : (f : Firsts) (init i : Bool) (q : ℕ) → (i ≡ init) ⊎ (first_of (with_first f init q) i ≡ first_of f i)
first_without f true true q = inl refl
first_without f true false q = inr refl
first_without f false true q = inr refl
first_without f false false q = inl refl

no_first : (i : Bool) (x : ℕ) → first_of no_firsts i ≡ Some x → ⊥
no_first true x h = cc
no_first false x h = cc

-- One first latch was written.
pub record SetsFirst (old new : List Firsts) (head : ℕ) (init : Bool) (first : ℕ) : Type 0 where
  pub sized : length new ≡ length old
  pub here : first_at new head init ≡ Some first
  pub others : (h : ℕ) (i : Bool) → ((h ≡ head) × (i ≡ init)) ⊎ (first_at new h i ≡ first_at old h i)

pub sets_first : (old : List Firsts) (head : ℕ) (init : Bool) (first : ℕ) → head < length old
    → SetsFirst old (set old head (with_first (slice_index_or old head no_firsts) init first)) head init first
sets_first old head init first within =
    let f : Firsts = with_first (slice_index_or old head no_firsts) init first in
    let there : slice_index_or (set old head f) head no_firsts ≡ f = get_or-set_same old head f no_firsts within in
    record {
      sized = length-set old head f;
      here = ap (λ x. first_of x init) there ∙ first_with (slice_index_or old head no_firsts) init first;
      others = λ h i. elim (cases_eq h head) [
        | inl same ↦ elim (first_without (slice_index_or old head no_firsts) init i first) [
          | inl inits ↦ inl (same, inits)
          | inr stays ↦ inr (subst (λ x. first_at (set old head f) x i ≡ first_at old x i) (sym same) (ap (λ x. first_of x i) there ∙ stays))
        ]
        | inr differ ↦ inr (ap (λ x. first_of x i) (get_or-set_other old head h f no_firsts differ))
      ];
    }

-- ---- one latch more in its class

known_here : (known : List Bool) (q : ℕ) → q < length known → known_at (set known q true) q ≡ true
known_here known q within = get_or-set_same known q true true within

known_other : (known : List Bool) (q s : ℕ) → s ≢ q → known_at (set known q true) s ≡ known_at known s
known_other known q s differ = get_or-set_other known q s true true differ

pub known_stays : (known : List Bool) (q s : ℕ) → q < length known → known_at known s ≡ true
    → known_at (set known q true) s ≡ true
known_stays known q s within is =
    elim (cases_eq s q) [
      | inl same ↦ subst (λ x. known_at (set known q true) x ≡ true) (sym same) (known_here known q within)
      | inr differ ↦ known_other known q s differ ∙ is
    ]

-- What is given when a latch is put into its class.
pub record IsPlacing (drives : List Drive) (known : List Bool) (heads : List ℕ) (firsts new : List Firsts) (q next : ℕ) (init : Bool) (word : List Bool) (source head : ℕ) : Type 0 where
  pub classes : AreClasses drives known heads firsts
  pub drive : drive_in drives q ≡ latch next init
  pub rest : IsWord drives next word source
  pub next_known : known_at known next ≡ true
  pub head_is : head ≡ unwrap_or (first_at firsts (head_in heads next) init) q
  pub sets : SetsFirst firsts new (head_in heads next) init head

module _ (drives : List Drive) (known : List Bool) (heads : List ℕ) (firsts new : List Firsts) (q next : ℕ) (init : Bool) (word : List Bool) (source head : ℕ) (p : IsPlacing drives known heads firsts new q next init word source head) where
  within_drives : q < length drives
  within_drives = worded_within drives q (init ∷ word) source (next, p.drive, p.rest)

  within_heads : q < length heads
  within_heads = let a = within_drives in let b = p.classes.heads_sized in omega arith

  within_known : q < length known
  within_known = let a = within_drives in let b = p.classes.known_sized in omega arith

  -- Where a first latch stood, it is the head.
  head_found : (x : ℕ) → first_at firsts (head_in heads next) init ≡ Some x → head ≡ x
  head_found x found = p.head_is ∙ ap (λ o. unwrap_or o q) found

  -- The head of what was known stays, of the latch itself too.
  keeps_head : (s : ℕ) → known_at known s ≡ true → head_in (set heads q head) s ≡ head_in heads s
  keeps_head s is =
      elim (cases_eq s q) [
        | inl same ↦ subst (λ x. head_in (set heads q head) x ≡ head_in heads x) (sym same)
            (get_or-set_same heads q head q within_heads
            ∙ elim (p.classes.settled q (subst (λ x. known_at known x ≡ true) same is)) [
              | inl alone ↦ absurd (alone.unfed (init, (word, (source, (next, p.drive, p.rest)))))
              | inr placed ↦
                  let drives_are : latch placed.next placed.init ≡ latch next init = sym placed.drive ∙ p.drive in
                  let nexts : placed.next ≡ next = cc in
                  let inits : placed.init ≡ init = cc in
                  head_found (head_in heads q)
                  (subst (λ i. first_at firsts (head_in heads next) i ≡ Some (head_in heads q)) inits
                  (subst (λ n. first_at firsts (head_in heads n) placed.init ≡ Some (head_in heads q)) nexts placed.found))
            ])
        | inr differ ↦ get_or-set_other heads q s head s differ
      ]

  keeps_found : (h : ℕ) (i : Bool) (x : ℕ) → first_at firsts h i ≡ Some x → first_at new h i ≡ Some x
  keeps_found h i x found =
      elim (p.sets.others h i) [
        | inl (heads_are, inits) ↦
            let there : first_at firsts (head_in heads next) init ≡ Some x =
            subst (λ j. first_at firsts (head_in heads next) j ≡ Some x) inits (subst (λ g. first_at firsts g i ≡ Some x) heads_are found) in
            subst (λ j. first_at new h j ≡ Some x) (sym inits)
            (subst (λ g. first_at new g init ≡ Some x) (sym heads_are) (p.sets.here ∙ ap (λ g. Some g) (head_found x there)))
        | inr stays ↦ stays ∙ found
      ]

  keeps_first : (h : ℕ) (i : Bool) (x : ℕ) → IsFirst drives known heads h i x
      → IsFirst drives (set known q true) (set heads q head) h i x
  keeps_first h i x f = record {
    within = f.within;
    next = f.next;
    drive = f.drive;
    next_known = known_stays known q f.next within_known f.next_known;
    next_head = keeps_head f.next f.next_known ∙ f.next_head;
  }

  -- The head is a first latch of its class.
  head_first : (o : Option ℕ) → first_at firsts (head_in heads next) init ≡ o
      → IsFirst drives (set known q true) (set heads q head) (head_in heads next) init head
  head_first None found =
      let itself : q ≡ head = sym (p.head_is ∙ ap (λ o. unwrap_or o q) found) in
      subst (λ x. IsFirst drives (set known q true) (set heads q head) (head_in heads next) init x) itself (record {
        within = within_drives;
        next = next;
        drive = p.drive;
        next_known = known_stays known q next within_known p.next_known;
        next_head = keeps_head next p.next_known;
      })
  head_first (Some x) found =
      subst (λ y. IsFirst drives (set known q true) (set heads q head) (head_in heads next) init y) (sym (head_found x found))
      (keeps_first (head_in heads next) init x (p.classes.entries (head_in heads next) init x found))

  keeps_entries : (h : ℕ) (i : Bool) (x : ℕ) → first_at new h i ≡ Some x
      → IsFirst drives (set known q true) (set heads q head) h i x
  keeps_entries h i x found =
      elim (p.sets.others h i) [
        | inl (heads_are, inits) ↦
            let there : first_at new (head_in heads next) init ≡ Some x =
            subst (λ j. first_at new (head_in heads next) j ≡ Some x) inits (subst (λ g. first_at new g i ≡ Some x) heads_are found) in
            let here : first_at new (head_in heads next) init ≡ Some head = p.sets.here in
            let same : head ≡ x = cc in
            subst (λ j. IsFirst drives (set known q true) (set heads q head) h j x) (sym inits)
            (subst (λ g. IsFirst drives (set known q true) (set heads q head) g init x) (sym heads_are)
            (subst (λ y. IsFirst drives (set known q true) (set heads q head) (head_in heads next) init y) same
            (head_first (first_at firsts (head_in heads next) init) refl)))
        | inr stays ↦ keeps_first h i x (p.classes.entries h i x (sym stays ∙ found))
      ]

  placed_here : IsPlaced drives (set known q true) (set heads q head) new q
  placed_here = record {
    next = next;
    init = init;
    word = word;
    source = source;
    drive = p.drive;
    rest = p.rest;
    next_known = known_stays known q next within_known p.next_known;
    found = subst (λ h. first_at new h init ≡ Some (head_in (set heads q head) q)) (sym (keeps_head next p.next_known))
        (p.sets.here ∙ ap (λ x. Some x) (sym (get_or-set_same heads q head q within_heads)));
  }

  keeps_placed : (s : ℕ) → known_at known s ≡ true → IsPlaced drives known heads firsts s
      → IsPlaced drives (set known q true) (set heads q head) new s
  keeps_placed s is placed = record {
    next = placed.next;
    init = placed.init;
    word = placed.word;
    source = placed.source;
    drive = placed.drive;
    rest = placed.rest;
    next_known = known_stays known q placed.next within_known placed.next_known;
    found = subst (λ h. first_at new h placed.init ≡ Some (head_in (set heads q head) s)) (sym (keeps_head placed.next placed.next_known))
        (keeps_found (head_in heads placed.next) placed.init (head_in (set heads q head) s) (placed.found ∙ ap (λ x. Some x) (sym (keeps_head s is))));
  }

  pub places : AreClasses drives (set known q true) (set heads q head) new
  places = record {
    known_sized = length-set known q true ∙ p.classes.known_sized;
    heads_sized = length-set heads q head ∙ p.classes.heads_sized;
    firsts_sized = p.sets.sized ∙ p.classes.firsts_sized;
    within = λ s inside. elim (cases_eq s q) [
      | inl same ↦ subst (λ x. head_in (set heads q head) x < length drives) (sym same)
          (subst (λ x. x < length drives) (sym (get_or-set_same heads q head q within_heads)) (head_first (first_at firsts (head_in heads next) init) refl).within)
      | inr differ ↦ subst (λ x. x < length drives) (sym (get_or-set_other heads q s head s differ)) (p.classes.within s inside)
    ];
    unknown = λ s is. elim (cases_eq s q) [
      | inl same ↦ absurd (let here : known_at (set known q true) s ≡ true = subst (λ x. known_at (set known q true) x ≡ true) (sym same) (known_here known q within_known) in cc)
      | inr differ ↦ p.classes.unknown s (sym (known_other known q s differ) ∙ is)
    ];
    settled = λ s is. elim (cases_eq s q) [
      | inl same ↦ inr (subst (λ x. IsPlaced drives (set known q true) (set heads q head) new x) (sym same) placed_here)
      | inr differ ↦
          let before : known_at known s ≡ true = sym (known_other known q s differ) ∙ is in
          elim (p.classes.settled s before) [
            | inl alone ↦ inl (record { head = keeps_head s before ∙ alone.head; unfed = alone.unfed })
            | inr placed ↦ inr (keeps_placed s before placed)
          ]
    ];
    entries = keeps_entries;
  }

-- ---- the first classes

-- The first signals, so many: known are those that are not fed, and each is its own head.
pub record HaveBegun (drives : List Drive) (known : List Bool) (heads : List ℕ) (firsts : List Firsts) (upto : ℕ) : Type 0 where
  pub known_sized : length known ≡ upto
  pub heads_sized : length heads ≡ upto
  pub firsts_sized : length firsts ≡ upto
  pub fed : (s : ℕ) → known_at known s ≡ false → IsFed drives s
  pub unfed : (s : ℕ) → s < upto → known_at known s ≡ true → ¬ IsFed drives s
  pub own : (s : ℕ) → head_in heads s ≡ s
  pub none : (s : ℕ) → slice_index_or firsts s no_firsts ≡ no_firsts

-- A list with one element more at its end holds at each place what held, and the new element at the last.
at_push : {X : Type 0} (P : ℕ → X → Type 0) (xs : List X) (y : X) (n s : ℕ) (d : X) → length xs ≡ n
    → ((k : ℕ) → P k (get_or xs k d)) → P n y → ((k : ℕ) → P k d) → P s (get_or (xs ++ y ∷ []) s d)
at_push P xs y n s d sized each last past =
    elim (cases_lt s n) [
      | inl before ↦
          let inside : s < length xs = omega arith in
          subst (λ x. P s x) (sym (get_or_append_left xs (y ∷ []) d s inside)) (each s)
      | inr after ↦ elim (cases_eq s n) [
        | inl same ↦ subst (λ k. P k (get_or (xs ++ y ∷ []) k d)) (sym same) (subst (λ x. P n x) (sym (get_or_push xs y d n sized)) last)
        | inr differ ↦
            let longer : length (xs ++ y ∷ []) ≡ length xs + 1 = length_push xs y in
            let beyond : length (xs ++ y ∷ []) ≤ s = omega arith in
            subst (λ x. P s x) (sym (get_or_past (xs ++ y ∷ []) s d beyond)) (past s)
      ]
    ]

pub begun_more : (drives : List Drive) (known : List Bool) (heads : List ℕ) (firsts : List Firsts) (b : Bool) (s : ℕ)
    → HaveBegun drives known heads firsts s → (b ≡ false → IsFed drives s) → (b ≡ true → ¬ IsFed drives s)
    → HaveBegun drives (known ++ b ∷ []) (heads ++ s ∷ []) (firsts ++ no_firsts ∷ []) (s + 1)
begun_more drives known heads firsts b s h fed unfed = record {
  known_sized = length_push known b ∙ ap (λ n. n + 1) h.known_sized;
  heads_sized = length_push heads s ∙ ap (λ n. n + 1) h.heads_sized;
  firsts_sized = length_push firsts no_firsts ∙ ap (λ n. n + 1) h.firsts_sized;
  fed = λ r is. at_push (λ k x. x ≡ false → IsFed drives k) known b s r true h.known_sized h.fed fed (λ k e. absurd (cc)) is;
  unfed = λ r below is. elim (cases_lt r s) [
    | inl before ↦
        let inside : r < length known = let a = h.known_sized in omega arith in
        h.unfed r before (sym (get_or_append_left known (b ∷ []) true r inside) ∙ is)
    | inr after ↦
        let same : s ≡ r = omega arith in
        subst (λ k. ¬ IsFed drives k) same (unfed (sym (get_or_push known b true s h.known_sized) ∙ subst (λ k. known_at (known ++ b ∷ []) k ≡ true) (sym same) is))
  ];
  own = λ r. elim (cases_lt r s) [
    | inl before ↦
        let inside : r < length heads = let a = h.heads_sized in omega arith in
        get_or_append_left heads (s ∷ []) r r inside ∙ h.own r
    | inr after ↦ elim (cases_eq r s) [
      | inl same ↦ get_or_push heads s r r (h.heads_sized ∙ sym same) ∙ sym same
      | inr differ ↦
          let longer : length (heads ++ s ∷ []) ≡ length heads + 1 = length_push heads s in
          let a = h.heads_sized in
          let beyond : length (heads ++ s ∷ []) ≤ r = omega arith in
          get_or_past (heads ++ s ∷ []) r r beyond
    ]
  ];
  none = λ r. at_push (λ k x. x ≡ no_firsts) firsts no_firsts s r no_firsts h.firsts_sized h.none refl (λ k. refl);
}

pub begun_all : (drives : List Drive) (known : List Bool) (heads : List ℕ) (firsts : List Firsts)
    → HaveBegun drives known heads firsts (length drives) → AreClasses drives known heads firsts
begun_all drives known heads firsts h = record {
  known_sized = h.known_sized;
  heads_sized = h.heads_sized;
  firsts_sized = h.firsts_sized;
  within = λ s inside. subst (λ x. x < length drives) (sym (h.own s)) inside;
  unknown = h.fed;
  settled = λ s is. inl (record {
    head = h.own s;
    unfed = elim (cases_lt s (length drives)) [
      | inl inside ↦ h.unfed s inside is
      | inr past ↦ λ (init, (w, (e, word))). past_no_word drives s (init ∷ w) e past word
    ];
  });
  entries = λ head init first found. absurd (no_first init first (sym (ap (λ f. first_of f init) (h.none head)) ∙ found));
}

-- ---- trails

-- A trail goes on at a latch that is fed.
pub trail_more : (drives : List Drive) (path : List ℕ) (at : ℕ) → IsTrail drives at (reverse path) → IsFed drives at
    → IsTrail drives (step_back at (drive_in drives at)) (reverse (path ++ at ∷ []))
trail_more drives path at trail fed =
    subst (λ xs. IsTrail drives (step_back at (drive_in drives at)) xs) (sym (reverse-append path (at ∷ [])))
    (fed_leads drives at fed, trail)

-- The newest of a trail.
pub trail_last : (drives : List Drive) (path : List ℕ) (last to : ℕ) → IsTrail drives to (reverse (path ++ last ∷ []))
    → Leads drives last to × IsTrail drives last (reverse path)
trail_last drives path last to trail =
    let turned : IsTrail drives to (last ∷ reverse path) =
    subst (λ xs. IsTrail drives to xs) (reverse-append path (last ∷ [])) trail in
    (turned.0, turned.1)

-- ---- what the classes are once all is known

module _ (drives : List Drive) (known : List Bool) (heads : List ℕ) (firsts : List Firsts) (classes : AreClasses drives known heads firsts) (all : (s : ℕ) → known_at known s ≡ true) where
  -- A signal has the words of its head.
  head_words : (w : List Bool) (s e : ℕ)
      → (IsWord drives s w e → IsWord drives (head_in heads s) w e) × (IsWord drives (head_in heads s) w e → IsWord drives s w e)
  head_words [] s e =
      elim (classes.settled s (all s)) [
        | inl alone ↦ ((λ h. subst (λ x. IsWord drives x [] e) (sym alone.head) h), (λ h. subst (λ x. IsWord drives x [] e) alone.head h))
        | inr placed ↦
            let first = classes.entries (head_in heads placed.next) placed.init (head_in heads s) placed.found in (
              (λ h. absurd (let is : is_latch (drive_in drives s) ≡ true = ap is_latch placed.drive in let isnt : is_latch (drive_in drives s) ≡ false = h.1 in cc)),
              (λ h. absurd (let is : is_latch (drive_in drives (head_in heads s)) ≡ true = ap is_latch first.drive in let isnt : is_latch (drive_in drives (head_in heads s)) ≡ false = h.1 in cc)),
            )
      ]
  head_words (i ∷ w) s e =
      elim (classes.settled s (all s)) [
        | inl alone ↦ ((λ h. subst (λ x. IsWord drives x (i ∷ w) e) (sym alone.head) h), (λ h. subst (λ x. IsWord drives x (i ∷ w) e) alone.head h))
        | inr placed ↦
            let first = classes.entries (head_in heads placed.next) placed.init (head_in heads s) placed.found in (
              (λ h.
                  let drives_are : latch placed.next placed.init ≡ latch h.0 i = sym placed.drive ∙ h.1 in
                  let nexts : placed.next ≡ h.0 = cc in
                  let inits : placed.init ≡ i = cc in
                  let there : IsWord drives placed.next w e = subst (λ n. IsWord drives n w e) (sym nexts) h.2 in
                  let up : IsWord drives (head_in heads placed.next) w e = (head_words w placed.next e).0 there in
                  let over : IsWord drives (head_in heads first.next) w e = subst (λ n. IsWord drives n w e) (sym first.next_head) up in
                  (first.next, first.drive ∙ ap (λ b. latch first.next b) inits, (head_words w first.next e).1 over)),
              (λ h.
                  let drives_are : latch first.next placed.init ≡ latch h.0 i = sym first.drive ∙ h.1 in
                  let nexts : first.next ≡ h.0 = cc in
                  let inits : placed.init ≡ i = cc in
                  let there : IsWord drives first.next w e = subst (λ n. IsWord drives n w e) (sym nexts) h.2 in
                  let up : IsWord drives (head_in heads first.next) w e = (head_words w first.next e).0 there in
                  let over : IsWord drives (head_in heads placed.next) w e = subst (λ n. IsWord drives n w e) first.next_head up in
                  (placed.next, placed.drive ∙ ap (λ b. latch placed.next b) inits, (head_words w placed.next e).1 over)),
            )
      ]

  heads_join : (w : List Bool) (s r e : ℕ) → IsWord drives s w e → IsWord drives r w e
      → head_in heads s ≡ head_in heads r
  heads_join [] s r e hs hr = ap (λ x. head_in heads x) (hs.0 ∙ sym hr.0)
  heads_join (i ∷ w) s r e hs hr =
      elim (classes.settled s (all s)) [
        | inl alone ↦ absurd (alone.unfed (i, (w, (e, hs))))
        | inr at_s ↦ elim (classes.settled r (all r)) [
          | inl alone ↦ absurd (alone.unfed (i, (w, (e, hr))))
          | inr at_r ↦
              let s_drive : latch at_s.next at_s.init ≡ latch hs.0 i = sym at_s.drive ∙ hs.1 in
              let r_drive : latch at_r.next at_r.init ≡ latch hr.0 i = sym at_r.drive ∙ hr.1 in
              let s_next : at_s.next ≡ hs.0 = cc in
              let r_next : at_r.next ≡ hr.0 = cc in
              let s_init : at_s.init ≡ i = cc in
              let r_init : at_r.init ≡ i = cc in
              let nexts : head_in heads hs.0 ≡ head_in heads hr.0 = heads_join w hs.0 hr.0 e hs.2 hr.2 in
              let classes_are : head_in heads at_s.next ≡ head_in heads at_r.next =
              ap (λ x. head_in heads x) s_next ∙ (nexts ∙ ap (λ x. head_in heads x) (sym r_next)) in
              let inits : at_s.init ≡ at_r.init = s_init ∙ sym r_init in
              let found : first_at firsts (head_in heads at_r.next) at_r.init ≡ Some (head_in heads s) =
              subst (λ b. first_at firsts (head_in heads at_r.next) b ≡ Some (head_in heads s)) inits
              (subst (λ h. first_at firsts h at_s.init ≡ Some (head_in heads s)) classes_are at_s.found) in
              let other : first_at firsts (head_in heads at_r.next) at_r.init ≡ Some (head_in heads r) = at_r.found in
              let same : Some (head_in heads s) ≡ Some (head_in heads r) = sym found ∙ other in
              cc
        ]
      ]

  heads_apart : (s r : ℕ) → head_in heads s ≡ head_in heads r → (s ≡ r) ⊎ AreEqual drives s r
  heads_apart s r same =
      elim (classes.settled s (all s)) [
        | inl alone_s ↦ elim (classes.settled r (all r)) [
          | inl alone_r ↦ inl (sym alone_s.head ∙ (same ∙ alone_r.head))
          | inr at_r ↦
              let w : List Bool = at_r.init ∷ at_r.word in
              let there : IsWord drives r w at_r.source = (at_r.next, at_r.drive, at_r.rest) in
              let up : IsWord drives (head_in heads r) w at_r.source = (head_words w r at_r.source).0 there in
              inr (w, (at_r.source, (head_words w s at_r.source).1 (subst (λ x. IsWord drives x w at_r.source) (sym same) up), there))
        ]
        | inr at_s ↦
            let w : List Bool = at_s.init ∷ at_s.word in
            let here : IsWord drives s w at_s.source = (at_s.next, at_s.drive, at_s.rest) in
            let up : IsWord drives (head_in heads s) w at_s.source = (head_words w s at_s.source).0 here in
            inr (w, (at_s.source, here, (head_words w r at_s.source).1 (subst (λ x. IsWord drives x w at_s.source) same up)))
      ]

  pub are_heads : AreHeads drives heads
  are_heads = record {
    sized = classes.heads_sized;
    within = classes.within;
    joins = λ s r (w, (e, hs, hr)). heads_join w s r e hs hr;
    apart = heads_apart;
  }

-- ---- what the code reads and writes

-- A signal that was read as unknown is fed, and one read as known is known.
pub unknown_fed : (drives : List Drive) (known : List Bool) (heads : List ℕ) (firsts : List Firsts) (i at : ℕ) (b : Bool)
    → AreClasses drives known heads firsts → at < length drives → i ≡ at → b ≡ get_or known i b → b ≡ false
    → IsFed drives at
unknown_fed drives known heads firsts i at b h within is read not_known =
    let sized = h.known_sized in
    let inside : i < length known = omega arith in
    h.unknown at (subst (λ k. known_at known k ≡ false) is (sym (get_or_read known i b inside read true) ∙ not_known))

pub read_known : (drives : List Drive) (known : List Bool) (heads : List ℕ) (firsts : List Firsts) (i at : ℕ) (b : Bool)
    → AreClasses drives known heads firsts → at < length drives → i ≡ at → b ≡ get_or known i b → b ≡ true
    → known_at known at ≡ true
read_known drives known heads firsts i at b h within is read is_known =
    let sized = h.known_sized in
    let inside : i < length known = omega arith in
    subst (λ k. known_at known k ≡ true) is (sym (get_or_read known i b inside read true) ∙ is_known)

-- A latch that leads to a known signal, as its drive says.
pub record IsLed (drives : List Drive) (known : List Bool) (next : ℕ) : Type 0 where
  pub word : List Bool
  pub source : ℕ
  pub rest : IsWord drives next word source
  pub next_known : known_at known next ≡ true

pub led : (drives : List Drive) (known : List Bool) (q next : ℕ) (init : Bool) → drive_in drives q ≡ latch next init
    → (to : ℕ) × (known_at known to ≡ true) × Leads drives q to → IsLed drives known next
led drives known q next init drive (to, is_known, (i, (w, (e, is, rest)))) =
    let same : latch to i ≡ latch next init = sym is ∙ drive in
    let nexts : to ≡ next = cc in
    record {
      word = w;
      source = e;
      rest = subst (λ n. IsWord drives n w e) nexts rest;
      next_known = subst (λ n. known_at known n ≡ true) nexts is_known;
    }

pub next_within : (drives : List Drive) (known : List Bool) (q next : ℕ) (init : Bool) → drive_in drives q ≡ latch next init
    → (to : ℕ) × (known_at known to ≡ true) × Leads drives q to → next < length drives
next_within drives known q next init drive leads =
    let l = led drives known q next init drive leads in
    worded_within drives next l.word l.source l.rest

pub class_is : (drives : List Drive) (known : List Bool) (heads : List ℕ) (firsts : List Firsts) (i next class : ℕ)
    → AreClasses drives known heads firsts → next < length drives → i ≡ next → class ≡ get_or heads i class
    → class ≡ head_in heads next
class_is drives known heads firsts i next class h within is read =
    let sized = h.heads_sized in
    let inside : i < length heads = omega arith in
    subst (λ k. class ≡ get_or heads k next) is (get_or_read heads i class inside read next)

pub class_within : (drives : List Drive) (known : List Bool) (heads : List ℕ) (firsts : List Firsts) (i next class : ℕ)
    → AreClasses drives known heads firsts → next < length drives → i ≡ next → class ≡ get_or heads i class
    → class < length firsts
class_within drives known heads firsts i next class h within is read =
    let at = class_is drives known heads firsts i next class h within is read in
    let low = h.within next within in
    let sized = h.firsts_sized in
    omega arith

pub place_keeps : (drives : List Drive) (known : List Bool) (heads : List ℕ) (firsts : List Firsts) (q_at next_at class_at q next class head : ℕ) (init : Bool) (f new : Firsts)
    → AreClasses drives known heads firsts → (to : ℕ) × (known_at known to ≡ true) × Leads drives q to
    → drive_in drives q ≡ latch next init → q_at ≡ q → next_at ≡ next → class_at ≡ class
    → class ≡ get_or heads next_at class → f ≡ get_or firsts class_at f
    → head ≡ unwrap_or (first_of f init) q → new ≡ with_first f init head
    → AreClasses drives (set known q_at true) (set heads q_at head) (set firsts class_at new)
place_keeps drives known heads firsts q_at next_at class_at q next class head init f new h leads drive q_is next_is class_at_is read_class read_first head_is new_is =
    let l = led drives known q next init drive leads in
    let within : next < length drives = next_within drives known q next init drive leads in
    let class_here : class ≡ head_in heads next = class_is drives known heads firsts next_at next class h within next_is read_class in
    let inside : class < length firsts = class_within drives known heads firsts next_at next class h within next_is read_class in
    let inside_at : class_at < length firsts = omega arith in
    let first_here : f ≡ slice_index_or firsts (head_in heads next) no_firsts =
    subst (λ k. f ≡ slice_index_or firsts k no_firsts) (class_at_is ∙ class_here) (get_or_read firsts class_at f inside_at read_first no_firsts) in
    let inside_here : head_in heads next < length firsts = omega arith in
    let written : SetsFirst firsts (set firsts (head_in heads next) (with_first (slice_index_or firsts (head_in heads next) no_firsts) init head)) (head_in heads next) init head =
    sets_first firsts (head_in heads next) init head inside_here in
    let new_here : with_first (slice_index_or firsts (head_in heads next) no_firsts) init head ≡ new =
    sym (new_is ∙ ap (λ x. with_first x init head) first_here) in
    let written_new : SetsFirst firsts (set firsts (head_in heads next) new) (head_in heads next) init head =
    subst (λ x. SetsFirst firsts (set firsts (head_in heads next) x) (head_in heads next) init head) new_here written in
    let placing : IsPlacing drives known heads firsts (set firsts (head_in heads next) new) q next init l.word l.source head = record {
      classes = h;
      drive = drive;
      rest = l.rest;
      next_known = l.next_known;
      head_is = head_is ∙ ap (λ x. unwrap_or (first_of x init) q) first_here;
      sets = written_new;
    } in
    subst (λ i. AreClasses drives (set known i true) (set heads i head) (set firsts class_at new)) (sym q_is)
    (subst (λ i. AreClasses drives (set known q true) (set heads q head) (set firsts i new)) (sym (class_at_is ∙ class_here))
    (places drives known heads firsts (set firsts (head_in heads next) new) q next init l.word l.source head placing))

pub begun_none : (drives : List Drive) (known : List Bool) (heads : List ℕ) (firsts : List Firsts) → known ≡ [] → heads ≡ []
    → firsts ≡ [] → HaveBegun drives known heads firsts 0
begun_none drives known heads firsts no_known no_heads no_first_latches =
    let empty : HaveBegun drives [] [] [] 0 = record {
      known_sized = refl;
      heads_sized = refl;
      firsts_sized = refl;
      fed = λ s is. absurd (cc);
      unfed = λ s below is. absurd (omega arith);
      own = λ s. refl;
      none = λ s. refl;
    } in
    subst (λ fs. HaveBegun drives known heads fs 0) (sym no_first_latches)
    (subst (λ hs. HaveBegun drives known hs [] 0) (sym no_heads)
    (subst (λ ks. HaveBegun drives ks [] [] 0) (sym no_known) empty))

pub begun_next : (drives : List Drive) (known known' : List Bool) (heads heads' : List ℕ) (firsts firsts' : List Firsts) (r : Bool) (s : ℕ)
    → HaveBegun drives known heads firsts s → IsTrue r ↔ IsFed drives s → known' ≡ known ++ not r ∷ [] → heads' ≡ heads ++ s ∷ []
    → firsts' ≡ firsts ++ no_firsts ∷ [] → HaveBegun drives known' heads' firsts' (s + 1)
begun_next drives known known' heads heads' firsts firsts' r s h fed known_is heads_is firsts_is =
    subst (λ fs. HaveBegun drives known' heads' fs (s + 1)) (sym firsts_is)
    (subst (λ hs. HaveBegun drives known' hs (firsts ++ no_firsts ∷ []) (s + 1)) (sym heads_is)
    (subst (λ ks. HaveBegun drives ks (heads ++ s ∷ []) (firsts ++ no_firsts ∷ []) (s + 1)) (sym known_is)
    (begun_more drives known heads firsts (not r) s h (λ e. fed.0 (not-false r e)) (λ e is_fed. both_ways r (not-true r e) (fed.1 is_fed)))))

-- The state of the loop that follows a signal.
pub record IsOnWay (drives : List Drive) (path : List ℕ) (at from : ℕ) : Type 0 where
  pub trail : IsTrail drives at (reverse path)
  pub within : at < length drives
  pub begun : (at ≡ from) ⊎ Contains path from

pub way_more : (drives : List Drive) (path path' : List ℕ) (at next from : ℕ) → IsOnWay drives path at from → IsFed drives at
    → path' ≡ path ++ at ∷ [] → next ≡ step_back at (drive_in drives at) → IsOnWay drives path' next from
way_more drives path path' at next from h fed longer next_is =
    subst (λ p. IsOnWay drives p next from) (sym longer) (subst (λ n. IsOnWay drives (path ++ at ∷ []) n from) (sym next_is) (record {
      trail = trail_more drives path at h.trail fed;
      within = leads_within drives at (step_back at (drive_in drives at)) (fed_leads drives at fed);
      begun = inr (elim h.begun [
        | inl here ↦ subst (λ x. Contains (path ++ at ∷ []) x) here (Contains-push path at)
        | inr before ↦ Contains-append_left path (at ∷ []) from before
      ]);
    }))

-- The state of the loop that puts a path into its classes.
pub record IsPlacingAll (drives : List Drive) (old now : Classes) (path left : List ℕ) : Type 0 where
  pub gathers : Gathers drives now
  pub home : LeadsHome drives now left
  pub stay : (s : ℕ) → IsKnown old s → IsKnown now s
  pub each : (s : ℕ) → Contains path s → IsKnown now s ⊎ Contains left s

pub placing_leads : (drives : List Drive) (now : Classes) (left rest : List ℕ) (last : ℕ) → LeadsHome drives now left
    → left ≡ rest ++ last ∷ [] → (to : ℕ) × IsKnown now to × Leads drives last to
placing_leads drives now left rest last (to, is_known, trail) is =
    (to, is_known, (trail_last drives rest last to (subst (λ xs. IsTrail drives to (reverse xs)) is trail)).0)

pub placing_more : (drives : List Drive) (old now new : Classes) (path left rest : List ℕ) (last : ℕ)
    → IsPlacingAll drives old now path left → left ≡ rest ++ last ∷ [] → Gathers drives new → Learns now new (last ∷ [])
    → IsPlacingAll drives old new path rest
placing_more drives old now new path left rest last h is gathers learns =
    let (to, is_known, trail) = h.home in
    let here : IsKnown new last = learns.all last (0, omega arith, refl) in
    record {
      gathers = gathers;
      home = (last, here, (trail_last drives rest last to (subst (λ xs. IsTrail drives to (reverse xs)) is trail)).1);
      stay = λ s was. learns.stay s (h.stay s was);
      each = λ s among. elim (h.each s among) [
        | inl was ↦ inl (learns.stay s was)
        | inr left_there ↦ elim (Contains-push_cases rest last s (subst (λ xs. Contains xs s) is left_there)) [
          | inl before ↦ inr before
          | inr same ↦ inl (subst (λ x. IsKnown new x) same here)
        ]
      ];
    }

pub placing_done : (drives : List Drive) (old now : Classes) (path left : List ℕ) → IsPlacingAll drives old now path left
    → length left ≡ 0 → Learns old now path
placing_done drives old now path left h none = record {
  stay = h.stay;
  all = λ s among. elim (h.each s among) [ inl is ↦ is | inr (k, inside, is) ↦ absurd (omega arith) ];
}

-- All signals below one are known.
pub record HaveLearned (drives : List Drive) (classes : Classes) (upto : ℕ) : Type 0 where
  pub gathers : Gathers drives classes
  pub known : (s : ℕ) → s < upto → IsKnown classes s

pub learned_more : (drives : List Drive) (old new : Classes) (s : ℕ) → HaveLearned drives old s → Gathers drives new
    → ((r : ℕ) → IsKnown old r → IsKnown new r) → IsKnown new s → HaveLearned drives new (s + 1)
learned_more drives old new s h gathers stay here = record {
  gathers = gathers;
  known = λ r below. elim (cases_lt r s) [
    | inl before ↦ stay r (h.known r before)
    | inr after ↦ let same : s ≡ r = omega arith in subst (λ x. IsKnown new x) same here
  ];
}

pub learned_all : (drives : List Drive) (classes : Classes) (upto : ℕ) → HaveLearned drives classes upto
    → length drives ≤ upto → AreHeads drives classes.heads.items
learned_all drives classes upto h all =
    are_heads drives classes.known.items classes.heads.items classes.firsts.items h.gathers (λ s. elim (cases_lt s upto) [
      | inl below ↦ h.known s below
      | inr above ↦
          let sized = h.gathers.known_sized in
          let past : length classes.known.items ≤ s = omega arith in
          get_or_past classes.known.items s true past
    ])
