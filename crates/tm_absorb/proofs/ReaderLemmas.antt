-- Who looks at a gate, and which gates wait.
use Rattle.std.proofs.Common.{◌≡◌, ℕ, zero, suc, ◌+◌, ◌<◌, ◌≤◌, ◌⊎◌, inl, inr, Bool, true, false, List, [], ◌∷◌, ◌++◌, map, length, take, get_or, refl, sym, ◌∙◌, ap, subst, arith, Global}
use Rattle.std.specs.Prelude.{slice_set, Contains, Vec, replicate}
use Rattle.std.specs.declared.cmp.Ordering.{Ordering}
use Rattle.std.specs.declared.cmp.Ordering.TheVariants.{Less, Equal, Greater}
use Rattle.std.specs.Cmp.{nat_cmp_is}
use Rattle.std.specs.Ordering.{nat_cmp, match_ordering}
use Rattle.std.specs.BTreeSet.{insert_key}
use Rattle.std.proofs.lemmas.Bool.{cases_eq, cases_order}
use Rattle.std.proofs.lemmas.List.{get_or-set_same, get_or-set_other, length-set, map-set, length-map, set-get_or, length-replicate, take_all, get_or_read}
use Rattle.std.proofs.lemmas.List.Elements.{Contains-append_left, Contains-push, Contains-push_cases}
use Rattle.tm_circuit.specs.Plain.{Plain, Drive}
use Rattle.tm_circuit.specs.Chain.{IsGate}
use Rattle.tm_circuit.specs.Source.{IsSource}
use Rattle.tm_circuit.specs.declared.sources.Source.{Source}
use Rattle.tm_circuit.specs.declared.sources.Source.TheVariants.{Gate}
use Rattle.tm_circuit.proofs.OneSource.{one_source}
use Rattle.tm_circuit.proofs.ListLemmas.{contains-first, contains-rest, contains-cases, contains-none}
use Rattle.tm_unroll.specs.declared.node.Node.{Node}
use Rattle.tm_unroll.specs.declared.node.Lut.{Lut}
use Rattle.tm_absorb.specs.Slots.{row_in, AddsReaders, IsReader, HasSources, AreOutputMarks}
use Rattle.tm_absorb.proofs.TakeLemmas.{taken_cases, taken_earlier, taken_last}

-- The lists that vectors hold.
abbrev pub lists_of : List (Vec ℕ Global) → List (List ℕ)
lists_of vs = map (λ v. v.items) vs

adds_one : (old : List (List ℕ)) (u : ℕ) (w : ℕ) → u < length old
    → AddsReaders old (slice_set old u (row_in old u ++ w ∷ [])) × Contains (row_in (slice_set old u (row_in old u ++ w ∷ [])) u) w
adds_one old u w within =
    let here : row_in (slice_set old u (row_in old u ++ w ∷ [])) u ≡ row_in old u ++ w ∷ [] = get_or-set_same old u (row_in old u ++ w ∷ []) [] within in (
      record {
        sized = length-set old u _;
        stays = λ x v stands.
            elim (cases_eq v u) [
              | inl same ↦
                  subst (λ (ws : List ℕ). Contains ws x) (sym (ap (row_in (slice_set old u (row_in old u ++ w ∷ []))) same ∙ here))
                  (Contains-append_left (row_in old u) (w ∷ []) x (subst (λ i. Contains (row_in old i) x) same stands))
              | inr differs ↦ subst (λ (ws : List ℕ). Contains ws x) (sym (get_or-set_other old u v (row_in old u ++ w ∷ []) [] differs)) stands
            ];
      },
      subst (λ (ws : List ℕ). Contains ws w) (sym here) (Contains-push (row_in old u) w),
    )

pub adds_none : (old : List (List ℕ)) → AddsReaders old old
adds_none old = record { sized = refl; stays = λ g h stands. stands }

pub adds_more : (old mid new : List (List ℕ)) → AddsReaders old mid → AddsReaders mid new → AddsReaders old new
adds_more old mid new first second = record { sized = second.sized ∙ first.sized; stays = λ g h stands. second.stays g h (first.stays g h stands) }

pub listed : (vs : List (Vec ℕ Global)) (u : ℕ) (x : Vec ℕ Global) → u < length vs → row_in (lists_of vs) u ≡ (get_or vs u x).items
listed [] u x within = absurd (omega arith)
listed (v ∷ vs) zero x within = refl
listed (v ∷ vs) (suc u) x within = listed vs u x (omega arith)

pub adds_at : (old : List (Vec ℕ Global)) (u : ℕ) (x v : Vec ℕ Global) (w : ℕ) → u < length old → v.items ≡ (get_or old u x).items ++ w ∷ []
    → AddsReaders (lists_of old) (lists_of (slice_set old u v)) × Contains (row_in (lists_of (slice_set old u v)) u) w
adds_at old u x v w within pushed =
    let same : lists_of (slice_set old u v) ≡ slice_set (lists_of old) u (row_in (lists_of old) u ++ w ∷ []) =
    map-set (λ (y : Vec ℕ Global). y.items) old u v ∙ ap (slice_set (lists_of old) u) (pushed ∙ ap (λ (ws : List ℕ). ws ++ w ∷ []) (sym (listed old u x within))) in
    let sized = length-map old (λ (y : Vec ℕ Global). y.items) in
    subst (λ (ls : List (List ℕ)). AddsReaders (lists_of old) ls × Contains (row_in ls u) w) (sym same) (adds_one (lists_of old) u w (omega (arith, within, sized)))

pub adds_same : (old : List (Vec ℕ Global)) (u : ℕ) (x v : Vec ℕ Global) → u < length old → v.items ≡ (get_or old u x).items → AddsReaders (lists_of old) (lists_of (slice_set old u v))
adds_same old u x v within stays =
    let same : lists_of (slice_set old u v) ≡ lists_of old =
    map-set (λ (y : Vec ℕ Global). y.items) old u v ∙ ap (slice_set (lists_of old) u) (stays ∙ sym (listed old u x within)) ∙ set-get_or (lists_of old) u [] in
    subst (λ (ls : List (List ℕ)). AddsReaders (lists_of old) ls) (sym same) (adds_none (lists_of old))

-- The sources of no leaves.
pub sources_none : (drives : List Drive) (leaves : List Node) (gates : List ℕ) → leaves ≡ [] → gates ≡ [] → HasSources drives leaves gates
sources_none drives leaves gates no_leaves no_gates = record {
  all = λ g x stands source. absurd (contains-none x (subst (λ (ys : List Node). Contains ys x) no_leaves stands));
  only = λ g stands. absurd (contains-none g (subst (λ (gs : List ℕ). Contains gs g) no_gates stands));
}

-- The source of one leaf more.
pub sources_gate : (drives : List Drive) (leaves : List Node) (i : ℕ) (y : Node) (h : ℕ) (gates : List ℕ) → i < length leaves → y ≡ get_or leaves i y
    → IsSource drives y.signal (Gate h) → HasSources drives (take i leaves) gates → HasSources drives (take (i + 1) leaves) (gates ++ h ∷ [])
sources_gate drives leaves i y h gates inside at source before = record {
  all = λ g x stands is. elim (taken_cases leaves i y x inside at stands) [
    | inl earlier ↦ Contains-append_left gates (h ∷ []) g (before.all g x earlier is)
    | inr same ↦
        let one : Gate h ≡ Gate g = one_source drives y.signal (Gate h) (Gate g) source (subst (λ (z : Node). IsSource drives z.signal (Gate g)) (sym same) is) in
        let gate : h ≡ g = cc in
        subst (λ b. Contains (gates ++ h ∷ []) b) gate (Contains-push gates h)
  ];
  only = λ g stands. elim (Contains-push_cases gates h g stands) [ inl earlier ↦ before.only g earlier | inr same ↦ subst (λ b. IsGate drives b) same source.0 ];
}

pub sources_other : (drives : List Drive) (leaves : List Node) (i : ℕ) (y : Node) (e : Source) (gates : List ℕ) → i < length leaves → y ≡ get_or leaves i y
    → IsSource drives y.signal e → ((g : ℕ) → e ≡ Gate g → ⊥) → HasSources drives (take i leaves) gates → HasSources drives (take (i + 1) leaves) gates
sources_other drives leaves i y e gates inside at source never before = record {
  all = λ g x stands is. elim (taken_cases leaves i y x inside at stands) [
    | inl earlier ↦ before.all g x earlier is
    | inr same ↦ absurd (never g (one_source drives y.signal e (Gate g) source (subst (λ (z : Node). IsSource drives z.signal (Gate g)) (sym same) is)))
  ];
  only = before.only;
}

-- A gate that is a reader of the sources of some leaves is one of each of them.
pub reads_sources : (drives : List Drive) (gate : ℕ) (leaves : List Node) (gates : List ℕ) (rows : List (List ℕ)) → HasSources drives leaves gates
    → ((g : ℕ) → Contains gates g → Contains (row_in rows g) gate) → IsReader drives gate leaves rows
reads_sources drives gate leaves gates rows sources each h x leaf source = each h (sources.all h x leaf source)

-- One reader more.
pub reads_one_more : (rows new : List (List ℕ)) (gates : List ℕ) (i y gate : ℕ) → AddsReaders rows new → i < length gates → y ≡ get_or gates i y
    → ((g : ℕ) → Contains (take i gates) g → Contains (row_in rows g) gate) → Contains (row_in new y) gate
    → (g : ℕ) → Contains (take (i + 1) gates) g → Contains (row_in new g) gate
reads_one_more rows new gates i y gate adds inside at before here g stands = elim (taken_cases gates i y g inside at stands) [
  | inl earlier ↦ adds.stays gate g (before g earlier)
  | inr same ↦ subst (λ b. Contains (row_in new b) gate) same here
]

-- What was in a set of numbers before one is put in still is, and the one is.
pub inserted_stays : (keys : List ℕ) (k g : ℕ) → Contains keys g → Contains (insert_key nat_cmp keys k) g
inserted_stays [] k g stands = absurd (contains-none g stands)
inserted_stays (x ∷ keys) k g stands =
    let Placed : Ordering → Type 0 = λ order. Contains (match_ordering order (k ∷ x ∷ keys) (x ∷ keys) (x ∷ insert_key nat_cmp keys k)) g in
    elim (cases_order k x) [
      | inl same ↦ subst Placed (nat_cmp_is k x Equal same) stands
      | inr (inl before) ↦ subst Placed (nat_cmp_is k x Less before) (contains-rest k (x ∷ keys) g stands)
      | inr (inr after) ↦ subst Placed (nat_cmp_is k x Greater after) (elim (contains-cases x keys g stands) [
        | inl first ↦ subst (λ b. Contains (x ∷ insert_key nat_cmp keys k) b) first (contains-first x (insert_key nat_cmp keys k))
        | inr later ↦ contains-rest x (insert_key nat_cmp keys k) g (inserted_stays keys k g later)
      ])
    ]

pub inserted_has : (keys : List ℕ) (k : ℕ) → Contains (insert_key nat_cmp keys k) k
inserted_has [] k = contains-first k []
inserted_has (x ∷ keys) k =
    let Placed : Ordering → Type 0 = λ order. Contains (match_ordering order (k ∷ x ∷ keys) (x ∷ keys) (x ∷ insert_key nat_cmp keys k)) k in
    elim (cases_order k x) [
      | inl same ↦ subst Placed (nat_cmp_is k x Equal same) (subst (λ b. Contains (x ∷ keys) b) (sym same) (contains-first x keys))
      | inr (inl before) ↦ subst Placed (nat_cmp_is k x Less before) (contains-first k (x ∷ keys))
      | inr (inr after) ↦ subst Placed (nat_cmp_is k x Greater after) (contains-rest x (insert_key nat_cmp keys k) k (inserted_has keys k))
    ]

-- Marks of the gates that are the sources of some signals.
pub record AreMarksOf (drives : List Drive) (signals : List ℕ) (marks : List Bool) : Type 0 where
  pub sized : length marks ≡ length drives
  pub marked : (g : ℕ) → get_or marks g false ≡ true → (s : ℕ) × Contains signals s × IsSource drives s (Gate g)
  pub all : (g s : ℕ) → Contains signals s → IsSource drives s (Gate g) → get_or marks g false ≡ true

none_marked : (n g : ℕ) → get_or (replicate n false) g false ≡ true → ⊥
none_marked zero g is = cc
none_marked (suc n) zero is = cc
none_marked (suc n) (suc g) is = none_marked n g is

pub marks_none : (drives : List Drive) (n : ℕ) (marks : List Bool) → marks ≡ replicate n false → n ≡ length drives → AreMarksOf drives [] marks
marks_none drives n marks is long = record {
  sized = ap length is ∙ length-replicate n false ∙ long;
  marked = λ g marked. absurd (none_marked n g (subst (λ (ms : List Bool). get_or ms g false ≡ true) is marked));
  all = λ g s stands. absurd (contains-none s stands);
}

pub marks_gate : (drives : List Drive) (signals : List ℕ) (i s h : ℕ) (marks new : List Bool) → i < length signals → s ≡ get_or signals i s → IsSource drives s (Gate h)
    → h < length drives → new ≡ slice_set marks h true → AreMarksOf drives (take i signals) marks → AreMarksOf drives (take (i + 1) signals) new
marks_gate drives signals i s h marks new inside at source low is before =
    let here : get_or (slice_set marks h true) h false ≡ true = get_or-set_same marks h true false (let long = before.sized in omega (arith, low, long)) in
    record {
      sized = ap length is ∙ length-set marks h true ∙ before.sized;
      marked = λ g marked. elim (cases_eq g h) [
        | inl same ↦ (s, taken_last signals i s inside at, subst (λ b. IsSource drives s (Gate b)) (sym same) source)
        | inr apart ↦
            let was : get_or marks g false ≡ true = sym (get_or-set_other marks h g true false apart) ∙ subst (λ (ms : List Bool). get_or ms g false ≡ true) is marked in
            let from = before.marked g was in
            (from.0, taken_earlier signals i s from.0 inside at from.1, from.2)
      ];
      all = λ g b stands is-source. subst (λ (ms : List Bool). get_or ms g false ≡ true) (sym is) (elim (cases_eq g h) [
        | inl same ↦ subst (λ a. get_or (slice_set marks h true) a false ≡ true) (sym same) here
        | inr apart ↦ elim (taken_cases signals i s b inside at stands) [
          | inl earlier ↦ get_or-set_other marks h g true false apart ∙ before.all g b earlier is-source
          | inr same ↦
              let one : Gate h ≡ Gate g = one_source drives s (Gate h) (Gate g) source (subst (λ a. IsSource drives a (Gate g)) (sym same) is-source) in
              absurd (apart (let both : g ≡ h = cc in both))
        ]
      ]);
    }

pub marks_other : (drives : List Drive) (signals : List ℕ) (i s : ℕ) (e : Source) (marks : List Bool) → i < length signals → s ≡ get_or signals i s → IsSource drives s e
    → ((g : ℕ) → e ≡ Gate g → ⊥) → AreMarksOf drives (take i signals) marks → AreMarksOf drives (take (i + 1) signals) marks
marks_other drives signals i s e marks inside at source never before = record {
  sized = before.sized;
  marked = λ g marked. let from = before.marked g marked in (from.0, taken_earlier signals i s from.0 inside at from.1, from.2);
  all = λ g b stands is-source. elim (taken_cases signals i s b inside at stands) [
    | inl earlier ↦ before.all g b earlier is-source
    | inr same ↦ absurd (never g (one_source drives s e (Gate g) source (subst (λ a. IsSource drives a (Gate g)) (sym same) is-source)))
  ];
}

-- All outputs were looked at.
pub marks_done : (c : Plain) (outputs : List ℕ) (i : ℕ) (marks : List Bool) → outputs ≡ c.outputs → length outputs ≤ i → AreMarksOf c.drives (take i outputs) marks
    → AreOutputMarks c marks
marks_done c outputs i marks same past are =
    let all : take i outputs ≡ c.outputs = take_all i outputs past ∙ same in
    record {
      each = λ g. (
        (λ marked. let from = are.marked g marked in (from.0, subst (λ (ss : List ℕ). Contains ss from.0) all from.1, from.2)),
        λ (s, stands, source). are.all g s (subst (λ (ss : List ℕ). Contains ss s) (sym all) stands) source,
      );
    }

-- What stands at a gate in lists that were read there.
pub row_read : (vs : List (Vec ℕ Global)) (g i : ℕ) (v : Vec ℕ Global) (list : List ℕ) → i ≡ g → i < length vs → v ≡ get_or vs i v → list ≡ v.items
    → row_in (lists_of vs) g ≡ list
row_read vs g i v list same within at value =
    ap (row_in (lists_of vs)) (sym same) ∙ listed vs i v within ∙ ap (λ (w : Vec ℕ Global). w.items) (sym at) ∙ sym value

-- A mark that was read.
pub mark_read : (marks : List Bool) (g i : ℕ) (b v : Bool) → i ≡ g → g < length marks → b ≡ get_or marks i b → b ≡ v → get_or marks g false ≡ v
mark_read marks g i b v same within at value =
    let inside : i < length marks = omega (arith, within, same) in
    ap (λ j. get_or marks j false) (sym same) ∙ sym (get_or_read marks i b inside at false) ∙ value

-- Readers that were added behind a borrow.
pub adds_through : (given old new now : List (Vec ℕ Global)) → given ≡ old → now ≡ new → AddsReaders (lists_of given) (lists_of new) → AddsReaders (lists_of old) (lists_of now)
adds_through given old new now from to adds =
    subst (λ (vs : List (Vec ℕ Global)). AddsReaders (lists_of old) (lists_of vs)) (sym to)
    (subst (λ (vs : List (Vec ℕ Global)). AddsReaders (lists_of vs) (lists_of new)) from adds)

-- One table more whose gate is a reader.
pub readers_more : (drives : List Drive) (luts : List Lut) (i : ℕ) (lut : Lut) (given old new now : List (Vec ℕ Global)) → i < length luts → lut ≡ get_or luts i lut
    → given ≡ old → now ≡ new → AddsReaders (lists_of given) (lists_of new) → IsReader drives lut.gate lut.leaves.items (lists_of new) → length old ≡ length drives
    → ((l : Lut) → Contains (take i luts) l → IsReader drives l.gate l.leaves.items (lists_of old))
    → (length now ≡ length drives) × ((l : Lut) → Contains (take (i + 1) luts) l → IsReader drives l.gate l.leaves.items (lists_of now))
readers_more drives luts i lut given old new now inside at from to adds here sized before =
    let more = adds_through given old new now from to adds in
    let items : Vec ℕ Global → List ℕ = λ v. v.items in
    let long : length now ≡ length drives = sym (length-map now items) ∙ more.sized ∙ length-map old items ∙ sized in
    let added : IsReader drives lut.gate lut.leaves.items (lists_of now) =
    subst (λ (vs : List (Vec ℕ Global)). IsReader drives lut.gate lut.leaves.items (lists_of vs)) (sym to) here in (
      long,
      λ l stands h x leaf source. elim (taken_cases luts i lut l inside at stands) [
        | inl earlier ↦ more.stays l.gate h (before l earlier h x leaf source)
        | inr same ↦
            subst (λ (m : Lut). Contains (row_in (lists_of now) h) m.gate) same (added h x (subst (λ (m : Lut). Contains m.leaves.items x) (sym same) leaf) source)
      ],
    )
