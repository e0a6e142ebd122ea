-- Following latches step by step, and what the sources are at the end.
use Rattle.std.proofs.Common.{◌≡◌, ◌≢◌, ℕ, zero, suc, ◌+◌, ◌<◌, ◌⊎◌, inl, inr, Bool, true, false, cond, not, List, [], ◌∷◌, ◌++◌, map, length, set, get_or, reverse, take, refl, sym, ◌∙◌, ap, subst, arith}
use Rattle.std.specs.Prelude.{count_by, Contains, IsTrue}
use Rattle.std.proofs.lemmas.Bool.{cases_eq, cases_lt}
use Rattle.std.proofs.lemmas.List.Sums.{sum_by-set}
use Rattle.std.proofs.lemmas.List.Elements.{Contains-push, Contains-push_cases, Contains-append_left, Contains-get_or}
use Rattle.std.specs.Prelude.{All}
use Rattle.tm_circuit.specs.Sound.{ReadsBelow}
use Rattle.tm_circuit.proofs.DescentLemmas.{drive-at}
use Rattle.std.proofs.lemmas.Option.{get_or_from_slice_get, slice_get_within}
use Rattle.std.proofs.lemmas.List.{length-map, length-set, get_or-set_same, get_or-set_other, get_or_past, get_or_read, reverse-append, reverse-reverse, get_or_push, length_push, get_or_append_left, take_more}
use Rattle.tm_circuit.specs.declared.parts.Driver.{Driver}
use Rattle.tm_circuit.specs.declared.sources.Source.{Source}
use Rattle.tm_circuit.specs.declared.sources.Source.TheVariants.{Input, Gate, Ring}
use Rattle.tm_circuit.specs.declared.sources.Followed.{Followed}
use Rattle.tm_circuit.specs.Plain.{Drive, input, latch, gate, drive_of, drive_in, is_input, is_latch, is_gate}
use Rattle.tm_circuit.specs.Source.{step_back, back, IsSource}
use Rattle.tm_circuit.specs.Follow.{first_met, first_source_of, met_at, source_at, IsPath, IsFollowing, IsSettled, Meets, SetsAll, AreSources}
use Rattle.tm_circuit.proofs.ListLemmas.{contains-first, contains-rest, contains-cases, contains-none}

-- a latch has the source of its next
pub source-back : (drives : List Drive) (s : ℕ) (e : Source) → IsTrue (is_latch (drive_in drives s)) → IsSource drives (step_back s (drive_in drives s)) e → IsSource drives s e
source-back drives s (Input e) l h = (h.0, (suc h.1.0, h.1.1))
source-back drives s (Gate e) l h = (h.0, (suc h.1.0, h.1.1))
source-back drives s Ring l h = ring
  where
    ring : (n : ℕ) → IsTrue (is_latch (drive_in drives (back drives n s)))
    ring zero = l
    ring (suc n) = h n

-- an input and a gate are their own source
pub source-own : (drives : List Drive) (s : ℕ) (d : Drive) → drive_in drives s ≡ d → is_latch d ≡ false → IsSource drives s (first_source_of s d)
source-own drives s input e h = (ap is_input e, (0, refl))
source-own drives s (latch next init) e h = cc
source-own drives s (gate pins cover) e h = (ap is_gate e, (0, refl))

-- one step back from a path stays on it, or leads to where the path leads
path-back : (drives : List Drive) (to : ℕ) (path : List ℕ) → IsPath drives to path → (s : ℕ) → Contains path s
    → (step_back s (drive_in drives s) ≡ to) ⊎ Contains path (step_back s (drive_in drives s))
path-back drives to [] h s i = absurd (contains-none s i)
path-back drives to (t ∷ path) h s i =
    elim (contains-cases t path s i) [
      | inl same ↦ inl (subst (λ x. step_back x (drive_in drives x) ≡ to) same h.0)
      | inr rest ↦ elim (path-back drives t path h.1 s rest) [
        | inl at ↦ inr (subst (λ x. Contains (t ∷ path) x) (sym at) (contains-first t path))
        | inr on ↦ inr (contains-rest t path _ on)
      ]
    ]

-- on a path that leads back to itself only latches are ever met
closed-back : (drives : List Drive) (path : List ℕ) → ((s : ℕ) → Contains path s → Contains path (step_back s (drive_in drives s)))
    → (n s : ℕ) → Contains path s → Contains path (back drives n s)
closed-back drives path h zero s i = i
closed-back drives path h (suc n) s i = closed-back drives path h n (step_back s (drive_in drives s)) (h s i)

-- along a path of latches each has the source of where the path leads
path-source : (drives : List Drive) (e : Source) (to : ℕ) (path : List ℕ) → IsPath drives to path → ((s : ℕ) → Contains path s → IsTrue (is_latch (drive_in drives s)))
    → IsSource drives to e → (s : ℕ) → Contains path s → IsSource drives s e
path-source drives e to [] h latches at s i = absurd (contains-none s i)
path-source drives e to (t ∷ path) h latches at s i =
    let first : IsSource drives t e = source-back drives t e (latches t (contains-first t path)) (subst (λ x. IsSource drives x e) (sym h.0) at) in
    elim (contains-cases t path s i) [
      | inl same ↦ subst (λ x. IsSource drives x e) same first
      | inr rest ↦ path-source drives e t path h.1 (λ x j. latches x (contains-rest t path x j)) first s rest
    ]

-- a mapped list, read with defaults that fit
read-map : {X : Type 0} (f : Drive → X) (xs : List Drive) (s : ℕ) (d : Drive) (e : X) → f d ≡ e → get_or (map f xs) s e ≡ f (get_or xs s d)
read-map f [] s d e h = sym h
read-map f (x ∷ xs) zero d e h = refl
read-map f (x ∷ xs) (suc s) d e h = read-map f xs s d e h

-- what stands in a list stands in it turned round
pub contains-reverse : {X : Type 0} (xs : List X) (x : X) → Contains xs x → Contains (reverse xs) x
contains-reverse [] x h = absurd (contains-none x h)
contains-reverse {X} (y ∷ xs) x h =
    let turned : reverse (y ∷ xs) ≡ reverse xs ++ y ∷ [] = reverse-append (y ∷ []) xs in
    subst (λ (zs : List X). Contains zs x) (sym turned) (elim (contains-cases y xs x h) [
      | inl same ↦ subst (λ (z : X). Contains (reverse xs ++ y ∷ []) z) same (Contains-push (reverse xs) y)
      | inr rest ↦ Contains-append_left (reverse xs) (y ∷ []) x (contains-reverse xs x rest)
    ])

-- and the other way
pub contains-unreverse : {X : Type 0} (xs : List X) (x : X) → Contains (reverse xs) x → Contains xs x
contains-unreverse {X} xs x h = subst (λ (zs : List X). Contains zs x) (reverse-reverse xs) (contains-reverse (reverse xs) x h)

-- one step back stays among the signals
pub step-within : (n s : ℕ) (d : Drive) → s < n → ReadsBelow n d → step_back s d < n
step-within n s input w r = w
step-within n s (latch next init) w r = r
step-within n s (gate pins cover) w r = w

-- what was read of a list of marks
pub met_read : (met : List Bool) (i s : ℕ) (b : Bool) → s < length met → i ≡ s → b ≡ get_or met i b → met_at met s ≡ b
met_read met i s b within here read =
    let below : i < length met = omega arith in
    let read' : b ≡ met_at met i = get_or_read met i b below read false in
    subst (λ j. met_at met j ≡ b) here (sym read')

module _ (drives : List Drive) (met : List Bool) (sources : List Source) where
  -- a latch that was not met is met, and its next comes after it
  pub follow_more : (path : List ℕ) (at : ℕ) → IsFollowing drives met sources path at → met_at met at ≡ false → at < length met
      → IsFollowing drives (set met at true) sources (at ∷ path) (step_back at (drive_in drives at))
  follow_more path at h fresh within =
      let here : met_at (set met at true) at ≡ true = get_or-set_same met at true false within in
      let other : (s : ℕ) → s ≢ at → met_at (set met at true) s ≡ met_at met s = λ s e. get_or-set_other met at s true false e in
      let was = h.unmet at fresh in
      record {
        met_sized = length-set met at true ∙ h.met_sized;
        sources_sized = h.sources_sized;
        leads = (refl, h.leads);
        on_path = λ s i. elim (contains-cases at path s i) [
          | inl same ↦ subst (λ x. (met_at (set met at true) x ≡ true) × (source_at sources x ≡ Ring) × IsTrue (is_latch (drive_in drives x))) same (here, was.1, was.0)
          | inr rest ↦
              let on = h.on_path s rest in
              (other s (λ same. let m = subst (λ x. met_at met x ≡ true) same on.0 in cc) ∙ on.0, on.1, on.2)
        ];
        known = λ s m. elim (cases_eq s at) [
          | inl same ↦ inl (subst (λ x. Contains (at ∷ path) x) (sym same) (contains-first at path))
          | inr differ ↦ elim (h.known s (sym (other s differ) ∙ m)) [ inl on ↦ inl (contains-rest at path s on) | inr is ↦ inr is ]
        ];
        unmet = λ s m. elim (cases_eq s at) [
          | inl same ↦ absurd (let m' = subst (λ x. met_at (set met at true) x ≡ false) same m in cc)
          | inr differ ↦ h.unmet s (sym (other s differ) ∙ m)
        ];
      }

  -- where the path leads to a signal that was met, all on it have the source kept there
  pub followed : (path : List ℕ) (at : ℕ) → IsFollowing drives met sources path at → met_at met at ≡ true → (s : ℕ) → Contains path s → IsSource drives s (source_at sources at)
  followed path at h m =
      elim (h.known at m) [
        | inl on ↦
            let closed : (s : ℕ) → Contains path s → Contains path (step_back s (drive_in drives s)) = λ s i.
            elim (path-back drives at path h.leads s i) [ inl to ↦ subst (λ x. Contains path x) (sym to) on | inr stays ↦ stays ] in
            λ s i. subst (λ e. IsSource drives s e) (sym (h.on_path at on).1) (λ n. (h.on_path (back drives n s) (closed-back drives path closed n s i)).2)
        | inr is ↦ path-source drives (source_at sources at) at path h.leads (λ s i. (h.on_path s i).2) is
      ]

-- the way from a signal: the path to where it has come, what is met stays met, and the signal was met unless the way begins there
pub record IsOnWay (drives : List Drive) (old now : Followed) (path : List ℕ) (at from : ℕ) : Type 0 where
  pub following : IsFollowing drives now.met.items now.sources.items path at
  pub within : at < length drives
  pub stay : (t : ℕ) → met_at old.met.items t ≡ true → met_at now.met.items t ≡ true
  pub here : (at ≡ from) ⊎ (met_at now.met.items from ≡ true)

-- the way begins
pub way_begins : (drives : List Drive) (f : Followed) (from : ℕ) → IsSettled drives f → from < length drives → IsOnWay drives f f [] from from
way_begins drives f from h within = record {
  following = record {
    met_sized = h.met_sized;
    sources_sized = h.sources_sized;
    leads = tt;
    on_path = λ s i. absurd (contains-none s i);
    known = λ s m. inr (h.known s m);
    unmet = h.unmet;
  };
  within = within;
  stay = λ t m. m;
  here = inl refl;
}

-- the way goes on
pub way_goes_on : (drives : List Drive) (old now new : Followed) (path : List ℕ) (at from : ℕ) → IsOnWay drives old now path at from → met_at now.met.items at ≡ false
    → ReadsBelow (length drives) (drive_in drives at) → new.met.items ≡ set now.met.items at true → new.sources.items ≡ now.sources.items
    → IsOnWay drives old new (at ∷ path) (step_back at (drive_in drives at)) from
way_goes_on drives old now new path at from h fresh reads met sources =
    let within : at < length now.met.items = omega (arith, h.within, h.following.met_sized) in
    let here : met_at (set now.met.items at true) at ≡ true = get_or-set_same now.met.items at true false within in
    let other : (s : ℕ) → s ≢ at → met_at (set now.met.items at true) s ≡ met_at now.met.items s = λ s e. get_or-set_other now.met.items at s true false e in
    let stays : (s : ℕ) → met_at now.met.items s ≡ true → met_at (set now.met.items at true) s ≡ true = λ s m.
    elim (cases_eq s at) [ inl same ↦ subst (λ x. met_at (set now.met.items at true) x ≡ true) (sym same) here | inr differ ↦ other s differ ∙ m ] in
    record {
      following = rw (met, sources) (follow_more drives now.met.items now.sources.items path at h.following fresh within);
      within = step-within (length drives) at (drive_in drives at) h.within reads;
      stay = λ t m. rw met (stays t (h.stay t m));
      here = inr (rw met (elim h.here [ inl same ↦ subst (λ x. met_at (set now.met.items at true) x ≡ true) same here | inr m ↦ stays from m ]));
    }

-- what is on the way is among the signals
pub way_within : (drives : List Drive) (old now : Followed) (xs : List ℕ) (at from : ℕ) → IsOnWay drives old now (reverse xs) at from → All (λ s. s < length now.sources.items) xs
way_within drives old now xs at from h = λ k d below.
    let s = get_or xs k d in
    let on = h.following.on_path s (contains-reverse xs s (Contains-get_or xs k d below)) in
    elim (cases_lt s (length now.met.items)) [
      | inl w ↦ omega (arith, w, h.following.met_sized, h.following.sources_sized)
      | inr past ↦ absurd (let none : met_at now.met.items s ≡ false = get_or_past now.met.items s false past in let m = on.0 in cc)
    ]

-- the way ends, and all on it have their source
pub way_ends : (drives : List Drive) (old now new : Followed) (xs : List ℕ) (at from : ℕ) (source : Source) → IsOnWay drives old now (reverse xs) at from
    → met_at now.met.items at ≡ true → source_at now.sources.items at ≡ source → new.met.items ≡ now.met.items → SetsAll now.sources.items new.sources.items xs source
    → IsSettled drives new × Meets old new from
way_ends drives old now new xs at from source h m is met sets =
    let ends : (s : ℕ) → Contains xs s → IsSource drives s source = λ s i.
    subst (λ e. IsSource drives s e) is (followed drives now.met.items now.sources.items (reverse xs) at h.following m s (contains-reverse xs s i)) in
    let set_to : (s : ℕ) → Contains xs s → IsSource drives s (source_at new.sources.items s) = λ s i. subst (λ e. IsSource drives s e) (sym (sets.all s i)) (ends s i) in (
      record {
        met_sized = ap length met ∙ h.following.met_sized;
        sources_sized = sets.sized ∙ h.following.sources_sized;
        known = λ s e. elim (h.following.known s (rw met at e)) [
          | inl on ↦ set_to s (contains-unreverse xs s on)
          | inr was ↦ elim (sets.others s) [ inl same ↦ subst (λ x. IsSource drives s x) (sym same) was | inr on ↦ set_to s on ]
        ];
        unmet = λ s e.
            let e' : met_at now.met.items s ≡ false = rw met at e in
            let was = h.following.unmet s e' in
            elim (sets.others s) [
              | inl same ↦ (was.0, same ∙ was.1)
              | inr on ↦ absurd (let on' = (h.following.on_path s (contains-reverse xs s on)).0 in cc)
            ];
      },
      record {
        stay = λ t e. rw met (h.stay t e);
        here = rw met (elim h.here [ inl same ↦ subst (λ x. met_at now.met.items x ≡ true) same m | inr e ↦ e ]);
      },
    )

-- one signal more is set
pub sets_more : (old now : List Source) (signals : List ℕ) (i s : ℕ) (source : Source) → SetsAll old now (take i signals) source → i < length signals → s ≡ get_or signals i s
    → s < length now → SetsAll old (set now s source) (take (i + 1) signals) source
sets_more old now signals i s source h within is below =
    let more : take (i + 1) signals ≡ take i signals ++ s ∷ [] = take_more signals i s within ∙ ap (λ x. take i signals ++ x ∷ []) (sym is) in
    let here : source_at (set now s source) s ≡ source = get_or-set_same now s source Ring below in
    let other : (t : ℕ) → t ≢ s → source_at (set now s source) t ≡ source_at now t = λ t e. get_or-set_other now s t source Ring e in
    record {
      sized = length-set now s source ∙ h.sized;
      all = λ t e. elim (cases_eq t s) [
        | inl same ↦ subst (λ x. source_at (set now s source) x ≡ source) (sym same) here
        | inr differ ↦ elim (Contains-push_cases (take i signals) s t (rw more at e)) [
          | inl before ↦ other t differ ∙ h.all t before
          | inr same ↦ absurd (differ (sym same))
        ]
      ];
      others = λ t. elim (cases_eq t s) [
        | inl same ↦ inr (rw more (subst (λ x. Contains (take i signals ++ s ∷ []) x) (sym same) (Contains-push (take i signals) s)))
        | inr differ ↦ elim (h.others t) [
          | inl stays ↦ inl (other t differ ∙ stays)
          | inr before ↦ inr (rw more (Contains-append_left (take i signals) (s ∷ []) t before))
        ]
      ];
    }

-- all signals below one were met
pub record HasFollowed (drives : List Drive) (f : Followed) (s : ℕ) : Type 0 where
  pub settled : IsSettled drives f
  pub met : (t : ℕ) → t < s → met_at f.met.items t ≡ true

pub followed_more : (drives : List Drive) (old new : Followed) (s : ℕ) → HasFollowed drives old s → IsSettled drives new → Meets old new s → HasFollowed drives new (s + 1)
followed_more drives old new s h settled meets = record {
  settled = settled;
  met = λ t below. elim (cases_lt t s) [
    | inl before ↦ meets.stay t (h.met t before)
    | inr here ↦ let same : t ≡ s = omega arith in subst (λ x. met_at new.met.items x ≡ true) (sym same) meets.here
  ];
}

pub followed_all : (drives : List Drive) (f : Followed) → HasFollowed drives f (length drives) → AreSources drives f.sources.items
followed_all drives f h = record {
  all = h.settled.sources_sized;
  each = λ s e at.
      let within = slice_get_within f.sources.items s e at in
      let is : source_at f.sources.items s ≡ e = get_or_from_slice_get f.sources.items s e Ring at in
      subst (λ x. IsSource drives s x) is (h.settled.known s (h.met s (omega (arith, within, h.settled.sources_sized))));
}

-- the first sources of the signals below one
pub record HaveFirst (drives : List Drive) (sources : List Source) (s : ℕ) : Type 0 where
  pub sized : length sources ≡ s
  pub each : (t : ℕ) → t < s → source_at sources t ≡ first_source_of t (drive_in drives t)

pub first_more : (drives : List Drive) (sources : List Source) (s : ℕ) (e : Source) → HaveFirst drives sources s → e ≡ first_source_of s (drive_in drives s)
    → HaveFirst drives (sources ++ e ∷ []) (s + 1)
first_more drives sources s e h is = record {
  sized = length_push sources e ∙ ap (λ n. n + 1) h.sized;
  each = λ t below. elim (cases_lt t s) [
    | inl before ↦ get_or_append_left sources (e ∷ []) Ring t (omega (arith, h.sized)) ∙ h.each t before
    | inr here ↦
        let same : s ≡ t = omega arith in
        subst (λ x. source_at (sources ++ e ∷ []) x ≡ first_source_of x (drive_in drives x)) same (get_or_push sources e Ring s h.sized ∙ is)
  ];
}

own_kept : (drives : List Drive) (s : ℕ) (d : Drive) → drive_in drives s ≡ d → first_met d ≡ true → IsSource drives s (first_source_of s d)
own_kept drives s input e h = source-own drives s input e refl
own_kept drives s (latch next init) e h = cc
own_kept drives s (gate pins cover) e h = source-own drives s (gate pins cover) e refl

unmet_latch : (s : ℕ) (d : Drive) → first_met d ≡ false → IsTrue (is_latch d) × (first_source_of s d ≡ Ring)
unmet_latch s input h = cc
unmet_latch s (latch next init) h = (refl, refl)
unmet_latch s (gate pins cover) h = cc

map-first : (drivers : List Driver) → map (λ d. first_met (drive_of d)) drivers ≡ map first_met (map drive_of drivers)
map-first [] = refl
map-first (d ∷ drivers) = ap (λ ms. first_met (drive_of d) ∷ ms) (map-first drivers)

pub first_settled : (drivers : List Driver) (f : Followed) → f.met.items ≡ map (λ d. first_met (drive_of d)) drivers
    → HaveFirst (map drive_of drivers) f.sources.items (length drivers) → IsSettled (map drive_of drivers) f
first_settled drivers f met h =
    let drives = map drive_of drivers in
    let sized : length drives ≡ length drivers = length-map drivers drive_of in
    let marks : f.met.items ≡ map first_met drives = met ∙ map-first drivers in
    let at : (s : ℕ) → met_at f.met.items s ≡ first_met (drive_in drives s) = λ s. ap (λ ms. met_at ms s) marks ∙ read-map first_met drives s (latch s false) false refl in
    let first : (s : ℕ) → s < length drives → source_at f.sources.items s ≡ first_source_of s (drive_in drives s) = λ s w. h.each s (omega (arith, sized)) in
    record {
      met_sized = ap length marks ∙ length-map drives first_met;
      sources_sized = h.sized ∙ sym sized;
      known = λ s e.
          let m : first_met (drive_in drives s) ≡ true = sym (at s) ∙ e in
          elim (cases_lt s (length drives)) [
            | inl w ↦ subst (λ x. IsSource drives s x) (sym (first s w)) (own_kept drives s (drive_in drives s) refl m)
            | inr past ↦ absurd (let none : drive_in drives s ≡ latch s false = get_or_past drives s (latch s false) past in let m' = subst (λ d. first_met d ≡ true) none m in cc)
          ];
      unmet = λ s e.
          let m : first_met (drive_in drives s) ≡ false = sym (at s) ∙ e in
          let un = unmet_latch s (drive_in drives s) m in
          elim (cases_lt s (length drives)) [
            | inl w ↦ (un.0, first s w ∙ un.1)
            | inr past ↦ (un.0, get_or_past f.sources.items s Ring (omega (arith, h.sized, sized)))
          ];
    }

-- the unmet are fewer after one is met
pub fewer_unmet : (met : List Bool) (s : ℕ) → s < length met → met_at met s ≡ false → count_by not (set met s true) + 1 ≡ count_by not met
fewer_unmet met s within h =
    let sums = sum_by-set (λ (m : Bool). cond {A = ℕ} (not m) 1 0) met s true false within in
    let one = ap (λ (m : Bool). cond {A = ℕ} (not m) 1 0) h in
    omega (arith, sums, one)

-- what drives the signal that the way has come to reads below the number of signals
reads_at : (drivers : List Driver) (i at : ℕ) (x : Driver) → All (λ d. ReadsBelow (length drivers) (drive_of d)) drivers → i ≡ at → at < length drivers → x ≡ get_or drivers i x
    → (drive_in (map drive_of drivers) at ≡ drive_of x) × ReadsBelow (length (map drive_of drivers)) (drive_of x)
reads_at drivers i at x all same within is =
    let below : i < length drivers = omega arith in
    let drives : drive_in (map drive_of drivers) at ≡ drive_of x = subst (λ j. drive_in (map drive_of drivers) j ≡ drive_of x) same (drive-at drivers i x below is) in
    let reads : ReadsBelow (length drivers) (drive_of (get_or drivers i x)) = all i x below in
    (drives, subst (λ n. ReadsBelow n (drive_of x)) (sym (length-map drivers drive_of)) (subst (λ d. ReadsBelow (length drivers) (drive_of d)) (sym is) reads))

-- one turn of the loop that follows a signal, by what it reads and writes
pub way_turns : (drivers : List Driver) (old now new : Followed) (xs ys : List ℕ) (i j at next from : ℕ) (x : Driver) (b : Bool)
    → IsOnWay (map drive_of drivers) old now (reverse xs) at from → All (λ d. ReadsBelow (length drivers) (drive_of d)) drivers
    → i ≡ at → b ≡ get_or now.met.items i b → b ≡ false → j ≡ at → x ≡ get_or drivers j x
    → new.met.items ≡ set now.met.items i true → new.sources.items ≡ now.sources.items → ys ≡ xs ++ at ∷ [] → next ≡ step_back at (drive_of x)
    → IsOnWay (map drive_of drivers) old new (reverse ys) next from
way_turns drivers old now new xs ys i j at next from x b h all here read fresh there is met sources more back =
    let drives = map drive_of drivers in
    let sized : length drives ≡ length drivers = length-map drivers drive_of in
    let within : at < length now.met.items = omega (arith, h.within, h.following.met_sized) in
    let unmet : met_at now.met.items at ≡ false = met_read now.met.items i at b within here read ∙ fresh in
    let reads = reads_at drivers j at x all there (omega (arith, h.within, sized)) is in
    let reads' : ReadsBelow (length drives) (drive_in drives at) = subst (λ d. ReadsBelow (length drives) d) (sym reads.0) reads.1 in
    let met' : new.met.items ≡ set now.met.items at true = met ∙ ap (λ s. set now.met.items s true) here in
    let on = way_goes_on drives old now new (reverse xs) at from h unmet reads' met' sources in
    let turned : reverse ys ≡ at ∷ reverse xs = ap reverse more ∙ reverse-append xs (at ∷ []) in
    let to : next ≡ step_back at (drive_in drives at) = back ∙ ap (λ d. step_back at d) (sym reads.0) in
    subst (λ p. IsOnWay drives old new p next from) (sym turned) (subst (λ n. IsOnWay drives old new (at ∷ reverse xs) n from) (sym to) on)

-- the end of the loop that follows a signal, by what it reads and writes
pub way_settles : (drives : List Drive) (old now new : Followed) (olds news : List Source) (signals xs : List ℕ) (i at from : ℕ) (b : Bool) (source : Source)
    → IsOnWay drives old now (reverse xs) at from → i ≡ at → b ≡ get_or now.met.items i b → b ≡ true → source ≡ get_or now.sources.items i source
    → olds ≡ now.sources.items → signals ≡ xs → new.met.items ≡ now.met.items → new.sources.items ≡ news → SetsAll olds news signals source → IsSettled drives new × Meets old new from
way_settles drives old now new olds news signals xs i at from b source h here read m kept olds_are signals_are met sources sets =
    let within : at < length now.met.items = omega (arith, h.within, h.following.met_sized) in
    let met_here : met_at now.met.items at ≡ true = met_read now.met.items i at b within here read ∙ m in
    let below : i < length now.sources.items = omega (arith, h.within, h.following.sources_sized, here) in
    let kept' : source_at now.sources.items at ≡ source = subst (λ j. source_at now.sources.items j ≡ source) here (sym (get_or_read now.sources.items i source below kept Ring)) in
    way_ends drives old now new xs at from source h met_here kept' met (rw (← olds_are, sources, ← signals_are) sets)

-- the place of each signal on the way
pub way_fits : (drives : List Drive) (old now : Followed) (olds : List Source) (signals xs : List ℕ) (at from : ℕ) → IsOnWay drives old now (reverse xs) at from
    → olds ≡ now.sources.items → signals ≡ xs → All (λ s. s < length olds) signals
way_fits drives old now olds signals xs at from h olds_are signals_are = rw (olds_are, signals_are) (way_within drives old now xs at from h)
