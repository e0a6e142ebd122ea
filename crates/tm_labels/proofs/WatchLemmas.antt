-- Who looks at a gate.
use Rattle.std.proofs.Common.{◌≡◌, ℕ, zero, suc, ◌+◌, ◌<◌, ◌≤◌, ◌⊎◌, inl, inr, Bool, true, false, List, [], ◌∷◌, ◌++◌, map, length, take, get_or, Option, None, Some, refl, sym, ◌∙◌, ap, subst, arith, Global}
use Rattle.std.specs.Prelude.{slice_set, slice_index, Contains, filter, ◌==◌, Vec, replicate, All}
use Rattle.std.proofs.lemmas.Bool.{cases_Bool, cases_eq, both_ways, eq-eqb, cond-true, cond-false}
use Rattle.std.proofs.lemmas.List.{get_or-set_same, get_or-set_other, length-set, map-set, length-map, set-get_or, take_more, take_all, length-replicate, map_push, replicate_more}
use Rattle.std.proofs.lemmas.List.Elements.{Contains-append_left, Contains-push, Contains-push_cases, Contains-get_or}
use Rattle.tm_circuit.specs.Plain.{Plain, Drive}
use Rattle.tm_circuit.specs.Source.{IsSource}
use Rattle.tm_circuit.specs.declared.sources.Source.{Source}
use Rattle.tm_circuit.specs.declared.sources.Source.TheVariants.{Gate}
use Rattle.tm_circuit.proofs.OneSource.{one_source}
use Rattle.tm_circuit.proofs.ListLemmas.{contains-first, contains-rest, contains-cases, contains-none}
use Rattle.tm_unroll.specs.declared.node.Node.{Node}
use Rattle.tm_replay.specs.declared.label.Label.{Label}
use Rattle.tm_merge.specs.Cuts.{cut_in}
use Rattle.tm_labels.specs.declared.watcher.Watcher.{Watcher}
use Rattle.tm_labels.specs.Watched.{Kept, watcher, watchers_in, KeepsCuts, AddsWatchers, AreWatchedAs, IsLate, AreLateAmong, AreLate, FallsWith}

-- What passes a test stays in a filter.
pub passes_stays : {X : Type 0} (test : X → Bool) (xs : List X) (x : X) → Contains xs x → test x ≡ true → Contains (filter test xs) x
passes_stays test [] x stands passes = absurd (contains-none x stands)
passes_stays {X} test (y ∷ xs) x stands passes =
    elim (cases_Bool (test y)) [
      | inl is ↦
          subst (λ (zs : List X). Contains zs x) (sym (cond-true (test y) (y ∷ filter test xs) (filter test xs) is))
          (elim (contains-cases y xs x stands) [
            | inl same ↦ subst (λ (z : X). Contains (y ∷ filter test xs) z) same (contains-first y (filter test xs))
            | inr later ↦ contains-rest y (filter test xs) x (passes_stays test xs x later passes)
          ])
      | inr fails ↦
          subst (λ (zs : List X). Contains zs x) (sym (cond-false (test y) (y ∷ filter test xs) (filter test xs) fails))
          (elim (contains-cases y xs x stands) [
            | inl same ↦ absurd (both_ways _ fails (ap test same ∙ passes))
            | inr later ↦ passes_stays test xs x later passes
          ])
    ]

-- More watchers of one gate.
pub adds_one : (old : List (List Watcher)) (u : ℕ) (w : Watcher) → u < length old
    → AddsWatchers old (slice_set old u (watchers_in old u ++ w ∷ [])) × Contains (watchers_in (slice_set old u (watchers_in old u ++ w ∷ [])) u) w
adds_one old u w within =
    let here : watchers_in (slice_set old u (watchers_in old u ++ w ∷ [])) u ≡ watchers_in old u ++ w ∷ [] = get_or-set_same old u (watchers_in old u ++ w ∷ []) [] within in (
      record {
        sized = length-set old u _;
        stays = λ v x stands.
            elim (cases_eq v u) [
              | inl same ↦
                  subst (λ (ws : List Watcher). Contains ws x) (sym (ap (watchers_in (slice_set old u (watchers_in old u ++ w ∷ []))) same ∙ here))
                  (Contains-append_left (watchers_in old u) (w ∷ []) x (subst (λ i. Contains (watchers_in old i) x) same stands))
              | inr differs ↦ subst (λ (ws : List Watcher). Contains ws x) (sym (get_or-set_other old u v (watchers_in old u ++ w ∷ []) [] differs)) stands
            ];
      },
      subst (λ (ws : List Watcher). Contains ws w) (sym here) (Contains-push (watchers_in old u) w),
    )

pub adds_none : (old : List (List Watcher)) → AddsWatchers old old
adds_none old = record { sized = refl; stays = λ u w stands. stands }

pub adds_more : (old mid new : List (List Watcher)) → AddsWatchers old mid → AddsWatchers mid new → AddsWatchers old new
adds_more old mid new first second = record { sized = second.sized ∙ first.sized; stays = λ u w stands. second.stays u w (first.stays u w stands) }

-- Watched leaves stay watched.
pub watched_stays : (drives : List Drive) (g version : ℕ) (leaves : List Node) (old new : List (List Watcher)) → AddsWatchers old new
    → AreWatchedAs drives g version leaves old → AreWatchedAs drives g version leaves new
watched_stays drives g version leaves old new adds watched u y leaf source = adds.stays u (watcher g y version) (watched u y leaf source)

-- More watchers keep what is kept of cuts.
pub cuts_with_more : (drives : List Drive) (leaves : List (List Node)) (stale : List Bool) (versions : List ℕ) (old new : List (List Watcher))
    → AddsWatchers old new → KeepsCuts drives leaves stale versions old → KeepsCuts drives leaves stale versions new
cuts_with_more drives leaves stale versions old new adds keeps = record {
  leaves_sized = keeps.leaves_sized;
  stale_sized = keeps.stale_sized;
  versions_sized = keeps.versions_sized;
  watchers_sized = adds.sized ∙ keeps.watchers_sized;
  within = keeps.within;
  watched = λ g u y leaf source. adds.stays u _ (keeps.watched g u y leaf source);
}

-- A new cut that is watched.
pub cuts_with_new : (drives : List Drive) (leaves : List (List Node)) (stale : List Bool) (versions : List ℕ) (watchers : List (List Watcher)) (g version : ℕ) (cut : List Node)
    → g < length drives → ((y : Node) → Contains cut y → y.signal < length drives) → AreWatchedAs drives g version cut watchers → KeepsCuts drives leaves stale versions watchers
    → KeepsCuts drives (slice_set leaves g cut) (slice_set stale g false) (slice_set versions g version) watchers
cuts_with_new drives leaves stale versions watchers g version cut low within watched keeps =
    let cut_here : cut_in (slice_set leaves g cut) g ≡ cut = get_or-set_same leaves g cut [] (let e = keeps.leaves_sized in omega (arith, low, e)) in
    let version_here : slice_index (slice_set versions g version) g ≡ version = get_or-set_same versions g version 0 (let e = keeps.versions_sized in omega (arith, low, e)) in
    record {
      leaves_sized = length-set leaves g cut ∙ keeps.leaves_sized;
      stale_sized = length-set stale g false ∙ keeps.stale_sized;
      versions_sized = length-set versions g version ∙ keeps.versions_sized;
      watchers_sized = keeps.watchers_sized;
      within = λ h y leaf.
          elim (cases_eq h g) [
            | inl same ↦ within y (subst (λ (ys : List Node). Contains ys y) (ap (cut_in (slice_set leaves g cut)) same ∙ cut_here) leaf)
            | inr differs ↦ keeps.within h y (subst (λ (ys : List Node). Contains ys y) (get_or-set_other leaves g h cut [] differs) leaf)
          ];
      watched = λ h u y leaf source.
          elim (cases_eq h g) [
            | inl same ↦
                subst (λ i. Contains (watchers_in watchers u) (watcher i y (slice_index (slice_set versions g version) i))) (sym same)
                (subst (λ v. Contains (watchers_in watchers u) (watcher g y v)) (sym version_here)
                (watched u y (subst (λ (ys : List Node). Contains ys y) (ap (cut_in (slice_set leaves g cut)) same ∙ cut_here) leaf) source))
            | inr differs ↦
                subst (λ v. Contains (watchers_in watchers u) (watcher h y v)) (sym (get_or-set_other versions g h version 0 differs))
                (keeps.watched h u y (subst (λ (ys : List Node). Contains ys y) (get_or-set_other leaves g h cut [] differs) leaf) source)
          ];
    }

-- The lists that vectors of watchers hold.
abbrev pub lists_of : List (Vec Watcher Global) → List (List Watcher)
lists_of vs = map (λ v. v.items) vs

pub listed : (vs : List (Vec Watcher Global)) (u : ℕ) (x : Vec Watcher Global) → u < length vs → watchers_in (lists_of vs) u ≡ (get_or vs u x).items
listed [] u x within = absurd (omega arith)
listed (v ∷ vs) zero x within = refl
listed (v ∷ vs) (suc u) x within = listed vs u x (omega arith)

pub adds_at : (old : List (Vec Watcher Global)) (u : ℕ) (x v : Vec Watcher Global) (w : Watcher) → u < length old → v.items ≡ (get_or old u x).items ++ w ∷ []
    → AddsWatchers (lists_of old) (lists_of (slice_set old u v)) × Contains (watchers_in (lists_of (slice_set old u v)) u) w
adds_at old u x v w within pushed =
    let same : lists_of (slice_set old u v) ≡ slice_set (lists_of old) u (watchers_in (lists_of old) u ++ w ∷ []) =
    map-set (λ (y : Vec Watcher Global). y.items) old u v ∙ ap (slice_set (lists_of old) u) (pushed ∙ ap (λ (ws : List Watcher). ws ++ w ∷ []) (sym (listed old u x within))) in
    let sized = length-map old (λ (y : Vec Watcher Global). y.items) in
    subst (λ (ls : List (List Watcher)). AddsWatchers (lists_of old) ls × Contains (watchers_in ls u) w) (sym same) (adds_one (lists_of old) u w (omega (arith, within, sized)))

pub adds_same : (old : List (Vec Watcher Global)) (u : ℕ) (x v : Vec Watcher Global) → u < length old → v.items ≡ (get_or old u x).items → AddsWatchers (lists_of old) (lists_of (slice_set old u v))
adds_same old u x v within stays =
    let same : lists_of (slice_set old u v) ≡ lists_of old =
    map-set (λ (y : Vec Watcher Global). y.items) old u v ∙ ap (slice_set (lists_of old) u) (stays ∙ sym (listed old u x within)) ∙ set-get_or (lists_of old) u [] in
    subst (λ (ls : List (List Watcher)). AddsWatchers (lists_of old) ls) (sym same) (adds_none (lists_of old))

-- One leaf more is watched.
pub watch_more : (drives : List Drive) (g version i : ℕ) (leaves : List Node) (y : Node) (e : Source) (old mid new : List (List Watcher)) → i < length leaves → y ≡ get_or leaves i y
    → IsSource drives y.signal e → AddsWatchers old mid → AreWatchedAs drives g version (take i leaves) mid → AddsWatchers mid new
    → ((u : ℕ) → e ≡ Gate u → Contains (watchers_in new u) (watcher g y version))
    → AddsWatchers old new × AreWatchedAs drives g version (take (i + 1) leaves) new
watch_more drives g version i leaves y e old mid new within at source before watched adds here = (
  adds_more old mid new before adds,
  λ u x stands is.
      elim (Contains-push_cases (take i leaves) y x (subst (λ (ys : List Node). Contains ys x) (take_more leaves i y within ∙ ap (λ (z : Node). take i leaves ++ z ∷ []) (sym at)) stands)) [
        | inl earlier ↦ adds.stays u (watcher g x version) (watched u x earlier is)
        | inr same ↦
            subst (λ (z : Node). Contains (watchers_in new u) (watcher g z version)) same
            (here u (one_source drives y.signal e (Gate u) source (subst (λ (z : Node). IsSource drives z.signal (Gate u)) (sym same) is)))
      ],
)

module _ (base : ℕ) (c : Plain) (labels : List (Option Label)) (counts queued : List Bool) (leaves : List (List Node)) (watchers : List Watcher) where
  pub late_none : (late : List ℕ) → late ≡ [] → AreLateAmong base c labels counts queued leaves [] late
  late_none late none = record {
    all = λ w stands. absurd (contains-none w stands);
    only = λ g stands. absurd (contains-none g (subst (λ (gs : List ℕ). Contains gs g) none stands));
  }

  module _ (i : ℕ) (w : Watcher) (late : List ℕ) (within : i < length watchers) (at : w ≡ get_or watchers i w) (before : AreLateAmong base c labels counts queued leaves (take i watchers) late) where
    more : take (i + 1) watchers ≡ take i watchers ++ w ∷ []
    more = take_more watchers i w within ∙ ap (λ (x : Watcher). take i watchers ++ x ∷ []) (sym at)

    cases : (x : Watcher) → Contains (take (i + 1) watchers) x → Contains (take i watchers) x ⊎ (w ≡ x)
    cases x stands = Contains-push_cases (take i watchers) w x (subst (λ (ws : List Watcher). Contains ws x) more stands)

    pub late_yes : IsLate base c labels counts queued leaves w.gate w.node → AreLateAmong base c labels counts queued leaves (take (i + 1) watchers) (late ++ w.gate ∷ [])
    late_yes is = record {
      all = λ x stands x_late.
          elim (cases x stands) [
            | inl earlier ↦ Contains-append_left late (w.gate ∷ []) x.gate (before.all x earlier x_late)
            | inr same ↦ subst (λ (y : Watcher). Contains (late ++ w.gate ∷ []) y.gate) same (Contains-push late w.gate)
          ];
      only = λ g stands.
          elim (Contains-push_cases late w.gate g stands) [
            | inl earlier ↦ before.only g earlier
            | inr same ↦ (w.node, subst (λ h. IsLate base c labels counts queued leaves h w.node) same is)
          ];
    }

    pub late_no : (IsLate base c labels counts queued leaves w.gate w.node → ⊥) → AreLateAmong base c labels counts queued leaves (take (i + 1) watchers) late
    late_no never = record {
      all = λ x stands x_late.
          elim (cases x stands) [
            | inl earlier ↦ before.all x earlier x_late
            | inr same ↦ absurd (never (subst (λ (y : Watcher). IsLate base c labels counts queued leaves y.gate y.node) (sym same) x_late))
          ];
      only = before.only;
    }

  pub late_all : (i : ℕ) (late : List ℕ) → length watchers ≤ i → AreLateAmong base c labels counts queued leaves (take i watchers) late
      → AreLateAmong base c labels counts queued leaves watchers late
  late_all i late past last = subst (λ (ws : List Watcher). AreLateAmong base c labels counts queued leaves ws late) (take_all i watchers past) last

get_or-none : {X : Type 0} (n g : ℕ) → get_or (replicate {A = List X} n []) g [] ≡ []
get_or-none zero g = refl
get_or-none (suc n) zero = refl
get_or-none {X} (suc n) (suc g) = get_or-none {X = X} n g

-- Without cuts there is nothing to watch.
pub no_cuts : (g n : ℕ) (leaves : List (List Node)) → leaves ≡ replicate n [] → cut_in leaves g ≡ []
no_cuts g n leaves is = ap (λ (ls : List (List Node)). cut_in ls g) is ∙ get_or-none {X = Node} n g

pub cuts_none : (drives : List Drive) (n : ℕ) (leaves : List (List Node)) (stale : List Bool) (versions : List ℕ) (watchers : List (List Watcher)) → n ≡ length drives
    → leaves ≡ replicate n [] → watchers ≡ replicate n [] → length stale ≡ n → length versions ≡ n → KeepsCuts drives leaves stale versions watchers
cuts_none drives n leaves stale versions watchers all none nobody stale_long versions_long = record {
  leaves_sized = ap length none ∙ length-replicate n [] ∙ all;
  stale_sized = stale_long ∙ all;
  versions_sized = versions_long ∙ all;
  watchers_sized = ap length nobody ∙ length-replicate n [] ∙ all;
  within = λ g y leaf. absurd (contains-none y (subst (λ (ys : List Node). Contains ys y) (no_cuts g n leaves none) leaf));
  watched = λ g u y leaf. absurd (contains-none y (subst (λ (ys : List Node). Contains ys y) (no_cuts g n leaves none) leaf));
}

-- A cut that is gone.
pub cuts_gone : (drives : List Drive) (leaves : List (List Node)) (stale : List Bool) (versions : List ℕ) (watchers : List (List Watcher)) (g : ℕ) → g < length drives
    → KeepsCuts drives leaves stale versions watchers → KeepsCuts drives (slice_set leaves g []) stale versions watchers
cuts_gone drives leaves stale versions watchers g low keeps =
    let here : cut_in (slice_set leaves g []) g ≡ [] = get_or-set_same leaves g [] [] (let e = keeps.leaves_sized in omega (arith, low, e)) in
    let before : (h : ℕ) (y : Node) → Contains (cut_in (slice_set leaves g []) h) y → Contains (cut_in leaves h) y = λ h y leaf.
    elim (cases_eq h g) [
      | inl same ↦ absurd (contains-none y (subst (λ (ys : List Node). Contains ys y) (ap (cut_in (slice_set leaves g [])) same ∙ here) leaf))
      | inr differs ↦ subst (λ (ys : List Node). Contains ys y) (get_or-set_other leaves g h [] [] differs) leaf
    ] in
    record {
      leaves_sized = length-set leaves g [] ∙ keeps.leaves_sized;
      stale_sized = keeps.stale_sized;
      versions_sized = keeps.versions_sized;
      watchers_sized = keeps.watchers_sized;
      within = λ h y leaf. keeps.within h y (before h y leaf);
      watched = λ h u y leaf source. keeps.watched h u y (before h y leaf) source;
    }

pub cuts_stale : (drives : List Drive) (leaves : List (List Node)) (stale : List Bool) (versions : List ℕ) (watchers : List (List Watcher)) (g : ℕ) (m : Bool)
    → KeepsCuts drives leaves stale versions watchers → KeepsCuts drives leaves (slice_set stale g m) versions watchers
cuts_stale drives leaves stale versions watchers g m keeps = record {
  leaves_sized = keeps.leaves_sized;
  stale_sized = length-set stale g m ∙ keeps.stale_sized;
  versions_sized = keeps.versions_sized;
  watchers_sized = keeps.watchers_sized;
  within = keeps.within;
  watched = keeps.watched;
}

-- The watchers of one gate, without those of older cuts.
pub cuts_pruned : (drives : List Drive) (leaves : List (List Node)) (stale : List Bool) (versions : List ℕ) (watchers : List (List Watcher)) (v : ℕ) (kept : List Watcher) → v < length drives
    → kept ≡ filter (λ w. slice_index versions w.gate == w.version) (watchers_in watchers v)
    → KeepsCuts drives leaves stale versions watchers → KeepsCuts drives leaves stale versions (slice_set watchers v kept)
cuts_pruned drives leaves stale versions watchers v kept low is keeps = record {
  leaves_sized = keeps.leaves_sized;
  stale_sized = keeps.stale_sized;
  versions_sized = keeps.versions_sized;
  watchers_sized = length-set watchers v kept ∙ keeps.watchers_sized;
  within = keeps.within;
  watched = λ g u y leaf source.
      let w : Watcher = watcher g y (slice_index versions g) in
      let was = keeps.watched g u y leaf source in
      elim (cases_eq u v) [
        | inl same ↦
            subst (λ i. Contains (watchers_in (slice_set watchers v kept) i) w) (sym same)
            (subst (λ (ws : List Watcher). Contains ws w) (sym (get_or-set_same watchers v kept [] (let e = keeps.watchers_sized in omega (arith, low, e)) ∙ is))
            (passes_stays (λ (x : Watcher). slice_index versions x.gate == x.version) (watchers_in watchers v) w (subst (λ i. Contains (watchers_in watchers i) w) same was)
            (eq-eqb (slice_index versions g) (slice_index versions g) refl)))
        | inr differs ↦ subst (λ (ws : List Watcher). Contains ws w) (sym (get_or-set_other watchers v u kept [] differs)) was
      ];
}

-- Whoever is served too late at a leaf of which the gate is the source is among the late ones of its watchers.
pub late_of : (base : ℕ) (c : Plain) (labels : List (Option Label)) (counts queued : List Bool) (leaves : List (List Node)) (stale : List Bool) (versions : List ℕ) (watchers : List (List Watcher))
    (u : ℕ) (late : List ℕ) → KeepsCuts c.drives leaves stale versions watchers → AreLateAmong base c labels counts queued leaves (watchers_in watchers u) late
    → AreLate base c labels counts queued leaves u late
late_of base c labels counts queued leaves stale versions watchers u late keeps among = record {
  all = λ g y is source. among.all (watcher g y (slice_index versions g)) (keeps.watched g u y is.leaf source) is;
  only = among.only;
}

-- ---- a label falls

pub falls_gone : (g lag : ℕ) (c : Plain) (leaves : List (List Node)) (stale : List Bool) → g < length leaves
    → FallsWith g lag None (record { circuit = c; leaves = leaves; stale = stale }) (record { circuit = c; leaves = slice_set leaves g []; stale = stale })
falls_gone g lag c leaves stale low = record {
  circuit = refl;
  leaves_sized = length-set leaves g [];
  stale_sized = refl;
  others = λ h differs. (get_or-set_other leaves g h [] [] differs, refl);
  gone = λ none. get_or-set_same leaves g [] [] low;
  same = λ x is. cc;
}

pub falls_stale : (g lag : ℕ) (y : Label) (c : Plain) (leaves : List (List Node)) (stale : List Bool) → g < length stale
    → FallsWith g lag (Some y) (record { circuit = c; leaves = leaves; stale = stale }) (record { circuit = c; leaves = leaves; stale = slice_set stale g true })
falls_stale g lag y c leaves stale low = record {
  circuit = refl;
  leaves_sized = refl;
  stale_sized = length-set stale g true;
  others = λ h differs. (refl, get_or-set_other stale g h true false differs);
  gone = λ none. cc;
  same = λ x is fresh. absurd (both_ways _ fresh (get_or-set_same stale g true false low));
}

pub falls_same : (g lag : ℕ) (y : Label) (kept : Kept) → y.lag ≡ lag → FallsWith g lag (Some y) kept kept
falls_same g lag y kept level = record {
  circuit = refl;
  leaves_sized = refl;
  stale_sized = refl;
  others = λ h differs. (refl, refl);
  gone = λ none. cc;
  same = λ x is fresh. ((let one : y ≡ x = cc in sym (ap (λ (z : Label). z.lag) one) ∙ level), refl, fresh);
}

-- One empty list more.
pub empty_more : {V X : Type 0} (items : V → List X) (old new : List V) (v : V) (n : ℕ) → map items old ≡ replicate n [] → new ≡ old ++ v ∷ [] → items v ≡ [] → map items new ≡ replicate (n + 1) []
empty_more {V} {X} items old new v n before pushed empty =
    ap (map items) pushed ∙ map_push items old v ∙ ap (λ (ls : List (List X)). ls ++ items v ∷ []) before ∙ ap (λ (l : List X). replicate n [] ++ l ∷ []) empty ∙ replicate_more n []

-- Leaves that are signals each.
pub all_within : (n : ℕ) (leaves given : List Node) → leaves ≡ given → ((y : Node) → Contains given y → y.signal < n) → All (λ (y : Node). y.signal < n) leaves
all_within n leaves given same within k d low = within (get_or leaves k d) (subst (λ (ys : List Node). Contains ys (get_or leaves k d)) same (Contains-get_or leaves k d low))
