-- What a unit is whose statements are not at fault one after another.
use Rattle.std.proofs.Common.{◌≡◌, ℕ, ◌+◌, ◌<◌, ◌≤◌, inl, inr, false, nat_lt, List, [], ◌∷◌, ◌++◌, None, Some, length, map, drop, take, get_or, flat_map, option_map, refl, sym, ◌∙◌, ap, subst, arith, append_assoc}
use Rattle.std.specs.Option.{option_or}
use Rattle.std.specs.List.{list_any, AllByRecursion}
use Rattle.std.proofs.lemmas.Bool.{ltb-false}
use Rattle.std.proofs.lemmas.List.{append-nil, map_more, at_drop_more, drop_all}
use Rattle.std.proofs.lemmas.Grind.{flat_map-append}
use Rattle.tm_circuit.specs.Sound.{IsName}
use Rattle.blif_unit.specs.declared.fault.BlifFault.{BlifFault}
use Rattle.blif_unit.specs.declared.fault.BlifFault.TheVariants.{Text, NoMemory}
use Rattle.blif_unit.specs.declared.fault.BlifKind.{BlifKind}
use Rattle.blif_unit.specs.declared.fault.BlifKind.TheVariants.{LongName, RepeatedDriver, ManyClocks}
use Rattle.blif_unit.specs.declared.limits.Limits.{Limits}
use Rattle.blif_unit.specs.declared.unit.Stated.{Stated}
use Rattle.blif_unit.specs.Fault.{OnText}
use Rattle.blif_unit.specs.Fit.{names_told, IsPlainName, IsNameWithin, HasShape, PlacesNone, IsFit}
use Rattle.blif_unit.specs.Unit as told
use Rattle.blif_unit.specs.Unit.{Told, Telling, told_of, telling_of, Model, IsOrderly, IsShaped, AreDistinct, AreSame, over, drivers_told, clocks_told, controls_named, repeats, differ}
use Rattle.blif_circuit.proofs.SignalUses.{all-left, all-right, all-both}
use Rattle.blif_models.proofs.OrderlyLemmas.{no_fault, or_left_false, or_right_false, or_second_none, distinct_all, same_all, top_named}
use Rattle.blif_models.proofs.UnitLemmas.{or_none, mapped_none, first_of_both}
use Rattle.blif_read.specs.Seen.{after}
use Rattle.blif_circuit.specs.Circuit.{IsFaultOfModel}
use Rattle.blif_read.specs.Whole.{Before, before, controls_told, brings_other_clock, fault_in_statement, fault_in_statements, IsFaultOfUnit}

-- ---- one more statement

pub over_last : (f : Told → List (List ℕ)) (done : List Telling) (t : Telling) → over f (done ++ t ∷ []) ≡ over f done ++ f t.what
over_last f done t =
    flat_map-append (λ s. f s.what) done (t ∷ []) ∙ ap (λ ns. over f done ++ ns) (append-nil (f t.what))

pub before_more : (done : List Telling) (t : Telling) → before (done ++ t ∷ []) ≡ after (before done) t.what
before_more done t =
    let controls : flat_map (λ s. controls_told s.what) (done ++ t ∷ []) ≡ flat_map (λ s. controls_told s.what) done ++ controls_told t.what
    = flat_map-append (λ s. controls_told s.what) done (t ∷ []) ∙ ap (λ cs. flat_map (λ s. controls_told s.what) done ++ cs) (append-nil (controls_told t.what)) in
    rw (
      over_last drivers_told done t,
      over_last clocks_told done t,
      controls,
      first_of_both (over clocks_told done) (clocks_told t.what),
      first_of_both (flat_map (λ s. controls_told s.what) done) (controls_told t.what),
    ) refl

pub statements_cons : (name : ℕ) (done : List Telling) (t : Telling) (ts : List Telling)
    → fault_in_statements name done (t ∷ ts)
    ≡ option_or (option_map (λ kind. (t.line, kind)) (fault_in_statement name (before done) t.what)) (fault_in_statements name (done ++ t ∷ []) ts)
unfolding fault_in_statements
statements_cons name done t ts = refl

-- ---- what no fault leaves

-- Names are short, drivers stand once and clocks are the same.
record IsOrdered (name : ℕ) (body : List Telling) : Type 0 where
  pub short : AllByRecursion (λ n. length n ≤ name) (over names_told body)
  pub drivers : AreDistinct (over drivers_told body)
  pub clocks : AreSame (over clocks_told body)

none_long : (name : ℕ) (ns : List (List ℕ)) → list_any (λ n. nat_lt name (length n)) ns ≡ false → AllByRecursion (λ n. length n ≤ name) ns
none_long name [] h = tt
none_long name (n ∷ ns) h = (ltb-false name (length n) (or_left_false _ _ h), none_long name ns (or_right_false _ _ h))

ordered_more : (name : ℕ) (done : List Telling) (t : Telling) → IsOrdered name done → fault_in_statement name (before done) t.what ≡ None → IsOrdered name (done ++ t ∷ [])
ordered_more name done t o h =
    let a = no_fault (list_any (λ n. nat_lt name (length n)) (names_told t.what)) LongName _ h in
    let b = no_fault (repeats (over drivers_told done) (drivers_told t.what)) RepeatedDriver _ a.1 in
    let c = no_fault (brings_other_clock (before done) t.what) ManyClocks _ b.1 in
    record {
      short = subst (AllByRecursion (λ n. length n ≤ name)) (sym (over_last names_told done t))
          (all-both (λ n. length n ≤ name) (over names_told done) (names_told t.what) o.short (none_long name (names_told t.what) a.0));
      drivers = subst AreDistinct (sym (over_last drivers_told done t)) (distinct_all (over drivers_told done) (drivers_told t.what) o.drivers b.0);
      clocks = subst AreSame (sym (over_last clocks_told done t)) (same_all (over clocks_told done) (clocks_told t.what) o.clocks (or_left_false _ _ c.0));
    }

ordered_all : (name : ℕ) (done ts : List Telling) → fault_in_statements name done ts ≡ None → IsOrdered name done → IsOrdered name (done ++ ts)
ordered_all name done [] h o = subst (IsOrdered name) (sym (append-nil done)) o
ordered_all name done (t ∷ ts) h o =
    let both = sym (statements_cons name done t ts) ∙ h in
    let here : fault_in_statement name (before done) t.what ≡ None = mapped_none _ _ (or_none _ _ both) in
    subst (IsOrdered name) (append_assoc done (t ∷ []) ts) (ordered_all name (done ++ t ∷ []) ts (or_second_none _ _ both) (ordered_more name done t o here))

drivers_named : (P : List ℕ → Type 0) (t : Told) → AllByRecursion P (names_told t) → AllByRecursion P (drivers_told t)
drivers_named P (told.inputs ns) h = all-both P (ns ++ []) [] (all-both P ns [] h tt) tt
drivers_named P (told.outputs ns) h = tt
drivers_named P (told.clock ns) h = tt
drivers_named P (told.gate pins name cover) h = all-right P pins (name ∷ []) h
drivers_named P (told.latch next name init control) h = (h.1.0, tt)
drivers_named P (told.place model bindings) h = tt

clocks_named : (P : List ℕ → Type 0) (t : Told) → AllByRecursion P (names_told t) → AllByRecursion P (clocks_told t)
clocks_named P (told.inputs ns) h = tt
clocks_named P (told.outputs ns) h = tt
clocks_named P (told.clock ns) h = h
clocks_named P (told.gate pins name cover) h = tt
clocks_named P (told.latch next name init control) h = h.1.1
clocks_named P (told.place model bindings) h = tt

pub over_named : (P : List ℕ → Type 0) (f : Told → List (List ℕ)) → ((t : Told) → AllByRecursion P (names_told t) → AllByRecursion P (f t))
    → (body : List Telling) → AllByRecursion P (over names_told body) → AllByRecursion P (over f body)
over_named P f each [] h = tt
over_named P f each (t ∷ ts) h =
    all-both P (f t.what) (over f ts) (each t.what (all-left P (names_told t.what) (over names_told ts) h))
    (over_named P f each ts (all-right P (names_told t.what) (over names_told ts) h))

plain_name : (name : ℕ) (n : List ℕ) → name ≤ 1023 → IsPlainName n → length n ≤ name → IsName n
plain_name name n most plain short = record { some = plain.some; short = omega arith; lawful = plain.lawful }

plain_names : (name : ℕ) (ns : List (List ℕ)) → name ≤ 1023 → AllByRecursion IsPlainName ns → AllByRecursion (λ n. length n ≤ name) ns → AllByRecursion IsName ns
plain_names name [] most plain short = tt
plain_names name (n ∷ ns) most plain short = (plain_name name n most plain.0 short.0, plain_names name ns most plain.1 short.1)

shaped_one : (t : Told) → HasShape t → PlacesNone t → IsShaped t
shaped_one (told.inputs ns) h none = tt
shaped_one (told.outputs ns) h none = tt
shaped_one (told.clock ns) h none = tt
shaped_one (told.gate pins name cover) h none = h
shaped_one (told.latch next name init None) h none = tt
shaped_one (told.latch next name init (Some control)) h none = h
shaped_one (told.place model bindings) h none = none

shaped_all : (body : List Telling) → AllByRecursion (λ t. HasShape t.what) body → AllByRecursion (λ t. PlacesNone t.what) body
    → AllByRecursion (λ t. IsShaped t.what) body
shaped_all [] h none = tt
shaped_all (t ∷ ts) h none = (shaped_one t.what h.0 none.0, shaped_all ts h.1 none.1)

own_name : (name : ℕ) (n : List ℕ) → name ≤ 1023 → IsPlainName n → IsNameWithin name n → IsName n
own_name name n most plain (inl top) = subst IsName (sym top) top_named
own_name name n most plain (inr short) = plain_name name n most plain short

pub whole_driven_once : (name : ℕ) (body : List Telling) → fault_in_statements name [] body ≡ None → AreDistinct (over drivers_told body)
whole_driven_once name body h = (ordered_all name [] body h (record { short = tt; drivers = tt; clocks = tt })).drivers

-- A unit without a fault in its statements is as the circuit's reading asks.
pub whole_orderly : (name : ℕ) (m : Model) → name ≤ 1023 → IsFit m → AllByRecursion (λ t. PlacesNone t.what) m.body
    → IsNameWithin name m.name → fault_in_statements name [] m.body ≡ None → IsOrderly m
whole_orderly name m most fit alone own h =
    let o : IsOrdered name m.body = ordered_all name [] m.body h (record { short = tt; drivers = tt; clocks = tt }) in
    let names : AllByRecursion IsName (over names_told m.body) = plain_names name (over names_told m.body) most fit.names o.short in
    record {
      model = own_name name m.name most fit.model own;
      drivers = over_named IsName drivers_told (drivers_named IsName) m.body names;
      clocks = over_named IsName clocks_told (clocks_named IsName) m.body names;
      driven_once = o.drivers;
      outputs_once = fit.outputs_once;
      one_clock = o.clocks;
      shaped = shaped_all m.body fit.shaped alone;
    }

-- ---- statement by statement

-- the statement here and those after it
statements_from : (body : List Stated) (i : ℕ) (x : Stated) → i < length body → x ≡ get_or body i x
    → map telling_of (drop i body) ≡ telling_of x ∷ map telling_of (drop (i + 1) body)
statements_from body i x within is =
    at_drop_more (λ (xs : List Stated). map telling_of xs) body i x within
    ∙ ap (λ (y : Stated). telling_of y ∷ map telling_of (drop (i + 1) body)) (sym is)

statements_to : (body : List Stated) (i : ℕ) (x : Stated) → i < length body → x ≡ get_or body i x
    → map telling_of (take (i + 1) body) ≡ map telling_of (take i body) ++ telling_of x ∷ []
statements_to body i x within is =
    map_more telling_of body i x within ∙ ap (λ (y : Stated). map telling_of (take i body) ++ telling_of y ∷ []) (sym is)

-- The fault of the statement here is the first of all.
pub statement_broken : (name : ℕ) (body : List Stated) (i : ℕ) (x : Stated) (kind : BlifKind) → i < length body → x ≡ get_or body i x
    → fault_in_statements name [] (map telling_of body) ≡ fault_in_statements name (map telling_of (take i body)) (map telling_of (drop i body))
    → fault_in_statement name (before (map telling_of (take i body))) (told_of x.what) ≡ Some kind
    → fault_in_statements name [] (map telling_of body) ≡ Some (x.line, kind)
statement_broken name body i x kind within is rest here =
    let done = map telling_of (take i body) in
    rest ∙ ap (fault_in_statements name done) (statements_from body i x within is)
    ∙ statements_cons name done (telling_of x) (map telling_of (drop (i + 1) body)) ∙ rw here refl

-- Where the statement here is not at fault, the first fault is that of those after it.
pub statement_passed : (name : ℕ) (body : List Stated) (i : ℕ) (x : Stated) → i < length body → x ≡ get_or body i x
    → fault_in_statements name [] (map telling_of body) ≡ fault_in_statements name (map telling_of (take i body)) (map telling_of (drop i body))
    → fault_in_statement name (before (map telling_of (take i body))) (told_of x.what) ≡ None
    → fault_in_statements name [] (map telling_of body) ≡ fault_in_statements name (map telling_of (take (i + 1) body)) (map telling_of (drop (i + 1) body))
statement_passed name body i x within is rest here =
    let done = map telling_of (take i body) in
    let later = map telling_of (drop (i + 1) body) in
    rest ∙ ap (fault_in_statements name done) (statements_from body i x within is)
    ∙ statements_cons name done (telling_of x) later ∙ rw here refl
    ∙ ap (λ ts. fault_in_statements name ts later) (sym (statements_to body i x within is))

pub statement_seen : (body : List Stated) (i : ℕ) (x : Stated) (old new : Before) → i < length body → x ≡ get_or body i x
    → old ≡ before (map telling_of (take i body)) → new ≡ after old (told_of x.what) → new ≡ before (map telling_of (take (i + 1) body))
statement_seen body i x old new within is at later =
    later ∙ ap (λ seen. after seen (told_of x.what)) at ∙ sym (before_more (map telling_of (take i body)) (telling_of x))
    ∙ ap before (sym (statements_to body i x within is))

pub statements_passed : (name : ℕ) (body : List Stated) (i : ℕ) → length body ≤ i
    → fault_in_statements name [] (map telling_of body) ≡ fault_in_statements name (map telling_of (take i body)) (map telling_of (drop i body))
    → fault_in_statements name [] (map telling_of body) ≡ None
unfolding fault_in_statements
statements_passed name body i past rest =
    rest ∙ ap (λ (xs : List Stated). fault_in_statements name (map telling_of (take i body)) (map telling_of xs)) (drop_all i body past)

-- ---- a unit

-- Where no statement is at fault, a fault of the statements as a whole is the unit's.
pub unit_faulty : (e : BlifFault) (limits : Limits) (m : Model) → fault_in_statements limits.name [] m.body ≡ None
    → OnText e (IsFaultOfModel limits.signals m) → OnText e (IsFaultOfUnit limits m)
unit_faulty (Text line kind) limits m none h = rw none h
unit_faulty NoMemory limits m none h = tt
