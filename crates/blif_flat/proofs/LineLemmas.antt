-- A `.subckt` line by what is known of models: its site, its fault, and those of one line or one model more.
use Rattle.std.proofs.Common.{◌≡◌, ℕ, zero, suc, ◌+◌, ◌<◌, Bool, true, false, not, ◌&&◌, List, [], ◌∷◌, ◌++◌, Option, None, Some, map, flat_map, filter_map, length, take, get_or, refl, sym, ◌∙◌, ap, arith, bytes_eq, position, if◌then◌else◌, Vec, Global, Bor}
use Rattle.std.specs.Prelude.{slice_get, option_map}
use Rattle.tm_circuit.specs.declared.parts.Name.{Name}
use Rattle.std.specs.List.{list_all, position_or_len}
use Rattle.std.proofs.lemmas.List.{append-nil, length-map, get_or-map, map-append, map_more, take-map}
use Rattle.std.proofs.lemmas.List.Elements.{filter_map-append}
use Rattle.std.proofs.lemmas.Option.{slice_get-get_or, slice_get_past}
use Rattle.blif_unit.specs.declared.unit.Unit.{Unit as ModelUnit}
use Rattle.blif_unit.specs.declared.unit.Stated.{Stated}
use Rattle.blif_unit.specs.declared.unit.Statement.{Statement}
use Rattle.blif_unit.specs.declared.unit.Statement.TheVariants.{Inputs, Outputs, Clock, Gate, Latch, Place}
use Rattle.blif_unit.specs.declared.unit.Binding.{Binding}
use Rattle.blif_unit.specs.declared.fault.BlifFault.{BlifFault}
use Rattle.blif_unit.specs.declared.fault.BlifFault.TheVariants as blif
use Rattle.blif_unit.specs.declared.fault.BlifKind.{BlifKind}
use Rattle.blif_unit.specs.declared.fault.BlifKind.TheVariants.{NoModel, UnknownFormal, RepeatedFormal, Unbound}
use Rattle.blif_unit.specs.Fault.{Faulty, OnText}
use Rattle.blif_unit.specs.Unit.{Telling, Model, place, told_of, telling_of, model_of, over, inputs_told, repeats}
use Rattle.blif_flat.specs.declared.formals.Formals.{Formals}
use Rattle.blif_flat.specs.declared.sites.Models.{Models}
use Rattle.blif_flat.specs.Places.{model_named, is_among, formals_of, fault_in_formals, fault_in_binding, fault_in_told, fault_in_telling}
use Rattle.blif_flat.specs.Sites.{Sited, formals_bound, index_of, sites_told, sites_in}
use Rattle.blif_flat.specs.Known.{IsKnown}
use Rattle.blif_flat.proofs.FormalLemmas.{all_at, all_length}
use Rattle.blif_flat.proofs.SiteLemmas.{position_some, position_none, named_at, formals_agree, first_fault, faultless_more, first_part, flat_more, filter_map-concat}

-- ---- rules on formals, one after another

all_map : {X : Type 0} (f : X → List ℕ) (p : List ℕ → Bool) (xs : List X) → list_all (λ x. p (f x)) xs ≡ list_all p (map f xs)
all_map f p [] = refl
all_map f p (x ∷ xs) = ap (λ b. p (f x) && b) (all_map f p xs)

module _ (may : List (List ℕ)) (inputs : List (Bor (List ℕ))) (bs : List Binding) where
  needed : List (List ℕ)
  needed = map (λ (x : Bor (List ℕ)). x.now) inputs

  known_all : (b : Bool) → b ≡ list_all (λ (x : Binding). is_among may x.formal) bs → list_all (is_among may) (formals_bound bs) ≡ b
  known_all b h = sym (all_map (λ (x : Binding). x.formal) (is_among may) bs) ∙ sym h

  bound_all : (bound : List (List ℕ)) (b : Bool) → bound ≡ formals_bound bs → b ≡ list_all (λ (x : Bor (List ℕ)). is_among bound x.now) inputs
      → list_all (is_among (formals_bound bs)) needed ≡ b
  unfolding needed
  bound_all bound b same h =
      ap (λ ns. list_all (is_among ns) (map (λ (x : Bor (List ℕ)). x.now) inputs)) (sym same)
      ∙ sym (all_map (λ (x : Bor (List ℕ)). x.now) (is_among bound) inputs) ∙ sym h

  tested : Bool → Bool → Bool → Option BlifKind
  tested known twice bound = if not known then Some UnknownFormal else if twice then Some RepeatedFormal else if not bound then Some Unbound else None

  faults_are : (known twice bound : Bool) → list_all (is_among may) (formals_bound bs) ≡ known → repeats [] (formals_bound bs) ≡ twice → list_all (is_among (formals_bound bs)) needed ≡ bound
      → fault_in_formals may (map (λ (x : Bor (List ℕ)). x.now) inputs) (formals_bound bs) ≡ tested known twice bound
  unfolding needed tested
  faults_are known twice bound a b c =
      ap (λ t. if not t then Some UnknownFormal else if repeats [] (formals_bound bs) then Some RepeatedFormal
      else if not (list_all (is_among (formals_bound bs)) (map (λ (x : Bor (List ℕ)). x.now) inputs)) then Some Unbound else None) a
      ∙ ap (λ t. if not known then Some UnknownFormal else if t then Some RepeatedFormal
      else if not (list_all (is_among (formals_bound bs)) (map (λ (x : Bor (List ℕ)). x.now) inputs)) then Some Unbound else None) b
      ∙ ap (λ t. if not known then Some UnknownFormal else if twice then Some RepeatedFormal else if not t then Some Unbound else None) c

  pub unknown : (b : Bool) → b ≡ list_all (λ (x : Binding). is_among may x.formal) bs → b ≡ false
      → fault_in_formals may (map (λ (x : Bor (List ℕ)). x.now) inputs) (formals_bound bs) ≡ Some UnknownFormal
  unfolding tested
  unknown b h is = faults_are false _ _ (known_all b h ∙ is) refl refl

  pub repeated : (b : Bool) → b ≡ list_all (λ (x : Binding). is_among may x.formal) bs → b ≡ true → repeats [] (formals_bound bs) ≡ true
      → fault_in_formals may (map (λ (x : Bor (List ℕ)). x.now) inputs) (formals_bound bs) ≡ Some RepeatedFormal
  unfolding tested
  repeated b h is twice = faults_are true true _ (known_all b h ∙ is) twice refl

  pub bound_is : (b t : Bool) (bound : List (List ℕ)) → b ≡ list_all (λ (x : Binding). is_among may x.formal) bs → b ≡ true
      → (repeats [] (formals_bound bs) ≡ false) × (bound ≡ formals_bound bs) → t ≡ list_all (λ (x : Bor (List ℕ)). is_among bound x.now) inputs
      → fault_in_formals may (map (λ (x : Bor (List ℕ)). x.now) inputs) (formals_bound bs) ≡ (if not t then Some Unbound else None)
  unfolding tested
  bound_is b t bound h is once all = faults_are true false t (known_all b h ∙ is) once.0 (bound_all bound t once.1 all)

-- ---- a `.subckt` line, by what is known of models

pub names_of : (us : List ModelUnit) → map (λ (m : Model). m.name) (map model_of us) ≡ map (λ (u : ModelUnit). u.name) us
names_of [] = refl
names_of (u ∷ us) = ap (λ ns. u.name ∷ ns) (names_of us)

-- the place of a name is that of its model
index_at : (us : List ModelUnit) (name : List ℕ) → position_or_len (bytes_eq name) (map (λ (u : ModelUnit). u.name) us) ≡ index_of (map model_of us) name
index_at us name = ap (position_or_len (bytes_eq name)) (sym (names_of us))

module _ (known : Models) (is : IsKnown known) (name : List ℕ) where
  pub missing : None ≡ position (bytes_eq name) known.names → model_named (map model_of known.units.now) name ≡ None
  missing h =
      let none : position (bytes_eq name) (map (λ (u : ModelUnit). u.name) known.units.now) ≡ None = ap (position (bytes_eq name)) (sym is.names) ∙ sym h in
      let past = position_none (bytes_eq name) (map (λ (u : ModelUnit). u.name) known.units.now) none in
      named_at (map model_of known.units.now) name
      ∙ slice_get_past (map model_of known.units.now) (index_of (map model_of known.units.now) name)
      (omega (arith, past, index_at known.units.now name, length-map known.units.now (λ (u : ModelUnit). u.name), length-map known.units.now model_of))

  pub missing_fault : (bs : List Binding) → None ≡ position (bytes_eq name) known.names → fault_in_told (map model_of known.units.now) (place name bs) ≡ Some NoModel
  missing_fault bs h = ap (λ o. fault_in_binding o bs) (missing h)

  module _ (k : ℕ) (at : Some k ≡ position (bytes_eq name) known.names) where
    found : (k < length known.units.now) × (k ≡ index_of (map model_of known.units.now) name)
    found =
        let some : position (bytes_eq name) (map (λ (u : ModelUnit). u.name) known.units.now) ≡ Some k = ap (position (bytes_eq name)) (sym is.names) ∙ sym at in
        let parts = position_some (bytes_eq name) (map (λ (u : ModelUnit). u.name) known.units.now) k some in
        (omega (arith, parts.0, length-map known.units.now (λ (u : ModelUnit). u.name)), parts.1 ∙ index_at known.units.now name)

    pub number_is : k ≡ index_of (map model_of known.units.now) name
    number_is = found.1

    pub number_within : k < length known.formals.items
    number_within = omega (arith, found.0, all_length (map model_of known.units.now) known.formals.items is.formals, length-map known.units.now model_of)

    some_model : (xs : List Model) (j : ℕ) → j < length xs → (m : Model) × (slice_get xs j ≡ Some m)
    some_model [] j w = absurd (omega arith)
    some_model (x ∷ xs) zero w = (x, refl)
    some_model (x ∷ xs) (suc j) w = some_model xs j (omega arith)

    pub told_is : (f : Formals) (bs : List Binding) → f ≡ get_or known.formals.items k f
        → fault_in_told (map model_of known.units.now) (place name bs) ≡ fault_in_formals f.names (map (λ (x : Bor (List ℕ)). x.now) f.inputs.items) (formals_bound bs)
    told_is f bs read =
        let model = some_model (map model_of known.units.now) k (omega (arith, found.0, length-map known.units.now model_of)) in
        let named : model_named (map model_of known.units.now) name ≡ Some model.0 =
        named_at (map model_of known.units.now) name ∙ ap (slice_get (map model_of known.units.now)) (sym found.1) ∙ model.1 in
        let formal : slice_get known.formals.items k ≡ Some f = slice_get-get_or known.formals.items k f number_within ∙ ap (λ y. Some y) (sym read) in
        let own = all_at (map model_of known.units.now) known.formals.items k model.0 f is.formals model.1 formal in
        ap (λ o. fault_in_binding o bs) named
        ∙ sym (formals_agree f.names (formals_of model.0) (map (λ (x : Bor (List ℕ)). x.now) f.inputs.items) (over inputs_told model.0.body) (formals_bound bs) own.names own.inputs)

-- ---- models, one after another

model_at : (us : List ModelUnit) (i : ℕ) (u : ModelUnit) → i < length us → u ≡ get_or us i u → model_of u ≡ get_or (map model_of us) i (model_of u)
model_at us i u within is = ap model_of is ∙ sym (get_or-map model_of us i u (model_of u) within)

-- no fault in one model more
pub faults_more : (h : Telling → Option Faulty) (us : List ModelUnit) (i : ℕ) (u : ModelUnit) → i < length us → u ≡ get_or us i u
    → filter_map h (flat_map (λ (m : Model). m.body) (map model_of (take i us))) ≡ [] → filter_map h (model_of u).body ≡ []
    → filter_map h (flat_map (λ (m : Model). m.body) (map model_of (take (i + 1) us))) ≡ []
faults_more h us i u within is none here =
    ap (filter_map h) (flat_more model_of (λ (m : Model). m.body) us i u within is)
    ∙ filter_map-append h (flat_map (λ (m : Model). m.body) (map model_of (take i us))) (model_of u).body
    ∙ ap (λ ys. ys ++ filter_map h (model_of u).body) none ∙ here

-- the first fault of the first model that has one
pub first_of_models : (h : Telling → Option Faulty) (us : List ModelUnit) (i : ℕ) (u : ModelUnit) (fault : Faulty) → i < length us → u ≡ get_or us i u
    → filter_map h (flat_map (λ (m : Model). m.body) (map model_of (take i us))) ≡ [] → slice_get (filter_map h (model_of u).body) 0 ≡ Some fault
    → slice_get (filter_map h (flat_map (λ (m : Model). m.body) (map model_of us))) 0 ≡ Some fault
first_of_models h us i u fault within is none some =
    let before : flat_map (λ (m : Model). filter_map h m.body) (take i (map model_of us)) ≡ [] =
    ap (flat_map (λ (m : Model). filter_map h m.body)) (take-map model_of i us)
    ∙ sym (filter_map-concat h (λ (m : Model). m.body) (map model_of (take i us))) ∙ none in
    ap (λ fs. slice_get fs 0) (filter_map-concat h (λ (m : Model). m.body) (map model_of us))
    ∙ first_part (λ (m : Model). filter_map h m.body) (map model_of us) i (model_of u) fault (omega (arith, within, length-map us model_of)) (model_at us i u within is) before some

-- ---- statements, one after another

-- the site of one statement more, which has no fault
pub sited_more : (models : List Model) (xs : List Stated) (i : ℕ) (x : Stated) (name : List ℕ) (bs : List Binding) (site : Sited) (sites new : List Sited) → i < length xs → x ≡ get_or xs i x
    → told_of x.what ≡ place name bs → (site ≡ record { model = index_of models name; bindings = bs }) × (fault_in_told models (place name bs) ≡ None)
    → (sites ≡ sites_in models (map telling_of (take i xs))) × (filter_map (fault_in_telling models) (map telling_of (take i xs)) ≡ []) → new ≡ sites ++ site ∷ []
    → (new ≡ sites_in models (map telling_of (take (i + 1) xs))) × (filter_map (fault_in_telling models) (map telling_of (take (i + 1) xs)) ≡ [])
sited_more models xs i x name bs site sites new within is placed made so_far step =
    let here : sites_told models (told_of x.what) ≡ site ∷ [] = ap (sites_told models) placed ∙ ap (λ (s : Sited). s ∷ []) (sym made.0) in
    let faultless : fault_in_told models (told_of x.what) ≡ None = ap (fault_in_told models) placed ∙ made.1 in (
      step ∙ ap (λ ss. ss ++ site ∷ []) so_far.0 ∙ ap (λ ss. sites_in models (map telling_of (take i xs)) ++ ss) (sym here)
          ∙ sym (flat_more telling_of (λ (t : Telling). sites_told models t.what) xs i x within is),
      faultless_more telling_of (fault_in_telling models) xs i x within is so_far.1 (ap (option_map (λ (kind : BlifKind). (x.line, kind))) faultless),
    )

-- a statement more that places nothing
pub unsited_more : (models : List Model) (xs : List Stated) (i : ℕ) (x : Stated) (sites : List Sited) → i < length xs → x ≡ get_or xs i x
    → sites_told models (told_of x.what) ≡ [] → fault_in_told models (told_of x.what) ≡ None
    → (sites ≡ sites_in models (map telling_of (take i xs))) × (filter_map (fault_in_telling models) (map telling_of (take i xs)) ≡ [])
    → (sites ≡ sites_in models (map telling_of (take (i + 1) xs))) × (filter_map (fault_in_telling models) (map telling_of (take (i + 1) xs)) ≡ [])
unsited_more models xs i x sites within is none faultless so_far = (
  so_far.0 ∙ sym (append-nil (sites_in models (map telling_of (take i xs)))) ∙ ap (λ ss. sites_in models (map telling_of (take i xs)) ++ ss) (sym none)
      ∙ sym (flat_more telling_of (λ (t : Telling). sites_told models t.what) xs i x within is),
  faultless_more telling_of (fault_in_telling models) xs i x within is so_far.1 (ap (option_map (λ (kind : BlifKind). (x.line, kind))) faultless),
)

-- what is no place has no site and no fault
pub unplaced : (models : List Model) (s : Statement) → ((name : Name) (bs : Vec Binding Global) → s ≡ Place name bs → ⊥)
    → (sites_told models (told_of s) ≡ []) × (fault_in_told models (told_of s) ≡ None)
unplaced models (Inputs names) none = (refl, refl)
unplaced models (Outputs names) none = (refl, refl)
unplaced models (Clock names) none = (refl, refl)
unplaced models (Gate pins name cover) none = (refl, refl)
unplaced models (Latch next name init control) none = (refl, refl)
unplaced models (Place name bs) none = absurd (none name bs refl)

-- the first line that has a fault
pub fault_of_line : (models : List Model) (xs : List Stated) (i : ℕ) (x : Stated) (name : List ℕ) (bs : List Binding) (fault : Faulty) → i < length xs → x ≡ get_or xs i x
    → filter_map (fault_in_telling models) (map telling_of (take i xs)) ≡ [] → told_of x.what ≡ place name bs
    → option_map (λ (kind : BlifKind). (x.line, kind)) (fault_in_told models (place name bs)) ≡ Some fault
    → slice_get (filter_map (fault_in_telling models) (map telling_of xs)) 0 ≡ Some fault
fault_of_line models xs i x name bs fault within is none placed h =
    let here : fault_in_telling models (telling_of x) ≡ Some fault = ap (λ told. option_map (λ (kind : BlifKind). (x.line, kind)) (fault_in_told models told)) placed ∙ h in
    let read : telling_of x ≡ get_or (map telling_of xs) i (telling_of x) = ap telling_of is ∙ sym (get_or-map telling_of xs i x (telling_of x) within) in
    let before : filter_map (fault_in_telling models) (take i (map telling_of xs)) ≡ [] = ap (filter_map (fault_in_telling models)) (take-map telling_of i xs) ∙ none in
    first_fault (fault_in_telling models) (map telling_of xs) i (telling_of x) fault (omega (arith, within, length-map xs telling_of)) read before here

-- the sites of one model more
pub sites_more : (models : List Model) (us : List ModelUnit) (i : ℕ) (u : ModelUnit) (all new : List (Vec Sited Global)) (v : Vec Sited Global) → i < length us → u ≡ get_or us i u
    → v.items ≡ sites_in models (model_of u).body
    → map (λ (s : Vec Sited Global). s.items) all ≡ map (λ (m : Model). sites_in models m.body) (map model_of (take i us)) → new ≡ all ++ v ∷ []
    → map (λ (s : Vec Sited Global). s.items) new ≡ map (λ (m : Model). sites_in models m.body) (map model_of (take (i + 1) us))
sites_more models us i u all new v within is made so_far step =
    let whole : map (λ (m : Model). sites_in models m.body) (map model_of (take (i + 1) us))
    ≡ map (λ (m : Model). sites_in models m.body) (map model_of (take i us)) ++ sites_in models (model_of u).body ∷ [] =
    ap (map (λ (m : Model). sites_in models m.body)) (map_more model_of us i u within ∙ ap (λ y. map model_of (take i us) ++ model_of y ∷ []) (sym is))
    ∙ map-append (λ (m : Model). sites_in models m.body) (map model_of (take i us)) (model_of u ∷ []) in
    ap (map (λ (s : Vec Sited Global). s.items)) step ∙ map-append (λ (s : Vec Sited Global). s.items) all (v ∷ [])
    ∙ ap (λ ys. ys ++ v.items ∷ []) so_far ∙ ap (λ y. map (λ (m : Model). sites_in models m.body) (map model_of (take i us)) ++ y ∷ []) made ∙ sym whole

-- ---- faults that pass through

-- what a fault says, further on
pub on_text : (e : BlifFault) (P Q : Faulty → Type 0) → ((fault : Faulty) → P fault → Q fault) → OnText e P → OnText e Q
on_text (blif.Text line kind) P Q f h = f (line, kind) h
on_text blif.NoMemory P Q f h = tt
