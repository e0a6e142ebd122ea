-- The flat unit of fit models is fit, and places no model.
use Rattle.std.proofs.Common.{◌≡◌, ℕ, zero, suc, ◌+◌, ◌/◌, ◌%◌, ◌<◌, ◌≤◌, Bool, true, false, cond, ltb, ltb-false, eqb, List, [], ◌∷◌, ◌++◌, Option, None, Some, length, map, flat_map, replicate, refl, sym, ◌∙◌, ap, subst, arith, bytes_eq, codes, length-append}
use Rattle.std.specs.Prelude.{All}
use Rattle.std.specs.List.{AllByRecursion}
use Rattle.std.specs.Fmt.{decimal, digits, digits_onto, digit_glyph}
use Rattle.std.proofs.lemmas.List.{append-nil, length-map}
use Rattle.std.proofs.lemmas.List.Concat.{flat_map-append}
use Rattle.std.proofs.lemmas.List.Elements.{All-nil, All-cons, All-append, All-replicate}
use Rattle.tm_bits.specs.Rows.{HasWidth}
use Rattle.tm_circuit.specs.Plain.{greatest}
use Rattle.tm_circuit.specs.Sound.{IsNameByte}
use Rattle.tm_parts.specs.Runs.{longest_run}
use Rattle.blif_unit.specs.declared.unit.Binding.{Binding}
use Rattle.blif_unit.specs.declared.unit.Control.{Control}
use Rattle.blif_unit.specs.Fit.{names_told, names_bound, IsPlainName, IsNameWithin, HasShape, PlacesNone, IsFit, AreFit}
use Rattle.blif_unit.specs.Unit as unit
use Rattle.blif_unit.specs.Unit.{Told, Telling, Model, over, inputs_told, outputs_told, controls_named, AreDistinct}
use Rattle.blif_circuit.proofs.SignalUses.{all-left, all-right, all-both}
use Rattle.blif_flat.specs.Limits.{most_levels}
use Rattle.blif_flat.specs.Places.{model_named}
use Rattle.blif_flat.specs.Flat.{body_of, inside, joiner_of, names_in, suffix_of, name_within, bound_by, control_by, told_by, bindings_told, number_after, flat_parts, flat_from, flat_body, flat_of}

-- ---- bytes of names

digit_byte : (n : ℕ) → IsNameByte (digit_glyph false (n % 10))
digit_byte n = by_test (n % 10) (ltb (n % 10) 10) (omega arith) refl
  where
    by_test : (d : ℕ) (b : Bool) → d < 10 → ltb d 10 ≡ b → IsNameByte (cond b (48 + d) (87 + d))
    by_test d true less is = (omega arith, omega arith, (λ e. omega arith), (λ e. omega arith))
    by_test d false less is = absurd (let more = ltb-false d 10 is in omega (arith, more))

digits_plain : (k n : ℕ) (acc : List ℕ) → All IsNameByte acc → All IsNameByte (digits_onto k 10 false n acc)
digits_plain zero n acc all = all
digits_plain (suc k) n acc all =
    let more : All IsNameByte (digit_glyph false (n % 10) ∷ acc) = All-cons IsNameByte (digit_glyph false (n % 10)) acc (digit_byte n) all in
    either (eqb (n / 10) 0) (digit_glyph false (n % 10) ∷ acc) (digits_onto k 10 false (n / 10) (digit_glyph false (n % 10) ∷ acc)) more (digits_plain k (n / 10) (digit_glyph false (n % 10) ∷ acc) more)
  where
    either : (b : Bool) (xs ys : List ℕ) → All IsNameByte xs → All IsNameByte ys → All IsNameByte (cond b xs ys)
    either true xs ys p q = p
    either false xs ys p q = q

decimal_plain : (n : ℕ) → All IsNameByte (decimal n)
unfolding digits
decimal_plain n = digits_plain 64 n [] (All-nil IsNameByte)

joiner_plain : (n : ℕ) → All IsNameByte (replicate n 64)
joiner_plain n = All-replicate IsNameByte n 64 (omega arith, omega arith, (λ e. omega arith), (λ e. omega arith))

-- ---- names of an instance

-- What the names of an instance become is plain.
pub record IsSeen (suffix : List ℕ) (bound : List Binding) : Type 0 where
  pub ends : All IsNameByte suffix
  pub actuals : AllByRecursion (λ b. IsPlainName b.actual) bound

name_plain : (suffix : List ℕ) (bound : List Binding) (n : List ℕ) → All IsNameByte suffix → AllByRecursion (λ b. IsPlainName b.actual) bound → IsPlainName n
    → IsPlainName (name_within suffix bound n)
name_plain suffix [] n s all plain = record {
  some = let is = plain.some in omega (arith, is, length-append n suffix);
  lawful = All-append IsNameByte n suffix plain.lawful s;
}
name_plain suffix (b ∷ bound) n s all plain = by_test (bytes_eq n b.formal) (name_plain suffix bound n s all.1 plain)
  where
    by_test : (t : Bool) → IsPlainName (name_within suffix bound n) → IsPlainName (cond t b.actual (name_within suffix bound n))
    by_test true rest = all.0
    by_test false rest = rest

names_plain : (suffix : List ℕ) (bound : List Binding) (ns : List (List ℕ)) → IsSeen suffix bound → AllByRecursion IsPlainName ns
    → AllByRecursion IsPlainName (map (name_within suffix bound) ns)
names_plain suffix bound [] seen all = tt
names_plain suffix bound (n ∷ ns) seen all = (name_plain suffix bound n seen.ends seen.actuals all.0, names_plain suffix bound ns seen all.1)

-- what formals are bound to, inside
bound_plain : (suffix : List ℕ) (bound bindings : List Binding) → IsSeen suffix bound → AllByRecursion IsPlainName (flat_map names_bound bindings)
    → AllByRecursion (λ b. IsPlainName b.actual) (bound_by (name_within suffix bound) bindings)
bound_plain suffix bound [] seen all = tt
bound_plain suffix bound (b ∷ bindings) seen all =
    (name_plain suffix bound b.actual seen.ends seen.actuals all.1.0, bound_plain suffix bound bindings seen all.1.1)

-- ---- statements

-- The statement is one of a flat unit.
pub record IsFlatTold (told : Told) : Type 0 where
  pub names : AllByRecursion IsPlainName (names_told told)
  pub shape : HasShape told
  pub alone : PlacesNone told

latch_shaped : (rename : List ℕ → List ℕ) (next name : List ℕ) (init : Bool) (control : Option Control) → HasShape (unit.latch (rename next) (rename name) init (control_by rename control))
latch_shaped rename next name init None = tt
latch_shaped rename next name init (Some control) = by_test (bytes_eq (rename control.name) (codes "NIL")) refl
  where
    by_test : (t : Bool) → bytes_eq (rename control.name) (codes "NIL") ≡ t
        → HasShape (unit.latch (rename next) (rename name) init (cond t None (Some (record { name = rename control.name; edge = control.edge }))))
    by_test true is = tt
    by_test false is = is

control_plain : (rename : List ℕ → List ℕ) (control : Option Control) → ((n : List ℕ) → IsPlainName n → IsPlainName (rename n))
    → AllByRecursion IsPlainName (controls_named control) → AllByRecursion IsPlainName (controls_named (control_by rename control))
control_plain rename None plain all = tt
control_plain rename (Some control) plain all = by_test (bytes_eq (rename control.name) (codes "NIL"))
  where
    by_test : (t : Bool) → AllByRecursion IsPlainName (controls_named (cond t None (Some (record { name = rename control.name; edge = control.edge }))))
    by_test true = tt
    by_test false = (plain control.name all.0, tt)

inputs_flat : (top : Bool) (names : List (List ℕ)) → AllByRecursion IsPlainName names → AllByRecursion IsFlatTold (cond top (unit.inputs names ∷ []) [])
inputs_flat true names all = (record { names = all; shape = tt; alone = tt }, tt)
inputs_flat false names all = tt

outputs_flat : (top : Bool) (names : List (List ℕ)) → AllByRecursion IsPlainName names → AllByRecursion IsFlatTold (cond top (unit.outputs names ∷ []) [])
outputs_flat true names all = (record { names = all; shape = tt; alone = tt }, tt)
outputs_flat false names all = tt

told_flat : (top : Bool) (suffix : List ℕ) (bound : List Binding) (told : Told) → IsSeen suffix bound → AllByRecursion IsPlainName (names_told told) → HasShape told
    → AllByRecursion IsFlatTold (told_by top (name_within suffix bound) told)
told_flat top suffix bound (unit.inputs names) seen all shape = inputs_flat top names all
told_flat top suffix bound (unit.outputs names) seen all shape = outputs_flat top names all
told_flat top suffix bound (unit.clock names) seen all shape = (record { names = names_plain suffix bound names seen all; shape = tt; alone = tt }, tt)
told_flat top suffix bound (unit.gate pins name cover) seen all shape =
    let many : length pins ≡ length (map (name_within suffix bound) pins) = sym (length-map pins (name_within suffix bound)) in
    let here = all-right IsPlainName pins (name ∷ []) all in (
      record {
        names = all-both IsPlainName (map (name_within suffix bound) pins) (name_within suffix bound name ∷ [])
            (names_plain suffix bound pins seen (all-left IsPlainName pins (name ∷ []) all))
            (name_plain suffix bound name seen.ends seen.actuals here.0, tt);
        shape = (subst (HasWidth cover) many shape.0, subst (λ n. n ≤ 255) many shape.1);
        alone = tt;
      },
      tt,
    )
told_flat top suffix bound (unit.latch next name init control) seen all shape = (
  record {
    names = (
      name_plain suffix bound next seen.ends seen.actuals all.0,
      (
        name_plain suffix bound name seen.ends seen.actuals all.1.0,
        control_plain (name_within suffix bound) control (λ n plain. name_plain suffix bound n seen.ends seen.actuals plain) all.1.1,
      ),
    );
    shape = latch_shaped (name_within suffix bound) next name init control;
    alone = tt;
  },
  tt,
)
told_flat top suffix bound (unit.place name bindings) seen all shape = tt

-- ---- models

-- These statements are fit to be placed.
pub record IsFitBody (body : List Telling) : Type 0 where
  pub names : AllByRecursion IsPlainName (over names_told body)
  pub shaped : AllByRecursion (λ (t : Telling). HasShape t.what) body

found_fit : (models : List Model) (name : List ℕ) → AllByRecursion IsFit models → IsFitBody (body_of (model_named models name))
found_fit [] name all = record { names = tt; shaped = tt }
found_fit (m ∷ models) name all = by_test (bytes_eq name m.name) (found_fit models name all.1)
  where
    by_test : (t : Bool) → IsFitBody (body_of (model_named models name)) → IsFitBody (body_of (cond t (Some m) (model_named models name)))
    by_test true rest = record { names = all.0.names; shaped = all.0.shaped }
    by_test false rest = rest

inside_fit : (models : List Model) (told : Told) → AllByRecursion IsFit models → IsFitBody (inside models told)
inside_fit models (unit.inputs names) all = record { names = tt; shaped = tt }
inside_fit models (unit.outputs names) all = record { names = tt; shaped = tt }
inside_fit models (unit.clock names) all = record { names = tt; shaped = tt }
inside_fit models (unit.gate pins name cover) all = record { names = tt; shaped = tt }
inside_fit models (unit.latch next name init control) all = record { names = tt; shaped = tt }
inside_fit models (unit.place name bindings) all = found_fit models name all

bindings_plain : (told : Told) → AllByRecursion IsPlainName (names_told told) → AllByRecursion IsPlainName (flat_map names_bound (bindings_told told))
bindings_plain (unit.inputs names) all = tt
bindings_plain (unit.outputs names) all = tt
bindings_plain (unit.clock names) all = tt
bindings_plain (unit.gate pins name cover) all = tt
bindings_plain (unit.latch next name init control) all = tt
bindings_plain (unit.place name bindings) all = all.1

suffix_plain : (runs : ℕ) (suffix : List ℕ) (k : ℕ) → All IsNameByte suffix → All IsNameByte (suffix_of (replicate runs 64) suffix k)
suffix_plain runs suffix k plain =
    All-append IsNameByte (suffix ++ replicate runs 64) (decimal k) (All-append IsNameByte suffix (replicate runs 64) plain (joiner_plain runs)) (decimal_plain k)

mapped_flat : (line : ℕ) (all : List Told) → AllByRecursion IsFlatTold all → AllByRecursion (λ (t : Telling). IsFlatTold t.what) (map (λ told. record { line = line; what = told }) all)
mapped_flat line [] h = tt
mapped_flat line (told ∷ all) h = (h.0, mapped_flat line all h.1)

module _ (models : List Model) (runs : ℕ) (fit : AllByRecursion IsFit models) where
  parts_flat : (instance : List ℕ → List Binding → List Telling → List Telling)
      → ((suffix : List ℕ) (bound : List Binding) (body : List Telling) → IsSeen suffix bound → IsFitBody body → AllByRecursion (λ (t : Telling). IsFlatTold t.what) (instance suffix bound body))
      → (top : Bool) (suffix : List ℕ) (bound : List Binding) (k : ℕ) (body : List Telling) → IsSeen suffix bound → IsFitBody body
      → AllByRecursion (λ (t : Telling). IsFlatTold t.what) (flat_parts instance models (replicate runs 64) top suffix bound k body)
  parts_flat instance each top suffix bound k [] seen is = tt
  parts_flat instance each top suffix bound k (t ∷ body) seen is =
      let here = all-left IsPlainName (names_told t.what) (over names_told body) is.names in
      let own = mapped_flat t.line (told_by top (name_within suffix bound) t.what) (told_flat top suffix bound t.what seen here is.shaped.0) in
      let inner = each (suffix_of (replicate runs 64) suffix k) (bound_by (name_within suffix bound) (bindings_told t.what)) (inside models t.what)
      (record { ends = suffix_plain runs suffix k seen.ends; actuals = bound_plain suffix bound (bindings_told t.what) seen (bindings_plain t.what here) })
      (inside_fit models t.what fit) in
      let rest = parts_flat instance each top suffix bound (number_after k t.what) body seen
      (record { names = all-right IsPlainName (names_told t.what) (over names_told body) is.names; shaped = is.shaped.1 }) in
      all-both (λ (s : Telling). IsFlatTold s.what) _ _ (all-both (λ (s : Telling). IsFlatTold s.what) _ _ own inner) rest

  pub from_flat : (levels : ℕ) (top : Bool) (suffix : List ℕ) (bound : List Binding) (body : List Telling) → IsSeen suffix bound → IsFitBody body
      → AllByRecursion (λ (t : Telling). IsFlatTold t.what) (flat_from levels models (replicate runs 64) top suffix bound body)
  from_flat zero top suffix bound body seen is = parts_flat (λ s b ts. []) (λ s b ts seen' is'. tt) top suffix bound 1 body seen is
  from_flat (suc n) top suffix bound body seen is =
      parts_flat (flat_from n models (replicate runs 64) false) (λ s b ts seen' is'. from_flat n false s b ts seen' is') top suffix bound 1 body seen is

-- ---- names that only the top brings

over_mapped : (f : Told → List (List ℕ)) (line : ℕ) (all : List Told) → over f (map (λ told. record { line = line; what = told }) all) ≡ flat_map f all
over_mapped f line [] = refl
over_mapped f line (told ∷ all) = ap (λ ns. f told ++ ns) (over_mapped f line all)

-- The names are those of the top's own statements, and instances bring none.
pub record IsOfTop (f : Told → List (List ℕ)) : Type 0 where
  pub own : (rename : List ℕ → List ℕ) (told : Told) → flat_map f (told_by true rename told) ≡ f told
  pub none : (rename : List ℕ → List ℕ) (told : Told) → flat_map f (told_by false rename told) ≡ []

module _ (models : List Model) (joiner : List ℕ) (f : Told → List (List ℕ)) (is : IsOfTop f) where
  parts_over : (instance : List ℕ → List Binding → List Telling → List Telling) (names : Told → List (List ℕ)) (top : Bool) (suffix : List ℕ) (bound : List Binding) (k : ℕ) (body : List Telling)
      → ((s : List ℕ) (b : List Binding) (ts : List Telling) → over f (instance s b ts) ≡ [])
      → ((told : Told) → flat_map f (told_by top (name_within suffix bound) told) ≡ names told)
      → over f (flat_parts instance models joiner top suffix bound k body) ≡ over names body
  parts_over instance names top suffix bound k [] inner own = refl
  parts_over instance names top suffix bound k (t ∷ body) inner own =
      let here : List Telling = map (λ told. record { line = t.line; what = told }) (told_by top (name_within suffix bound) t.what) in
      let there : List Telling = instance (suffix_of joiner suffix k) (bound_by (name_within suffix bound) (bindings_told t.what)) (inside models t.what) in
      let rest : List Telling = flat_parts instance models joiner top suffix bound (number_after k t.what) body in
      let first : over f here ≡ names t.what = over_mapped f t.line (told_by top (name_within suffix bound) t.what) ∙ own t.what in
      let second : over f there ≡ [] = inner (suffix_of joiner suffix k) (bound_by (name_within suffix bound) (bindings_told t.what)) (inside models t.what) in
      let both : over f (here ++ there) ≡ names t.what = flat_map-append (λ s. f s.what) here there ∙ ap (λ ns. over f here ++ ns) second ∙ append-nil (over f here) ∙ first in
      flat_map-append (λ s. f s.what) (here ++ there) rest ∙ ap (λ ns. ns ++ over f rest) both
      ∙ ap (λ ns. names t.what ++ ns) (parts_over instance names top suffix bound (number_after k t.what) body inner own)

  over_nothing : (body : List Telling) → over (λ told. []) body ≡ []
  over_nothing [] = refl
  over_nothing (t ∷ body) = over_nothing body

  from_none : (levels : ℕ) (suffix : List ℕ) (bound : List Binding) (body : List Telling) → over f (flat_from levels models joiner false suffix bound body) ≡ []
  from_none zero suffix bound body =
      parts_over (λ s b ts. []) (λ told. []) false suffix bound 1 body (λ s b ts. refl) (is.none (name_within suffix bound)) ∙ over_nothing body
  from_none (suc n) suffix bound body =
      parts_over (flat_from n models joiner false) (λ told. []) false suffix bound 1 body (from_none n) (is.none (name_within suffix bound)) ∙ over_nothing body

  pub from_own : (levels : ℕ) (suffix : List ℕ) (bound : List Binding) (body : List Telling) → over f (flat_from levels models joiner true suffix bound body) ≡ over f body
  from_own zero suffix bound body = parts_over (λ s b ts. []) f true suffix bound 1 body (λ s b ts. refl) (is.own (name_within suffix bound))
  from_own (suc n) suffix bound body = parts_over (flat_from n models joiner false) f true suffix bound 1 body (from_none n) (is.own (name_within suffix bound))

pub outputs_of_top : IsOfTop outputs_told
outputs_of_top = record { own = own; none = none }
  where
    own : (rename : List ℕ → List ℕ) (told : Told) → flat_map outputs_told (told_by true rename told) ≡ outputs_told told
    own rename (unit.inputs names) = refl
    own rename (unit.outputs names) = append-nil names
    own rename (unit.clock names) = refl
    own rename (unit.gate pins name cover) = refl
    own rename (unit.latch next name init control) = refl
    own rename (unit.place name bindings) = refl

    none : (rename : List ℕ → List ℕ) (told : Told) → flat_map outputs_told (told_by false rename told) ≡ []
    none rename (unit.inputs names) = refl
    none rename (unit.outputs names) = refl
    none rename (unit.clock names) = refl
    none rename (unit.gate pins name cover) = refl
    none rename (unit.latch next name init control) = refl
    none rename (unit.place name bindings) = refl

pub inputs_of_top : IsOfTop inputs_told
inputs_of_top = record { own = own; none = none }
  where
    own : (rename : List ℕ → List ℕ) (told : Told) → flat_map inputs_told (told_by true rename told) ≡ inputs_told told
    own rename (unit.inputs names) = append-nil names
    own rename (unit.outputs names) = refl
    own rename (unit.clock names) = refl
    own rename (unit.gate pins name cover) = refl
    own rename (unit.latch next name init control) = refl
    own rename (unit.place name bindings) = refl

    none : (rename : List ℕ → List ℕ) (told : Told) → flat_map inputs_told (told_by false rename told) ≡ []
    none rename (unit.inputs names) = refl
    none rename (unit.outputs names) = refl
    none rename (unit.clock names) = refl
    none rename (unit.gate pins name cover) = refl
    none rename (unit.latch next name init control) = refl
    none rename (unit.place name bindings) = refl

-- ---- the flat unit

names_of_flat : (body : List Telling) → AllByRecursion (λ (t : Telling). IsFlatTold t.what) body → AllByRecursion IsPlainName (over names_told body)
names_of_flat [] all = tt
names_of_flat (t ∷ body) all = all-both IsPlainName (names_told t.what) (over names_told body) all.0.names (names_of_flat body all.1)

shapes_of_flat : (body : List Telling) → AllByRecursion (λ (t : Telling). IsFlatTold t.what) body → AllByRecursion (λ (t : Telling). HasShape t.what) body
shapes_of_flat [] all = tt
shapes_of_flat (t ∷ body) all = (all.0.shape, shapes_of_flat body all.1)

alone_of_flat : (body : List Telling) → AllByRecursion (λ (t : Telling). IsFlatTold t.what) body → AllByRecursion (λ (t : Telling). PlacesNone t.what) body
alone_of_flat [] all = tt
alone_of_flat (t ∷ body) all = (all.0.alone, alone_of_flat body all.1)

-- What the reader of one unit asks of the flat unit.
pub record IsAlone (most : ℕ) (m : Model) : Type 0 where
  pub fit : IsFit m
  pub alone : AllByRecursion (λ (t : Telling). PlacesNone t.what) m.body
  pub own : IsNameWithin most m.name

pub flat_alone : (most : ℕ) (models : List Model) → AreFit most models → IsAlone most (flat_of models)
flat_alone most [] are = absurd are.top
flat_alone most (top ∷ others) are =
    let all : AllByRecursion (λ (t : Telling). IsFlatTold t.what) (flat_from most_levels (top ∷ others) (joiner_of (top ∷ others)) true [] [] top.body) =
    from_flat (top ∷ others) (suc (greatest (map (longest_run 64) (names_in (top ∷ others))))) are.fit most_levels true [] [] top.body
    (record { ends = All-nil IsNameByte; actuals = tt }) (record { names = are.fit.0.names; shaped = are.fit.0.shaped }) in
    record {
      fit = record {
        model = are.fit.0.model;
        names = names_of_flat (flat_body (top ∷ others) top.body) all;
        outputs_once = subst AreDistinct (sym (from_own (top ∷ others) (joiner_of (top ∷ others)) outputs_told outputs_of_top most_levels [] [] top.body)) are.fit.0.outputs_once;
        shaped = shapes_of_flat (flat_body (top ∷ others) top.body) all;
      };
      alone = alone_of_flat (flat_body (top ∷ others) top.body) all;
      own = are.top;
    }
