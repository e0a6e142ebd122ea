-- How the signals of three lists of parts lie, one list after another.
use Rattle.std.proofs.Common.{◌≡◌, ℕ, zero, suc, ◌+◌, ◌<◌, ◌⊎◌, inl, inr, Bool, true, false, cond, List, [], ◌∷◌, ◌++◌, map, length, Some, refl, sym, ◌∙◌, ap, subst, arith, length-append}
use Rattle.std.specs.Prelude.{slice_get, count_by}
use Rattle.std.proofs.lemmas.List.{length-map}
use Rattle.std.proofs.lemmas.List.Sums.{sum_by-cons, sum_by-append}
use Rattle.tm_circuit.specs.declared.draft.Draft.{Draft}
use Rattle.tm_circuit.specs.declared.parts.GatePart.{GatePart}
use Rattle.tm_circuit.specs.declared.parts.LatchPart.{LatchPart}
use Rattle.tm_circuit.specs.Plain.{Drive, input, latch, gate, drive_of, is_input, is_latch, input_count, latch_count}
use Rattle.tm_circuit.specs.Sound.{IsPlaced}
use Rattle.tm_circuit.specs.Draft.{IsLaidOut}

-- an element of two lists end to end stands in the first, or so far into the second
pub get-append-cases : {X : Type 0} (xs ys : List X) (s : ℕ) (e : X) → slice_get (xs ++ ys) s ≡ Some e
    → (slice_get xs s ≡ Some e) ⊎ ((k : ℕ) × (s ≡ length xs + k) × (slice_get ys k ≡ Some e))
get-append-cases [] ys s e h = inr (s, omega arith, h)
get-append-cases (x ∷ xs) ys zero e h = inl h
get-append-cases (x ∷ xs) ys (suc s) e h =
    elim (get-append-cases xs ys s e h) [ inl p ↦ inl p | inr q ↦ inr (q.0, omega (arith, q.1), q.2) ]

-- an element of a mapped list is mapped
pub get-map : {X Y : Type 0} (f : X → Y) (xs : List X) (s : ℕ) (e : Y) → slice_get (map f xs) s ≡ Some e → (x : X) × (s < length xs) × (f x ≡ e)
get-map f [] s e h = cc
get-map f (x ∷ xs) zero e h = (x, omega arith, cc)
get-map f (x ∷ xs) (suc s) e h = let r = get-map f xs s e h in (r.0, omega (arith, r.1), r.2)

-- all of a mapped list count where each does
pub count-map_all : {X : Type 0} (p : Drive → Bool) (f : X → Drive) → ((x : X) → p (f x) ≡ true) → (xs : List X) → count_by p (map f xs) ≡ length xs
count-map_all p f h [] = refl
count-map_all p f h (x ∷ xs) =
    let step = sum_by-cons (λ (d : Drive). cond (p d) 1 0) (f x) (map f xs) in
    let one = ap (λ (b : Bool). cond {A = ℕ} b 1 0) (h x) in
    let rest = count-map_all p f h xs in omega arith

-- none of a mapped list counts where none does
pub count-map_none : {X : Type 0} (p : Drive → Bool) (f : X → Drive) → ((x : X) → p (f x) ≡ false) → (xs : List X) → count_by p (map f xs) ≡ 0
count-map_none p f h [] = refl
count-map_none p f h (x ∷ xs) =
    let step = sum_by-cons (λ (d : Drive). cond (p d) 1 0) (f x) (map f xs) in
    let none = ap (λ (b : Bool). cond {A = ℕ} b 1 0) (h x) in
    let rest = count-map_none p f h xs in omega arith

-- the drives of three lists of parts
drives : List (List ℕ) → List LatchPart → List GatePart → List Drive
drives ns ls gs = map (λ _. input) ns ++ map (λ l. latch l.next l.init) ls ++ map (λ g. gate g.pins.items g.cover) gs

module _ (ns : List (List ℕ)) (ls : List LatchPart) (gs : List GatePart) where
  counted : (p : Drive → Bool) → count_by p (drives ns ls gs)
      ≡ count_by p (map (λ (_ : List ℕ). input) ns) + count_by p (map (λ (l : LatchPart). latch l.next l.init) ls) + count_by p (map (λ (g : GatePart). gate g.pins.items g.cover) gs)
  unfolding drives
  counted p =
      let n : Drive → ℕ = λ d. cond (p d) 1 0 in
      let a = map (λ (_ : List ℕ). input) ns in
      let b = map (λ (l : LatchPart). latch l.next l.init) ls in
      let e = map (λ (g : GatePart). gate g.pins.items g.cover) gs in
      omega (arith, sum_by-append n (a ++ b) e, sum_by-append n a b)

  inputs_counted : input_count (drives ns ls gs) ≡ length ns
  inputs_counted =
      omega (
        arith,
        counted is_input,
        count-map_all is_input (λ (_ : List ℕ). input) (λ _. refl) ns,
        count-map_none is_input (λ (l : LatchPart). latch l.next l.init) (λ _. refl) ls,
        count-map_none is_input (λ (g : GatePart). gate g.pins.items g.cover) (λ _. refl) gs,
      )

  latches_counted : latch_count (drives ns ls gs) ≡ length ls
  latches_counted =
      omega (
        arith,
        counted is_latch,
        count-map_none is_latch (λ (_ : List ℕ). input) (λ _. refl) ns,
        count-map_all is_latch (λ (l : LatchPart). latch l.next l.init) (λ _. refl) ls,
        count-map_none is_latch (λ (g : GatePart). gate g.pins.items g.cover) (λ _. refl) gs,
      )

  placed_input : (s : ℕ) (e : Drive) → slice_get (map (λ (_ : List ℕ). input) ns) s ≡ Some e → IsPlaced (length ns) (length ls) s e
  placed_input s e h = let r = get-map (λ (_ : List ℕ). input) ns s e h in subst (λ d. IsPlaced (length ns) (length ls) s d) r.2 r.1

  placed_latch : (s k : ℕ) (e : Drive) → s ≡ length ns + k → slice_get (map (λ (l : LatchPart). latch l.next l.init) ls) k ≡ Some e → IsPlaced (length ns) (length ls) s e
  placed_latch s k e is h =
      let r = get-map (λ (l : LatchPart). latch l.next l.init) ls k e h in
      subst (λ d. IsPlaced (length ns) (length ls) s d) r.2 (omega arith, omega (arith, r.1))

  placed_gate : (s k : ℕ) (e : Drive) → s ≡ length ns + length ls + k → slice_get (map (λ (g : GatePart). gate g.pins.items g.cover) gs) k ≡ Some e
      → IsPlaced (length ns) (length ls) s e
  placed_gate s k e is h =
      let r = get-map (λ (g : GatePart). gate g.pins.items g.cover) gs k e h in
      subst (λ d. IsPlaced (length ns) (length ls) s d) r.2 (omega arith)

  placed : (s : ℕ) (e : Drive) → slice_get (drives ns ls gs) s ≡ Some e → IsPlaced (length ns) (length ls) s e
  unfolding drives
  placed s e h =
      let a = map (λ (_ : List ℕ). input) ns in
      let b = map (λ (l : LatchPart). latch l.next l.init) ls in
      let inputs : length a ≡ length ns = length-map ns (λ (_ : List ℕ). input) in
      let latches : length b ≡ length ls = length-map ls (λ (l : LatchPart). latch l.next l.init) in
      let both : length (a ++ b) ≡ length a + length b = length-append a b in
      elim (get-append-cases (a ++ b) (map (λ (g : GatePart). gate g.pins.items g.cover) gs) s e h) [
        | inl first ↦ elim (get-append-cases a b s e first) [
          | inl p ↦ placed_input s e p
          | inr q ↦ placed_latch s q.0 e (omega (arith, q.1)) q.2
        ]
        | inr q ↦ placed_gate s q.0 e (omega (arith, q.1)) q.2
      ]

-- a draft made of three lists of parts is laid out
pub laid_out : (d : Draft) (ns : List (List ℕ)) (ls : List LatchPart) (gs : List GatePart)
    → d.names.items ≡ ns ++ map (λ l. l.name) ls ++ map (λ g. g.name) gs
    → map drive_of d.drivers.items ≡ map (λ _. input) ns ++ map (λ l. latch l.next l.init) ls ++ map (λ g. gate g.pins.items g.cover) gs
    → d.inputs ≡ length ns → d.latches ≡ length ls → IsLaidOut d
unfolding drives
laid_out d ns ls gs names is inputs latches = record {
  named = simp (names, is, length-append, length-map) (omega arith);
  inputs = inputs ∙ sym (inputs_counted ns ls gs) ∙ subst (λ ds. input_count (drives ns ls gs) ≡ input_count ds) (sym is) refl;
  latches = latches ∙ sym (latches_counted ns ls gs) ∙ subst (λ ds. latch_count (drives ns ls gs) ≡ latch_count ds) (sym is) refl;
  placed = λ s e h. rw (inputs, latches) (placed ns ls gs s e (rw is at h));
}
