-- Names of files that differ.
use Rattle.std.proofs.Common.{◌≡◌, ◌≢◌, ℕ, Bool, true, false, not, ◌&&◌, ◌||◌, ◌==◌, List, [], ◌∷◌, Some, length, bytes_eq, refl, subst, sym}
use Rattle.std.proofs.lemmas.Slice.Eq.{bytes_eq-Decides}
use Rattle.turbomap.specs.Names.{is_apart, are_names, files_of}

and_right : (a b : Bool) → (a && b) ≡ true → b ≡ true
and_right true b is = is
and_right false b is = absurd cc

and_left : (a b : Bool) → (a && b) ≡ true → a ≡ true
and_left true b is = refl
and_left false b is = absurd cc

-- OUT and CERT have different names
pub output_apart : (input output certificate : List ℕ) → are_names (files_of input output (Some certificate)) ≡ true → output ≢ certificate
output_apart input output certificate named same =
    let others : are_names (output ∷ certificate ∷ []) ≡ true = and_right (is_apart input (output ∷ certificate ∷ [])) _ named in
    let apart : is_apart output (certificate ∷ []) ≡ true = and_left (is_apart output (certificate ∷ [])) _ others in
    let free : not (bytes_eq certificate output || false) ≡ true = and_right (not (length output == 0)) _ apart in
    never (bytes_eq certificate output) (subst (λ (name : List ℕ). bytes_eq certificate name ≡ true) (sym same) (equal certificate)) free
  where
    equal : (name : List ℕ) → bytes_eq name name ≡ true
    equal name = (bytes_eq-Decides name name).1 refl

    never : (b : Bool) → b ≡ true → not (b || false) ≡ true → ⊥
    never true is free = cc
    never false is free = cc
