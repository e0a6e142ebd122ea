-- Room that is spent name by name and statement by statement, and the size of a flat unit.
use Rattle.std.proofs.Common.{◌≡◌, ℕ, zero, suc, ◌+◌, ◌<◌, ◌≤◌, List, [], ◌∷◌, ◌++◌, map, sum, length, take, get_or, refl, sym, ◌∙◌, ap, arith}
use Rattle.std.proofs.lemmas.List.{map_more, map-append}
use Rattle.std.proofs.lemmas.List.Sums.{sum_by-cons, sum_by-append}
use Rattle.blif_unit.specs.declared.fault.BlifFault.{BlifFault}
use Rattle.blif_unit.specs.declared.fault.BlifFault.TheVariants.{Text, NoMemory}
use Rattle.blif_unit.specs.declared.fault.BlifKind.TheVariants.{TooLarge}
use Rattle.blif_unit.specs.Fault.{Faulty, OnText}
use Rattle.blif_unit.specs.Fit.{names_told}
use Rattle.blif_unit.specs.Unit.{Told, Telling, over}
use Rattle.blif_flat.specs.Flat.{places_in}
use Rattle.blif_flat.specs.Size.{bytes_of, weight, weight_told, weight_of}

-- ---- sums

pub sum-cons : (x : ℕ) (xs : List ℕ) → sum (x ∷ xs) ≡ x + sum xs
sum-cons x xs = sum_by-cons (λ (y : ℕ). y) x xs

pub sum-append : (xs ys : List ℕ) → sum (xs ++ ys) ≡ sum xs + sum ys
sum-append xs ys = sum_by-append (λ (y : ℕ). y) xs ys

-- the sum over one element more
pub sum_more : {X : Type 0} (f : X → ℕ) (xs : List X) (i : ℕ) (x : X) → i < length xs → x ≡ get_or xs i x → sum (map f (take (i + 1) xs)) ≡ sum (map f (take i xs)) + f x
sum_more f xs i x within is =
    ap sum (map_more f xs i x within ∙ ap (λ y. map f (take i xs) ++ f y ∷ []) (sym is))
    ∙ sum-append (map f (take i xs)) (f x ∷ []) ∙ ap (λ n. sum (map f (take i xs)) + n) (sum-cons (f x) [] ∙ omega arith)

-- the sum over the first elements is at most that over all
pub sum_front : {X : Type 0} (f : X → ℕ) (xs : List X) (i : ℕ) → sum (map f (take i xs)) ≤ sum (map f xs)
sum_front f xs zero = omega arith
sum_front f [] (suc i) = omega arith
sum_front f (x ∷ xs) (suc i) =
    let rest = sum_front f xs i in
    let one = sum-cons (f x) (map f (take i xs)) in
    let two = sum-cons (f x) (map f xs) in
    omega (arith, rest, one, two)

-- ---- faults

pub on_text : (e : BlifFault) (P Q : Faulty → Type 0) → ((f : Faulty) → P f → Q f) → OnText e P → OnText e Q
on_text (Text line kind) P Q h p = h (line, kind) p
on_text NoMemory P Q h p = tt

-- A fault for want of room stays one where the cost is greater.
pub still_large : (e : BlifFault) (room room' cost cost' : ℕ) → OnText e (λ fault. (fault ≡ (0, TooLarge)) × (room < cost)) → (room < cost → room' < cost')
    → OnText e (λ fault. (fault ≡ (0, TooLarge)) × (room' < cost'))
still_large e room room' cost cost' h more = on_text e (λ fault. (fault ≡ (0, TooLarge)) × (room < cost)) (λ fault. (fault ≡ (0, TooLarge)) × (room' < cost')) (λ f p. (p.0, more p.1)) h

-- What follows from want of room.
pub large_by : (e : BlifFault) (room cost : ℕ) (Q : Type 0) → OnText e (λ fault. (fault ≡ (0, TooLarge)) × (room < cost)) → (room < cost → Q) → OnText e (λ fault. (fault ≡ (0, TooLarge)) × Q)
large_by e room cost Q h follows = on_text e (λ fault. (fault ≡ (0, TooLarge)) × (room < cost)) (λ fault. (fault ≡ (0, TooLarge)) × Q) (λ f p. (p.0, follows p.1)) h

-- ---- the loops

-- there is not enough for one element more
pub unpaid : {X : Type 0} (f : X → ℕ) (xs : List X) (i : ℕ) (x : X) (room left cost : ℕ) → i < length xs → x ≡ get_or xs i x → cost ≡ f x
    → left + sum (map f (take i xs)) ≡ room → left < cost → room < sum (map f xs)
unpaid f xs i x room left cost within is costs so_far less =
    let more = sum_more f xs i x within is in
    let front = sum_front f xs (i + 1) in
    omega arith

-- ---- weights

pub weight-append : (xs ys : List Telling) → weight_of (xs ++ ys) ≡ weight_of xs + weight_of ys
weight-append xs ys = ap sum (map-append (λ (t : Telling). weight t.what) xs ys) ∙ sum-append (map (λ (t : Telling). weight t.what) xs) (map (λ (t : Telling). weight t.what) ys)

pub bytes-append : (xs ys : List (List ℕ)) → bytes_of (xs ++ ys) ≡ bytes_of xs + bytes_of ys
bytes-append xs ys = ap sum (map-append (λ (n : List ℕ). length n) xs ys) ∙ sum-append (map (λ (n : List ℕ). length n) xs) (map (λ (n : List ℕ). length n) ys)

-- the weight of statements that all stand on one line
pub weight_lined : (line : ℕ) (ts : List Told) → weight_of (map (λ told. record { line = line; what = told }) ts) ≡ weight_told ts
weight_lined line [] = refl
weight_lined line (t ∷ ts) =
    let rest = weight_lined line ts in
    sum-cons (weight t) (map (λ (x : Telling). weight x.what) (map (λ told. record { line = line; what = told }) ts)) ∙ ap (λ n. weight t + n) rest ∙ sym (sum-cons (weight t) (map weight ts))

-- the weight of statements is the bytes of all their names and the places of all their rows
pub weight_parts : (body : List Telling) → weight_of body ≡ sum (map length (over names_told body)) + sum (map (λ t. places_in t.what) body)
weight_parts [] = refl
weight_parts (t ∷ body) =
    let rest = weight_parts body in
    let all = sum-cons (weight t.what) (map (λ (x : Telling). weight x.what) body) in
    let names = bytes-append (names_told t.what) (over names_told body) in
    let places = sum-cons (places_in t.what) (map (λ (x : Telling). places_in x.what) body) in
    all ∙ omega (arith, rest, names, places)

-- ---- the way through the statements of a model

-- one part more is paid for
pub part_paid : (left left' whole room here rest cost : ℕ) → here ≡ cost + rest → left + whole ≡ room + here → left' + cost ≡ left → left' + whole ≡ room + rest
part_paid left left' whole room here rest cost split so_far step = omega arith

-- there is not enough for one part more
pub part_unpaid : (left whole room here rest cost : ℕ) → here ≡ cost + rest → left + whole ≡ room + here → left < cost → room < whole
part_unpaid left whole room here rest cost split so_far less = omega arith
