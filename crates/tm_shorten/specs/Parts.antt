-- Parts of lists, by marks: what has a mark, what has none, and the two put together again.
use Rattle.std.specs.Prelude.{◌≡◌, Bool, true, false, List, [], ◌∷◌, Option, None, Some}

-- The elements of a list that have a mark, in their order. Past the marks there are none.
abbrev pub marked : {A : Type 0} → List Bool → List A → List A
marked marks [] = []
marked [] (x ∷ xs) = []
marked (true ∷ marks) (x ∷ xs) = x ∷ marked marks xs
marked (false ∷ marks) (x ∷ xs) = marked marks xs

-- The elements of a list that have no mark, in their order. Past the marks there are none.
abbrev pub unmarked : {A : Type 0} → List Bool → List A → List A
unmarked marks [] = []
unmarked [] (x ∷ xs) = []
unmarked (true ∷ marks) (x ∷ xs) = unmarked marks xs
unmarked (false ∷ marks) (x ∷ xs) = x ∷ unmarked marks xs

-- Two lists put together by marks: for each mark the next of the first list, and otherwise the next of the second.
abbrev pub joined : {A : Type 0} → List Bool → List A → List A → List A
joined [] kept left = []
joined (true ∷ marks) [] left = joined marks [] left
joined (true ∷ marks) (x ∷ kept) left = x ∷ joined marks kept left
joined (false ∷ marks) kept [] = joined marks kept []
joined (false ∷ marks) kept (x ∷ left) = x ∷ joined marks kept left

-- A list is a part of another: it has some of its elements, in their order.
pub record IsPartOf {A : Type 0} (part whole : List A) : Type 0 where
  pub marks : List Bool
  pub is : part ≡ marked marks whole

-- The next element of a list is taken, where there is one.
abbrev pub TakesFirst : {A : Type 0} → Option A → List A → List A → Type 0
TakesFirst None old new = (old ≡ []) × (new ≡ [])
TakesFirst (Some x) old new = old ≡ x ∷ new

-- The next element of the first list is taken for a mark, and otherwise that of the second.
abbrev pub TakesNext : {A : Type 0} → Bool → Option A → List A → List A → List A → List A → Type 0
TakesNext true next kept left kept-rest left-rest = TakesFirst next kept kept-rest × (left-rest ≡ left)
TakesNext false next kept left kept-rest left-rest = TakesFirst next left left-rest × (kept-rest ≡ kept)
