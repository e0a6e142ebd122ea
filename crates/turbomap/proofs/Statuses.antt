-- Which statuses of a command come, from what each says, for every command whose refusals exclude each other and its work.
use Rattle.std.proofs.Common.{◌≡◌, ◌⊎◌, inl, inr, ℕ, List, [], ◌∷◌, ◌++◌, Option, None, Some, true, false, length, refl, subst, ap, sym, arith}
use Rattle.std.specs.Prelude.{IsSome}
use Rattle.std.specs.List.{AllByRecursion}
use Rattle.tm_store.specs.Faults.{Rose}
use Rattle.tm_store.specs.Files.{Files}
use Rattle.turbomap.specs.declared.status.Status.{Status}
use Rattle.turbomap.specs.declared.status.Status.TheVariants.{Done, NoMemory, BadWords, Unread, Unwritten, BadText, TooLong, NotAccepted}
use Rattle.turbomap.specs.Command.{Input, Write, Command, Stored, Around, names_of, IsText, IsOver, AreTexts, IsSomeFileRefused, AreTextsRefused, Runs, AreTold, AreToldRefused, IsSomeOver, IsToldOver, IsToldLong, AreToldAccepted, IsFaultless}
use Rattle.turbomap.specs.Run.{number}

-- Texts are refused with one status at most, and neither worked on nor accepted where they are.
pub record IsDecided (command : Command) : Type 0 where
  pub one_status : (texts : List (List ℕ)) (s t : Status) (l m : List ℕ) → command.Refuses texts s l → command.Refuses texts t m → s ≡ t
  pub not_made : (texts : List (List ℕ)) (s : Status) (l : List ℕ) (writes : List Write) (lines : List (List ℕ))
      → command.Refuses texts s l → command.Makes texts writes lines → ⊥
  pub not_accepted : (texts : List (List ℕ)) (s : Status) (l : List ℕ) → command.Refuses texts s l → command.Accepts texts → ⊥

-- ---- files that are told have one list of texts

none_tells : IsSome {T = Files} None → ⊥
none_tells tells = let path : false ≡ true = tells in cc

same_text : (told : Option Files) (input : Input) (a b : List ℕ) → IsSome told → IsText told input a → IsText told input b → a ≡ b
same_text None input a b tells one other = absurd (none_tells tells)
same_text (Some files) input a b tells one other = cc (one.held, other.held)

same_texts : (told : Option Files) (inputs : List Input) (a b : List (List ℕ)) → IsSome told → AreTexts told inputs a → AreTexts told inputs b → a ≡ b
same_texts told [] [] [] tells one other = refl
same_texts told [] [] (y ∷ ys) tells one other = absurd other
same_texts told [] (x ∷ xs) b tells one other = absurd one
same_texts told (input ∷ inputs) [] b tells one other = absurd one
same_texts told (input ∷ inputs) (x ∷ xs) [] tells one other = absurd other
same_texts told (input ∷ inputs) (x ∷ xs) (y ∷ ys) tells one other =
    let first = same_text told input x y tells one.0 other.0 in
    let rest = same_texts told inputs xs ys tells one.1 other.1 in
    cc (first, rest)

told_texts : (told : Option Files) (inputs : List Input) (a b : List (List ℕ)) → AreTold told inputs → AreTexts told inputs a → AreTexts told inputs b → a ≡ b
told_texts told [] [] [] tells one other = refl
told_texts told [] [] (y ∷ ys) tells one other = absurd other
told_texts told [] (x ∷ xs) b tells one other = absurd one
told_texts told (input ∷ inputs) a b tells one other = same_texts told (input ∷ inputs) a b tells one other

text_over : (told : Option Files) (input : Input) (text : List ℕ) → IsSome told → IsText told input text → IsOver told input → ⊥
text_over None input text tells is over = none_tells tells
text_over (Some files) input text tells is over =
    let same : text ≡ over.text = cc (is.held, over.held) in omega (arith, is.short, over.long, ap length same)

some_over : (told : Option Files) (inputs : List Input) (texts : List (List ℕ)) → IsSome told → AreTexts told inputs texts → IsSomeOver told inputs → ⊥
some_over told [] texts tells are over = absurd over
some_over told (input ∷ inputs) [] tells are over = absurd are
some_over told (input ∷ inputs) (text ∷ texts) tells are (inl over) = text_over told input text tells are.0 over
some_over told (input ∷ inputs) (text ∷ texts) tells are (inr over) = some_over told inputs texts tells are.1 over

told_over : (told : Option Files) (inputs : List Input) (texts : List (List ℕ)) → AreTold told inputs → AreTexts told inputs texts → IsSomeOver told inputs → ⊥
told_over told [] texts tells are over = over
told_over told (input ∷ inputs) texts tells are over = some_over told (input ∷ inputs) texts tells are over

-- ---- causes

refused_over : (inputs : List Input) (s : Stored) (line : List ℕ) → IsSomeFileRefused inputs s TooLong line → IsSomeOver s.before inputs
refused_over [] s line refused = absurd refused
refused_over (input ∷ inputs) s line (inl refused) = inl refused.over
refused_over (input ∷ inputs) s line (inr refused) = inr (refused_over inputs s line refused.1)

unread_rose : (inputs : List Input) (s : Stored) (line : List ℕ)
    → AllByRecursion (λ (input : Input). Rose (s.unread_before input.name) (s.unread_after input.name) → ⊥) inputs
    → IsSomeFileRefused inputs s Unread line → ⊥
unread_rose [] s line calm refused = refused
unread_rose (input ∷ inputs) s line calm (inl refused) = calm.0 refused.counted
unread_rose (input ∷ inputs) s line calm (inr refused) = unread_rose inputs s line calm.1 refused.1

holds_of_one : (P : List ℕ → Type 0) (written : List Write) (failed : Write) (unwritten : List Write)
    → AllByRecursion P (names_of (written ++ failed ∷ unwritten)) → P failed.name
holds_of_one P [] failed unwritten all = all.0
holds_of_one P (write ∷ written) failed unwritten all = holds_of_one P written failed unwritten all.1

unwritten_rose : (c : Command) (s : Stored) (writes written : List Write) (failed : Write) (unwritten : List Write)
    → AllByRecursion (λ (name : List ℕ). Rose (s.unwritten_before name) (s.unwritten_after name) → ⊥) c.outputs → names_of writes ≡ c.outputs
    → writes ≡ written ++ failed ∷ unwritten → Rose (s.unwritten_before failed.name) (s.unwritten_after failed.name) → ⊥
unwritten_rose c s writes written failed unwritten calm named are rose =
    let P : List ℕ → Type 0 = λ name. Rose (s.unwritten_before name) (s.unwritten_after name) → ⊥ in
    let all : AllByRecursion P (names_of writes) = subst (λ (names : List (List ℕ)). AllByRecursion P names) (sym named) calm in
    holds_of_one P written failed unwritten (subst (λ (ws : List Write). AllByRecursion P (names_of ws)) are all) rose

-- ---- a file that is too long

over : (c : Command) (a : Around) (status : Status) → Runs c a status → IsToldOver c a.stored.before
    → (number status ≡ 1) ⊎ ((number status ≡ 3) ⊎ (number status ≡ 6))
over c a Done runs told = absurd (some_over a.stored.before c.inputs runs.texts told.tells runs.read told.over)
over c a NoMemory runs told = inl refl
over c a BadWords runs told = absurd runs
over c a Unread runs told = inr (inl refl)
over c a Unwritten runs told = absurd (some_over a.stored.before c.inputs runs.texts told.tells runs.read told.over)
over c a BadText runs told = absurd (some_over a.stored.before c.inputs runs.cause.texts told.tells runs.cause.read told.over)
over c a TooLong runs told = inr (inr refl)
over c a NotAccepted runs told = absurd (some_over a.stored.before c.inputs runs.cause.texts told.tells runs.cause.read told.over)

-- ---- texts that are refused

made_refused : (c : Command) → IsDecided c → (told : Option Files) (texts : List (List ℕ)) (writes : List Write) (lines : List (List ℕ)) (status : Status)
    → AreTexts told c.inputs texts → c.Makes texts writes lines → AreToldRefused c told status → ⊥
made_refused c decided told texts writes lines status read made refused =
    let same = same_texts told c.inputs refused.refused.texts texts refused.tells refused.refused.read read in
    decided.not_made texts status refused.line writes lines
    (subst (λ (ts : List (List ℕ)). c.Refuses ts status refused.line) same refused.refused.refused) made

refused_twice : (c : Command) → IsDecided c → (told : Option Files) (one other : Status) (line : List ℕ) → AreTextsRefused c told one line
    → AreToldRefused c told other → one ≡ other
refused_twice c decided told one other line first second =
    let same = same_texts told c.inputs second.refused.texts first.texts second.tells second.refused.read first.read in
    decided.one_status first.texts one other line second.line first.refused
    (subst (λ (ts : List (List ℕ)). c.Refuses ts other second.line) same second.refused.refused)

pub refused : (c : Command) → IsDecided c → (a : Around) (status other : Status) → Runs c a status → AreToldRefused c a.stored.before other
    → (number status ≡ 1) ⊎ ((number status ≡ 3) ⊎ (number status ≡ number other))
refused c decided a Done other runs told = absurd (made_refused c decided a.stored.before runs.texts runs.writes runs.lines other runs.read runs.made told)
refused c decided a NoMemory other runs told = inl refl
refused c decided a BadWords other runs told = absurd runs
refused c decided a Unread other runs told = inr (inl refl)
refused c decided a Unwritten other runs told = absurd (made_refused c decided a.stored.before runs.texts runs.writes runs.lines other runs.read runs.made told)
refused c decided a BadText other runs told = inr (inr (ap number (refused_twice c decided a.stored.before BadText other runs.line runs.cause told)))
refused c decided a TooLong other runs told = elim runs.cause [
  | inl file ↦ absurd (some_over a.stored.before c.inputs told.refused.texts told.tells told.refused.read (refused_over c.inputs a.stored runs.line file))
  | inr texts ↦ inr (inr (ap number (refused_twice c decided a.stored.before TooLong other runs.line texts told)))
]
refused c decided a NotAccepted other runs told = inr (inr (ap number (refused_twice c decided a.stored.before NotAccepted other runs.line runs.cause told)))

pub long : (c : Command) → IsDecided c → (a : Around) (status : Status) → Runs c a status → IsToldLong c a.stored.before
    → (number status ≡ 1) ⊎ ((number status ≡ 3) ⊎ (number status ≡ 6))
long c decided a status runs (inl told) = over c a status runs told
long c decided a status runs (inr told) = refused c decided a status TooLong runs told

-- ---- what can be done

refused_accepted : (c : Command) → IsDecided c → (told : Option Files) (status : Status) (line : List ℕ) → AreTextsRefused c told status line
    → AreToldAccepted c told → ⊥
refused_accepted c decided told status line refused accepted =
    let same = told_texts told c.inputs refused.texts accepted.texts accepted.tells refused.read accepted.read in
    decided.not_accepted accepted.texts status line (subst (λ (ts : List (List ℕ)). c.Refuses ts status line) same refused.refused) accepted.accepted

pub complete : (c : Command) → IsDecided c → (a : Around) (status : Status) → Runs c a status → AreToldAccepted c a.stored.before → IsFaultless c a
    → (number status ≡ 0) ⊎ (number status ≡ 1)
complete c decided a Done runs told calm = inl refl
complete c decided a NoMemory runs told calm = inr refl
complete c decided a BadWords runs told calm = absurd runs
complete c decided a Unread runs told calm = absurd (unread_rose c.inputs a.stored runs.line calm.reads runs.cause)
complete c decided a Unwritten runs told calm = elim runs.ends [
  | inl fails ↦ absurd (unwritten_rose c a.stored runs.writes fails.written fails.failed fails.unwritten calm.writes runs.named fails.writes_are fails.counted)
  | inr fails ↦ absurd (calm.lines fails.says.counted)
]
complete c decided a BadText runs told calm = absurd (refused_accepted c decided a.stored.before BadText runs.line runs.cause told)
complete c decided a TooLong runs told calm = elim runs.cause [
  | inl file ↦ absurd (told_over a.stored.before c.inputs told.texts told.tells told.read (refused_over c.inputs a.stored runs.line file))
  | inr texts ↦ absurd (refused_accepted c decided a.stored.before TooLong runs.line texts told)
]
complete c decided a NotAccepted runs told calm = absurd (refused_accepted c decided a.stored.before NotAccepted runs.line runs.cause told)
