-- The names of a circuit: how long they are.
use Rattle.std.proofs.Common.{◌≡◌, ℕ, ◌≤◌, List, [], ◌∷◌, ◌++◌, length, Some, None, refl, sym, subst}
use Rattle.std.specs.Prelude.{All, Option, IfSome}
use Rattle.std.proofs.lemmas.List.Elements.{All-nil, All-cons, All-append, All-tail, All-weaker}
use Rattle.tm_circuit.specs.declared.parts.Clock.{Clock}
use Rattle.tm_circuit.specs.Plain.{Plain}
use Rattle.tm_circuit.specs.Sound.{IsSound, IsName, IsClockName, clock_name}
use Rattle.tm_parts.specs.Names.{HasNamesWithin}

pub all_second : {X : Type 0} (P : X → Type 0) (xs ys : List X) → All P (xs ++ ys) → All P ys
all_second P [] ys all = all
all_second P (x ∷ xs) ys all = all_second P xs ys (All-tail P x (xs ++ ys) all)

-- What holds of a clock's name, where there is a clock.
pub all_clock : (P : List ℕ → Type 0) (clock : Option Clock) → IfSome clock (λ k. P k.name) → All P (clock_name clock)
all_clock P None is = All-nil P
all_clock P (Some k) is = All-cons P k.name [] is (All-nil P)

clock_short : (clock : Option Clock) → IfSome clock IsClockName → IfSome clock (λ k. length k.name ≤ 1023)
clock_short None is = is
clock_short (Some k) is = is.lawful.short

-- The names of a sound circuit have at most 1,023 bytes.
pub names_short : (c : Plain) → IsSound c → HasNamesWithin 1023 c
names_short c sound =
    All-append (λ n. length n ≤ 1023) c.names (clock_name c.clock) (All-weaker IsName (λ n. length n ≤ 1023) (λ n is. is.short) c.names sound.names.signals)
    (all_clock (λ n. length n ≤ 1023) c.clock (clock_short c.clock sound.names.clock))
