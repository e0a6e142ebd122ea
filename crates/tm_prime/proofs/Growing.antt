-- The parts of a circuit with prime covers as they grow.
use Rattle.std.proofs.Common.{◌≡◌, ℕ, zero, suc, ◌+◌, ◌<◌, ◌≤◌, List, [], ◌∷◌, ◌++◌, take, get_or, length, Some, slice_get, All, sym, ◌∙◌, ap, subst, arith}
use Rattle.std.specs.List.{AllZip}
use Rattle.std.proofs.lemmas.List.{take_all, take_more}
use Rattle.std.proofs.lemmas.List.Elements.{AllZip-push}
use Rattle.std.proofs.lemmas.Option.{get_or_from_slice_get, slice_get_within}
use Rattle.tm_circuit.specs.declared.parts.Parts.{Parts}
use Rattle.tm_circuit.specs.Plain.{Plain, Drive, pins_of, widest, input_count, latch_count}
use Rattle.tm_circuit.specs.Sound.{IsPlaced}
use Rattle.tm_circuit.specs.Build.{circuit_of}
use Rattle.tm_parts.specs.Parts.{Gains, HasFrame, HasNoSignals, HasFirstSignals}
use Rattle.tm_parts.proofs.Growing.{first_none, one_more}
use Rattle.tm_prime.specs.Covers.{IsPrimeDrive, HasPrimeCovers}
use Rattle.tm_prime.proofs.Alike.{by_kind}

-- The parts have the first signals of the circuit, so many, with prime covers.
pub record HasFirstPrimed (c : Plain) (parts : Parts) (s : ℕ) : Type 0 where
  pub drives : List Drive
  pub signals : HasFirstSignals c (take s c.names) drives parts s
  pub primed : AllZip IsPrimeDrive (take s c.drives) drives

-- What is known of the signal that comes next.
pub record IsNext (c : Plain) (s : ℕ) (name : List ℕ) (d : Drive) : Type 0 where
  pub inside : s < length c.drives
  pub named : length c.names ≡ length c.drives
  pub name_is : slice_get c.names s ≡ Some name
  pub drive_is : slice_get c.drives s ≡ Some d
  pub placed : IsPlaced (input_count c.drives) (latch_count c.drives) s d

pub none_primed : (c : Plain) (parts : Parts) → HasNoSignals parts → HasFirstPrimed c parts 0
none_primed c parts none = record { drives = []; signals = first_none c parts none; primed = tt }

one_further : {X : Type 0} (xs : List X) (s : ℕ) (x : X) → s < length xs → slice_get xs s ≡ Some x → take s xs ++ x ∷ [] ≡ take (s + 1) xs
one_further xs s x inside is =
    let here : get_or xs s x ≡ x = get_or_from_slice_get xs s x x is in
    ap (λ y. take s xs ++ y ∷ []) (sym here) ∙ sym (take_more xs s x inside)

-- A drive keeps its kind.
placed_primed : (inputs latches s : ℕ) (d e : Drive) → IsPrimeDrive d e → IsPlaced inputs latches s d → IsPlaced inputs latches s e
placed_primed inputs latches s =
    by_kind (λ d e. IsPlaced inputs latches s d → IsPlaced inputs latches s e) (λ placed. placed) (λ next init placed. placed) (λ pins cover prime of placed. placed)

pub one_more_primed : (c : Plain) (old new : Parts) (s : ℕ) (name : List ℕ) (d made : Drive) → IsNext c s name d
    → HasFirstPrimed c old s → IsPrimeDrive d made → Gains old new name made → HasFirstPrimed c new (s + 1)
one_more_primed c old new s name d made next so_far prime gains =
    let within : s < length c.names = omega (arith, next.inside, next.named) in
    let more = one_more c (take s c.names) so_far.drives old new s name made
    (placed_primed (input_count c.drives) (latch_count c.drives) s d made prime next.placed) so_far.signals gains in
    record {
      drives = so_far.drives ++ made ∷ [];
      signals = subst (λ (names : List (List ℕ)). HasFirstSignals c names (so_far.drives ++ made ∷ []) new (s + 1))
          (one_further c.names s name within next.name_is) more;
      primed = subst (λ (ds : List Drive). AllZip IsPrimeDrive ds (so_far.drives ++ made ∷ [])) (one_further c.drives s d next.inside next.drive_is)
          (AllZip-push IsPrimeDrive (take s c.drives) so_far.drives d made so_far.primed prime);
    }

-- With all signals the parts are the circuit with prime covers.
pub all_primed : (c : Plain) (parts : Parts) (s : ℕ) → HasFrame c c.outputs parts → HasFirstPrimed c parts s → length c.drives ≤ s
    → length c.names ≡ length c.drives → HasPrimeCovers c (circuit_of parts)
all_primed c parts s framed so_far all named =
    let all_names : length c.names ≤ s = omega arith in
    record {
      model = framed.model;
      clock = framed.clock;
      names = so_far.signals.names ∙ take_all s c.names all_names;
      outputs = framed.outputs;
      drives = subst (λ (es : List Drive). AllZip IsPrimeDrive c.drives es) (sym so_far.signals.drives)
          (subst (λ (ds : List Drive). AllZip IsPrimeDrive ds so_far.drives) (take_all s c.drives all) so_far.primed);
    }

-- ---- the pins of a gate

-- What the drive of a signal has that all drives have.
pub drive_has : (P : Drive → Type 0) (drives : List Drive) (s : ℕ) (d : Drive) → All P drives → s < length drives → slice_get drives s ≡ Some d → P d
drive_has P drives s d all inside is = subst P (get_or_from_slice_get drives s d d is) (all s d inside)

-- No gate has more pins than the widest.
pub pins_few : (drives : List Drive) (s : ℕ) (d : Drive) → slice_get drives s ≡ Some d → length (pins_of d) ≤ widest drives
pins_few [] s d is = let inside : s < 0 = slice_get_within [] s d is in absurd (omega arith)
pins_few (e ∷ drives) zero d is =
    let same : e ≡ d = cc in
    let here : length (pins_of e) ≡ length (pins_of d) = ap (λ x. length (pins_of x)) same in
    omega arith
pins_few (e ∷ drives) (suc s) d is = let rest : length (pins_of d) ≤ widest drives = pins_few drives s d is in omega arith
