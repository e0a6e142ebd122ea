-- What is so of each driver is so of each drive, and from this what the tests on a draft say of its circuit.
use Rattle.std.proofs.Common.{◌≡◌, ℕ, zero, suc, ◌<◌, List, [], ◌∷◌, map, length, get_or, refl, sym, ◌∙◌, ap, subst, arith}
use Rattle.std.specs.Prelude.{All, IfSome, ◌↔◌}
use Rattle.std.proofs.lemmas.List.{length-map}
use Rattle.std.proofs.lemmas.List.Elements.{All-map}
use Rattle.tm_circuit.specs.declared.draft.Draft.{Draft}
use Rattle.tm_circuit.specs.declared.parts.Driver.{Driver}
use Rattle.tm_circuit.specs.Plain.{drive_of, pins_of, greatest, widest, input_count, latch_count}
use Rattle.tm_circuit.specs.Sound.{IsInRange, IsClockOf, ReadsBelow, FitsPins}
use Rattle.tm_circuit.specs.Draft.{plain_of_draft, IsLaidOut, AreInRange}

get-map : {X Y : Type 0} (f : X → Y) (xs : List X) (k : ℕ) (d : X) → get_or (map f xs) k (f d) ≡ f (get_or xs k d)
get-map f [] k d = refl
get-map f (x ∷ xs) zero d = refl
get-map f (x ∷ xs) (suc k) d = get-map f xs k d

-- what is so of each of a mapped list is so of what each becomes
pub all-unmap : {X Y : Type 0} (P : Y → Type 0) (f : X → Y) (xs : List X) → All P (map f xs) → All (λ x. P (f x)) xs
all-unmap P f xs h = λ k d w. subst P (get-map f xs k d) (h k (f d) (omega (arith, length-map xs f)))

-- the tests on the range of a draft are those of its circuit
pub range_is : (d : Draft) → IsLaidOut d → AreInRange d.clock d.inputs d.latches d.drivers.items d.outputs.items ↔ IsInRange (plain_of_draft d)
range_is d laid =
    let sized : length (plain_of_draft d).drives ≡ length d.drivers.items = length-map d.drivers.items drive_of in (
      λ h. record {
        reads = subst (λ n. All (ReadsBelow n) (plain_of_draft d).drives) (sym sized) (All-map (ReadsBelow (length d.drivers.items)) drive_of d.drivers.items h.reads);
        pins = All-map FitsPins drive_of d.drivers.items h.pins;
        outputs = subst (λ n. All (λ s. s < n) d.outputs.items) (sym sized) h.below;
        clock = subst (λ n. IfSome d.clock (IsClockOf n (latch_count (plain_of_draft d).drives))) laid.inputs (subst (λ n. IfSome d.clock (IsClockOf d.inputs n)) laid.latches h.fits);
      },
      λ h. record {
        reads = all-unmap (ReadsBelow (length d.drivers.items)) drive_of d.drivers.items (subst (λ n. All (ReadsBelow n) (plain_of_draft d).drives) sized h.reads);
        pins = all-unmap FitsPins drive_of d.drivers.items h.pins;
        below = subst (λ n. All (λ s. s < n) d.outputs.items) sized h.outputs;
        fits = subst (λ n. IfSome d.clock (IsClockOf n d.latches)) (sym laid.inputs) (subst (λ n. IfSome d.clock (IsClockOf (input_count (plain_of_draft d).drives) n)) (sym laid.latches) h.clock);
      },
    )

map-map : (drivers : List Driver) → map (λ d. length (pins_of (drive_of d))) drivers ≡ map (λ d. length (pins_of d)) (map drive_of drivers)
map-map [] = refl
map-map (d ∷ drivers) = ap (λ ns. length (pins_of (drive_of d)) ∷ ns) (map-map drivers)

-- the widest of the drivers is the widest of the drives
pub widest_is : (drivers : List Driver) (w : ℕ) → w ≡ greatest (map (λ d. length (pins_of (drive_of d))) drivers) → w ≡ widest (map drive_of drivers)
widest_is drivers w h = h ∙ ap greatest (map-map drivers)
