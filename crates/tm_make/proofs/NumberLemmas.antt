-- The three numbers of each gate.
use Rattle.std.proofs.Common.{◌≡◌, ℕ, suc, ◌+◌, ◌*◌, ◌/◌, ◌%◌, true, [], ◌∷◌, sym, ap, ◌∙◌, arith}
use Rattle.tm_circuit.specs.Plain.{gate}
use Rattle.tm_make.specs.Sample.{number_at, first_choice, second_choice}
use Rattle.tm_make.specs.SampleCircuit.{kind_rows, gate_drive}

pub number_more : (n i before after : ℕ) → before ≡ number_at n i → after ≡ (75 * before + 74) % 65537 → after ≡ number_at n (suc i)
number_more n i before after is next = next ∙ ap (λ x. (75 * x + 74) % 65537) is

pub numbers_more : (n j last first second third : ℕ) → last ≡ number_at n (3 * j) → first ≡ (75 * last + 74) % 65537
    → second ≡ (75 * first + 74) % 65537 → third ≡ (75 * second + 74) % 65537
    → (first ≡ number_at n (3 * j + 1)) × (second ≡ number_at n (3 * j + 2)) × (third ≡ number_at n (3 * (j + 1))) × (third ≡ number_at n (3 * j + 3))
numbers_more n j last first second third is one two three =
    let at_one : 3 * j + 1 ≡ suc (3 * j) = omega arith in
    let at_two : 3 * j + 2 ≡ suc (suc (3 * j)) = omega arith in
    let at_three : 3 * (j + 1) ≡ suc (suc (suc (3 * j))) = omega arith in
    let also_three : 3 * j + 3 ≡ suc (suc (suc (3 * j))) = omega arith in
    let a : first ≡ number_at n (suc (3 * j)) = number_more n (3 * j) last first is one in
    let b : second ≡ number_at n (suc (suc (3 * j))) = number_more n (suc (3 * j)) first second a two in
    let d : third ≡ number_at n (suc (suc (suc (3 * j)))) = number_more n (suc (suc (3 * j))) second third b three in
    (a ∙ ap (number_at n) (sym at_one), b ∙ ap (number_at n) (sym at_two), d ∙ ap (number_at n) (sym at_three), d ∙ ap (number_at n) (sym also_three))

-- The gate that three numbers choose.
pub drive_is : (n j first second third : ℕ) → first ≡ number_at n (3 * j + 1) → second ≡ number_at n (3 * j + 2) → third ≡ number_at n (3 * j + 3)
    → gate (first % (8 + n / 4 + j) ∷ second % (8 + n / 4 + j) ∷ []) (record { on = true; rows = kind_rows (third % 3) }) ≡ gate_drive n j
drive_is n j first second third one two three =
    ap (λ x. gate (x % (8 + n / 4 + j) ∷ second % (8 + n / 4 + j) ∷ []) (record { on = true; rows = kind_rows (third % 3) })) one
    ∙ ap (λ x. gate (first_choice n j ∷ x % (8 + n / 4 + j) ∷ []) (record { on = true; rows = kind_rows (third % 3) })) two
    ∙ ap (λ x. gate (first_choice n j ∷ second_choice n j ∷ []) (record { on = true; rows = kind_rows (x % 3) })) three
