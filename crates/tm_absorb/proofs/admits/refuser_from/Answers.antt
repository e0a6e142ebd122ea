use Rattle.std.proofs.Common.{◌-◌, ◌<◌, ℕ, List, length, take, drop, refl}
use Rattle.std.specs.Prelude.{Contains, MatchOption, slice_index}
use Rattle.std.proofs.lemmas.List.{take_rest}
use Rattle.std.proofs.lemmas.Option.{MatchOption-at_none}
use Rattle.tm_unroll.specs.Mappings.{table_of}
use Rattle.tm_absorb.specs.Slots.{IsAdmittedAt, IsRefusedAt}
use Rattle.tm_absorb.proofs.AdmitLemmas.{from_front}
use Rattle.tm_absorb.proofs.admits.refuser_from.Goals as goal

pub returns : goal.returns
returns c =
    let gates : List ℕ = c.args.gates.now in
    let place : ℕ = c.min-place.result in
    let Admitted : ℕ → Type 0 = λ g. IsAdmittedAt c.args.circuit.now.drives c.args.k c.args.slots.now (table_of c.args.table.now) g in
    let Refused : ℕ → Type 0 = λ g. IsRefusedAt c.args.circuit.now.drives c.args.k c.args.slots.now (table_of c.args.table.now) g in
    let back : List ℕ = take (length gates - place) (drop place gates) in
    let P : Type 0 = (g : ℕ) → Contains back g → Admitted g in
    let Q : ℕ → Type 0 = λ at. (at < length back) × Refused (slice_index back at) in
    let fact : MatchOption c.in_ok-more.field-0 P Q = c.in_ok-more.ensures in
    let after : P = MatchOption-at_none P Q c.in_default.is fact in
    from_front Admitted Refused gates back (take place gates) place c.first_refuser-2.result (take_rest gates place) refl after c.first_refuser-2.ensures
