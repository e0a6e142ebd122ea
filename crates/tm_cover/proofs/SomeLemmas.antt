-- Where no output has lost its label there is a lawful mapping within the target: the tables of all gates that are ready.
use Rattle.std.proofs.Common.{◌≡◌, ℕ, zero, suc, ◌+◌, ◌⊎◌, inl, inr, true, List, [], ◌∷◌, ◌++◌, length, Option, None, Some, refl, sym, ◌∙◌, subst, arith}
use Rattle.std.proofs.lemmas.Bool.{cases_Bool, both_ways}
use Rattle.tm_circuit.specs.Plain.{Plain, drive_in, is_gate}
use Rattle.tm_circuit.specs.Sound.{IsSound}
use Rattle.tm_unroll.specs.Mappings.{Table, IsLawfulFrom}
use Rattle.tm_unroll.specs.Chains.{HasChainsWithin}
use Rattle.tm_unroll.proofs.JudgeLemmas.{gate_within}
use Rattle.tm_replay.specs.declared.label.Label.{Label}
use Rattle.tm_replay.specs.Labels.{label_in}
use Rattle.tm_replay.specs.Replays.{HaveLost}
use Rattle.tm_merge.specs.Cuts.{cut_in}
use Rattle.tm_labels.specs.Settled.{Settling, IsSettledForOutputs}
use Rattle.tm_cover.proofs.LeadLemmas.{IsReady, ready, leaf_ready, output_ready}
use Rattle.tm_cover.proofs.TableLemmas.{AreClosed, tables_lawful, tables_within}
use Rattle.tm_cover.proofs.BelowLemmas.{AreTablesBelow, below_none, below_other, below_more, below_all}

module _ (base : ℕ) (c : Plain) (k d : ℕ) (s : Settling) (sound : IsSound c) (settled : IsSettledForOutputs base c k d s) where
  ready_or_not : (g : ℕ) → IsReady base c k s settled.counts g ⊎ (IsReady base c k s settled.counts g → ⊥)
  ready_or_not g =
      elim (cases_Bool (is_gate (drive_in c.drives g))) [
        | inr other ↦ inr (λ is. both_ways _ other is.gate)
        | inl gate ↦ elim (cases_Bool (settled.counts g)) [ inr not ↦ inr (λ is. both_ways _ not is.counted) | inl counted ↦ by_label gate counted (label_in s.labels g) refl ]
      ]
    where
      by_label : is_gate (drive_in c.drives g) ≡ true → settled.counts g ≡ true → (x : Option Label) → label_in s.labels g ≡ x
          → IsReady base c k s settled.counts g ⊎ (IsReady base c k s settled.counts g → ⊥)
      by_label gate counted None none = inr (λ is. let has : None ≡ Some is.label = sym none ∙ is.now in cc)
      by_label gate counted (Some x) has = inl (ready base c k d s sound settled g x gate counted has)

  tables_below : (n : ℕ) → (tables : List Table) × AreTablesBelow s (λ g. IsReady base c k s settled.counts g) n tables
  tables_below zero = ([], below_none s (λ g. IsReady base c k s settled.counts g))
  tables_below (suc n) =
      let (tables, are) = tables_below n in
      elim (ready_or_not n) [
        | inr other ↦ (tables, one_more tables (below_other s (λ g. IsReady base c k s settled.counts g) n tables are other))
        | inl is ↦
            let t : Table = record { gate = n; lag = is.label.lag; leaves = cut_in s.cuts n } in
            (tables ++ t ∷ [], one_more (tables ++ t ∷ []) (below_more s (λ g. IsReady base c k s settled.counts g) n tables t are refl (record { label = is.label; now = is.now; lag = refl; leaves = refl }) is))
      ]
    where
      one_more : (tables : List Table) → AreTablesBelow s (λ g. IsReady base c k s settled.counts g) (n + 1) tables
          → AreTablesBelow s (λ g. IsReady base c k s settled.counts g) (suc n) tables
      one_more tables are = let e : n + 1 ≡ suc n = omega arith in subst (λ m. AreTablesBelow s (λ g. IsReady base c k s settled.counts g) m tables) e are

  module _ (need : ℕ → ℕ) (kept : HaveLost need c s.labels → ⊥) where
    ready_closed : AreClosed base c k s settled.counts (λ g. IsReady base c k s settled.counts g)
    ready_closed = record {
      outputs = λ o g stands source. output_ready base c k d s sound settled need kept o g stands source;
      leaves = λ g h x is leaf source. leaf_ready base c k d s sound settled g h x is leaf source;
      ready = λ g is. is;
    }

    pub some_mapping : (tables : List Table) × IsLawfulFrom base need c k d tables × HasChainsWithin tables s.target
    some_mapping =
        let (tables, are) = tables_below (length c.drives) in
        let all = below_all s (λ g. IsReady base c k s settled.counts g) (length c.drives) tables are (λ g is. gate_within c.drives g is.gate) in (
          tables,
          tables_lawful base need c k d s sound settled kept (λ g. IsReady base c k s settled.counts g) tables ready_closed all,
          tables_within base need c k d s sound settled kept (λ g. IsReady base c k s settled.counts g) tables ready_closed all,
        )
