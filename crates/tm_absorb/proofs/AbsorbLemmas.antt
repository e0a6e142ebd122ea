-- A table was taken in by all its readers.
use Rattle.std.proofs.Common.{◌≡◌, ◌≢◌, ◌⊎◌, ℕ, ◌<◌, ◌≤◌, List, length, Option, None, Some, refl, sym, ◌∙◌, ap, subst, inl, inr, map, Bool, Global}
use Rattle.std.specs.Prelude.{Contains, Vec}
use Rattle.std.specs.BTreeSet.{BTreeSet}
use Rattle.std.proofs.lemmas.Bool.{cases_eq}
use Rattle.std.proofs.lemmas.List.{length-map}
use Rattle.tm_circuit.specs.Plain.{Plain, Drive}
use Rattle.tm_circuit.specs.Sound.{IsSound}
use Rattle.tm_circuit.specs.Source.{IsSource}
use Rattle.tm_circuit.specs.declared.sources.Source.TheVariants.{Gate}
use Rattle.tm_unroll.specs.declared.node.Node.{Node}
use Rattle.tm_unroll.specs.declared.node.Lut.{Lut}
use Rattle.tm_unroll.specs.Mappings.{Table, root, IsLawful}
use Rattle.tm_absorb.specs.declared.under_way.UnderWay.{UnderWay}
use Rattle.tm_absorb.specs.Absorbing.{Reads, TakesIn, Absorbs}
use Rattle.tm_absorb.specs.Admitting.{HasRoom, CanGo, IsQueued}
use Rattle.tm_absorb.specs.Slots.{slot_in, present, AreOwn, row_in, rows_of, AreReaders, IsReader, IsUnderWay, IsState, AreAwaited, CanGoAt, IsNextAt, KeepsQueue, AreOutputMarks, AreWithin, HasRoomAt, HasAbsorbed}
use Rattle.tm_absorb.proofs.GoLemmas.{own_source}
use Rattle.tm_absorb.proofs.SlotLemmas.{present-has, present-at, present-own, present-ascends}
use Rattle.tm_absorb.proofs.StepLemmas.{never_own, same_root, same_or_apart, absorbs_lawful}
use Rattle.tm_absorb.proofs.FateLemmas.{IsRenewed, IsFateOf, HaveFates, fates_absorb, waits_or_could}
use Rattle.tm_absorb.proofs.GoingLemmas.{leaves_within}
use Rattle.tm_absorb.proofs.TurnLemmas.{IsTurned, IsTakingIn, queued_stays, leaves_taking, room_at}

-- A mapping under way from which the table of a gate was taken.
pub record IsWithout (g : ℕ) (old new : UnderWay) : Type 0 where
  pub sized : length new.slots.items ≡ length old.slots.items
  pub here : slot_in new.slots.items g ≡ None
  pub others : (h : ℕ) → h ≢ g → slot_in new.slots.items h ≡ slot_in old.slots.items h
  pub readers : new.readers ≡ old.readers
  pub queue : new.queue ≡ old.queue
  pub outputs : new.outputs ≡ old.outputs
  pub refusers : new.refusers ≡ old.refusers

-- Only the queue has grown, by a table.
pub record IsQueuedMore (drives : List Drive) (t : Table) (old new : UnderWay) : Type 0 where
  pub slots : new.slots ≡ old.slots
  pub readers : new.readers ≡ old.readers
  pub outputs : new.outputs ≡ old.outputs
  pub refusers : new.refusers ≡ old.refusers
  pub keeps : KeepsQueue old.queue.keys new.queue.keys
  pub queued : IsQueued drives new.queue.keys t

-- What the table of the gate of a mapping under way comes to.
pub going_table : (c : Plain) (k d : ℕ) (w : UnderWay) (g : ℕ) (t : Table) → IsNextAt c k w.slots.items w.queue.keys g → slot_in w.slots.items g ≡ Some t
    → CanGo c k (present w.slots.items) t
going_table c k d w g t next at =
    subst (λ (u : Table). CanGo c k (present w.slots.items) u) (let both : Some next.goes.table ≡ Some t = sym next.goes.at ∙ at in cc) next.goes.goes

-- What each turn asks for.
module _ (c : Plain) (k d : ℕ) (sound : IsSound c) (first start now : UnderWay) (g : ℕ) (t : Table) (seen : List ℕ) (state : IsState c k d first)
    (next : IsNextAt c k first.slots.items first.queue.keys g) (at : slot_in first.slots.items g ≡ Some t) (without : IsWithout g first start)
    (taking : IsTakingIn c.drives k t seen start now) where
  going : CanGo c k (present first.slots.items) t
  going = going_table c k d first g t next at

  pub turn_sized : length now.readers.items ≡ length c.drives
  turn_sized =
      let items : Vec ℕ Global → List ℕ = λ v. v.items in
      sym (length-map now.readers.items items) ∙ taking.rows.sized ∙ length-map start.readers.items items ∙ ap (λ (w : Vec (Vec ℕ Global) Global). length w.items) without.readers
      ∙ sym (length-map first.readers.items items) ∙ state.under_way.rows_sized

  pub turn_within : (x : Node) → Contains t.leaves x → x.signal < length c.drives
  turn_within x leaf = leaves_within c k d (length c.drives) first.slots.items (rows_of first) state.under_way refl g t x at leaf

  start_within : AreWithin (length c.drives) start.slots.items
  start_within h u x at-u leaf = elim (cases_eq h g) [
    | inl same ↦ absurd (let both : None ≡ Some u = sym without.here ∙ subst (λ b. slot_in start.slots.items b ≡ Some u) same at-u in cc)
    | inr apart ↦ leaves_within c k d (length c.drives) first.slots.items (rows_of first) state.under_way refl h u x (sym (without.others h apart) ∙ at-u) leaf
  ]

  pub turn_leaves : AreWithin (length c.drives) now.slots.items
  turn_leaves = leaves_taking c.drives k (length c.drives) t seen start now start_within turn_within taking

  start_room : (h : ℕ) (u : Table) → slot_in start.slots.items h ≡ Some u → HasRoom k t u
  start_room h u at-u = elim (cases_eq h g) [
    | inl same ↦ absurd (let both : None ≡ Some u = sym without.here ∙ subst (λ b. slot_in start.slots.items b ≡ Some u) same at-u in cc)
    | inr apart ↦ (going.each u (present-has first.slots.items h u (sym (without.others h apart) ∙ at-u))).room
  ]

  pub turn_room : (h : ℕ) → HasRoomAt k now.slots.items t h
  turn_room h = room_at c.drives k t seen h start now (never_own c k d (present first.slots.items) t sound state.under_way.lawful going.table) (start_room h) taking

module _ (c : Plain) (k d : ℕ) (sound : IsSound c) (first start end last : UnderWay) (g : ℕ) (t : Table) (state : IsState c k d first)
    (next : IsNextAt c k first.slots.items first.queue.keys g) (at : slot_in first.slots.items g ≡ Some t) (without : IsWithout g first start)
    (taken : IsTakingIn c.drives k t (row_in (rows_of first) g) start end) (more : IsQueuedMore c.drives t end last) where
  goes : CanGo c k (present first.slots.items) t
  goes = going_table c k d first g t next at

  named : t.gate ≡ g
  named = state.under_way.own g t at

  never : ¬ Reads t t
  never = never_own c k d (present first.slots.items) t sound state.under_way.lawful goes.table

  slot_last : (h : ℕ) → slot_in last.slots.items h ≡ slot_in end.slots.items h
  slot_last h = ap (λ (w : Vec (Option Lut) Global). slot_in w.items h) more.slots

  rows_last : rows_of last ≡ rows_of end
  rows_last = ap (λ (w : Vec (Vec ℕ Global) Global). map (λ (v : Vec ℕ Global). v.items) w.items) more.readers

  rows_start : rows_of start ≡ rows_of first
  rows_start = ap (λ (w : Vec (Vec ℕ Global) Global). map (λ (v : Vec ℕ Global). v.items) w.items) without.readers

  -- a table took the other one in, or did not read it and stays
  IsOutcome : ℕ → Table → Table → Type 0
  IsOutcome h u v = (IsRenewed c.drives k last.queue.keys t u v × IsReader c.drives h t.leaves (rows_of last)) ⊎ (¬ Reads u t × (v ≡ u))

  outcome : (h : ℕ) (u : Table) → slot_in first.slots.items h ≡ Some u → h ≢ g → (v : Table) × (slot_in last.slots.items h ≡ Some v) × IsOutcome h u v
  unfolding IsOutcome
  outcome h u at-u apart =
      let turned = subst (λ slot. IsTurned c.drives k end.queue.keys (rows_of end) t h slot (slot_in end.slots.items h)) (without.others h apart ∙ at-u) (taken.turned h) in
      elim turned [
        | inl stays ↦
            let blind : ¬ Reads u t = λ reads. taken.done h
            (state.under_way.readers h g u (root t) at-u reads (subst (λ b. IsSource c.drives t.gate (Gate b)) named (own_source c.drives t.gate (state.under_way.lawful.each t goes.table).gate)))
            u stays reads in
            (u, slot_last h ∙ stays, inr (blind, refl))
        | inr (v, is, renewed, reads) ↦ (
          v,
          slot_last h ∙ is,
          inl (
            record { takes = renewed.takes; queued = queued_stays c.drives end.queue.keys last.queue.keys v more.keeps renewed.queued },
            subst (λ (rows : List (List ℕ)). IsReader c.drives h t.leaves rows) (sym rows_last) reads,
          ),
        )
      ]

  origin : (h : ℕ) (v : Table) → slot_in last.slots.items h ≡ Some v → (u : Table) × (slot_in first.slots.items h ≡ Some u) × (h ≢ g) × IsOutcome h u v
  origin h v at-v = elim (cases_eq h g) [
    | inl same ↦
        let turned = subst (λ slot. IsTurned c.drives k end.queue.keys (rows_of end) t g slot (slot_in end.slots.items g)) without.here (taken.turned g) in
        absurd (let both : None ≡ Some v = sym turned ∙ sym (slot_last g) ∙ subst (λ b. slot_in last.slots.items b ≡ Some v) same at-v in cc)
    | inr apart ↦ go apart (slot_in first.slots.items h) refl
  ]
    where
      go : (h ≢ g) → (slot : Option Table) → slot_in first.slots.items h ≡ slot → (u : Table) × (slot_in first.slots.items h ≡ Some u) × (h ≢ g) × IsOutcome h u v
      go apart None was =
          let turned = subst (λ slot. IsTurned c.drives k end.queue.keys (rows_of end) t h slot (slot_in end.slots.items h)) (without.others h apart ∙ was) (taken.turned h) in
          absurd (let both : None ≡ Some v = sym turned ∙ sym (slot_last h) ∙ at-v in cc)
      go apart (Some u) was =
          let on = outcome h u was apart in
          (u, was, apart, subst (λ (w : Table). IsOutcome h u w) (let both : Some on.0 ≡ Some v = sym on.1 ∙ at-v in cc) on.2)

  fate : (h : ℕ) (u v : Table) → IsOutcome h u v → IsFateOf c.drives k last.queue.keys t u v
  unfolding IsOutcome
  fate h u v is = elim is [ inl renewed ↦ inl renewed.0 | inr stays ↦ inr stays ]

  fates : HaveFates c.drives k last.queue.keys t (present first.slots.items) (present last.slots.items)
  fates = record {
    goes_on = λ u stands other.
        let at-u = present-own first.slots.items u state.under_way.own stands in
        let apart : u.gate ≢ g = λ same. elim (same_or_apart c k d (present first.slots.items) t u state.under_way.lawful goes.table stands) [
          | inl is ↦ other is
          | inr differs ↦ differs (same ∙ sym named)
        ] in
        let on = outcome u.gate u at-u apart in
        (on.0, present-has last.slots.items u.gate on.0 on.1, fate u.gate u on.0 on.2);
    comes_from = λ v stands.
        let at-v = present-at last.slots.items v stands in
        let from = origin at-v.0 v at-v.1 in (
          from.0,
          present-has first.slots.items at-v.0 from.0 from.1,
          (λ same. from.2 (sym (state.under_way.own at-v.0 from.0 from.1) ∙ ap (λ (w : Table). w.gate) same ∙ named)),
          fate at-v.0 from.0 v from.3,
        );
  }

  own_last : AreOwn last.slots.items
  own_last h v at-v =
      let from = origin h v at-v in
      let kept : v.gate ≡ from.0.gate = elim (fate h from.0 v from.3) [ inl renewed ↦ renewed.takes.gate | inr stays ↦ ap (λ (w : Table). w.gate) stays.1 ] in
      kept ∙ state.under_way.own h from.0 from.1

  absorbs : Absorbs k t (present first.slots.items) (present last.slots.items)
  absorbs = fates_absorb c.drives k last.queue.keys t (present first.slots.items) (present last.slots.items) (present-ascends last.slots.items own_last) fates

  -- what was a reader at first still is
  still_reads : (h b : ℕ) → Contains (row_in (rows_of first) b) h → Contains (row_in (rows_of last) b) h
  still_reads h b there =
      subst (λ (rows : List (List ℕ)). Contains (row_in rows b) h) (sym rows_last)
      (taken.rows.stays h b (subst (λ (rows : List (List ℕ)). Contains (row_in rows b) h) (sym rows_start) there))

  readers_last : AreReaders c.drives last.slots.items (rows_of last)
  unfolding IsOutcome
  readers_last h b v x at-v leaf source =
      let from = origin h v at-v in
      let before : Contains from.0.leaves x → Contains (row_in (rows_of last) b) h = λ inside. still_reads h b (state.under_way.readers h b from.0 x from.1 inside source) in
      elim from.3 [
        | inl renewed ↦ elim ((renewed.0.takes.leaves.replaces.nodes x).0 leaf) [ inl other ↦ before other.0 | inr inside ↦ renewed.1 b x inside source ]
        | inr stays ↦ before (subst (λ (w : Table). Contains w.leaves x) stays.1 leaf)
      ]

  awaited_last : AreAwaited c k last.slots.items last.queue.keys
  awaited_last v can = elim (waits_or_could c k d (present first.slots.items) (present last.slots.items) t last.queue.keys state.under_way.lawful goes.table fates more.queued v can) [
    | inl there ↦ there
    | inr could ↦ elim (next.awaited v could) [
      | inl same ↦
          let at-v = present-at last.slots.items v can.table in
          absurd ((origin at-v.0 v at-v.1).2 (sym (own_last at-v.0 v at-v.1) ∙ same))
      | inr there ↦ more.keeps v.gate (taken.queue v.gate (subst (λ (keys : List ℕ). Contains keys v.gate) (ap (λ (q : BTreeSet ℕ). q.keys) (sym without.queue)) there))
    ]
  ]

  pub absorbed_last : HasAbsorbed c k d g first last
  absorbed_last = record {
    state = record {
      under_way = record {
        sized = ap (λ (w : Vec (Option Lut) Global). length w.items) more.slots ∙ taken.sized ∙ without.sized ∙ state.under_way.sized;
        own = own_last;
        lawful = absorbs_lawful c k d (present first.slots.items) (present last.slots.items) t sound state.under_way.lawful goes absorbs;
        rows_sized = ap length rows_last ∙ taken.rows.sized ∙ ap length rows_start ∙ state.under_way.rows_sized;
        readers = readers_last;
      };
      outputs = subst (λ (marks : Vec Bool Global). AreOutputMarks c marks.items) (sym (more.outputs ∙ taken.outputs ∙ without.outputs)) state.outputs;
      outputs_sized = ap (λ (marks : Vec Bool Global). length marks.items) (more.outputs ∙ taken.outputs ∙ without.outputs) ∙ state.outputs_sized;
      refusers_sized = ap (λ (gates : Vec ℕ Global). length gates.items) (more.refusers ∙ taken.refusers ∙ without.refusers) ∙ state.refusers_sized;
    };
    awaited = awaited_last;
    absorbs = λ u is. subst (λ (w : Table). Absorbs k w (present first.slots.items) (present last.slots.items)) (let both : Some t ≡ Some u = sym at ∙ is in cc) absorbs;
  }
