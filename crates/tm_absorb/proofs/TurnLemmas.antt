-- A table is taken in by its readers, one by one.
use Rattle.std.proofs.Common.{◌≡◌, ◌≢◌, ◌⊎◌, ℕ, ◌<◌, ◌≤◌, List, [], ◌∷◌, ◌++◌, length, Option, None, Some, refl, sym, ◌∙◌, ap, subst, inl, inr, arith}
use Rattle.std.specs.Prelude.{Contains}
use Rattle.std.specs.Option.{option_map}
use Rattle.std.proofs.lemmas.Bool.{cases_eq}
use Rattle.tm_circuit.specs.Plain.{Plain, Drive}
use Rattle.tm_circuit.specs.Sound.{IsSound}
use Rattle.tm_circuit.specs.Source.{IsSource}
use Rattle.tm_circuit.specs.declared.sources.Source.TheVariants.{Gate}
use Rattle.tm_unroll.specs.declared.node.Node.{Node}
use Rattle.tm_unroll.specs.declared.node.Lut.{Lut}
use Rattle.tm_unroll.specs.Mappings.{Table, root, IsLawful}
use Rattle.tm_absorb.specs.declared.under_way.UnderWay.{UnderWay}
use Rattle.tm_absorb.specs.Absorbing.{Reads, TakesIn, Becomes, Absorbs}
use Rattle.tm_absorb.specs.Admitting.{HasRoom, Admits, CanGo, IsQueued}
use Rattle.tm_absorb.specs.Slots.{slot_in, present, AreOwn, row_in, rows_of, AreReaders, AddsReaders, IsReader, IsUnderWay, IsState, AreAwaited, CanGoAt, IsNextAt, HasRoomAt, AreWithin, DoesNotReadAt, IsRenewedAt, KeepsQueue, HadTurn, HasAbsorbed}
use Rattle.tm_absorb.proofs.GoLemmas.{own_source}
use Rattle.tm_absorb.proofs.SlotLemmas.{present-has, present-at, present-own, present-ascends}
use Rattle.tm_absorb.proofs.StepLemmas.{never_own, same_root, same_or_apart, absorbs_lawful}
use Rattle.tm_absorb.proofs.FateLemmas.{IsRenewed, IsFateOf, HaveFates, fates_absorb, waits_or_could}

-- What is queued stays queued, and readers stay readers.
pub queued_stays : (drives : List Drive) (old new : List ℕ) (t : Table) → KeepsQueue old new → IsQueued drives old t → IsQueued drives new t
queued_stays drives old new t keeps queued = record { gate = keeps t.gate queued.gate; leaves = λ g x leaf source. keeps g (queued.leaves g x leaf source) }

pub reader_stays : (drives : List Drive) (g : ℕ) (leaves : List Node) (old new : List (List ℕ)) → AddsReaders old new → IsReader drives g leaves old → IsReader drives g leaves new
reader_stays drives g leaves old new adds reads h x leaf source = adds.stays g h (reads h x leaf source)

-- What took a table in does not read it.
pub reads_no_more : (k : ℕ) (t u v : Table) → ¬ Reads t t → TakesIn k t u v → ¬ Reads v t
reads_no_more k t u v never takes reads =
    elim ((takes.leaves.replaces.nodes (root t)).0 reads) [ inl other ↦ other.1 refl | inr inside ↦ never inside ]

-- What became of a slot so far.
abbrev pub IsTurned : List Drive → ℕ → List ℕ → List (List ℕ) → Table → ℕ → Option Table → Option Table → Type 0
IsTurned drives k queue rows t h None now = now ≡ None
IsTurned drives k queue rows t h (Some u) now =
    (now ≡ Some u) ⊎ ((v : Table) × (now ≡ Some v) × IsRenewed drives k queue t u v × IsReader drives h t.leaves rows)

-- Some of the readers of a table have taken it in.
pub record IsTakingIn (drives : List Drive) (k : ℕ) (t : Table) (seen : List ℕ) (start now : UnderWay) : Type 0 where
  pub sized : length now.slots.items ≡ length start.slots.items
  pub rows : AddsReaders (rows_of start) (rows_of now)
  pub queue : KeepsQueue start.queue.keys now.queue.keys
  pub outputs : now.outputs ≡ start.outputs
  pub refusers : now.refusers ≡ start.refusers
  pub turned : (h : ℕ) → IsTurned drives k now.queue.keys (rows_of now) t h (slot_in start.slots.items h) (slot_in now.slots.items h)
  pub done : (h : ℕ) → Contains seen h → DoesNotReadAt now.slots.items t h

turned_start : (drives : List Drive) (k : ℕ) (queue : List ℕ) (rows : List (List ℕ)) (t : Table) (h : ℕ) (slot : Option Table) → IsTurned drives k queue rows t h slot slot
turned_start drives k queue rows t h None = refl
turned_start drives k queue rows t h (Some u) = inl refl

pub taking_in_starts : (drives : List Drive) (k : ℕ) (t : Table) (seen : List ℕ) (w : UnderWay) → ((h : ℕ) → ¬ Contains seen h) → IsTakingIn drives k t seen w w
taking_in_starts drives k t seen w none = record {
  sized = refl;
  rows = record { sized = refl; stays = λ g h there. there };
  queue = λ g there. there;
  outputs = refl;
  refusers = refl;
  turned = λ h. turned_start drives k w.queue.keys (rows_of w) t h (slot_in w.slots.items h);
  done = λ h there. absurd (none h there);
}

turned_stays : (drives : List Drive) (k : ℕ) (old-queue queue : List ℕ) (old-rows rows : List (List ℕ)) (t : Table) (h : ℕ) (slot old now : Option Table)
    → KeepsQueue old-queue queue → AddsReaders old-rows rows → now ≡ old → IsTurned drives k old-queue old-rows t h slot old → IsTurned drives k queue rows t h slot now
turned_stays drives k old-queue queue old-rows rows t h None old now keeps adds same turned = same ∙ turned
turned_stays drives k old-queue queue old-rows rows t h (Some u) old now keeps adds same turned = elim turned [
  | inl stays ↦ inl (same ∙ stays)
  | inr (v, is, renewed, reads) ↦ inr (
    v,
    same ∙ is,
    record { takes = renewed.takes; queued = queued_stays drives old-queue queue v keeps renewed.queued },
    reader_stays drives h t.leaves old-rows rows adds reads,
  )
]

-- A slot that was not renewed is.
turned_renews : (drives : List Drive) (k : ℕ) (old-queue queue : List ℕ) (old-rows rows : List (List ℕ)) (t : Table) (h : ℕ) (slot old now : Option Table) (was to : Table)
    → ¬ Reads t t → old ≡ Some was → now ≡ Some to → TakesIn k t was to → IsQueued drives queue to → IsReader drives h t.leaves rows
    → IsTurned drives k old-queue old-rows t h slot old → IsTurned drives k queue rows t h slot now
turned_renews drives k old-queue queue old-rows rows t h None old now was to never from is takes queued reads turned =
    absurd (let both : None ≡ Some was = sym turned ∙ from in cc)
turned_renews drives k old-queue queue old-rows rows t h (Some u) old now was to never from is takes queued reads turned = elim turned [
  | inl stays ↦
      let same : was ≡ u = (let both : Some was ≡ Some u = sym from ∙ stays in cc) in
      inr (to, is, record { takes = subst (λ (w : Table). TakesIn k t w to) same takes; queued = queued }, reads)
  | inr (v, at, renewed, more) ↦
      let same : was ≡ v = (let both : Some was ≡ Some v = sym from ∙ at in cc) in
      absurd (reads_no_more k t u v never renewed.takes (subst (λ (w : Table). Reads w t) same takes.reads))
]

-- One turn more.
pub taking_in_more : (drives : List Drive) (k : ℕ) (t : Table) (seen all : List ℕ) (g : ℕ) (start old new : UnderWay) → ¬ Reads t t
    → ((h : ℕ) → Contains all h → Contains seen h ⊎ (g ≡ h)) → IsTakingIn drives k t seen start old → HadTurn drives k t g old new → IsTakingIn drives k t all start new
taking_in_more drives k t seen all g start old new never cases before turn = record {
  sized = turn.sized ∙ before.sized;
  rows = record { sized = turn.readers.sized ∙ before.rows.sized; stays = λ a h there. turn.readers.stays a h (before.rows.stays a h there) };
  queue = λ a there. turn.queue a (before.queue a there);
  outputs = turn.outputs ∙ before.outputs;
  refusers = turn.refusers ∙ before.refusers;
  turned = λ h. elim (cases_eq h g) [
    | inl same ↦ subst (λ b. IsTurned drives k new.queue.keys (rows_of new) t b (slot_in start.slots.items b) (slot_in new.slots.items b)) (sym same) turned-here
    | inr apart ↦ turned_stays drives k old.queue.keys new.queue.keys (rows_of old) (rows_of new) t h (slot_in start.slots.items h) (slot_in old.slots.items h) (slot_in new.slots.items h)
        turn.queue turn.readers (turn.others h apart) (before.turned h)
  ];
  done = λ h there. elim (cases_eq h g) [
    | inl same ↦ subst (λ b. DoesNotReadAt new.slots.items t b) (sym same) done-here
    | inr apart ↦ elim (cases h there) [
      | inl earlier ↦ λ u is. before.done h earlier u (sym (turn.others h apart) ∙ is)
      | inr here ↦ absurd (apart (sym here))
    ]
  ];
}
  where
    turned-here : IsTurned drives k new.queue.keys (rows_of new) t g (slot_in start.slots.items g) (slot_in new.slots.items g)
    turned-here = elim turn.here [
      | inl stays ↦ turned_stays drives k old.queue.keys new.queue.keys (rows_of old) (rows_of new) t g (slot_in start.slots.items g) (slot_in old.slots.items g) (slot_in new.slots.items g)
          turn.queue turn.readers stays.1 (before.turned g)
      | inr renewed ↦ turned_renews drives k old.queue.keys new.queue.keys (rows_of old) (rows_of new) t g (slot_in start.slots.items g) (slot_in old.slots.items g) (slot_in new.slots.items g)
          renewed.was renewed.now never renewed.from renewed.to renewed.takes renewed.queued renewed.reads (before.turned g)
    ]

    done-here : DoesNotReadAt new.slots.items t g
    done-here u is = elim turn.here [
      | inl stays ↦ stays.0 u (sym stays.1 ∙ is)
      | inr renewed ↦
          let same : renewed.now ≡ u = (let both : Some renewed.now ≡ Some u = sym renewed.to ∙ is in cc) in
          subst (λ (w : Table). ¬ Reads w t) same (reads_no_more k t renewed.was renewed.now never renewed.takes)
    ]

-- There is room in each slot.
pub room_at : (drives : List Drive) (k : ℕ) (t : Table) (seen : List ℕ) (g : ℕ) (start now : UnderWay) → ¬ Reads t t
    → ((u : Table) → slot_in start.slots.items g ≡ Some u → HasRoom k t u) → IsTakingIn drives k t seen start now → HasRoomAt k now.slots.items t g
room_at drives k t seen g start now never room taking v is = go (slot_in start.slots.items g) refl (taking.turned g)
  where
    go : (slot : Option Table) → slot_in start.slots.items g ≡ slot → IsTurned drives k now.queue.keys (rows_of now) t g slot (slot_in now.slots.items g) → HasRoom k t v
    go None was turned = absurd (let both : None ≡ Some v = sym turned ∙ is in cc)
    go (Some u) was turned = elim turned [
      | inl stays ↦ let same : u ≡ v = (let both : Some u ≡ Some v = sym stays ∙ is in cc) in subst (λ (w : Table). HasRoom k t w) same (room u was)
      | inr (w, at, renewed, reads) ↦
          let same : w ≡ v = (let both : Some w ≡ Some v = sym at ∙ is in cc) in
          λ reading. absurd (reads_no_more k t u w never renewed.takes (subst (λ (z : Table). Reads z t) (sym same) reading))
    ]

-- The leaves of all tables are still signals.
pub leaves_taking : (drives : List Drive) (k n : ℕ) (t : Table) (seen : List ℕ) (start now : UnderWay) → AreWithin n start.slots.items
    → ((x : Node) → Contains t.leaves x → x.signal < n) → IsTakingIn drives k t seen start now → AreWithin n now.slots.items
leaves_taking drives k n t seen start now within own taking g v x at leaf = go (slot_in start.slots.items g) refl (taking.turned g)
  where
    go : (slot : Option Table) → slot_in start.slots.items g ≡ slot → IsTurned drives k now.queue.keys (rows_of now) t g slot (slot_in now.slots.items g) → x.signal < n
    go None was turned = absurd (let both : None ≡ Some v = sym turned ∙ at in cc)
    go (Some u) was turned = elim turned [
      | inl stays ↦ let same : v ≡ u = (let both : Some v ≡ Some u = sym at ∙ stays in cc) in within g u x was (subst (λ (w : Table). Contains w.leaves x) same leaf)
      | inr (w, is, renewed, reads) ↦
          let same : v ≡ w = (let both : Some v ≡ Some w = sym at ∙ is in cc) in
          elim ((renewed.takes.leaves.replaces.nodes x).0 (subst (λ (z : Table). Contains z.leaves x) same leaf)) [
            | inl other ↦ within g u x was other.0
            | inr inside ↦ own x inside
          ]
    ]
