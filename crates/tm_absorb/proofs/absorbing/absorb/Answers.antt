-- Table by table, until none can go.
use Rattle.std.proofs.Common.{◌≡◌, ◌<◌, ℕ, suc, List, Option, None, Some, Global, length, map, sym, ◌∙◌, ap, subst, arith}
use Rattle.std.specs.Prelude.{Vec, MatchOption}
use Rattle.std.proofs.lemmas.Option.{MatchOption-at_some, MatchOption-at_none}
use Rattle.tm_unroll.specs.declared.node.Lut.{Lut}
use Rattle.tm_unroll.specs.Mappings.{Table, tables_of}
use Rattle.tm_absorb.specs.Absorbing.{AbsorbsFirst, IsAbsorbed}
use Rattle.tm_absorb.specs.Admitting.{CanGo}
use Rattle.tm_absorb.specs.Slots.{present, IsNextAt}
use Rattle.tm_absorb.proofs.NextLemmas.{keeps_state, step_more, step_fewer, none_left}
use Rattle.tm_absorb.proofs.absorbing.absorb.Goals as goal

pub loop-under_way-smaller : goal.loop-under_way-smaller
loop-under_way-smaller c =
    let circuit = c.args.circuit.now in
    let given = tables_of c.args.mapping.now in
    let w = c.loop-under_way.under_way in
    let asked = c.next.new.self in
    let keeps = c.in_ok-gate.ensures.keeps in
    let state = keeps_state circuit c.args.k c.args.d w asked keeps c.loop-under_way.invariant.0 in
    let P : Type 0 = (t : Table) → CanGo circuit c.args.k (present asked.slots.items) t → ⊥ in
    let Q : ℕ → Type 0 = λ g. IsNextAt circuit c.args.k asked.slots.items asked.queue.keys g in
    let fact : MatchOption c.in_ok-gate.field-0 P Q = c.in_ok-gate.ensures.next in
    let next : IsNextAt circuit c.args.k asked.slots.items asked.queue.keys c.in-Some.gate = MatchOption-at_some P Q c.in-Some.gate c.in-Some.is fact in
    subst (λ (s : Vec (Option Lut) Global). length (present c.absorb.new.self.slots.items) < length (present s.items)) keeps.slots
    (step_fewer circuit c.args.k c.args.d asked c.absorb.new.self c.in-Some.gate state next c.in_ok-absorb.ensures)

pub loop-under_way-preserved : goal.loop-under_way-preserved
loop-under_way-preserved c =
    let circuit = c.args.circuit.now in
    let given = tables_of c.args.mapping.now in
    let w = c.loop-under_way.under_way in
    let asked = c.next.new.self in
    let keeps = c.in_ok-gate.ensures.keeps in
    let state = keeps_state circuit c.args.k c.args.d w asked keeps c.loop-under_way.invariant.0 in
    let P : Type 0 = (t : Table) → CanGo circuit c.args.k (present asked.slots.items) t → ⊥ in
    let Q : ℕ → Type 0 = λ g. IsNextAt circuit c.args.k asked.slots.items asked.queue.keys g in
    let fact : MatchOption c.in_ok-gate.field-0 P Q = c.in_ok-gate.ensures.next in
    let next : IsNextAt circuit c.args.k asked.slots.items asked.queue.keys c.in-Some.gate = MatchOption-at_some P Q c.in-Some.gate c.in-Some.is fact in
    let so_far : AbsorbsFirst circuit c.args.k c.loop-under_way.invariant.2.0 given (present asked.slots.items) =
    subst (λ (s : Vec (Option Lut) Global). AbsorbsFirst circuit c.args.k c.loop-under_way.invariant.2.0 given (present s.items)) (sym keeps.slots) c.loop-under_way.invariant.2.1 in (
      c.in_ok-absorb.ensures.state,
      c.in_ok-absorb.ensures.awaited,
      (
        suc c.loop-under_way.invariant.2.0,
        step_more circuit c.args.k c.args.d c.loop-under_way.invariant.2.0 given asked c.absorb.new.self c.in-Some.gate state next c.in_ok-absorb.ensures so_far,
      ),
    )

pub returns-clause-absorbed : goal.returns-clause-absorbed
returns-clause-absorbed c =
    let circuit = c.args.circuit.now in
    let given = tables_of c.args.mapping.now in
    let w = c.loop-under_way.under_way in
    let asked = c.next.new.self in
    let keeps = c.in_ok-gate.ensures.keeps in
    let state = keeps_state circuit c.args.k c.args.d w asked keeps c.loop-under_way.invariant.0 in
    let P : Type 0 = (t : Table) → CanGo circuit c.args.k (present asked.slots.items) t → ⊥ in
    let Q : ℕ → Type 0 = λ g. IsNextAt circuit c.args.k asked.slots.items asked.queue.keys g in
    let fact : MatchOption c.in_ok-gate.field-0 P Q = c.in_ok-gate.ensures.next in
    let so_far : AbsorbsFirst circuit c.args.k c.loop-under_way.invariant.2.0 given (present asked.slots.items) =
    subst (λ (s : Vec (Option Lut) Global). AbsorbsFirst circuit c.args.k c.loop-under_way.invariant.2.0 given (present s.items)) (sym keeps.slots) c.loop-under_way.invariant.2.1 in
    let absorbed : IsAbsorbed circuit c.args.k given (tables_of c.in_ok-absorbed.absorbed) =
    none_left circuit c.args.k c.loop-under_way.invariant.2.0 given asked (tables_of c.in_ok-absorbed.absorbed) c.in_ok-absorbed.ensures so_far (MatchOption-at_none P Q c.in_default.is fact) in
    absorbed

pub returns-clause-within : goal.returns-clause-within
returns-clause-within c most within =
    let circuit = c.args.circuit.now in
    let given = tables_of c.args.mapping.now in
    let w = c.loop-under_way.under_way in
    let asked = c.next.new.self in
    let keeps = c.in_ok-gate.ensures.keeps in
    let state = keeps_state circuit c.args.k c.args.d w asked keeps c.loop-under_way.invariant.0 in
    let P : Type 0 = (t : Table) → CanGo circuit c.args.k (present asked.slots.items) t → ⊥ in
    let Q : ℕ → Type 0 = λ g. IsNextAt circuit c.args.k asked.slots.items asked.queue.keys g in
    let fact : MatchOption c.in_ok-gate.field-0 P Q = c.in_ok-gate.ensures.next in
    let so_far : AbsorbsFirst circuit c.args.k c.loop-under_way.invariant.2.0 given (present asked.slots.items) =
    subst (λ (s : Vec (Option Lut) Global). AbsorbsFirst circuit c.args.k c.loop-under_way.invariant.2.0 given (present s.items)) (sym keeps.slots) c.loop-under_way.invariant.2.1 in
    let absorbed : IsAbsorbed circuit c.args.k given (tables_of c.in_ok-absorbed.absorbed) =
    none_left circuit c.args.k c.loop-under_way.invariant.2.0 given asked (tables_of c.in_ok-absorbed.absorbed) c.in_ok-absorbed.ensures so_far (MatchOption-at_none P Q c.in_default.is fact) in
    c.absorbed_is_lawful.ensures.within circuit c.args.k c.args.d most given (tables_of c.in_ok-absorbed.absorbed) c.signals-sound.ensures.sound c.requires absorbed within
