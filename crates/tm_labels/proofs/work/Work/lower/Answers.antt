-- The label falls, and with it come those that are served too late. Where memory is wanted for them it is put back.
use Rattle.std.proofs.Common.{◌≡◌, ◌<◌, Bool, true, List, [], ◌∷◌, ◌++◌, length, map, Option, refl, sym, ◌∙◌, ap, subst, arith}
use Rattle.std.specs.Prelude.{slice_set}
use Rattle.tm_circuit.specs.Plain.{Plain}
use Rattle.tm_circuit.specs.Sound.{IsSound}
use Rattle.tm_replay.specs.declared.label.Label.{Label}
use Rattle.tm_replay.specs.Labels.{label, next_below}
use Rattle.tm_replay.specs.Replays.{Drop, drop_of, IsLawfulDrop, lowered}
use Rattle.tm_labels.specs.Marks.{is_marked}
use Rattle.tm_labels.specs.Watched.{Kept, Wakes, FallsWith}
use Rattle.tm_labels.specs.Working.{Working, MayComeIn}
use Rattle.tm_labels.specs.Keeping.{working_of, IsTask}
use Rattle.tm_labels.proofs.FallLemmas.{falls_on, comes_in}
use Rattle.tm_labels.proofs.WorkLemmas.{keeps_all, lowering_as, same_as, restored, dropped}
use Rattle.tm_labels.proofs.work.Work.lower.Goals as goal

pub invariant_of-self-in-Err-1 : goal.invariant_of-self-in-Err-1
invariant_of-self-in-Err-1 c =
    let a = c.self.inside in
    let same = c.in-Err.ensures.cuts in
    record {
      task = subst (λ (x : Kept). IsTask a.base x.circuit a.k a.d a.target) (sym same) c.self.invariant.task;
      stale_sized = subst (λ (x : Kept). length x.stale ≡ length x.circuit.drives) (sym same) c.self.invariant.stale_sized;
      leaves_sized = subst (λ (x : Kept). length x.leaves ≡ length x.circuit.drives) (sym same) c.self.invariant.leaves_sized;
      keeps = keeps_all a.base a.k a.d a.target a.counts.items a.queue c.wake-woken.new.queue a.labels.items _ (map drop_of a.drops.items) (map drop_of c.reserve.new.self.items) a.cuts.circuit c.wake-woken.new.cuts.circuit
          a.cuts.leaves c.wake-woken.new.cuts.leaves a.cuts.stale c.wake-woken.new.cuts.stale c.in-Err.ensures.same
          (restored a.labels.items c.gate.inside.0 c.index-before.result.now c.next_below-next.result c.index-before.ensures) (ap (map drop_of) c.reserve.ensures.items)
          (ap (λ (x : Kept). x.circuit) same) (ap (λ (x : Kept). x.leaves) same) (ap (λ (x : Kept). x.stale) same) c.self.invariant.keeps;
    }

pub returns-in-Err-clause-same : goal.returns-in-Err-clause-same
returns-in-Err-clause-same c =
    let a = c.self.inside in
    same_as (working_of a) c.args.self.now c.self.view_is (record {
      task = record { base = refl; circuit = ap (λ (x : Kept). x.circuit) c.in-Err.ensures.cuts; k = refl; d = refl; target = refl; counts = refl; sized = ap length c.in-Err.ensures.same };
      labels = restored a.labels.items c.gate.inside.0 c.index-before.result.now c.next_below-next.result c.index-before.ensures;
      drops = ap (map drop_of) c.reserve.ensures.items;
      queued = c.in-Err.ensures.same;
    })

pub invariant_of-self-in-Ok : goal.invariant_of-self-in-Ok
invariant_of-self-in-Ok c =
    let a = c.self.inside in
    let drop : Drop = drop_of c.args.drop in
    let sound = subst IsSound c.circuit.ensures c.signals-sound.ensures.sound in
    let lawful = subst (λ (w : Working). IsLawfulDrop w.base w.circuit w.k w.target w.labels drop) (sym c.self.view_is) c.requires.lawful in
    let waits = subst (λ (w : Working). is_marked w.queued drop.gate ≡ true) (sym c.self.view_is) c.requires.waits in
    let next : Option Label = next_below a.target (label drop.lag drop.arrival) in
    let labels_are : slice_set a.labels.items c.gate.inside.0 c.next_below-next.result ≡ lowered a.target a.labels.items drop =
    ap (λ (x : Option Label). slice_set a.labels.items c.gate.inside.0 x) c.next_below-next.ensures ∙ ap (λ i. slice_set a.labels.items i next) c.gate.view_is in
    let wakes = subst (λ (ms : List Bool). Wakes a.base a.cuts.circuit (lowered a.target a.labels.items drop) ms a.cuts.leaves drop.gate a.queue c.wake-woken.new.queue) c.deref-2.ensures.value
    (subst (λ (ls : List (Option Label)). Wakes a.base a.cuts.circuit ls c.deref-2.result.now a.cuts.leaves drop.gate a.queue c.wake-woken.new.queue) (c.deref.ensures.value ∙ labels_are) c.in-Ok.ensures.wakes) in
    let falls = subst (λ (x : Option Label). FallsWith drop.gate drop.lag x c.wake-woken.new.cuts c.fall.new.self) c.next_below-next.ensures c.fall.ensures in
    let same = c.in-Ok.ensures.cuts in
    let circuit = falls.circuit ∙ ap (λ (x : Kept). x.circuit) same in
    let room : c.reserve.new.self.len < c.reserve.new.self.cap = omega (arith, c.in_ok-reserve.ensures.ok) in
    let pushed = dropped c.push.result c.reserve.new.self.items c.push.new.self.items c.args.drop (c.push.ensures.succeeds room) c.push.ensures.items
    ∙ ap (λ (ls : List _). map drop_of ls ++ drop ∷ []) c.reserve.ensures.items in
    let keeps = falls_on a.base a.cuts.circuit a.k a.d a.target a.counts.items a.queue a.labels.items (map drop_of a.drops.items) a.cuts.leaves a.cuts.stale sound c.self.invariant.keeps drop lawful waits c.wake-woken.new.queue wakes
    c.wake-woken.new.cuts c.fall.new.self (ap (λ (x : Kept). x.leaves) same) (ap (λ (x : Kept). x.stale) same) falls in
    record {
      task = subst (λ (p : Plain). IsTask a.base p a.k a.d a.target) (sym circuit) c.self.invariant.task;
      stale_sized = falls.stale_sized ∙ ap (λ (x : Kept). length x.stale) same ∙ c.self.invariant.stale_sized ∙ ap (λ (p : Plain). length p.drives) (sym circuit);
      leaves_sized = falls.leaves_sized ∙ ap (λ (x : Kept). length x.leaves) same ∙ c.self.invariant.leaves_sized ∙ ap (λ (p : Plain). length p.drives) (sym circuit);
      keeps = keeps_all a.base a.k a.d a.target a.counts.items c.wake-woken.new.queue c.fall-in-Ok.new.self (lowered a.target a.labels.items drop) _ (map drop_of a.drops.items ++ drop ∷ []) (map drop_of c.push.new.self.items)
          a.cuts.circuit c.fall.new.self.circuit c.fall.new.self.leaves c.fall.new.self.leaves c.fall.new.self.stale c.fall.new.self.stale c.fall-in-Ok.ensures labels_are pushed circuit refl refl keeps;
    }

pub returns-in-Ok-clause-lowers : goal.returns-in-Ok-clause-lowers
returns-in-Ok-clause-lowers c =
    let a = c.self.inside in
    let drop : Drop = drop_of c.args.drop in
    let sound = subst IsSound c.circuit.ensures c.signals-sound.ensures.sound in
    let lawful = subst (λ (w : Working). IsLawfulDrop w.base w.circuit w.k w.target w.labels drop) (sym c.self.view_is) c.requires.lawful in
    let waits = subst (λ (w : Working). is_marked w.queued drop.gate ≡ true) (sym c.self.view_is) c.requires.waits in
    let next : Option Label = next_below a.target (label drop.lag drop.arrival) in
    let labels_are : slice_set a.labels.items c.gate.inside.0 c.next_below-next.result ≡ lowered a.target a.labels.items drop =
    ap (λ (x : Option Label). slice_set a.labels.items c.gate.inside.0 x) c.next_below-next.ensures ∙ ap (λ i. slice_set a.labels.items i next) c.gate.view_is in
    let wakes = subst (λ (ms : List Bool). Wakes a.base a.cuts.circuit (lowered a.target a.labels.items drop) ms a.cuts.leaves drop.gate a.queue c.wake-woken.new.queue) c.deref-2.ensures.value
    (subst (λ (ls : List (Option Label)). Wakes a.base a.cuts.circuit ls c.deref-2.result.now a.cuts.leaves drop.gate a.queue c.wake-woken.new.queue) (c.deref.ensures.value ∙ labels_are) c.in-Ok.ensures.wakes) in
    let falls = subst (λ (x : Option Label). FallsWith drop.gate drop.lag x c.wake-woken.new.cuts c.fall.new.self) c.next_below-next.ensures c.fall.ensures in
    let same = c.in-Ok.ensures.cuts in
    let circuit = falls.circuit ∙ ap (λ (x : Kept). x.circuit) same in
    let room : c.reserve.new.self.len < c.reserve.new.self.cap = omega (arith, c.in_ok-reserve.ensures.ok) in
    let pushed = dropped c.push.result c.reserve.new.self.items c.push.new.self.items c.args.drop (c.push.ensures.succeeds room) c.push.ensures.items
    ∙ ap (λ (ls : List _). map drop_of ls ++ drop ∷ []) c.reserve.ensures.items in
    let came = comes_in a.base a.cuts.circuit a.k a.d a.target a.counts.items a.queue a.labels.items (map drop_of a.drops.items) a.cuts.leaves a.cuts.stale sound c.self.invariant.keeps drop lawful waits c.wake-woken.new.queue wakes in
    lowering_as drop (working_of a) c.args.self.now c.self.view_is (record {
      task = record { base = refl; circuit = circuit; k = refl; d = refl; target = refl; counts = refl; sized = ap length c.fall-in-Ok.ensures ∙ wakes.joins.sized };
      added = pushed;
      labels = labels_are;
      stays = λ g was. ap (λ (q : List Bool). is_marked q g) c.fall-in-Ok.ensures ∙ wakes.joins.stays g was;
      comes = λ g now before. subst (λ (ls : List (Option Label)). MayComeIn a.cuts.circuit ls drop.gate g) (sym labels_are) (came g (ap (λ (q : List Bool). is_marked q g) (sym c.fall-in-Ok.ensures) ∙ now) before);
    })
