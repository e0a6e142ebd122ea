-- The list of the gate is one longer.
use Rattle.std.proofs.Common.{◌<◌, length, subst, arith}
use Rattle.std.specs.Prelude.{Contains, slice_set}
use Rattle.tm_labels.specs.Watched.{watchers_in}
use Rattle.tm_labels.proofs.WatchLemmas.{adds_at, adds_same, lists_of}
use Rattle.tm_labels.proofs.watcher.add_watcher.Goals as goal

pub returns-in_err-push-clause-adds : goal.returns-in_err-push-clause-adds
returns-in_err-push-clause-adds c =
    let within : c.gate.inside.0 < length c.args.watchers.now = omega (arith, c.requires, c.gate.view_is) in
    adds_same c.args.watchers.now c.gate.inside.0 c.index-watchers-gate.result c.push.new.self within c.in_err-push.ensures.items

pub returns-clause-adds : goal.returns-clause-adds
returns-clause-adds c =
    let within : c.gate.inside.0 < length c.args.watchers.now = omega (arith, c.requires, c.gate.view_is) in
    (adds_at c.args.watchers.now c.gate.inside.0 c.index-watchers-gate.result c.push.new.self c.args.watcher within c.in_ok-push.ensures.items).0

pub returns-clause-watched : goal.returns-clause-watched
returns-clause-watched c =
    let within : c.gate.inside.0 < length c.args.watchers.now = omega (arith, c.requires, c.gate.view_is) in
    subst (λ u. Contains (watchers_in (lists_of (slice_set c.args.watchers.now c.gate.inside.0 c.push.new.self)) u) c.args.watcher) c.gate.view_is
    (adds_at c.args.watchers.now c.gate.inside.0 c.index-watchers-gate.result c.push.new.self c.args.watcher within c.in_ok-push.ensures.items).1
