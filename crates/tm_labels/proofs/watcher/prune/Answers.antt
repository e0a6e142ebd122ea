-- The closure only tests.
use Rattle.std.proofs.Common.{rules}
use Rattle.std.specs.Prelude.{slice_index, ◌==◌}
use Rattle.std.proofs.lemmas.Fn.{filter_same}
use Rattle.tm_labels.specs.declared.watcher.Watcher.{Watcher}
use Rattle.tm_labels.proofs.watcher.prune.Goals as goal

pub returns : goal.returns
returns c =
    filter_same _ (λ (w : Watcher). slice_index c.args.versions.now w.gate == w.version) _ (λ x b f t. search rules) c.args.watchers.now.items c.retain.new.self.items c.retain.ensures.filtered
