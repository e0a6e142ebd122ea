-- lists that are empty, one for each signal so far
use Rattle.std.proofs.Common.{◌≡◌, [], map, replicate}
use Rattle.tm_labels.proofs.cuts.Cuts.new.Given as goal

abbrev pub invariant-loop : goal.invariant-loop
invariant-loop l = (map (λ cut. cut.items) l.leaves.items ≡ replicate l.counter []) × (map (λ list. list.items) l.watchers.items ≡ replicate l.counter [])
