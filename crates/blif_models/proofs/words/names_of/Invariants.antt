use Rattle.std.proofs.Common.{◌≡◌, take}
use Rattle.blif_models.specs.Words.{texts}
use Rattle.blif_models.proofs.words.names_of.Given as goal

abbrev pub invariant-loop-word : goal.invariant-loop-word
invariant-loop-word l = l.names.items ≡ texts (take l.word-index l.words)
