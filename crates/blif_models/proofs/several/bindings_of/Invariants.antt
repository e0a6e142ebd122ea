use Rattle.std.proofs.Common.{◌≡◌, map, take}
use Rattle.blif_models.specs.Several.{binding_of}
use Rattle.blif_models.specs.Words.{texts}
use Rattle.blif_models.proofs.several.bindings_of.Given as goal

abbrev pub invariant-loop-word : goal.invariant-loop-word
invariant-loop-word l = l.bindings.items ≡ map binding_of (texts (take l.word-index l.words))
