-- What the parts of a simulation answer.
use Rattle.std.specs.Prelude.{◌≡◌, ℕ, List, Err}
use Rattle.tm_sim.specs.Vectors.{vectors_of}
use Rattle.tm_sim.specs.declared.vectors.VectorFault.TheVariants.{Text}
use Rattle.text_read.specs.Texts.{IsFaultOf}
use Rattle.tm_texts.specs.declared.simulate.SimFault.{SimFault}
use Rattle.tm_texts.specs.declared.simulate.SimFault.TheVariants.{Blif, Vectors, TooLong, NoMemory}
use Rattle.tm_texts.specs.Limits.{mapped_limits}

-- why a text has no circuit; want of memory says nothing
abbrev pub IsCircuitFault : List ℕ → SimFault → Type 0
IsCircuitFault text (Blif line kind) = IsFaultOf mapped_limits text (line, kind)
IsCircuitFault text (Vectors line kind) = ⊥
IsCircuitFault text TooLong = ⊥
IsCircuitFault text NoMemory = Unit {0}

-- why vectors have no rows of a width; want of memory says nothing
abbrev pub IsRowsFault : ℕ → List ℕ → SimFault → Type 0
IsRowsFault width vectors (Blif line kind) = ⊥
IsRowsFault width vectors (Vectors line kind) = vectors_of width vectors ≡ Err (Text line kind)
IsRowsFault width vectors TooLong = ⊥
IsRowsFault width vectors NoMemory = Unit {0}
