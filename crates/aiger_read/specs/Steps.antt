-- Steps of the reader, as the lists that the rules speak of.
use Rattle.std.specs.Prelude.{◌≡◌, ℕ, ◌<◌, List, map, Option, None, Some, option_map}
use Rattle.std.specs.Borrow.{Bor}
use Rattle.aiger_read.specs.declared.fault.AigerFault.{AigerFault}
use Rattle.aiger_read.specs.declared.fault.AigerFault.TheVariants.{Text, NoMemory}
use Rattle.aiger_read.specs.declared.fault.AigerKind.{AigerKind}
use Rattle.aiger_read.specs.Faults.{fault_at}

-- slices of a text as lists of bytes
abbrev pub texts : List (Bor (List ℕ)) → List (List ℕ)
texts words = map (λ word. word.now) words

-- the same of names that may be there
abbrev pub maybe_texts : List (Option (Bor (List ℕ))) → List (Option (List ℕ))
maybe_texts names = map (λ name. option_map (λ word. word.now) name) names

-- An answer on a line is the line's fault. Want of memory says nothing of it.
abbrev pub IsFaultOn : AigerFault → ℕ → Option AigerKind → Type 0
IsFaultOn (Text line kind) number fault = (line ≡ number) × (fault ≡ Some kind)
IsFaultOn NoMemory number fault = Unit {0}

-- No place up to this one has a fault.
pub record IsLawfulTo (lines : List (List ℕ)) (end : ℕ) : Type 0 where
  pub each : (place : ℕ) → place < end → fault_at lines place ≡ None
