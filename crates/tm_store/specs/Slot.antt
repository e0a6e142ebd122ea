-- Slots: a name each, with the bytes that it holds or with nothing.
use Rattle.std.specs.Prelude.{ℕ, Bool, List, Option, None, Some, map, find, option_and_then, string_bytes}
use Rattle.std.specs.Str.{bytes_eq}
use Rattle.tm_store.specs.Files.{Files}
use Rattle.tm_store.specs.declared.slot.Slot.{Slot}

-- what a slot holds, or nothing where it is empty
abbrev pub content_of : Slot → Option (List ℕ)
content_of slot = elim slot.bytes [ None ↦ None | Some bytes ↦ Some bytes.items ]

abbrev pub is_named : List ℕ → Slot → Bool
is_named name slot = bytes_eq (string_bytes slot.name) name

-- the names that have a slot
abbrev pub names_of : List Slot → List (List ℕ)
names_of slots = map (λ slot. string_bytes slot.name) slots

-- the files of the slots: a name without a slot, or with an empty one, holds nothing
abbrev pub files_of : List Slot → Files
files_of slots name = option_and_then content_of (find (is_named name) slots)
