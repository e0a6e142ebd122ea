-- A store in memory: its slots, and the numbers of the calls that are to fail.
use Rattle.std.specs.Prelude.{ℕ, Bool, ◌==◌, ◌||◌, List, find, is_none, if◌then◌else◌}
use Rattle.std.specs.List.{list_any}
use Rattle.tm_store.specs.Faults.{next_count}
use Rattle.tm_store.specs.Slot.{is_named, files_of}
use Rattle.tm_store.specs.declared.slot.Slot.{Slot}
use Rattle.tm_store.specs.declared.mem_store.MemStore.{MemStore}

-- the slots of a store
abbrev pub slots_of : MemStore → List Slot
slots_of store = store.slots.items

-- the calls so far: which numbers are to fail, the number of the next call, and how many failed
pub record Calls : Type 0 where
  pub failing : List ℕ
  pub next : ℕ
  pub failed_reads : ℕ
  pub failed_writes : ℕ

abbrev pub calls_of : MemStore → Calls
calls_of store = record {
  failing = store.failing.items;
  next = store.next_call;
  failed_reads = store.failed_reads;
  failed_writes = store.failed_writes;
}

-- the number of the next call is among those that are to fail
abbrev pub is_listed : Calls → Bool
is_listed calls = list_any (λ number. number == calls.next) calls.failing

-- a read fails where its number is listed, its name has no slot or its slot is empty
abbrev pub read_fails : Calls → List Slot → List ℕ → Bool
read_fails calls slots name = is_listed calls || is_none (files_of slots name)

-- a write fails where its number is listed or its name has no slot
abbrev pub write_fails : Calls → List Slot → List ℕ → Bool
write_fails calls slots name = is_listed calls || is_none (find (is_named name) slots)

-- the calls after a read that failed or did not
abbrev pub after_read : Calls → Bool → Calls
after_read calls failed = record calls {
  next = next_count calls.next;
  failed_reads = (if failed then next_count calls.failed_reads else calls.failed_reads);
}

-- the calls after a write that failed or did not
abbrev pub after_write : Calls → Bool → Calls
after_write calls failed = record calls {
  next = next_count calls.next;
  failed_writes = (if failed then next_count calls.failed_writes else calls.failed_writes);
}
