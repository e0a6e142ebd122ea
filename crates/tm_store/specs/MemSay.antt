-- A sayer in memory: the bytes said, the room for them, and the numbers of the calls that are to fail.
use Rattle.std.specs.Prelude.{ℕ, Bool, ◌+◌, ◌-◌, ◌==◌, List, [], ◌∷◌, ◌++◌, length, take, nat_lt, if◌then◌else◌}
use Rattle.std.specs.List.{list_any}
use Rattle.tm_store.specs.Faults.{next_count}
use Rattle.tm_store.specs.declared.mem_say.MemSay.{MemSay}

-- what is seen of a sayer: how many bytes fit, which calls are to fail, and the calls and faults so far
pub record Lines : Type 0 where
  pub said : List ℕ
  pub room : ℕ
  pub failing : List ℕ
  pub next : ℕ
  pub faults : ℕ

abbrev pub lines_of : MemSay → Lines
lines_of say = record {
  said = say.bytes.items;
  room = say.room;
  failing = say.failing.items;
  next = say.next_call;
  faults = say.faults;
}

-- the number of the next call is among those that are to fail
abbrev pub is_listed : Lines → Bool
is_listed lines = list_any (λ number. number == lines.next) lines.failing

-- how many more bytes the next call can append: none where it is listed, else what room is left
abbrev pub space : Lines → ℕ
space lines = if is_listed lines then 0 else lines.room - length lines.said

-- the text with its LF does not fit
abbrev pub line_fails : Lines → List ℕ → Bool
line_fails lines text = nat_lt (space lines) (length text + 1)

-- the sayer after the text: as much of it and its LF as fits was said
abbrev pub after_line : Lines → List ℕ → Lines
after_line lines text = record lines {
  said = lines.said ++ take (space lines) (text ++ 10 ∷ []);
  next = next_count lines.next;
  faults = (if line_fails lines text then next_count lines.faults else lines.faults);
}
