-- The lines said, each without its LF.
use Rattle.std.specs.Prelude.{ℕ, List, ◌++◌, codes}
use Rattle.std.specs.Fmt.{decimal}

abbrev pub no_memory_line : List ℕ
no_memory_line = codes "no memory"

abbrev pub bad_words_line : List ℕ
bad_words_line = codes "bad command line"

abbrev pub unread_line : List ℕ → List ℕ
unread_line name = codes "cannot read " ++ name

abbrev pub unwritten_line : List ℕ → List ℕ
unwritten_line name = codes "cannot write " ++ name

abbrev pub too_long_line : List ℕ → List ℕ
too_long_line name = name ++ codes ": too long"

-- a file with a fault of a kind, by its name, at a line of its text
abbrev pub fault_line : List ℕ → ℕ → List ℕ → List ℕ
fault_line name line kind = name ++ codes ": line " ++ decimal line ++ codes ": " ++ kind

-- a mapped circuit: its period and its numbers of tables and of registers
abbrev pub mapped_line : ℕ → ℕ → ℕ → List ℕ
mapped_line period tables registers =
    codes "period " ++ decimal period ++ codes " tables " ++ decimal tables ++ codes " registers " ++ decimal registers

-- the least period where registers may also move backward
abbrev pub bound_line : ℕ → List ℕ
bound_line period = codes "bound period " ++ decimal period

-- a sample that was mapped, with its number, and the number of drops of the certificate that was accepted
abbrev pub large_line : ℕ → ℕ → ℕ → ℕ → ℕ → List ℕ
large_line number period tables registers drops =
    codes "large " ++ decimal number ++ codes " period " ++ decimal period ++ codes " tables " ++ decimal tables ++ codes " registers "
    ++ decimal registers ++ codes " drops " ++ decimal drops ++ codes " accepted"

-- a simulation: its number of steps
abbrev pub steps_line : ℕ → List ℕ
steps_line steps = codes "steps " ++ decimal steps

-- three texts that are accepted: the period, and the number of drops of the certificate
abbrev pub accepted_line : ℕ → ℕ → List ℕ
accepted_line period drops = codes "accepted period " ++ decimal period ++ codes " drops " ++ decimal drops

-- three texts that are not accepted: the entry at which a test fails, and the name of the reason
abbrev pub not_accepted_line : ℕ → List ℕ → List ℕ
not_accepted_line entry why = codes "not accepted: entry " ++ decimal entry ++ codes ": " ++ why
