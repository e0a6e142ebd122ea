use Rattle.std.proofs.Common.{◌≡◌, ◌++◌, map, take}
use Rattle.std.specs.List.{flat_map}
use Rattle.tm_unroll.specs.Mappings.{table_of}
use Rattle.cert_text.specs.Certificates.{line_text, table_words}
use Rattle.cert_text.proofs.writing.push_tables.Given as goal

-- the tables up to here are written
abbrev pub invariant-loop-lut : goal.invariant-loop-lut
invariant-loop-lut l = l.out.items ≡ l.initial.out.items ++ flat_map line_text (map table_words (map table_of (take l.lut-index l.luts)))
