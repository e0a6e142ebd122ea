-- The limits on texts, as numbers.
use Rattle.blif_unit.specs.declared.limits.Limits.{Limits}

-- what a text that is mapped may have
abbrev pub source : Limits
source = record { signals = 100000; name = 255 }

-- what a mapped text may have
abbrev pub mapped : Limits
mapped = record { signals = 900000; name = 1023 }
