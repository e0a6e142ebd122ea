-- The commands that readings of words ask for.
use Rattle.std.specs.Prelude.{option_map}
use Rattle.turbomap.specs.declared.reading.MapWords.{MapWords}
use Rattle.turbomap.specs.declared.reading.BoundWords.{BoundWords}
use Rattle.turbomap.specs.declared.reading.CheckWords.{CheckWords}
use Rattle.turbomap.specs.declared.reading.SimWords.{SimWords}
use Rattle.turbomap.specs.declared.reading.LargeWords.{LargeWords}
use Rattle.turbomap.specs.Command.{Command}
use Rattle.turbomap.specs.Bound.{bound_command}
use Rattle.turbomap.specs.Check.{check_command}
use Rattle.turbomap.specs.Large.{large_command}
use Rattle.turbomap.specs.Map.{rule_of, map_command}
use Rattle.turbomap.specs.Simulate.{sim_command}

abbrev pub map_asked : MapWords → Command
map_asked words =
    map_command (rule_of words.rows) words.k words.d words.input.now words.output.now (option_map (λ name. name.now) words.certificate)

abbrev pub check_asked : CheckWords → Command
check_asked words = check_command words.k words.d words.input.now words.output.now words.certificate.now

abbrev pub sim_asked : SimWords → Command
sim_asked words = sim_command words.input.now words.vectors.now words.output.now

abbrev pub large_asked : LargeWords → Command
large_asked words = large_command words.number words.k words.d

abbrev pub bound_asked : BoundWords → Command
bound_asked words = bound_command words.k words.d words.b words.input.now
