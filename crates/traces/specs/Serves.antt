-- Commands at a table: all that a buffer holds, one after the other.
use Rattle.std.specs.Prelude.{List}
use Rattle.rules.specs.Limits.{narrow}
use Rattle.rules.specs.Tables.{Table}
use Rattle.lines.specs.declared.Command.{Command}
use Rattle.lines.specs.Runs.{answered, table_after}

abbrev pub ran_table : Table → List Command → Table
ran_table t commands = table_after narrow t commands

-- each command with its answer
abbrev pub ran_in : Table → List Command → List Command
ran_in t commands = answered narrow t commands
