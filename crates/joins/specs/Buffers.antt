-- Words in a name's record.
use Rattle.std.specs.Prelude.{List, ℕ, length}
use Rattle.rules.specs.Limits.{narrow}
use Rattle.rules.specs.declared.Words.{Words}
use Rattle.unions.specs.Unions.{cleared}

-- the name's record that holds these words, and zeros behind them
unfoldable pub words : List ℕ → Words
words l = record { count = length l; words = cleared narrow.strings l }
