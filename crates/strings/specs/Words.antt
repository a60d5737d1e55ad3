-- Strings in words: how two words tell whether one string is a prefix of the other.
use Rattle.std.specs.Prelude.{Bool, not, ◌&&◌, ℕ, ◌%◌, leb, ltb}
use Rattle.rules.specs.Strings.{common, field}

-- the two words share as many leading digits as the string of s has
unfoldable pub begins : ℕ → ℕ → Bool
begins s t = leb (s % 64) (common (field 64 s) (field 64 t))

-- s is the lower word, and t does not begin with its digits
abbrev pub precedes : ℕ → ℕ → Bool
precedes s t = ltb s t && not (begins s t)
