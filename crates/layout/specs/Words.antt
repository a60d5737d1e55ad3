-- Two names in words, and what they tell.
use Rattle.std.specs.Prelude.{List, map, ℕ}
use Rattle.rules.specs.Strings.{str_of}
use Rattle.rules.specs.Stamps.{Stamp}

-- the stamp whose update and id these are
abbrev pub stamp_of : List ℕ → List ℕ → Stamp
stamp_of u i = record { update = map str_of u; id = map str_of i }
