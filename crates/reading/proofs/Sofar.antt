-- A name on the way: the strings read so far, and what the reader of bits makes of the rest. Assumes nothing.
use Rattle.laws.proofs.Library.{◌≡◌, true, List, ◌++◌, some, ℕ, ◌≤◌}
use Rattle.rules.specs.Limits.{narrow}
use Rattle.rules.specs.Strings.{str_of, is_word}
use Rattle.rules.specs.Names.{Name}
use Rattle.rules.specs.Packed.{Taken, then_take, take_more, take_name}
use Rattle.walks.specs.Walks.{strs}
use Rattle.reading.specs.Reading.{rest, are_words}

-- the strings read so far, and those that more strings add to them
abbrev pub onward : Name → Taken Name → Taken Name
onward n t = then_take t (λ m end. some (n ++ m, end))

-- what the code holds, where k strings more are to come
pub record Sofar (b : List ℕ) (bits pos k prior next : ℕ) (ws : List ℕ) : Type 0 where
  pub whole : is_word 24 prior ≡ true
  pub inside : next ≤ bits
  pub words : are_words ws ≡ true
  pub reads : take_name narrow (rest b bits pos) ≡ onward (strs ws) (take_more narrow k (str_of prior) (rest b bits next))
