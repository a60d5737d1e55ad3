-- The words that a record counts, and those behind them. Assumes nothing.
use Rattle.laws.proofs.Library.{◌≡◌, ap, ◌∙◌, List, ℕ, min, length}
use Rattle.laws.proofs.Library.{take, drop, length-take, length-map}
use Rattle.rules.specs.Strings.{str_of}
use Rattle.rules.specs.Stored.{strs_in}
use Rattle.rules.specs.declared.Words.{Words}

-- the words that a record counts, and those behind them
abbrev pub front : Words → List ℕ
front n = take n.count n.words

abbrev pub behind : Words → List ℕ
behind n = drop n.count n.words

-- a record tells as many words as it counts, but no more than it has
module _ (n : Words) (room : ℕ) (full : length n.words ≡ room) where
  pub front_length : length (front n) ≡ min n.count room
  front_length = length-take n.count n.words ∙ ap (min n.count) full

  -- and so many strings
  pub strs_length : length (strs_in n) ≡ min n.count room
  unfolding strs_in
  strs_length = length-map (front n) str_of ∙ front_length
