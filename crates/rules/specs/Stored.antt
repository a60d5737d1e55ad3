-- "Each stamp has one stored shape; any other content of the record counts as unlawful."
use Rattle.std.specs.Prelude.{Bool, true, false, not, ◌&&◌, List, [], ◌∷◌, ◌++◌, map, ℕ, ◌-◌, eqb, length, take, replicate}
use Rattle.rules.specs.Limits.{Limits}
use Rattle.rules.specs.Strings.{word_of, str_of}
use Rattle.rules.specs.Names.{Name, is_name}
use Rattle.rules.specs.Stamps.{Stamp, lawful}
use Rattle.rules.specs.declared.Words.{Words}
use Rattle.rules.specs.declared.Record.{Record}

-- a name's record: its count, its words in rising order, and zeros behind them
unfoldable pub words_of : Limits → Name → Words
words_of L n = record { count = length n; words = map word_of n ++ replicate (L.strings - length n) 0 }

-- the stored shape of a stamp
unfoldable pub stored : Limits → Stamp → Record
stored L s = record { update = words_of L s.update; id = words_of L s.id }

-- the strings that a name's record tells
unfoldable pub strs_in : Words → Name
strs_in w = map str_of (take w.count w.words)

-- the stamp that a record tells
unfoldable pub held : Record → Stamp
held r = record { update = strs_in r.update; id = strs_in r.id }

-- two lists of numbers, two records are the same
unfoldable pub same_numbers : List ℕ → List ℕ → Bool
same_numbers [] [] = true
same_numbers [] (y ∷ ys) = false
same_numbers (x ∷ xs) [] = false
same_numbers (x ∷ xs) (y ∷ ys) = eqb x y && same_numbers xs ys

unfoldable pub same_words : Words → Words → Bool
same_words a b = eqb a.count b.count && same_numbers a.words b.words

unfoldable pub same_record : Record → Record → Bool
same_record a b = same_words a.update b.update && same_words a.id b.id

-- the name's record is the stored shape of a name
unfoldable pub is_stored_name : Limits → Words → Bool
is_stored_name L w = is_name L (strs_in w) && same_words w (words_of L (strs_in w))

-- the record is the stored shape of a lawful stamp
unfoldable pub is_stored : Limits → Record → Bool
is_stored L r = lawful L (held r) && same_record r (stored L (held r))

unfoldable pub unlawful : Limits → Record → Bool
unlawful L r = not (is_stored L r)

-- all zeros: no name at all
unfoldable pub blank : Limits → Record
blank L = stored L (record { update = []; id = [] })

-- "A record is absent exactly when it is all zeros"
unfoldable pub absent : Limits → Record → Bool
absent L r = same_record r (blank L)
