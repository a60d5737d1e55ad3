-- The words of a name, lent: those that its record counts, and those of its strings with a digit more.
use Rattle.std.specs.Prelude.{◌≡◌, ℕ, ◌+◌, ◌-◌, ◌*◌, ◌%◌, ◌^◌, List, [], ◌∷◌, take}
use Rattle.std.specs.Borrow.{Bor}
use Rattle.rules.specs.declared.Words.{Words}

-- r begins where w does, and has its first c words: all where it has no more
abbrev pub counted_is : ℕ → Bor (List ℕ) → Bor (List ℕ) → Type 0
counted_is c w r = (r.ref_ptr ≡ w.ref_ptr) × (r.now ≡ take c w.now)

-- the words that a name's record counts
abbrev pub counted_words : Words → List ℕ
counted_words w = take w.count w.words

-- in a word the length grows by one, and the digit d comes behind the others; in 64 bits, where it is no word of a string
abbrev pub longer : ℕ → ℕ → ℕ
longer d w = (w + 1 + d * 2 ^ (63 - w % 64)) % 2 ^ 64

-- each word with the digit d more, over the front of out, as far as both go
unfoldable pub grown_in : ℕ → List ℕ → List ℕ → List ℕ
grown_in d [] out = out
grown_in d (w ∷ l) [] = []
grown_in d (w ∷ l) (x ∷ out) = longer d w ∷ grown_in d l out
