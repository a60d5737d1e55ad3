-- What the tests in C hand over and are handed beside the rules' own: a record as 34 words, an answer as a number, the bytes to keep, a standing as 4 words.
use Rattle.std.specs.Prelude.{List, [], ◌∷◌, ◌++◌, ℕ, ◌+◌, get_or, Result, Ok, Err}
use Rattle.std.proofs.Math.Seq.{slice}
use Rattle.rules.specs.Limits.{narrow}
use Rattle.rules.specs.Stored.{blank}
use Rattle.rules.specs.Refusals.{number}
use Rattle.rules.specs.Packed.{Side, the_first, the_second, neither}
use Rattle.rules.specs.declared.Record.{Record}
use Rattle.rules.specs.declared.Standing.{Standing}
use Rattle.rules.specs.declared.Branches.{Branches}
use Rattle.rules.specs.declared.Refusal.{Refusal}

-- the record that 34 words say: of the update name and of the id a count and 16 words
unfoldable pub record_in : List ℕ → Record
record_in ws =
    record {
      update = record { count = get_or ws 0 0; words = slice 1 17 ws };
      id = record { count = get_or ws 17 0; words = slice 18 34 ws };
    }

-- the words that say a record
unfoldable pub record_words : Record → List ℕ
record_words r = (r.update.count ∷ r.update.words) ++ (r.id.count ∷ r.id.words)

-- 0, or 1,000 plus the refusal's number
abbrev pub done_number : {A : Type 0} → Result A Refusal → ℕ
done_number (Ok x) = 0
done_number (Err r) = 1000 + number r

-- the words of a stamp, or of both branches of a fork; zeros beside a refusal
abbrev pub given_words : Result Record Refusal → List ℕ
given_words (Ok r) = record_words r
given_words (Err e) = record_words (blank narrow)

abbrev pub zero_words : Result Branches Refusal → List ℕ
zero_words (Ok f) = record_words f.zero
zero_words (Err e) = record_words (blank narrow)

abbrev pub one_words : Result Branches Refusal → List ℕ
one_words (Ok f) = record_words f.one
one_words (Err e) = record_words (blank narrow)

-- the bytes of the one to keep of two
abbrev pub kept_bytes : Side → List ℕ → List ℕ → List ℕ
kept_bytes the_first s t = s
kept_bytes the_second s t = t
kept_bytes neither s t = []

-- the place and the word of the first's uncovered string, then of the second's; 0 and 0 where there is none
abbrev pub standing_words : Result Standing Refusal → List ℕ
standing_words (Ok Standing.Equal) = 0 ∷ 0 ∷ 0 ∷ 0 ∷ []
standing_words (Ok (Standing.Obsolete y)) = 0 ∷ 0 ∷ y.place ∷ y.word ∷ []
standing_words (Ok (Standing.Newer x)) = x.place ∷ x.word ∷ 0 ∷ 0 ∷ []
standing_words (Ok (Standing.Conflict x y)) = x.place ∷ x.word ∷ y.place ∷ y.word ∷ []
standing_words (Err r) = 0 ∷ 0 ∷ 0 ∷ 0 ∷ []
