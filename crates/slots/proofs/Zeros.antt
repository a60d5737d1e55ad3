-- A record is absent where both counts are 0, and every word: what is asked of numbers one by one is asked of the record. And the word of the empty
-- string is 0, so one string in each name of a blank record is [e|e]. Assumes nothing.
use Rattle.laws.proofs.Library.{◌≡◌, refl, sym, ap, ap₂, ◌∙◌, Bool, ◌&&◌, List, [], ◌∷◌, ℕ, arith, eqb, length, replicate}
use Rattle.std.proofs.lemmas.Bool.Decides.{nat_tests}
use Rattle.rules.specs.Limits.{narrow}
use Rattle.rules.specs.Names.{all}
use Rattle.rules.specs.Stamps.{start}
use Rattle.rules.specs.Strings.{word_of, aligned, value_from}
use Rattle.rules.specs.Stored.{same_numbers, same_words, same_record, words_of, stored, blank, absent}
use Rattle.rules.specs.declared.Record.{Record}
use Rattle.rules.specs.declared.Words.{Words}

eqb_turned : (a b : ℕ) → eqb a b ≡ eqb b a
eqb_turned a b = grind (arith, nat_tests)

-- against as many zeros
zeros_all : (ws : List ℕ) → same_numbers ws (replicate (length ws) 0) ≡ all (eqb 0) ws
unfolding same_numbers all
zeros_all [] = refl
zeros_all (x ∷ ws) = ap₂ (λ (a b : Bool). a && b) (eqb_turned x 0) (zeros_all ws)

zeros_are : (ws : List ℕ) → length ws ≡ 16 → same_numbers ws (replicate 16 0) ≡ all (eqb 0) ws
zeros_are ws e = ap (λ (n : ℕ). same_numbers ws (replicate n 0)) (sym e) ∙ zeros_all ws

pub name_zeros : (w : Words) → length w.words ≡ 16 → same_words w (words_of narrow []) ≡ (eqb w.count 0 && all (eqb 0) w.words)
unfolding same_words words_of
name_zeros w e = ap (λ (b : Bool). eqb w.count 0 && b) (zeros_are w.words e)

pub absent_is : (r : Record) → absent narrow r ≡ (same_words r.update (words_of narrow []) && same_words r.id (words_of narrow []))
unfolding absent blank stored same_record
absent_is r = refl

-- both names of a record get one string
abbrev one : Record → Record
one r = let n : Words = record { count = 1; words = r.update.words } in record { update = n; id = n }

one_blank : one (blank narrow) ≡ stored narrow start
unfolding blank stored words_of word_of aligned value_from
one_blank = refl

pub start_is : (r : Record) → r ≡ blank narrow → one r ≡ stored narrow start
start_is r e = ap one e ∙ one_blank

pub ruleset zeros = (name_zeros, absent_is, start_is)
