-- Names as words, walked together: each string of the first is held against one string of the other, and no string is passed twice. The laws
-- of `Tells` say that on words of strings in rising order these are the rules' own questions, those of `Meets` that on lawful stamps the
-- answers are the rules' own.
use Rattle.std.specs.Prelude.{Bool, true, false, cond, not, ◌&&◌, ◌||◌, List, [], ◌∷◌, map, ℕ, zero, suc, eqb, leb, ltb, length, take, drop, get_or, Option, Some, None, Result, Ok}
use Rattle.rules.specs.Limits.{narrow}
use Rattle.rules.specs.Strings.{siblings, str_of}
use Rattle.rules.specs.Names.{Name, any}
use Rattle.rules.specs.Refusals.{Answer, and_then, first}
use Rattle.rules.specs.declared.Words.{Words}
use Rattle.rules.specs.declared.Refusal.TheVariants.{Overlap, Unseen}
use Rattle.rules.specs.declared.Refusal.{Refusal}
use Rattle.rules.specs.declared.Uncovered.{Uncovered}
use Rattle.rules.specs.declared.Standing.{Standing}
use Rattle.strings.specs.Words.{begins}

-- the words that a record counts
abbrev pub front : Words → List ℕ
front w = take w.count w.words

-- the strings that words tell
abbrev pub strs : List ℕ → Name
strs n = map str_of n

-- n without the words below s: so the first one left may extend s, and no later one does unless it does
unfoldable pub at_least : ℕ → List ℕ → List ℕ
at_least s [] = []
at_least s (t ∷ n) = cond (ltb t s) (at_least s n) (t ∷ n)

-- the first string extends s: of words that are not below s, those that share its digits do
unfoldable pub heads : ℕ → List ℕ → Bool
heads s [] = false
heads s (t ∷ n) = begins s t

-- each string of m is a prefix of the first one of n that is not below it
unfoldable pub below_walk : List ℕ → List ℕ → Bool
below_walk [] n = true
below_walk (s ∷ m) n = heads s (at_least s n) && below_walk m (at_least s n)

-- the place of the first string of m that is not; as many as m has where there is none
unfoldable pub uncovered_walk : List ℕ → List ℕ → ℕ
uncovered_walk [] n = zero
uncovered_walk (s ∷ m) n = cond (heads s (at_least s n)) (suc (uncovered_walk m (at_least s n))) zero

-- the string of m at a place
abbrev pub string_at : List ℕ → ℕ → Uncovered
string_at m p = record { place = p; word = get_or m p 0 }

-- that string, where there is one
unfoldable pub uncovered_in : List ℕ → List ℕ → Option Uncovered
uncovered_in m n = cond (leb (length m) (uncovered_walk m n)) None (Some (string_at m (uncovered_walk m n)))

-- some string of u is so in i, and is not in v: only then is v walked
unfoldable pub unknown_walk : List ℕ → List ℕ → List ℕ → Bool
unknown_walk [] i v = false
unknown_walk (r ∷ u) i v =
    cond (heads r (at_least r i)) (not (heads r (at_least r v)) || unknown_walk u (at_least r i) (at_least r v)) (unknown_walk u (at_least r i) v)

-- s stands before the words that k is about: of s and the first of n the lower one is held against the other, and passed
unfoldable pub overlap_from : ℕ → (List ℕ → Bool) → List ℕ → Bool
overlap_from s k [] = false
overlap_from s k (t ∷ n) = cond (ltb s t) (begins s t || k (t ∷ n)) (begins t s || overlap_from s k n)

-- some string of one is a prefix of a string of the other: one merge of both
unfoldable pub overlap_walk : List ℕ → List ℕ → Bool
overlap_walk [] n = false
overlap_walk (s ∷ m) n = overlap_from s (overlap_walk m) n

-- two neighbours differ in the last digit only
unfoldable pub has_twins : List ℕ → Bool
has_twins [] = false
has_twins (s ∷ []) = false
has_twins (s ∷ (t ∷ n)) = siblings (str_of s) (str_of t) || has_twins (t ∷ n)

-- some string has as many digits as a string may have
unfoldable pub is_long : List ℕ → Bool
is_long n = any (λ s. eqb (length (str_of s)) narrow.digits) n

-- ---- two stamps that meet: u and i are the first's update and id, v and j the second's

-- what 9 asks of u: its strings before the first uncovered one are known
abbrev pub unknown_in : List ℕ → List ℕ → List ℕ → Bool
unknown_in u i v = unknown_walk (drop (uncovered_walk u v) u) i v

-- 8, then 9
unfoldable pub meet_walk : List ℕ → List ℕ → List ℕ → List ℕ → Answer
meet_walk u i v j = first ((overlap_walk i j, Overlap) ∷ (unknown_in u j v || unknown_in v i u, Unseen) ∷ [])

-- how an update stands to another, by the first uncovered string of each
abbrev pub judged_by : Option Uncovered → Option Uncovered → Standing
judged_by None None = Standing.Equal
judged_by None (Some y) = Standing.Obsolete y
judged_by (Some x) None = Standing.Newer x
judged_by (Some x) (Some y) = Standing.Conflict x y

-- how the first stands to the second, where they are not refused
unfoldable pub compare_walk : List ℕ → List ℕ → List ℕ → List ℕ → Result Standing Refusal
compare_walk u i v j = and_then (meet_walk u i v j) (λ x. Ok (judged_by (uncovered_in u v) (uncovered_in v u)))
