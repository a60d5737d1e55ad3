-- "Refusal numbers": the numbers, what 6 to 9 ask of stamps, and the order of a call's refusals.
use Rattle.std.specs.Prelude.{⊤, Bool, cond, not, ◌&&◌, ◌||◌, List, [], ◌∷◌, ℕ, eqb, ltb, length, Result, Ok, Err}
use Rattle.rules.specs.Limits.{Limits}
use Rattle.rules.specs.Names.{Name, any, covered}
use Rattle.rules.specs.Stamps.{Stamp}
use Rattle.rules.specs.declared.Refusal.{Refusal}
use Rattle.rules.specs.declared.Refusal.TheVariants.{Malformed, Unlawful, NoSlot, OneSlot, Full, Long, Many, Overlap, Unseen, Short, Unread, Unfit, Ended}
use Rattle.rules.specs.declared.Verdict.{Verdict}
use Rattle.rules.specs.declared.Verdict.TheVariants.{Equal, Obsolete, Newer, Conflict}

-- the table's numbers
abbrev pub number : Refusal → ℕ
number Malformed = 1
number Unlawful = 2
number NoSlot = 3
number OneSlot = 4
number Full = 5
number Long = 6
number Many = 7
number Overlap = 8
number Unseen = 9
number Short = 10
number Unread = 11
number Unfit = 12
number Ended = 13

-- "Compare gives 0 equal, 1 obsolete, 2 newer, 3 conflict"
abbrev pub verdict_number : Verdict → ℕ
verdict_number Equal = 0
verdict_number Obsolete = 1
verdict_number Newer = 2
verdict_number Conflict = 3

-- whether a call is accepted
abbrev pub Answer : Type 0
Answer = Result ⊤ Refusal

-- the first test that holds refuses; where none does the call is accepted
unfoldable pub first : List (Bool × Refusal) → Answer
first [] = Ok tt
first (t ∷ ts) = cond t.0 (Err t.1) (first ts)

-- what is refused before is refused
abbrev pub and_then : {A B : Type 0} → Result A Refusal → (A → Result B Refusal) → Result B Refusal
and_then (Ok x) f = f x
and_then (Err r) f = Err r

-- 6: "an id string has 24 digits"
unfoldable pub long : Limits → Stamp → Bool
long L s = any (λ t. eqb (length t) L.digits) s.id

-- 7: "the reduced id has more than 16 strings"
unfoldable pub many : Limits → Stamp → Bool
many L s = ltb L.strings (length s.id)

-- some string of m is a prefix of a string of n
unfoldable pub touches : Name → Name → Bool
touches m n = any (λ s. covered s n) m

-- 8: "a string of one id is a prefix of a string of the other"
unfoldable pub overlap : Stamp → Stamp → Bool
overlap a b = touches a.id b.id || touches b.id a.id

-- some string r of u is below the id i and not below the update v
unfoldable pub unknown_to : Name → Name → Name → Bool
unknown_to u i v = any (λ r. covered r i && not (covered r v)) u

-- 9: "a string r of one update is below the other's id and not below the other's update"
unfoldable pub unseen : Stamp → Stamp → Bool
unseen a b = unknown_to a.update b.id b.update || unknown_to b.update a.id a.update
