-- "The trace tool": what a line means, what it prints, and what a whole input prints.
use Rattle.std.specs.Prelude.{Bool, cond, not, ◌&&◌, List, [], ◌∷◌, ◌++◌, ℕ, ◌+◌, ◌*◌, ◌-◌, ◌/◌, ◌%◌, eqb, leb, ltb, Ok, Err}
use Rattle.std.proofs.Math.Option.{Option, none, some}
use Rattle.rules.specs.Limits.{Limits, records}
use Rattle.rules.specs.Strings.{Str, digit}
use Rattle.rules.specs.Names.{lacked}
use Rattle.rules.specs.Refusals.{number}
use Rattle.rules.specs.Values.{Compared}
use Rattle.rules.specs.Tables.{Table, Slot, Sparing, stamp_at, fresh_table, update_at, fork_at, join_at, compare_at, spare_at}
use Rattle.rules.specs.declared.Verdict.{Verdict}
use Rattle.rules.specs.declared.Verdict.TheVariants.{Equal, Obsolete, Newer, Conflict}
use Rattle.rules.specs.declared.Refusal.{Refusal}
use Rattle.rules.specs.declared.Refusal.TheVariants.{Unread}
use Rattle.rules.specs.declared.Spared.TheVariants.{Spare, Kept}

abbrev pub Text : Type 0
Text = List ℕ

-- ---- lines

-- a byte at the front of the first part
abbrev pub onto_first : ℕ → List Text → List Text
onto_first x [] = (x ∷ []) ∷ []
onto_first x (p ∷ ps) = (x ∷ p) ∷ ps

-- the parts between the bytes c; there is always one
unfoldable pub split_at : ℕ → Text → List Text
split_at c [] = [] ∷ []
split_at c (x ∷ l) = cond (eqb x c) ([] ∷ split_at c l) (onto_first x (split_at c l))

-- what stands behind the last newline is a line only where it is something
unfoldable pub drop_empty_last : List Text → List Text
drop_empty_last [] = []
drop_empty_last ([] ∷ []) = []
drop_empty_last ((x ∷ p) ∷ []) = (x ∷ p) ∷ []
drop_empty_last (p ∷ (q ∷ ps)) = p ∷ drop_empty_last (q ∷ ps)

-- "A last line without newline is read too; empty input prints nothing" (newline is 10)
unfoldable pub lines_of : Text → List Text
lines_of input = drop_empty_last (split_at 10 input)

-- ---- what a line means

pub data Line : Type 0 where
  update : ℕ → Line
  fork : ℕ → Line
  join : ℕ → ℕ → Line
  compare : ℕ → ℕ → Line
  spare : ℕ → Line
  unreadable : Line

abbrev pub is_digit : ℕ → Bool
is_digit x = leb 48 x && leb x 57

-- "one or two decimal digits with no leading zero but for 0 itself"
unfoldable pub slot_of : Text → Option ℕ
slot_of [] = none
slot_of (x ∷ []) = cond (is_digit x) (some (x - 48)) none
slot_of (x ∷ (y ∷ [])) = cond (is_digit x && is_digit y && not (eqb x 48)) (some ((x - 48) * 10 + (y - 48))) none
slot_of (x ∷ (y ∷ (z ∷ l))) = none

abbrev pub with_one : Option ℕ → (ℕ → Line) → Line
with_one none f = unreadable
with_one (some a) f = f a

abbrev pub with_two : Option ℕ → Option ℕ → (ℕ → ℕ → Line) → Line
with_two none y f = unreadable
with_two (some a) none f = unreadable
with_two (some a) (some b) f = f a b

-- a letter and one slot: U, F, S
abbrev pub one_slot : ℕ → Text → Line
one_slot c a = cond (eqb c 85) (with_one (slot_of a) update) (cond (eqb c 70) (with_one (slot_of a) fork) (cond (eqb c 83) (with_one (slot_of a) spare) unreadable))

-- a letter and two slots: J, C
abbrev pub two_slots : ℕ → Text → Text → Line
two_slots c a b = cond (eqb c 74) (with_two (slot_of a) (slot_of b) join) (cond (eqb c 67) (with_two (slot_of a) (slot_of b) compare) unreadable)

-- by the parts between its spaces
abbrev pub by_parts : List Text → Line
by_parts [] = unreadable
by_parts ([] ∷ ps) = unreadable
by_parts ((c ∷ []) ∷ []) = unreadable
by_parts ((c ∷ []) ∷ (a ∷ [])) = one_slot c a
by_parts ((c ∷ []) ∷ (a ∷ (b ∷ []))) = two_slots c a b
by_parts ((c ∷ []) ∷ (a ∷ (b ∷ (d ∷ ps)))) = unreadable
by_parts ((c ∷ (d ∷ l)) ∷ ps) = unreadable

-- "`U a`, `F a`, `J a b`, `C a b` or `S a`: the letter, one space before each slot" (space is 32)
unfoldable pub read_line : Text → Line
read_line l = by_parts (split_at 32 l)

-- ---- what it prints

-- a number below 100 in decimal digits
abbrev pub decimal : ℕ → Text
decimal n = cond (ltb n 10) ((48 + n) ∷ []) ((48 + n / 10) ∷ (48 + n % 10) ∷ [])

-- "ok" and the slot; "refused" and the number
unfoldable pub ok_text : ℕ → Text
ok_text a = 111 ∷ 107 ∷ 32 ∷ (decimal a ++ (10 ∷ []))

unfoldable pub refused_text : Refusal → Text
refused_text r = 114 ∷ 101 ∷ 102 ∷ 117 ∷ 115 ∷ 101 ∷ 100 ∷ 32 ∷ (decimal (number r) ++ (10 ∷ []))

-- a string as its digits
unfoldable pub digits_text : Str → Text
digits_text [] = []
digits_text (d ∷ s) = (48 + digit d) ∷ digits_text s

-- "`conflict`, then, each after a space, the first copy's uncovered string and the second's, as digits"
unfoldable pub conflict_text : Str → Str → Text
conflict_text x y =
    99 ∷ 111 ∷ 110 ∷ 102 ∷ 108 ∷ 105 ∷ 99 ∷ 116 ∷ 32 ∷ (digits_text x ++ (32 ∷ (digits_text y ++ (10 ∷ []))))

-- the words equal, obsolete, newer, conflict; x and y are the uncovered strings
unfoldable pub verdict_text : Verdict → Str → Str → Text
verdict_text Equal x y = 101 ∷ 113 ∷ 117 ∷ 97 ∷ 108 ∷ 10 ∷ []
verdict_text Obsolete x y = 111 ∷ 98 ∷ 115 ∷ 111 ∷ 108 ∷ 101 ∷ 116 ∷ 101 ∷ 10 ∷ []
verdict_text Newer x y = 110 ∷ 101 ∷ 119 ∷ 101 ∷ 114 ∷ 10 ∷ []
verdict_text Conflict x y = conflict_text x y

abbrev pub slot_text : Slot → Text
slot_text (Ok a) = ok_text a
slot_text (Err r) = refused_text r

abbrev pub compared_text : Compared → Str → Str → Text
compared_text (Ok v) x y = verdict_text v x y
compared_text (Err r) x y = refused_text r

-- the words spare, kept
abbrev pub spared_text : Sparing → Text
spared_text (Ok Spare) = 115 ∷ 112 ∷ 97 ∷ 114 ∷ 101 ∷ 10 ∷ []
spared_text (Ok Kept) = 107 ∷ 101 ∷ 112 ∷ 116 ∷ 10 ∷ []
spared_text (Err r) = refused_text r

-- ---- a line at a table: what it prints and what it leaves

-- what the copy in slot a has and that in slot b lacks
abbrev pub lacked_at : Table → ℕ → ℕ → Str
lacked_at t a b = lacked (stamp_at t a).update (stamp_at t b).update

unfoldable pub line_text : Limits → Table → Line → Text
line_text L t (update a) = slot_text (update_at L t a).answer
line_text L t (fork a) = slot_text (fork_at L t a).answer
line_text L t (join a b) = slot_text (join_at L t a b).answer
line_text L t (compare a b) = compared_text (compare_at L t a b) (lacked_at t a b) (lacked_at t b a)
line_text L t (spare a) = spared_text (spare_at L t a)
line_text L t unreadable = refused_text Unread

unfoldable pub line_table : Limits → Table → Line → Table
line_table L t (update a) = (update_at L t a).table
line_table L t (fork a) = (fork_at L t a).table
line_table L t (join a b) = (join_at L t a b).table
line_table L t (compare a b) = t
line_table L t (spare a) = t
line_table L t unreadable = t

-- "One line out for each line in"
unfoldable pub traced_from : Limits → Table → List Line → Text
traced_from L t [] = []
traced_from L t (l ∷ ls) = line_text L t l ++ traced_from L (line_table L t l) ls

unfoldable pub read_lines : List Text → List Line
read_lines [] = []
read_lines (l ∷ ls) = read_line l ∷ read_lines ls

-- "It reads standard input and starts from a fresh table of 32"
unfoldable pub traced : Limits → Text → Text
traced L input = traced_from L (fresh_table L records) (read_lines (lines_of input))
