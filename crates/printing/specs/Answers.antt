-- What answered commands print.
use Rattle.std.specs.Prelude.{cond, ◌||◌, List, [], ◌∷◌, ◌++◌, ℕ, zero, suc, ◌-◌, ◌%◌, eqb, leb, ltb, length, take, Ok}
use Rattle.rules.specs.Strings.{str_of}
use Rattle.rules.specs.Traces.{Text, decimal, conflict_text, verdict_text, spared_text}
use Rattle.rules.specs.Packed.{over}
use Rattle.rules.specs.declared.Verdict.TheVariants.{Equal, Obsolete, Newer}
use Rattle.rules.specs.declared.Spared.TheVariants.{Spare, Kept}
use Rattle.lines.specs.declared.Command.{Command}
use Rattle.printing.specs.declared.Printed.{Printed}

-- a number's two last digits, then newline
unfoldable pub number_text : ℕ → Text
number_text n = decimal (n % 100) ++ (10 ∷ [])

-- "ok" and the slot
unfoldable pub ok_number : ℕ → Text
ok_number n = 111 ∷ 107 ∷ 32 ∷ number_text n

-- "refused" and the number, which stands in the two last digits
unfoldable pub refused_number : ℕ → Text
refused_number n = 114 ∷ 101 ∷ 102 ∷ 117 ∷ 115 ∷ 101 ∷ 100 ∷ 32 ∷ number_text n

-- update, fork, join: a slot is below 1,000
unfoldable pub slot_answer : ℕ → Text
slot_answer code = cond (ltb code 1000) (ok_number code) (refused_number code)

-- a conflict has no number: its strings are printed
unfoldable pub compared_answer : ℕ → Text
compared_answer code =
    cond (eqb code 0) (verdict_text Equal [] [])
    (cond (eqb code 1) (verdict_text Obsolete [] []) (cond (eqb code 2) (verdict_text Newer [] []) (refused_number code)))

unfoldable pub spared_answer : ℕ → Text
spared_answer code = cond (eqb code 0) (spared_text (Ok Kept)) (cond (eqb code 1) (spared_text (Ok Spare)) (refused_number code))

-- by the letter: `a` is the answer's number, but of a conflict, whose letter is c (99), `a` and `b` are the words of the two strings;
-- without a letter the line was unreadable, refusal 11
unfoldable pub answer_text : Command → Text
answer_text c =
    cond (eqb c.op 85 || eqb c.op 70 || eqb c.op 74) (slot_answer c.a)
    (cond (eqb c.op 67) (compared_answer c.a)
    (cond (eqb c.op 83) (spared_answer c.a)
    (cond (eqb c.op 99) (conflict_text (str_of c.a) (str_of c.b)) (refused_number 11))))

-- the answers one after the other
unfoldable pub answers_text : List Command → Text
answers_text [] = []
answers_text (c ∷ cs) = answer_text c ++ answers_text cs

-- no answer is longer: "conflict", and two strings of 63 digits, the most that a word can say, each behind a space; newline
abbrev pub longest : ℕ
longest = 137

-- how many of the answers are written where there is room for so many bytes: the next one only where there is room for the longest
unfoldable pub fitting : ℕ → List Command → ℕ
fitting room [] = zero
fitting room (c ∷ cs) = cond (leb longest room) (suc (fitting (room - length (answer_text c)) cs)) zero

abbrev pub fits : List Command → List ℕ → ℕ
fits commands out = fitting (length out) commands

-- the text of those that are written
abbrev pub text_in : List Command → List ℕ → Text
text_in commands out = answers_text (take (fits commands out) commands)

unfoldable pub printed : List Command → List ℕ → Printed
printed commands out = record { count = fits commands out; len = length (text_in commands out) }

-- the text at the front, and the rest as it was
unfoldable pub printed_in : List Command → List ℕ → List ℕ
printed_in commands out = over (text_in commands out) out
