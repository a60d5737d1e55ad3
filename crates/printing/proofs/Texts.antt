-- What an answer's numbers print is what the rules print for the answer, and none is longer than the longest. Assumes nothing.
use Rattle.laws.proofs.Library.{◌≡◌, refl, ap₂, Bool, true, false, cond, ◌||◌, [], ◌∷◌, ◌++◌, ℕ, ◌+◌, ◌/◌, ◌%◌, ◌≤◌, ◌<◌, mod-eq_of_lt, arith, lt-ltb, le-ltb}
use Rattle.laws.proofs.Library.{ne_eqb, eqb, ltb, length, length-append, Ok, Err}
use Rattle.rules.specs.Strings.{Str, str_of}
use Rattle.rules.specs.Refusals.{number}
use Rattle.rules.specs.Values.{Compared, placed}
use Rattle.rules.specs.Tables.{Slot, Sparing, slot_number, spared_number}
use Rattle.rules.specs.Traces.{Text, ok_text, refused_text, conflict_text, verdict_text, slot_text, compared_text, spared_text}
use Rattle.rules.specs.declared.Uncovered.{Uncovered}
use Rattle.rules.specs.declared.Verdict.TheVariants.{Equal, Obsolete, Newer, Conflict}
use Rattle.rules.specs.declared.Refusal.{Refusal}
use Rattle.rules.specs.declared.Refusal.TheVariants.{Malformed, Unlawful, NoSlot, OneSlot, Full, Long, Many, Overlap, Unseen, Short, Unread, Unfit, Ended}
use Rattle.rules.specs.declared.Spared.TheVariants.{Spare, Kept}
use Rattle.lines.specs.declared.Command.{Command}
use Rattle.lines.specs.Runs.{stood}
use Rattle.lines.proofs.Splits.{either}
use Rattle.printing.specs.Answers.{longest, number_text, ok_number, refused_number, slot_answer, compared_answer, spared_answer, answer_text}
use Rattle.printing.proofs.Digits.{digits_count}

-- ---- the numbers are the answers'

pub refused_text_lem : (r : Refusal) → refused_number (1000 + number r) ≡ refused_text r
unfolding refused_number refused_text number_text
refused_text_lem Malformed = refl
refused_text_lem Unlawful = refl
refused_text_lem NoSlot = refl
refused_text_lem OneSlot = refl
refused_text_lem Full = refl
refused_text_lem Long = refl
refused_text_lem Many = refl
refused_text_lem Overlap = refl
refused_text_lem Unseen = refl
refused_text_lem Short = refl
refused_text_lem Unread = refl
refused_text_lem Unfit = refl
refused_text_lem Ended = refl

pub unread_text : refused_number 11 ≡ refused_text Unread
unfolding refused_number refused_text number_text
unread_text = refl

-- no refusal is the number of another answer
big : (r : Refusal) (n : ℕ) → n < 1000 → eqb (1000 + number r) n ≡ false
big r n h = ne_eqb (1000 + number r) n (λ e. omega arith)

pub ok_text_lem : (a : ℕ) → a < 100 → slot_answer a ≡ ok_text a
unfolding slot_answer ok_number ok_text number_text
ok_text_lem a h = rw (lt-ltb a 1000 (omega arith), mod-eq_of_lt h)

pub slot_text_lem : (s : Slot) → ((a : ℕ) → s ≡ Ok a → a < 100) → slot_answer (slot_number s) ≡ slot_text s
unfolding slot_answer
slot_text_lem (Ok a) h = ok_text_lem a (h a refl)
slot_text_lem (Err r) h = rw (le-ltb (1000 + number r) 1000 (omega arith)) (refused_text_lem r)

-- a compare's answer, where a conflict's words tell the strings x and y
pub stood_text : (d : Compared) (a b : ℕ) (p q : Uncovered) (x y : Str) → (d ≡ Ok Conflict → (str_of p.word ≡ x) × (str_of q.word ≡ y))
    → answer_text (stood (record { op = 67; a = a; b = b }) (placed d p q)) ≡ compared_text d x y
unfolding answer_text compared_answer verdict_text
stood_text (Ok Equal) a b p q x y h = refl
stood_text (Ok Obsolete) a b p q x y h = refl
stood_text (Ok Newer) a b p q x y h = refl
stood_text (Ok Conflict) a b p q x y h = ap₂ conflict_text (h refl).0 (h refl).1
stood_text (Err r) a b p q x y h = rw (big r 0 (omega arith), big r 1 (omega arith), big r 2 (omega arith)) (refused_text_lem r)

pub spared_text_lem : (d : Sparing) → spared_answer (spared_number d) ≡ spared_text d
unfolding spared_answer
spared_text_lem (Ok Spare) = refl
spared_text_lem (Ok Kept) = refl
spared_text_lem (Err r) = rw (big r 0 (omega arith), big r 1 (omega arith)) (refused_text_lem r)

-- ---- an answer has room: one number's text takes 11 bytes at most, and two strings' the longest

abbrev Small : Text → Type 0
Small t = length t ≤ 11

number_room : (n : ℕ) → length (number_text n) ≤ 3
unfolding number_text
number_room n = by (ltb (n % 100) 10)
  where
    by : (b : Bool) → length (cond b ((48 + n % 100) ∷ []) ((48 + n % 100 / 10) ∷ (48 + n % 100 % 10) ∷ []) ++ (10 ∷ [])) ≤ 3
    by true = omega arith
    by false = omega arith

refused_room : (n : ℕ) → Small (refused_number n)
unfolding refused_number
refused_room n = omega (arith, number_room n)

slot_room : (code : ℕ) → Small (slot_answer code)
unfolding slot_answer ok_number
slot_room code = either Small (ltb code 1000) (λ e. omega (arith, number_room code)) (λ e. refused_room code)

compared_room : (code : ℕ) → Small (compared_answer code)
unfolding compared_answer verdict_text
compared_room code =
    either Small (eqb code 0) (λ e. omega arith) (λ e.
    either Small (eqb code 1) (λ e. omega arith) (λ e. either Small (eqb code 2) (λ e. omega arith) (λ e. refused_room code)))

spared_room : (code : ℕ) → Small (spared_answer code)
unfolding spared_answer
spared_room code = either Small (eqb code 0) (λ e. omega arith) (λ e. either Small (eqb code 1) (λ e. omega arith) (λ e. refused_room code))

-- "conflict ", a space and a newline, and two strings
conflict_room : (a b : ℕ) → length (conflict_text (str_of a) (str_of b)) ≤ longest
unfolding conflict_text
conflict_room a b = rw length-append (rw length-append (omega (arith, digits_count a, digits_count b)))

abbrev Fits : Text → Type 0
Fits t = length t ≤ longest

pub answer_room : (c : Command) → length (answer_text c) ≤ longest
unfolding answer_text
answer_room c =
    either Fits (eqb c.op 85 || eqb c.op 70 || eqb c.op 74) (λ e. omega (arith, slot_room c.a)) (λ e.
    either Fits (eqb c.op 67) (λ e. omega (arith, compared_room c.a)) (λ e.
    either Fits (eqb c.op 83) (λ e. omega (arith, spared_room c.a)) (λ e.
    either Fits (eqb c.op 99) (λ e. conflict_room c.a c.b) (λ e. omega (arith, refused_room 11)))))
