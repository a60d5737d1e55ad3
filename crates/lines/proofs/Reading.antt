-- `read_line` of a letter, a space and a rest is told by the first space of the rest; and no line of eight bytes or more reads, as a slot
-- has at most two bytes. Assumes nothing.
use Rattle.laws.proofs.Library.{◌≡◌, refl, sym, ap, ◌∙◌, Bool, true, false, cond, ◌⊎◌, inl, inr, List, [], ◌∷◌, ℕ, suc, ◌+◌}
use Rattle.laws.proofs.Library.{◌≤◌, ◌<◌, add-one, arith, ltb-true, ltb-false, leb-true, leb-false, eqb-true, ne_eqb, eqb, leb, ltb, length, get_or, take}
use Rattle.laws.proofs.Library.{◌-◌, drop, length-drop, length-take, take_all}
use Rattle.laws.proofs.Library as rules
use Rattle.std.specs.declared.option.Option.{Option}
use Rattle.std.specs.declared.option.Option.TheVariants.{None, Some}
use Rattle.rules.specs.Traces.{Text, Line, unreadable, update, fork, join, compare, spare}
use Rattle.rules.specs.Traces.{split_at, onto_first, read_line, by_parts, slot_of, one_slot, two_slots, with_one, with_two}
use Rattle.lines.specs.declared.Command.{Command}
use Rattle.lines.specs.Commands.{command_of}
use Rattle.lines.specs.Inner.{given, said, first_space}
use Rattle.lines.proofs.Splits.{either, first_at, found_first, split_none, split_some, parts, spread, spread_split}
use Rattle.lines.proofs.Slots.{slot_space, slot_short}

-- ---- a letter and the rest of the line

unread_or : (b : Bool) {m : Line} → m ≡ unreadable → cond b unreadable m ≡ unreadable
unread_or b h = either (λ (n : Line). n ≡ unreadable) b (λ e. refl) (λ e. h)

one_none : (c : ℕ) (x : rules.Option ℕ) → x ≡ rules.none
    → cond (eqb c 85) (with_one x update) (cond (eqb c 70) (with_one x fork) (cond (eqb c 83) (with_one x spare) unreadable)) ≡ unreadable
one_none c x e = rw e (unread_or (eqb c 85) (unread_or (eqb c 70) (unread_or (eqb c 83) refl)))

with_none : (x : rules.Option ℕ) (f : ℕ → ℕ → Line) → with_two x rules.none f ≡ unreadable
with_none rules.none f = refl
with_none (rules.some a) f = refl

either_none : (c : ℕ) → cond (eqb c 74) unreadable (cond (eqb c 67) unreadable unreadable) ≡ unreadable
either_none c = unread_or (eqb c 74) (unread_or (eqb c 67) refl)

first_none : (c : ℕ) (a b : Text) → slot_of a ≡ rules.none → two_slots c a b ≡ unreadable
first_none c a b e = rw e (either_none c)

second_none : (c : ℕ) (a b : Text) → slot_of b ≡ rules.none → two_slots c a b ≡ unreadable
second_none c a b e = simp (e, with_none) (either_none c)

-- the first part is more than a letter
no_letter : (c d : ℕ) (l : Text) → (d ≡ 32 → ⊥) → read_line (c ∷ d ∷ l) ≡ unreadable
unfolding read_line split_at
no_letter c d l h = rw (ne_eqb d 32 h) (by (eqb c 32) (split_at 32 l))
  where
    by : (b : Bool) (ps : List Text) → by_parts (cond b ([] ∷ onto_first d ps) (onto_first c (onto_first d ps))) ≡ unreadable
    by true ps = refl
    by false [] = refl
    by false (p ∷ ps) = refl

read_one : (c : ℕ) (l : Text) → length l ≤ first_at 32 l → read_line (c ∷ 32 ∷ l) ≡ one_slot c l
unfolding read_line split_at
read_one c l h =
    rw (split_none 32 l h)
    (either (λ (ps : List Text). by_parts ps ≡ one_slot c l) (eqb c 32) (λ e. rw (eqb-true c 32 e)) (λ e. refl))

read_two : (c : ℕ) (l : Text) → first_at 32 l < length l
    → read_line (c ∷ 32 ∷ l) ≡ two_slots c (take (first_at 32 l) l) (drop (suc (first_at 32 l)) l)
unfolding read_line split_at
read_two c l h = rw (split_some 32 l h) (by (eqb c 32) refl (ltb (first_at 32 q) (length q)) refl)
  where
    a : Text
    a = take (first_at 32 l) l

    q : Text
    q = drop (suc (first_at 32 l)) l

    by : (b : Bool) → eqb c 32 ≡ b → (d : Bool) → ltb (first_at 32 q) (length q) ≡ d
        → by_parts (cond b ([] ∷ ([] ∷ (a ∷ split_at 32 q))) ((c ∷ []) ∷ (a ∷ split_at 32 q))) ≡ two_slots c a q
    by true e d f = rw (eqb-true c 32 e)
    by false e true f =
        let more = parts 32 (drop (suc (first_at 32 q)) q) in
        rw (split_some 32 q (ltb-true _ _ f), more.2) (sym (second_none c a q (slot_space q (ltb-true _ _ f))))
    by false e false f = rw (split_none 32 q (ltb-false _ _ f))

-- ---- long lines

long_parts : (ps : List Text) → 9 ≤ spread ps → by_parts ps ≡ unreadable
unfolding spread
long_parts [] h = refl
long_parts ([] ∷ ps) h = refl
long_parts ((c ∷ []) ∷ []) h = refl
long_parts ((c ∷ []) ∷ (a ∷ [])) h = one_none c (slot_of a) (slot_short a (omega arith))
long_parts ((c ∷ []) ∷ (a ∷ (b ∷ []))) h = by (leb 3 (length a)) refl
  where
    by : (d : Bool) → leb 3 (length a) ≡ d → two_slots c a b ≡ unreadable
    by true e = first_none c a b (slot_short a (leb-true _ _ e))
    by false e = second_none c a b (slot_short b (omega (arith, leb-false 3 (length a) e)))
long_parts ((c ∷ []) ∷ (a ∷ (b ∷ (d ∷ ps)))) h = refl
long_parts ((c ∷ (d ∷ l)) ∷ ps) h = refl

-- the longest line that reads is a letter, two spaces and two slots of two digits: seven bytes
long_unreadable : (l : Text) → 8 ≤ length l → read_line l ≡ unreadable
unfolding read_line
long_unreadable l h = long_parts (split_at 32 l) (omega (arith, spread_split 32 l))

-- so what stands behind the eighth byte makes no difference
pub read_eight : (l : Text) → read_line (take 8 l) ≡ read_line l
read_eight l = by (leb 8 (length l)) refl
  where
    by : (b : Bool) → leb 8 (length l) ≡ b → read_line (take 8 l) ≡ read_line l
    by true e =
        let h = leb-true 8 (length l) e in
        long_unreadable (take 8 l) (simp length-take (omega arith)) ∙ sym (long_unreadable l h)
    by false e = ap read_line (take_all 8 l (omega (arith, leb-false 8 (length l) e)))

-- ---- a letter and slots, as the code puts them together

said_none : {m : Line} → m ≡ unreadable → ◌≡◌ {A = Option Command} None (said m)
said_none e = rw e

abbrev pub one : ℕ → Option ℕ → Option Command
one c None = None
one c (Some a) = Some (record { op = c; a = a; b = 0 })

abbrev pub two : ℕ → Option ℕ → Option ℕ → Option Command
two c None q = None
two c (Some a) None = None
two c (Some a) (Some b) = Some (record { op = c; a = a; b = b })

one_said : (c : ℕ) (f : ℕ → Line) → ((a : ℕ) → one c (Some a) ≡ said (f a)) → (x : rules.Option ℕ) → one c (given x) ≡ said (with_one x f)
one_said c f h rules.none = refl
one_said c f h (rules.some a) = h a

two_said : (c : ℕ) (f : ℕ → ℕ → Line) → ((a b : ℕ) → two c (Some a) (Some b) ≡ said (f a b)) → (x y : rules.Option ℕ)
    → two c (given x) (given y) ≡ said (with_two x y f)
two_said c f h rules.none y = refl
two_said c f h (rules.some a) rules.none = refl
two_said c f h (rules.some a) (rules.some b) = h a b

-- the letters of one slot, and of two, as the code's tests say them
abbrev OneSlot : ℕ → Type 0
OneSlot c = (c ≡ 70) ⊎ ((c ≡ 83) ⊎ (c ≡ 85))

abbrev TwoSlots : ℕ → Type 0
TwoSlots c = (c ≡ 67) ⊎ (c ≡ 74)

one_is : (c : ℕ) (l : Text) → OneSlot c → one c (given (slot_of l)) ≡ said (one_slot c l)
unfolding command_of
one_is c l (inl e) = rw e (one_said 70 fork (λ a. refl) (slot_of l))
one_is c l (inr (inl e)) = rw e (one_said 83 spare (λ a. refl) (slot_of l))
one_is c l (inr (inr e)) = rw e (one_said 85 update (λ a. refl) (slot_of l))

two_is : (c : ℕ) (l m : Text) → TwoSlots c → two c (given (slot_of l)) (given (slot_of m)) ≡ said (two_slots c l m)
unfolding command_of
two_is c l m (inl e) = rw e (two_said 67 compare (λ a b. refl) (slot_of l) (slot_of m))
two_is c l m (inr e) = rw e (two_said 74 join (λ a b. refl) (slot_of l) (slot_of m))

one_not : (c : ℕ) (l : Text) → (OneSlot c → ⊥) → one_slot c l ≡ unreadable
one_not c l h = rw (ne_eqb c 85 (λ e. h (inr (inr e))), ne_eqb c 70 (λ e. h (inl e)), ne_eqb c 83 (λ e. h (inr (inl e))))

two_not : (c : ℕ) (l m : Text) → (TwoSlots c → ⊥) → two_slots c l m ≡ unreadable
two_not c l m h = rw (ne_eqb c 74 (λ e. h (inr e)), ne_eqb c 67 (λ e. h (inl e)))

-- ---- the same for what the code hands over

pub said_short : (l : Text) → length l < 2 → ◌≡◌ {A = Option Command} None (said (read_line l))
unfolding read_line split_at
said_short [] h = refl
said_short (x ∷ []) h = said_none (either (λ (ps : List Text). by_parts ps ≡ unreadable) (eqb x 32) (λ e. refl) (λ e. refl))
said_short (x ∷ (y ∷ l)) h = absurd (omega arith)

pub said_unspaced : (l : Text) → 2 ≤ length l → (get_or l 1 0 ≡ 32 → ⊥) → ◌≡◌ {A = Option Command} None (said (read_line l))
said_unspaced [] h e = absurd (omega arith)
said_unspaced (x ∷ []) h e = absurd (omega arith)
said_unspaced (x ∷ (y ∷ l)) h e = said_none (no_letter x y l e)

-- a line by its first two bytes and the rest
line_is : (l : Text) → 2 ≤ length l → get_or l 1 0 ≡ 32 → l ≡ get_or l 0 0 ∷ 32 ∷ take (length l - 2) (drop 2 l)
line_is [] h e = absurd (omega arith)
line_is (x ∷ []) h e = absurd (omega arith)
line_is (x ∷ (y ∷ l)) h e = rw (e, take_all (suc (suc (length l)) - 2) l (omega arith))

module _ (l : Text) (h : 2 ≤ length l) (e : get_or l 1 0 ≡ 32) (c : ℕ) (ce : c ≡ get_or l 0 0) (r : Option ℕ)
    (re : r ≡ first_space (take (length l - 2) (drop 2 l))) where
  abbrev s : Text
  s = take (length l - 2) (drop 2 l)

  line_reads : read_line (c ∷ 32 ∷ s) ≡ read_line l
  line_reads = ap read_line (rw ce (sym (line_is l h e)))

  reads_one : r ≡ None → one_slot c s ≡ read_line l
  reads_one none = sym (read_one c s (rw none at (found_first 32 s r re))) ∙ line_reads

  reads_two : (k : ℕ) → r ≡ Some k → two_slots c (take k s) (take (length s - (k + 1)) (drop (k + 1) s)) ≡ read_line l
  reads_two k some =
      let f : (k ≡ first_at 32 s) × (k < length s) = rw some at (found_first 32 s r re) in
      let all : take (length s - (k + 1)) (drop (k + 1) s) ≡ drop (k + 1) s = take_all (length s - (k + 1)) (drop (k + 1) s) (simp length-drop (omega arith)) in
      rw (all, f.0, add-one) (sym (read_two c s (omega arith)) ∙ line_reads)

  -- a letter and what stands behind its space
  pub says_one : (p : Option ℕ) → OneSlot c → r ≡ None → p ≡ given (slot_of s) → one c p ≡ said (read_line l)
  says_one p w none pe = rw pe (one_is c s w) ∙ ap said (reads_one none)

  pub says_two : (k : ℕ) (p q : Option ℕ) → TwoSlots c → r ≡ Some k → p ≡ given (slot_of (take k s))
      → q ≡ given (slot_of (take (length s - (k + 1)) (drop (k + 1) s)))
      → two c p q ≡ said (read_line l)
  says_two k p q w some pe qe = rw (pe, qe) (two_is c _ _ w) ∙ ap said (reads_two k some)

  -- no letter for so many slots
  pub says_none : (r ≡ None → OneSlot c → ⊥) → ((k : ℕ) → r ≡ Some k → TwoSlots c → ⊥) → ◌≡◌ {A = Option Command} None (said (read_line l))
  says_none none some = by r refl
    where
      by : (x : Option ℕ) → r ≡ x → ◌≡◌ {A = Option Command} None (said (read_line l))
      by None e = said_none (sym (reads_one e) ∙ one_not c s (none e))
      by (Some k) e = said_none (sym (reads_two k e) ∙ two_not c _ _ (some k e))
