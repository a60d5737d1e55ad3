-- The first words of a buffer as a stack, last first: what a push, a store and a turn of `reduce` make of it. Assumes nothing.
use Rattle.laws.proofs.Library.{◌≡◌, refl, sym, ap, ap₂, ◌∙◌, true, false, List, [], ◌∷◌, ◌++◌, reverse_aux, reverse, append_assoc, append-nil, ◌⊎◌, inl}
use Rattle.laws.proofs.Library.{inr, ℕ, zero, suc, ◌+◌, ◌-◌, ◌≤◌, ◌<◌, add-one, arith, eqb-true, eqb, length, get_or, take, drop, set, replicate}
use Rattle.laws.proofs.Library.{drop_of_length-le, take-suc, drop-cons, drop-drop, get_or-drop, get_or-take}
use Rattle.laws.proofs.Library.{get_or-set_same, get_or-set_other, length-take-le, length-drop, take-take}
use Rattle.rules.specs.Strings.{siblings, common, str_of}
use borrow.Rule.Slice.PartMut.{put_mid}
use Rattle.laws.proofs.Tests.{and_right}
use Rattle.laws.proofs.Words.{str_length}
use Rattle.unions.specs.Unions.{push, push_all, reduced, cleared, stack}

-- a string that has a sibling has a digit
pub siblings_filled : (a b : ℕ) → siblings (str_of a) (str_of b) ≡ true → 1 ≤ a
unfolding siblings
siblings_filled a b h =
    let e = eqb-true (suc (common (str_of a) (str_of b))) (length (str_of a))
    (and_right (eqb (length (str_of a)) (length (str_of b))) (eqb (suc (common (str_of a) (str_of b))) (length (str_of a))) h) in
    omega (arith, str_length a)

-- ---- one push

pub stack_top : (l : List ℕ) (k : ℕ) → 0 < k → stack l k ≡ get_or l (k - 1) 0 ∷ stack l (k - 1)
unfolding stack
stack_top l zero h = absurd (omega arith)
stack_top l (suc k) h = let e : suc k - 1 ≡ k = omega arith in rw e

-- the words below are the first of the buffer's, and x is in hand
module _ (words below : List ℕ) (x : ℕ) (part : below ≡ take (length below) words) where
  abbrev last : ℕ
  last = get_or below (length below - 1) 0

  abbrev under : List ℕ
  under = take (length below - 1) below

  last_is : 1 ≤ length below → last ≡ get_or words (length below - 1) 0
  last_is h =
      ap (λ (l : List ℕ). get_or l (length below - 1) 0) part ∙ get_or-take (length below) words (length below - 1) 0 (omega arith)

  under_count : length under ≡ length below - 1
  under_count = length-take-le (length below - 1) below (omega arith)

  pub under_part : under ≡ take (length under) words
  under_part =
      ap (take (length below - 1)) part ∙ take-take (length below - 1) (length below) words (omega arith)
      ∙ ap (λ (k : ℕ). take k words) (sym under_count)

  -- the sibling is on top
  pub push_again : 1 ≤ length below → siblings (str_of last) (str_of x) ≡ true
      → push (last - 1) (stack words (length under)) ≡ push x (stack words (length below))
  unfolding push
  push_again h e =
      let f : siblings (str_of (get_or words (length below - 1) 0)) (str_of x) ≡ true = rw (last_is h) at e in
      rw (under_count, last_is h, stack_top words (length below) h) (simp f)

  pub push_ends : (length below < 1) ⊎ ((1 ≤ length below) × (siblings (str_of last) (str_of x) ≡ false))
      → push x (stack words (length below)) ≡ x ∷ stack words (length below)
  unfolding push stack
  push_ends (inl h) = let e : length below ≡ 0 = omega arith in rw e
  push_ends (inr (h, e)) =
      let f : siblings (str_of (get_or words (length below - 1) 0)) (str_of x) ≡ false = rw (last_is h) at e in
      rw (stack_top words (length below) h) (simp f)

-- what is stored above makes no difference
stack_above : (l : List ℕ) (k i x : ℕ) → k ≤ i → stack (set l i x) k ≡ stack l k
unfolding stack
stack_above l zero i x h = refl
stack_above l (suc k) i x h = ap₂ (λ (a : ℕ) (s : List ℕ). a ∷ s) (get_or-set_other l i k x 0 (λ e. omega arith)) (stack_above l k i x (omega arith))

pub stack_put : (l : List ℕ) (x top : ℕ) → top < length l → stack (set l top x) (top + 1) ≡ x ∷ stack l top
unfolding stack
stack_put l x top h = rw add-one (ap₂ (λ (a : ℕ) (s : List ℕ). a ∷ s) (get_or-set_same l top x 0 h) (stack_above l top top x (omega arith)))

-- the first k words, in their order
stack_turned : (l : List ℕ) (k : ℕ) (r : List ℕ) → k ≤ length l → reverse_aux (stack l k) r ≡ take k l ++ r
unfolding stack
stack_turned l zero r h = refl
stack_turned l (suc k) r h = stack_turned l k (get_or l k 0 ∷ r) (omega arith) ∙ rw (take-suc l k 0 h, append_assoc)

pub stack_front : (l : List ℕ) (k : ℕ) → k ≤ length l → reverse (stack l k) ≡ take k l
stack_front l k h = stack_turned l k [] h ∙ append-nil (take k l)

-- ---- a turn of `reduce`

-- where two lists agree they agree further on
pub drop_on : (i j : ℕ) (l m : List ℕ) → i ≤ j → drop i l ≡ drop i m → drop j l ≡ drop j m
drop_on i j l m h e =
    let on : i + (j - i) ≡ j = omega arith in
    ap (λ (k : ℕ). drop k l) (sym on) ∙ sym (drop-drop (j - i) i l) ∙ ap (drop (j - i)) e ∙ drop-drop (j - i) i m ∙ ap (λ (k : ℕ). drop k m) on

-- the word at i is that of the start
pub same_at : (i : ℕ) (l m : List ℕ) → drop i l ≡ drop i m → get_or l i 0 ≡ get_or m i 0
same_at i l m e =
    let on : i + 0 ≡ i = omega arith in
    ap (λ (k : ℕ). get_or l k 0) (sym on) ∙ sym (get_or-drop i l 0 0) ∙ ap (λ (r : List ℕ). get_or r 0 0) e ∙ get_or-drop i m 0 0 ∙ ap (λ (k : ℕ). get_or m k 0) on

-- the words ahead are as they were
pub ahead : (start l after : List ℕ) (k i : ℕ) → k ≤ i → drop i l ≡ drop i start → drop (k + 1) after ≡ drop (k + 1) l → drop (i + 1) after ≡ drop (i + 1) start
ahead start l after k i q e d = drop_on (k + 1) (i + 1) after l (omega arith) d ∙ drop_on i (i + 1) l start (omega arith) e

-- with the stack of l's first k words, and the words from i on to come
module _ (start : List ℕ) where
  pub turn_more : (l after : List ℕ) (k r i : ℕ) → i < length start → drop i l ≡ drop i start → stack after r ≡ push (get_or l i 0) (stack l k)
      → push_all (stack after r) (drop (i + 1) start) ≡ push_all (stack l k) (drop i start)
  unfolding push_all
  turn_more l after k r i h e s = rw (s, same_at i l start e, add-one i, drop-cons start i 0 h)

  -- no word is to come: the stack is what is left
  pub turn_end : (l : List ℕ) (k i : ℕ) → length start ≤ i → k ≤ length l → push_all (stack l k) (drop i start) ≡ push_all [] start → take k l ≡ reduced start
  unfolding push_all reduced
  turn_end l k i h q e = sym (stack_front l k q) ∙ ap reverse (rw (drop_of_length-le start {i = i} h) at e)

-- and zeros are stored behind it
pub turn_clears : (w l f : List ℕ) (k c : ℕ) → length l ≡ c → k ≤ length l → take k l ≡ w → f ≡ replicate (length (take (length l - k) (drop k l))) 0
    → (k ≡ length w) × (put_mid k (length l - k) l f ≡ cleared c w)
turn_clears w l f k c n h t s =
    let m : length w ≡ k = ap length (sym t) ∙ length-take-le k l h in
    let none : drop (length l - k) (drop k l) ≡ [] = drop-drop (length l - k) k l ∙ drop_of_length-le l {i = k + (length l - k)} (omega arith) in
    let zeros : length (take (length l - k) (drop k l)) ≡ length l - k = length-take-le (length l - k) (drop k l) (omega (arith, length-drop k l)) in
    (sym m, rw (s, t, none, zeros, n, m) (ap (λ (z : List ℕ). w ++ z) (append-nil (replicate (c - k) 0))))
