-- One word more, as a loop wants it: what each walk says of lists by the words that they begin with. Assumes nothing.
use Rattle.laws.proofs.Library.{◌≡◌, refl, sym, ap, ap₂, ◌∙◌, Bool, false, true, cond, not, ◌&&◌, ◌||◌, and-true, List, [], ◌∷◌, ℕ, zero, suc, ◌+◌, ◌-◌, ◌%◌}
use Rattle.laws.proofs.Library.{◌≤◌, ◌<◌, arith, add-one, lt-ltb, le-ltb, ltb-true, le-leb, lt-leb, leb-true, leb-false, eq-eqb, eqb-true, ne_eqb, eqb·suc-suc, eqb, leb, ltb}
use Rattle.laws.proofs.Library.{length, get_or, take, take_all, drop, length-drop, drop_of_length-le, drop-cons}
use Rattle.std.specs.Prelude.{None, Some}
use Rattle.std.specs.List.{list_any}
use Rattle.rules.specs.Strings.{siblings, str_of}
use Rattle.rules.specs.Names.{any}
use Rattle.strings.specs.Words.{begins}
use Rattle.walks.specs.Walks.{at_least, heads, below_walk, uncovered_walk, string_at, uncovered_in, overlap_from, overlap_walk, unknown_walk, unknown_in, has_twins, is_long}
use Rattle.rules.specs.declared.Uncovered.{Uncovered}
use Rattle.laws.proofs.Tests.{iff}
use Rattle.laws.proofs.Words.{str_length}

-- the words behind the first, as a pattern lends them
abbrev pub behind : List ℕ → List ℕ
behind n = take (length n - 1) (drop 1 n)

behind_cons : (t : ℕ) (n : List ℕ) → behind (t ∷ n) ≡ n
behind_cons t n = take_all (suc (length n) - 1) n (omega arith)

-- the words from i on: the one at i, and those from i + 1 on
pub from_cons : (n : List ℕ) (i : ℕ) → i < length n → drop i n ≡ get_or n i 0 ∷ drop (i + 1) n
from_cons n i h = rw add-one (drop-cons n i 0 h)

pub from_end : (n : List ℕ) (i : ℕ) → length n ≤ i → drop i n ≡ []
from_end n i h = drop_of_length-le n {i = i} h

-- lent as a part, they are the same
from_all : (n : List ℕ) (i : ℕ) → take (length n - i) (drop i n) ≡ drop i n
from_all n i = take_all (length n - i) (drop i n) (omega (arith, length-drop i n))

-- ---- a string's place in n

-- the first word is below s: it is passed
pub passed : (s : ℕ) (n : List ℕ) → 1 ≤ length n → get_or n 0 0 < s → at_least s (behind n) ≡ at_least s n
unfolding at_least
passed s [] h l = absurd (omega arith)
passed s (t ∷ n) h l = ap (at_least s) (behind_cons t n) ∙ sym (rw (lt-ltb t s l))

-- it is not: there the walk stays
pub stays : (s : ℕ) (n : List ℕ) → s ≤ get_or n 0 0 → at_least s n ≡ n
unfolding at_least
stays s [] l = refl
stays s (t ∷ n) l = rw (le-ltb t s l)

pub none_left : (s : ℕ) (n : List ℕ) → length n < 1 → at_least s n ≡ n
unfolding at_least
none_left s [] h = refl
none_left s (t ∷ n) h = absurd (omega arith)

heads_first : (s : ℕ) (n : List ℕ) → 1 ≤ length n → heads s n ≡ begins s (get_or n 0 0)
unfolding heads
heads_first s [] h = absurd (omega arith)
heads_first s (t ∷ n) h = refl

pub ruleset passing = (passed, stays, none_left)

-- what is passed for s is passed for any word not below s
pub skip : (s r : ℕ) (n : List ℕ) → s ≤ r → at_least r (at_least s n) ≡ at_least r n
unfolding at_least
skip s r [] h = refl
skip s r (t ∷ n) h = by (ltb t s) refl (skip s r n h)
  where
    by : (b : Bool) → ltb t s ≡ b → at_least r (at_least s n) ≡ at_least r n → at_least r (cond b (at_least s n) (t ∷ n)) ≡ at_least r (t ∷ n)
    by true e ih = ih ∙ rw (lt-ltb t r (omega (arith, ltb-true t s e)))
    by false e ih = refl

-- ---- the first uncovered string

module _ (m : List ℕ) (i : ℕ) (h : i < length m) (n : List ℕ) where
  abbrev here : ℕ
  here = get_or m i 0

  turn : uncovered_walk (drop i m) n ≡ cond (heads here (at_least here n)) (suc (uncovered_walk (drop (i + 1) m) (at_least here n))) zero
  unfolding uncovered_walk
  turn = ap (λ (l : List ℕ). uncovered_walk l n) (from_cons m i h)

  -- the first word of n is below the string at i: it is passed
  pub uncovered_passed : 1 ≤ length n → get_or n 0 0 < here → uncovered_walk (drop i m) (behind n) ≡ uncovered_walk (drop i m) n
  unfolding uncovered_walk
  uncovered_passed k l =
      let f : List ℕ → ℕ = λ l. cond (heads here l) (suc (uncovered_walk (drop (i + 1) m) l)) zero in
      ap (λ (l : List ℕ). uncovered_walk l (behind n)) (from_cons m i h) ∙ ap f (passed here n k l) ∙ sym turn

  -- it extends that string, or does not
  module _ (k : 1 ≤ length n) (l : here ≤ get_or n 0 0) where
    met : uncovered_walk (drop i m) n ≡ cond (begins here (get_or n 0 0)) (suc (uncovered_walk (drop (i + 1) m) n)) zero
    met = turn ∙ rw (stays here n l, heads_first here n k)

    pub uncovered_met : begins here (get_or n 0 0) ≡ true → uncovered_walk (drop i m) n ≡ suc (uncovered_walk (drop (i + 1) m) n)
    uncovered_met e = met ∙ rw e

    pub uncovered_missed : begins here (get_or n 0 0) ≡ false → uncovered_walk (drop i m) n ≡ 0
    uncovered_missed e = met ∙ rw e

  -- no string is left to extend it
  pub uncovered_by_none : length n < 1 → uncovered_walk (drop i m) n ≡ 0
  unfolding heads at_least
  uncovered_by_none k = turn ∙ none n k
    where
      none : (n : List ℕ) → length n < 1 → cond (heads here (at_least here n)) (suc (uncovered_walk (drop (i + 1) m) (at_least here n))) zero ≡ 0
      none [] k = refl
      none (t ∷ n) k = absurd (omega arith)

-- a place lies in m or at its end
pub uncovered_le : (m n : List ℕ) → uncovered_walk m n ≤ length m
unfolding uncovered_walk
uncovered_le [] n = omega arith
uncovered_le (s ∷ m) n = by (heads s (at_least s n)) (uncovered_le m (at_least s n))
  where
    by : (b : Bool) → uncovered_walk m (at_least s n) ≤ length m → cond b (suc (uncovered_walk m (at_least s n))) zero ≤ suc (length m)
    by true h = omega arith
    by false h = omega arith

-- and at its end where m is below n
pub below_uncovered : (m n : List ℕ) → below_walk m n ≡ eqb (uncovered_walk m n) (length m)
unfolding below_walk uncovered_walk
below_uncovered [] n = refl
below_uncovered (s ∷ m) n = by (heads s (at_least s n)) (below_uncovered m (at_least s n))
  where
    by : (b : Bool) → below_walk m (at_least s n) ≡ eqb (uncovered_walk m (at_least s n)) (length m)
        → (b && below_walk m (at_least s n)) ≡ eqb (cond b (suc (uncovered_walk m (at_least s n))) zero) (suc (length m))
    by true h = h ∙ sym (eqb·suc-suc (uncovered_walk m (at_least s n)) (length m))
    by false h = sym (ne_eqb 0 (suc (length m)) (λ e. omega arith))

-- m is below n where the place is as many as m has
pub below_least : (m n : List ℕ) → below_walk m n ≡ leb (length m) (uncovered_walk m n)
below_least m n =
    below_uncovered m n
    ∙ iff (λ e. le-leb (length m) (uncovered_walk m n) (omega (arith, eqb-true (uncovered_walk m n) (length m) e)))
    (λ e. eq-eqb (uncovered_walk m n) (length m) (omega (arith, leb-true (length m) (uncovered_walk m n) e, uncovered_le m n)))

-- what a walk has found that stopped at i, and one that did not stop
pub found_at : (m n : List ℕ) (i : ℕ) → i < length m → uncovered_walk m n ≡ i → Some (string_at m i) ≡ uncovered_in m n
unfolding uncovered_in
found_at m n i h e = sym (rw (e, lt-leb (length m) i h))

pub found_none : (m n : List ℕ) → length m ≤ uncovered_walk m n → None ≡ uncovered_in m n
unfolding uncovered_in
found_none m n h = sym (rw (le-leb (length m) (uncovered_walk m n) h))

pub ruleset uncovering = (uncovered_passed, uncovered_met, uncovered_missed, uncovered_by_none, found_at, found_none)

-- ---- overlapping

-- one of the two has no string left
pub overlap_none : (m n : List ℕ) → length m < 1 → overlap_walk m n ≡ false
unfolding overlap_walk
overlap_none [] n h = refl
overlap_none (s ∷ m) n h = absurd (omega arith)

pub overlap_by_none : (m n : List ℕ) → length n < 1 → overlap_walk m n ≡ false
unfolding overlap_walk overlap_from
overlap_by_none [] n h = refl
overlap_by_none (s ∷ m) [] h = refl
overlap_by_none (s ∷ m) (t ∷ n) h = absurd (omega arith)

-- the lower one of the two first words is held against the other, and passed
merged : (m n : List ℕ) → 1 ≤ length m → 1 ≤ length n
    → overlap_walk m n ≡ cond (ltb (get_or m 0 0) (get_or n 0 0)) (begins (get_or m 0 0) (get_or n 0 0) || overlap_walk (behind m) n)
    (begins (get_or n 0 0) (get_or m 0 0) || overlap_walk m (behind n))
unfolding overlap_walk overlap_from
merged [] n h k = absurd (omega arith)
merged (s ∷ m) [] h k = absurd (omega arith)
merged (s ∷ m) (t ∷ n) h k = rw (behind_cons s m, behind_cons t n)

module _ (m n : List ℕ) (h : 1 ≤ length m) (k : 1 ≤ length n) where
  abbrev s : ℕ
  s = get_or m 0 0

  abbrev t : ℕ
  t = get_or n 0 0

  pub lower_hit : s < t → begins s t ≡ true → overlap_walk m n ≡ true
  lower_hit l e = merged m n h k ∙ rw (lt-ltb s t l, e)

  pub lower_miss : s < t → begins s t ≡ false → overlap_walk (behind m) n ≡ overlap_walk m n
  lower_miss l e = sym (merged m n h k ∙ rw (lt-ltb s t l, e))

  pub upper_hit : t ≤ s → begins t s ≡ true → overlap_walk m n ≡ true
  upper_hit l e = merged m n h k ∙ rw (le-ltb s t l, e)

  pub upper_miss : t ≤ s → begins t s ≡ false → overlap_walk m (behind n) ≡ overlap_walk m n
  upper_miss l e = sym (merged m n h k ∙ rw (le-ltb s t l, e))

pub ruleset overlapping = (lower_hit, lower_miss, upper_hit, upper_miss, overlap_none, overlap_by_none)

-- ---- unknown

-- the string at a, asked of the words of i and v that are not below it
module _ (u : List ℕ) (a : ℕ) (h : a < length u) (i v j : List ℕ) (e : j ≡ at_least (get_or u a 0) i) where
  abbrev asked : ℕ
  asked = get_or u a 0

  -- those of v are asked only where it is below i
  unknown_turn : unknown_walk (drop a u) i v
      ≡ cond (heads asked j) (not (heads asked (at_least asked v)) || unknown_walk (drop (a + 1) u) j (at_least asked v)) (unknown_walk (drop (a + 1) u) j v)
  unfolding unknown_walk
  unknown_turn = rw (from_cons u a h, e)

  -- no string of i is left
  pub unknown_gone : length j < 1 → unknown_walk (drop a u) i v ≡ false
  unfolding heads unknown_walk at_least
  unknown_gone g = unknown_turn ∙ none j g
    where
      gone : (u v : List ℕ) → unknown_walk u [] v ≡ false
      gone [] v = refl
      gone (r ∷ u) v = gone u v

      none : (j : List ℕ) → length j < 1
          → cond (heads asked j) (not (heads asked (at_least asked v)) || unknown_walk (drop (a + 1) u) j (at_least asked v)) (unknown_walk (drop (a + 1) u) j v) ≡ false
      none [] g = gone (drop (a + 1) u) v
      none (t ∷ j) g = absurd (omega arith)

  -- it is not below i, or is and is asked of v
  pub unknown_passed : begins asked (get_or j 0 0) ≡ false → 1 ≤ length j → unknown_walk (drop a u) i v ≡ unknown_walk (drop (a + 1) u) j v
  unknown_passed l g = unknown_turn ∙ rw (heads_first asked j g, l)

  pub unknown_asked : begins asked (get_or j 0 0) ≡ true → 1 ≤ length j → (w : List ℕ) → w ≡ at_least asked v
      → (p : List ℕ) → p ≡ asked ∷ [] → (b : Bool) → below_walk p w ≡ b → unknown_walk (drop a u) i v ≡ (not b || unknown_walk (drop (a + 1) u) j w)
  unfolding below_walk
  unknown_asked l g w f p o b k =
      unknown_turn ∙ rw (heads_first asked j g, l, sym k, o, f, skip asked asked v (omega arith), and-true (heads asked (at_least asked v)))

pub unknown_end : (u : List ℕ) (a : ℕ) (i v : List ℕ) → length u ≤ a → unknown_walk (drop a u) i v ≡ false
unfolding unknown_walk
unknown_end u a i v h = ap (λ (k : List ℕ). unknown_walk k i v) (from_end u a h)

pub ruleset asking = (unknown_passed, unknown_asked, unknown_gone, unknown_end)

-- ---- what the first uncovered string tells

-- there is one, so m is not below n; or none, and it is
pub below_not : (m n : List ℕ) (x : Uncovered) → Some x ≡ uncovered_in m n → below_walk m n ≡ false
unfolding uncovered_in
below_not m n x e = below_least m n ∙ by (leb (length m) (uncovered_walk m n)) e
  where
    by : (b : Bool) → Some x ≡ cond b None (Some (string_at m (uncovered_walk m n))) → b ≡ false
    by true f = absurd (cc)
    by false f = refl

pub below_all : (m n : List ℕ) → None ≡ uncovered_in m n → below_walk m n ≡ true
unfolding uncovered_in
below_all m n e = below_least m n ∙ by (leb (length m) (uncovered_walk m n)) e
  where
    by : (b : Bool) → None ≡ cond b None (Some (string_at m (uncovered_walk m n))) → b ≡ true
    by true f = refl
    by false f = absurd (cc)

-- its place, in the name
found_place : (m n : List ℕ) (x : Uncovered) → Some x ≡ uncovered_in m n → (x.place ≡ uncovered_walk m n) × (uncovered_walk m n < length m)
unfolding uncovered_in
found_place m n x = by (leb (length m) (uncovered_walk m n)) refl
  where
    by : (b : Bool) → leb (length m) (uncovered_walk m n) ≡ b → Some x ≡ cond b None (Some (string_at m (uncovered_walk m n)))
        → (x.place ≡ uncovered_walk m n) × (uncovered_walk m n < length m)
    by true e f = absurd (cc)
    by false e f =
        let same : x ≡ string_at m (uncovered_walk m n) = cc in
        (ap (λ (y : Uncovered). y.place) same, leb-false (length m) (uncovered_walk m n) e)

-- there is none
found_nowhere : (m n : List ℕ) → None ≡ uncovered_in m n → length m ≤ uncovered_walk m n
unfolding uncovered_in
found_nowhere m n = by (leb (length m) (uncovered_walk m n)) refl
  where
    by : (b : Bool) → leb (length m) (uncovered_walk m n) ≡ b → None ≡ cond b None (Some (string_at m (uncovered_walk m n)))
        → length m ≤ uncovered_walk m n
    by true e f = leb-true (length m) (uncovered_walk m n) e
    by false e f = absurd (cc)

-- 9, asked of the strings from a place on, as a part lends them
module _ (u v : List ℕ) (x : Uncovered) (e : Some x ≡ uncovered_in u v) where
  pub found_within : x.place < length u
  found_within = omega (arith, found_place u v x e)

  pub found_asked : (i : List ℕ) → unknown_in u i v ≡ unknown_walk (take (length u - x.place) (drop x.place u)) i v
  found_asked i =
      ap (λ (k : ℕ). unknown_walk (drop k u) i v) (sym (found_place u v x e).0) ∙ sym (ap (λ (l : List ℕ). unknown_walk l i v) (from_all u x.place))

pub none_asked : (u i v : List ℕ) → None ≡ uncovered_in u v → unknown_in u i v ≡ false
unfolding unknown_walk
none_asked u i v e = ap (λ (l : List ℕ). unknown_walk l i v) (from_end u (uncovered_walk u v) (found_nowhere u v e))

pub ruleset finding = (below_not, below_all, found_within, found_asked, none_asked)

-- ---- twins and the longest strings, as `any` tells

-- each word but the last with the one behind it
abbrev pub pairs : List ℕ → List (List ℕ)
pairs [] = []
pairs (s ∷ []) = []
pairs (s ∷ (t ∷ n)) = (s ∷ (t ∷ [])) ∷ pairs (t ∷ n)

abbrev pub are_twins : List ℕ → Bool
are_twins p = siblings (str_of (get_or p 0 0)) (str_of (get_or p 1 0))

-- a window of two, and what is left behind it
pub pairs_end : (n : List ℕ) (k : ℕ) → k ≡ 2 → length n < k → length (pairs n) ≡ 0
pairs_end [] k e h = refl
pairs_end (s ∷ []) k e h = refl
pairs_end (s ∷ (t ∷ n)) k e h = absurd (omega arith)

pub pairs_step : (n m w : List ℕ) (k : ℕ) → k ≡ 2 → k ≤ length n → w ≡ take k n → m ≡ drop 1 n → pairs n ≡ w ∷ pairs m
pairs_step [] m w k e h f g = absurd (omega arith)
pairs_step (s ∷ []) m w k e h f g = absurd (omega arith)
pairs_step (s ∷ (t ∷ n)) m w k e h f g = rw (f, g, e)

pub twins_any : (n : List ℕ) → list_any are_twins (pairs n) ≡ has_twins n
unfolding has_twins
twins_any [] = refl
twins_any (s ∷ []) = refl
twins_any (s ∷ (t ∷ n)) = ap (λ (b : Bool). siblings (str_of s) (str_of t) || b) (twins_any (t ∷ n))

abbrev pub is_longest : ℕ → Bool
is_longest s = eqb (s % 64) 24

pub long_any : (n : List ℕ) → list_any is_longest n ≡ is_long n
unfolding is_long any
long_any [] = refl
long_any (s ∷ n) = ap₂ ◌||◌ (ap (λ (k : ℕ). eqb k 24) (sym (str_length s))) (long_any n)
