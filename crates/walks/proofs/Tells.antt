-- What the walks tell of names: on words of strings in rising order they are the rules' own questions. The words passed are below s, so none
-- of them extends it; of those left, the first extends s or comes after it, and then so do all. Assumes nothing.
use Rattle.laws.proofs.Library.{◌≡◌, refl, sym, ap, ap₂, ◌∙◌, subst, Bool, true, false, cond, not, ◌&&◌, ◌||◌, List, [], ◌∷◌, drop_last, inl, inr, ⊎_elim}
use Rattle.laws.proofs.Library.{Option, some, ℕ, zero, suc, ◌≤◌, ◌<◌, arith, ltb-true, ltb-false, eqb, ltb, length, drop}
use Rattle.rules.specs.Limits.{narrow}
use Rattle.rules.specs.Strings.{Str, prefix, less, siblings, str_of, is_word}
use Rattle.rules.specs.Names.{Name, any, all, rising, covered, below, uncovered}
use Rattle.rules.specs.Stamps.{pair, is_none}
use Rattle.rules.specs.Refusals.{touches, unknown_to}
use Rattle.laws.proofs.Tests.{not-true, and_left, and_right, In, none_any}
use Rattle.laws.proofs.Rising.{less_trans, less_apart, rising_head, rising_tail}
use Rattle.laws.proofs.Pairs.{first_twins, neighbour_pair}
use Rattle.strings.specs.Words.{begins}
use Rattle.strings.proofs.Order.{prefix_le, less_lt, le_less}
use Rattle.strings.proofs.Fronts.{begins_prefix}
use Rattle.walks.specs.Walks.{strs, at_least, heads, below_walk, uncovered_walk, overlap_from, overlap_walk, unknown_walk, unknown_in, has_twins, is_long}
use Rattle.walks.proofs.Steps.{skip}

-- ---- names of which one string comes before all of the other

-- a string of one is a prefix of a string of the other
abbrev overlaps : Name → Name → Bool
overlaps m n = touches m n || touches n m

or_swap : (a b : Bool) → (a || b) ≡ (b || a)
or_swap true true = refl
or_swap true false = refl
or_swap false true = refl
or_swap false false = refl

overlaps_swap : (m n : Name) → overlaps m n ≡ overlaps n m
overlaps_swap m n = or_swap (touches m n) (touches n m)

overlaps_none : (m : Name) → overlaps m [] ≡ false
unfolding touches covered any
overlaps_none m = or_swap (touches m []) false ∙ none_any (λ s. covered s []) m (λ s i. refl)

-- s is a prefix of none, and none is a prefix of s
overlaps_first : (s : Str) (m n : Name) → ((t : Str) → In t n → less s t ≡ true) → overlaps (s ∷ m) n ≡ overlaps m n
unfolding touches covered any
overlaps_first s m n h =
    ap₂ (λ (x y : Bool). (x || touches m n) || y) (none_any (prefix s) n (λ t i. (less_apart s t (h t i)).0)) (each n h)
  where
    each : (l : Name) → ((t : Str) → In t l → less s t ≡ true) → any (λ t. prefix t s || any (prefix t) m) l ≡ any (λ t. any (prefix t) m) l
    each [] f = refl
    each (t ∷ l) f =
        ap₂ (λ (x y : Bool). (x || any (prefix t) m) || y) (less_apart s t (f t (inl refl))).1 (each l (λ u i. f u (inr i)))

-- the string that is met first is a prefix of one there
overlaps_hit : (s t : Str) (m n : Name) → prefix s t ≡ true → overlaps (s ∷ m) (t ∷ n) ≡ true
unfolding touches covered any
overlaps_hit s t m n p = rw p

-- ---- words passed

-- no word of m is below s: it is enough to say it of the first
abbrev From : ℕ → List ℕ → Type 0
From s [] = Unit {0}
From s (r ∷ m) = s ≤ r

from_after : (s r : ℕ) (m : List ℕ) → s ≤ r → From r m → From s m
from_after s r [] h f = tt
from_after s r (t ∷ m) h f = omega arith

module _ (s : ℕ) where
  below_skip : (m n : List ℕ) → From s m → below_walk m (at_least s n) ≡ below_walk m n
  unfolding below_walk
  below_skip [] n f = refl
  below_skip (r ∷ m) n f = ap (λ (l : List ℕ). heads r l && below_walk m l) (skip s r n f)

  uncovered_skip : (m n : List ℕ) → From s m → uncovered_walk m (at_least s n) ≡ uncovered_walk m n
  unfolding uncovered_walk
  uncovered_skip [] n f = refl
  uncovered_skip (r ∷ m) n f = ap (λ (l : List ℕ). cond (heads r l) (suc (uncovered_walk m l)) zero) (skip s r n f)

  unknown_skip : (u i v : List ℕ) → From s u → unknown_walk u (at_least s i) v ≡ unknown_walk u i v
  unfolding unknown_walk
  unknown_skip [] i v f = refl
  unknown_skip (r ∷ u) i v f =
      ap (λ (l : List ℕ). cond (heads r l) (not (heads r (at_least r v)) || unknown_walk u l (at_least r v)) (unknown_walk u l v)) (skip s r i f)

module _ (most : ℕ) (small : most ≤ 58) where
  -- words of strings
  abbrev Words : List ℕ → Type 0
  Words n = all (is_word most) n ≡ true

  words_head : (s : ℕ) (n : List ℕ) → Words (s ∷ n) → is_word most s ≡ true
  unfolding all
  words_head s n w = and_left (is_word most s) (all (is_word most) n) w

  words_tail : (s : ℕ) (n : List ℕ) → Words (s ∷ n) → Words n
  unfolding all
  words_tail s n w = and_right (is_word most s) (all (is_word most) n) w

  -- in rising order the words behind one are not below it
  rising_from : (s : ℕ) (m : List ℕ) → Words (s ∷ m) → rising (strs (s ∷ m)) ≡ true → From s m
  rising_from s [] w k = tt
  rising_from s (r ∷ m) w k =
      let l = less_lt most small s r (words_head s (r ∷ m) w) (words_head r m (words_tail s (r ∷ m) w)) (rising_head (str_of s) (strs (r ∷ m)) k (str_of r) (inl refl)) in
      omega arith

  -- one string of a name answers for all
  pub covered_heads : (s : ℕ) (n : List ℕ) → is_word most s ≡ true → Words n → rising (strs n) ≡ true → heads s (at_least s n) ≡ covered (str_of s) (strs n)
  unfolding covered any heads at_least
  covered_heads s [] h w k = refl
  covered_heads s (t ∷ n) h w k =
      by (ltb t s) refl (covered_heads s n h (words_tail t n w) (rising_tail (str_of t) (strs n) k))
    where
      ht : is_word most t ≡ true
      ht = words_head t n w

      at : (b : Bool) → prefix (str_of s) (str_of t) ≡ b → s ≤ t → b ≡ (b || any (prefix (str_of s)) (strs n))
      at true p l = refl
      at false p l =
          let before = le_less most small s t h ht l p in
          sym
          (none_any (prefix (str_of s)) (strs n)
          (λ x i. (less_apart (str_of s) x (less_trans (str_of s) (str_of t) x before (rising_head (str_of t) (strs n) k x i))).0))

      by : (b : Bool) → ltb t s ≡ b → heads s (at_least s n) ≡ any (prefix (str_of s)) (strs n)
          → heads s (cond b (at_least s n) (t ∷ n)) ≡ (prefix (str_of s) (str_of t) || any (prefix (str_of s)) (strs n))
      by true e ih =
          ih
          ∙ sym
          (ap (λ (x : Bool). x || any (prefix (str_of s)) (strs n))
          (not-true (λ (p : prefix (str_of s) (str_of t) ≡ true). omega (arith, ltb-true t s e, prefix_le most small s t h ht p))))
      by false e ih = let l = ltb-false t s e in begins_prefix most small s t h ht l ∙ at (prefix (str_of s) (str_of t)) refl l

  pub below_walk_lem : (m n : List ℕ) → all (is_word most) m ≡ true → all (is_word most) n ≡ true → rising (strs m) ≡ true → rising (strs n) ≡ true
      → below_walk m n ≡ below (strs m) (strs n)
  unfolding below_walk below all
  below_walk_lem [] n v w h k = refl
  below_walk_lem (s ∷ m) n v w h k =
      ap₂ ◌&&◌ (covered_heads s n (words_head s m v) w k)
      (below_skip s m n (rising_from s m v h) ∙ below_walk_lem m n (words_tail s m v) w (rising_tail (str_of s) (strs m) h) k)

  pub uncovered_walk_lem : (m n : List ℕ) → all (is_word most) m ≡ true → all (is_word most) n ≡ true → rising (strs m) ≡ true → rising (strs n) ≡ true
      → uncovered_walk m n ≡ uncovered (strs m) (strs n)
  unfolding uncovered_walk uncovered
  uncovered_walk_lem [] n v w h k = refl
  uncovered_walk_lem (s ∷ m) n v w h k =
      ap₂ (λ (b : Bool) (p : ℕ). cond b (suc p) zero) (covered_heads s n (words_head s m v) w k)
      (uncovered_skip s m n (rising_from s m v h) ∙ uncovered_walk_lem m n (words_tail s m v) w (rising_tail (str_of s) (strs m) h) k)

  -- what the walk of v has passed for s makes no difference to strings that are not below s
  unknown_later : (s : ℕ) (u i v : List ℕ) → Words u → rising (strs u) ≡ true → From s u → unknown_walk u i (at_least s v) ≡ unknown_walk u i v
  unfolding unknown_walk
  unknown_later s [] i v w k f = refl
  unknown_later s (r ∷ u) i v w k f =
      ap₂ (λ (l : List ℕ) (x : Bool). cond (heads r (at_least r i)) (not (heads r l) || unknown_walk u (at_least r i) l) x) (skip s r v f)
      (unknown_later s u (at_least r i) v (words_tail r u w) (rising_tail (str_of r) (strs u) k) (from_after s r u f (rising_from r u w k)))

  pub unknown_walk_lem : (u i v : List ℕ) → all (is_word most) u ≡ true → all (is_word most) i ≡ true → all (is_word most) v ≡ true
      → rising (strs u) ≡ true → rising (strs i) ≡ true → rising (strs v) ≡ true → unknown_walk u i v ≡ unknown_to (strs u) (strs i) (strs v)
  unfolding unknown_walk unknown_to any
  unknown_walk_lem [] i v wu wi wv hu hi hv = refl
  unknown_walk_lem (r ∷ u) i v wu wi wv hu hi hv =
      ap₂ (λ (x y : Bool). cond x (not y || unknown_walk u (at_least r i) (at_least r v)) (unknown_walk u (at_least r i) v))
      (covered_heads r i (words_head r u wu) wi hi) (covered_heads r v (words_head r u wu) wv hv)
      ∙ by (covered (str_of r) (strs i)) (covered (str_of r) (strs v))
      (unknown_skip r u i v (rising_from r u wu hu) ∙ unknown_walk_lem u i v (words_tail r u wu) wi wv (rising_tail (str_of r) (strs u) hu) hi hv)
    where
      by : (x y : Bool) → unknown_walk u (at_least r i) v ≡ unknown_to (strs u) (strs i) (strs v)
          → cond x (not y || unknown_walk u (at_least r i) (at_least r v)) (unknown_walk u (at_least r i) v)
          ≡ ((x && not y) || unknown_to (strs u) (strs i) (strs v))
      by true true ih = unknown_later r u (at_least r i) v (words_tail r u wu) (rising_tail (str_of r) (strs u) hu) (rising_from r u wu hu) ∙ ih
      by true false ih = refl
      by false y ih = ih

  -- strings that v covers are not unknown, so those before the first uncovered one need not be asked
  pub unknown_in_lem : (u i v : List ℕ) → all (is_word most) u ≡ true → all (is_word most) i ≡ true → all (is_word most) v ≡ true
      → rising (strs u) ≡ true → rising (strs i) ≡ true → rising (strs v) ≡ true → unknown_in u i v ≡ unknown_to (strs u) (strs i) (strs v)
  unfolding uncovered_walk unknown_to any
  unknown_in_lem [] i v wu wi wv hu hi hv = unknown_walk_lem [] i v wu wi wv hu hi hv
  unknown_in_lem (r ∷ u) i v wu wi wv hu hi hv =
      by (heads r (at_least r v)) refl (unknown_in_lem u i v (words_tail r u wu) wi wv (rising_tail (str_of r) (strs u) hu) hi hv)
    where
      and_none : (x y : Bool) → ((x && false) || y) ≡ y
      and_none true y = refl
      and_none false y = refl

      by : (b : Bool) → heads r (at_least r v) ≡ b → unknown_in u i v ≡ unknown_to (strs u) (strs i) (strs v)
          → unknown_walk (drop (cond b (suc (uncovered_walk u (at_least r v))) zero) (r ∷ u)) i v ≡ unknown_to (strs (r ∷ u)) (strs i) (strs v)
      by true e ih =
          ap (λ (p : ℕ). unknown_walk (drop p u) i v) (uncovered_skip r u v (rising_from r u wu hu))
          ∙ ih
          ∙ sym
          (ap (λ (b : Bool). (covered (str_of r) (strs i) && not b) || unknown_to (strs u) (strs i) (strs v))
          (sym (covered_heads r v (words_head r u wu) wv hv) ∙ e) ∙ and_none (covered (str_of r) (strs i)) (unknown_to (strs u) (strs i) (strs v)))
      by false e ih = unknown_walk_lem (r ∷ u) i v wu wi wv hu hi hv

  -- one that comes before the first of n comes before all
  before_all : (s : Str) (t : Str) (n : Name) → less s t ≡ true → rising (t ∷ n) ≡ true → (x : Str) → In x (t ∷ n) → less s x ≡ true
  before_all s t n h k x i = ⊎_elim (λ e. subst (λ (z : Str). less s z ≡ true) (sym e) h) (λ j. less_trans s t x h (rising_head t n k x j)) i

  -- s and the first of n: where neither is a prefix of the other, the lower one touches nothing
  overlap_from_lem : (s : ℕ) (m n : List ℕ) → Words (s ∷ m) → Words n → rising (strs (s ∷ m)) ≡ true → rising (strs n) ≡ true
      → ((n : List ℕ) → Words n → rising (strs n) ≡ true → overlap_walk m n ≡ overlaps (strs m) (strs n))
      → overlap_from s (overlap_walk m) n ≡ overlaps (strs (s ∷ m)) (strs n)
  unfolding overlap_from
  overlap_from_lem s m [] v w h k ih = sym (overlaps_none (strs (s ∷ m)))
  overlap_from_lem s m (t ∷ n) v w h k ih =
      by (ltb s t) refl (overlap_from_lem s m n v (words_tail t n w) h (rising_tail (str_of t) (strs n) k) ih)
    where
      hs : is_word most s ≡ true
      hs = words_head s m v

      ht : is_word most t ≡ true
      ht = words_head t n w

      lower : (b : Bool) → prefix (str_of s) (str_of t) ≡ b → s < t → (b || overlap_walk m (t ∷ n)) ≡ overlaps (strs (s ∷ m)) (strs (t ∷ n))
      lower true p l = sym (overlaps_hit (str_of s) (str_of t) (strs m) (strs n) p)
      lower false p l =
          ih (t ∷ n) w k
          ∙ sym (overlaps_first (str_of s) (strs m) (strs (t ∷ n)) (before_all (str_of s) (str_of t) (strs n) (le_less most small s t hs ht (omega arith) p) k))

      upper : (b : Bool) → prefix (str_of t) (str_of s) ≡ b → t ≤ s → overlap_from s (overlap_walk m) n ≡ overlaps (strs (s ∷ m)) (strs n)
          → (b || overlap_from s (overlap_walk m) n) ≡ overlaps (strs (s ∷ m)) (strs (t ∷ n))
      upper true p l rest = sym (overlaps_swap (strs (s ∷ m)) (strs (t ∷ n)) ∙ overlaps_hit (str_of t) (str_of s) (strs n) (strs m) p)
      upper false p l rest =
          rest
          ∙ sym
          (overlaps_swap (strs (s ∷ m)) (strs (t ∷ n))
          ∙ overlaps_first (str_of t) (strs n) (strs (s ∷ m)) (before_all (str_of t) (str_of s) (strs m) (le_less most small t s ht hs l p) h)
          ∙ overlaps_swap (strs n) (strs (s ∷ m)))

      by : (b : Bool) → ltb s t ≡ b → overlap_from s (overlap_walk m) n ≡ overlaps (strs (s ∷ m)) (strs n)
          → cond b (begins s t || overlap_walk m (t ∷ n)) (begins t s || overlap_from s (overlap_walk m) n) ≡ overlaps (strs (s ∷ m)) (strs (t ∷ n))
      by true e rest =
          let l = ltb-true s t e in
          ap (λ (x : Bool). x || overlap_walk m (t ∷ n)) (begins_prefix most small s t hs ht (omega arith)) ∙ lower (prefix (str_of s) (str_of t)) refl l
      by false e rest =
          let l = ltb-false s t e in
          ap (λ (x : Bool). x || overlap_from s (overlap_walk m) n) (begins_prefix most small t s ht hs l) ∙ upper (prefix (str_of t) (str_of s)) refl l rest

  pub overlap_walk_lem : (m n : List ℕ) → all (is_word most) m ≡ true → all (is_word most) n ≡ true → rising (strs m) ≡ true → rising (strs n) ≡ true
      → overlap_walk m n ≡ (touches (strs m) (strs n) || touches (strs n) (strs m))
  unfolding overlap_walk
  overlap_walk_lem [] n v w h k = sym (overlaps_swap [] (strs n) ∙ overlaps_none (strs n))
  overlap_walk_lem (s ∷ m) n v w h k =
      overlap_from_lem s m n v w h k (λ o x y. overlap_walk_lem m o (words_tail s m v) x (rising_tail (str_of s) (strs m) h) y)

-- ---- siblings, and the longest strings

twins_first : (n : List ℕ) → has_twins n ≡ not (is_none (first_twins (strs n)))
unfolding has_twins first_twins
twins_first [] = refl
twins_first (s ∷ []) = refl
twins_first (s ∷ (t ∷ n)) = by (siblings (str_of s) (str_of t)) (twins_first (t ∷ n))
  where
    by : (b : Bool) → has_twins (t ∷ n) ≡ not (is_none (first_twins (strs (t ∷ n))))
        → (b || has_twins (t ∷ n)) ≡ not (is_none (cond b (some (drop_last (str_of s))) (first_twins (strs (t ∷ n)))))
    by true ih = refl
    by false ih = ih

pub twins : (n : List ℕ) → rising (strs n) ≡ true → has_twins n ≡ not (is_none (pair (strs n)))
twins n h = twins_first n ∙ sym (ap (λ (p : Option Str). not (is_none p)) (neighbour_pair (strs n) h))

pub long : (n : List ℕ) → is_long n ≡ any (λ t. eqb (length t) narrow.digits) (strs n)
unfolding is_long any
long [] = refl
long (s ∷ n) = ap (λ (x : Bool). eqb (length (str_of s)) narrow.digits || x) (long n)
