-- Below is an order on names, and a question about down-sets: m is below n exactly when whatever m covers, n covers. Where it is not, the
-- first string that n does not cover has a place in m, and is not e, which every string extends. Assumes nothing.
use Rattle.laws.proofs.Library.{◌≡◌, refl, sym, ◌∙◌, subst, true, false, [], ◌∷◌, inl, inr, ℕ, zero, suc, ◌≤◌, ◌<◌, le_of_suc-le-suc, arith}
use Rattle.laws.proofs.Library.{not-suc-le-zero, eqb, eqb·suc-suc, eqb·zero-suc, eq-eqb, eqb-false, length, get_or}
use Rattle.rules.specs.Strings.{Str, prefix, same}
use Rattle.rules.specs.Names.{Name, any, all, member, rising, covered, below, uncovered, lacked}
use Rattle.laws.proofs.Tests.{clash, decide, In, in_get_d, Some, any_some, some_any, all_each, each_all}
use Rattle.laws.proofs.Prefix.{prefix_refl, prefix_trans, prefix_antisym, same_is, is_same}
use Rattle.laws.proofs.Rising.{rising_antichain, rising_unique}

pub member_in : (s : Str) (n : Name) → member s n ≡ true → In s n
unfolding member
member_in s n e = let h = any_some (same s) n e in subst (λ (x : Str). In x n) (sym (same_is s h.one h.passes)) h.inside

pub in_member : (s : Str) (n : Name) → In s n → member s n ≡ true
unfolding member
in_member s n i = some_any (same s) n s i (is_same refl)

-- some string of n extends s
pub covered_some : (s : Str) (n : Name) → covered s n ≡ true → Some (prefix s) n
unfolding covered
covered_some s n e = any_some (prefix s) n e

pub some_covered : (s : Str) (n : Name) (t : Str) → In t n → prefix s t ≡ true → covered s n ≡ true
unfolding covered
some_covered s n t i p = some_any (prefix s) n t i p

pub in_covered : (s : Str) (n : Name) → In s n → covered s n ≡ true
in_covered s n i = some_covered s n s i (prefix_refl s)

-- down-sets: with a string, its prefixes
pub covered_down : (s t : Str) (n : Name) → prefix s t ≡ true → covered t n ≡ true → covered s n ≡ true
covered_down s t n p e = let h = covered_some t n e in some_covered s n h.one h.inside (prefix_trans s t h.one p h.passes)

pub below_each : (m n : Name) → below m n ≡ true → (s : Str) → In s m → covered s n ≡ true
unfolding below
below_each m n e s i = all_each (λ (x : Str). covered x n) m e s i

pub each_below : (m n : Name) → ((s : Str) → In s m → covered s n ≡ true) → below m n ≡ true
unfolding below
each_below m n f = each_all (λ (x : Str). covered x n) m f

-- what m covers, n covers
pub covered_below : (s : Str) (m n : Name) → covered s m ≡ true → below m n ≡ true → covered s n ≡ true
covered_below s m n e b = let h = covered_some s m e in covered_down s h.one n h.passes (below_each m n b h.one h.inside)

pub below_by_covered : (m n : Name) → ((s : Str) → covered s m ≡ true → covered s n ≡ true) → below m n ≡ true
below_by_covered m n f = each_below m n (λ s i. f s (in_covered s m i))

pub below_refl : (n : Name) → below n n ≡ true
below_refl n = each_below n n (λ s i. in_covered s n i)

pub below_trans : (l m n : Name) → below l m ≡ true → below m n ≡ true → below l n ≡ true
below_trans l m n p q = each_below l n (λ s i. covered_below s m n (below_each l m p s i) q)

-- a string of one antichain that is covered by another that is covered back stands in both
antisym_in : (m n : Name) → rising m ≡ true → below m n ≡ true → below n m ≡ true → (s : Str) → In s m → In s n
antisym_in m n h p q s i =
    let a = covered_some s n (below_each m n p s i) in
    let b = covered_some a.one m (below_each n m q a.one a.inside) in
    let e : s ≡ b.one = rising_antichain m h s b.one i b.inside (prefix_trans s a.one b.one a.passes b.passes) in
    let f : prefix a.one s ≡ true = subst (λ (x : Str). prefix a.one x ≡ true) (sym e) b.passes in
    subst (λ (x : Str). In x n) (sym (prefix_antisym s a.one a.passes f)) a.inside

-- a partial order: names that are below each other are one
pub below_antisym : (m n : Name) → rising m ≡ true → rising n ≡ true → below m n ≡ true → below n m ≡ true → m ≡ n
below_antisym m n h k p q = rising_unique m n h k (antisym_in m n h p q) (antisym_in n m k q p)

-- ---- the first string that is not covered

pub uncovered_le : (m n : Name) → uncovered m n ≤ length m
unfolding uncovered
uncovered_le [] n = omega arith
uncovered_le (s ∷ m) n = elim (decide (covered s n)) [ inl e ↦ rw e (omega (arith, uncovered_le m n)) | inr e ↦ rw e (omega arith) ]

-- there is a place exactly when the name is not below
pub below_uncovered : (m n : Name) → below m n ≡ eqb (uncovered m n) (length m)
unfolding below all uncovered
below_uncovered [] n = sym (eq-eqb 0 0 refl)
below_uncovered (s ∷ m) n = elim (decide (covered s n)) [
  | inl e ↦ simp (e, eqb·suc-suc) (below_uncovered m n)
  | inr e ↦ simp (e, eqb·zero-suc)
]

pub uncovered_lt : (m n : Name) → below m n ≡ false → uncovered m n < length m
uncovered_lt m n e = omega (arith, uncovered_le m n, eqb-false (uncovered m n) (length m) (sym (below_uncovered m n) ∙ e))

-- every string before the place is covered
pub covered_before : (m n : Name) (k : ℕ) → k < uncovered m n → covered (get_or m k []) n ≡ true
unfolding uncovered
covered_before [] n k h = absurd (omega arith)
covered_before (s ∷ m) n zero h = elim (decide (covered s n)) [ inl e ↦ e | inr e ↦ absurd (not-suc-le-zero (rw e at h)) ]
covered_before (s ∷ m) n (suc k) h = elim (decide (covered s n)) [
  | inl e ↦ covered_before m n k (le_of_suc-le-suc (rw e at h))
  | inr e ↦ absurd (not-suc-le-zero (rw e at h))
]

-- the one at it is not
pub uncovered_at : (m n : Name) → uncovered m n < length m → covered (get_or m (uncovered m n) []) n ≡ false
unfolding uncovered
uncovered_at [] n h = absurd (omega arith)
uncovered_at (s ∷ m) n h = elim (decide (covered s n)) [ inl e ↦ rw e (uncovered_at m n (le_of_suc-le-suc (rw e at h))) | inr e ↦ rw e e ]

pub lacked_uncovered : (m n : Name) → uncovered m n < length m → covered (lacked m n) n ≡ false
unfolding lacked
lacked_uncovered m n h = uncovered_at m n h

pub lacked_in : (m n : Name) → uncovered m n < length m → In (lacked m n) m
unfolding lacked
lacked_in m n h = in_get_d m (uncovered m n) [] h

-- every string extends e
pub covered_e : (n : Name) → 1 ≤ length n → covered [] n ≡ true
unfolding covered any prefix
covered_e [] h = absurd (omega arith)
covered_e (t ∷ n) h = refl

-- so an uncovered string is never e
pub lacked_not_e : (m n : Name) → uncovered m n < length m → 1 ≤ length n → 1 ≤ length (lacked m n)
lacked_not_e m n h k = by (lacked m n) (lacked_uncovered m n h)
  where
    by : (s : Str) → covered s n ≡ false → 1 ≤ length s
    by [] e = absurd (clash (covered_e n k) e)
    by (d ∷ s) e = omega arith
