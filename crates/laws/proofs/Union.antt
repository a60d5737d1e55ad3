-- The union of two names: rising, with exactly the strings of both that no other properly extends; and the least upper bound.
-- Assumes nothing.
use Rattle.laws.proofs.Library.{◌≡◌, refl, ap, ◌∙◌, Bool, true, not, ◌&&◌, ◌||◌, map, List, [], ◌∷◌, ◌++◌, inl, inr, ⊎_elim, ℕ, zero, suc, ◌+◌, ◌≤◌}
use Rattle.laws.proofs.Library.{◌<◌, arith, lt_of_not-le, length}
use Rattle.rules.specs.Strings.{Str, prefix, same}
use Rattle.rules.specs.Names.{Name, any, keep, rising, covered, below, outgrown, union, unions}
use Rattle.laws.proofs.Tests.{clash, decide, not-true, not-false, iff, and_left, and_right, and_both, or_cases, or_left, or_right, not_is, is_not, In}
use Rattle.laws.proofs.Tests.{in_left, in_right, in_append, Some, any_some, some_any, none_any, keep_in, in_keep}
use Rattle.laws.proofs.Prefix.{prefix_refl, prefix_trans, prefix_whole, same_is, is_same}
use Rattle.laws.proofs.Rising.{sorted_in, in_sorted, sorted_rising}
use Rattle.laws.proofs.Below.{covered_some, some_covered, covered_below, below_each, each_below, below_trans}

-- a string of l that no other string of l extends
pub record Top (s : Str) (l : List Str) : Type 0 where
  pub inside : In s l
  pub alone : (t : Str) → In t l → prefix s t ≡ true → s ≡ t

-- the strings of l that are no proper prefix of another
abbrev kept : List Str → List Str
kept l = keep (λ x. not (outgrown x l)) l

top_kept : (l : List Str) (s : Str) → Top s l → In s (kept l)
unfolding outgrown
top_kept l s p =
    in_keep (λ x. not (outgrown x l)) l s p.inside
    (is_not
    (none_any (λ t. prefix s t && not (same s t)) l
    (λ t i. not-true (λ e. clash (is_same (p.alone t i (and_left (prefix s t) (not (same s t)) e))) (not_is (and_right (prefix s t) (not (same s t)) e))))))

kept_top : (l : List Str) (s : Str) → In s (kept l) → Top s l
unfolding outgrown
kept_top l s i =
    let h = keep_in (λ x. not (outgrown x l)) l s i in
    record {
      inside = h.0;
      alone = λ t j p. same_is s t (not-false (λ e. clash (some_any (λ x. prefix s x && not (same s x)) l t j (and_both p (is_not e))) (not_is h.1)));
    }

-- the document's words: a string of either that is no proper prefix of another in either
pub union_top : (m n : Name) (s : Str) → In s (union m n) → Top s (m ++ n)
unfolding union
union_top m n s i = kept_top (m ++ n) s (sorted_in (kept (m ++ n)) s i)

pub top_union : (m n : Name) (s : Str) → Top s (m ++ n) → In s (union m n)
unfolding union
top_union m n s p = in_sorted (kept (m ++ n)) s (top_kept (m ++ n) s p)

pub union_rising : (m n : Name) → rising (union m n) ≡ true
unfolding union
union_rising m n = sorted_rising (kept (m ++ n)) (λ s t i j p. (kept_top (m ++ n) s i).alone t (kept_top (m ++ n) t j).inside p)

-- ---- every string of a list has one above it that stays

-- longer than each string of the list
room : List Str → ℕ
room [] = 0
room (s ∷ l) = suc (length s) + room l

in_room : (l : List Str) (s : Str) → In s l → length s < room l
unfolding room
in_room [] s i = absurd i
in_room (t ∷ l) s i = ⊎_elim (λ e. omega (arith, ap length e)) (λ h. omega (arith, in_room l s h)) i

-- a proper extension is longer, so k of them lead to a string that has none
climb : (l : List Str) (k : ℕ) (s : Str) → In s l → room l ≤ length s + k → Some (prefix s) (kept l)
unfolding outgrown
climb l zero s i h = absurd (omega (arith, in_room l s i))
climb l (suc k) s i h = elim (decide (outgrown s l)) [
  | inr e ↦ record { one = s; inside = in_keep (λ x. not (outgrown x l)) l s i (is_not e); passes = prefix_refl s }
  | inl e ↦
      let a = any_some (λ t. prefix s t && not (same s t)) l e in
      let t : Str = a.one in
      let p : prefix s t ≡ true = and_left (prefix s t) (not (same s t)) a.passes in
      let longer : length s < length t =
      lt_of_not-le (λ g. clash (is_same (prefix_whole s t p g)) (not_is (and_right (prefix s t) (not (same s t)) a.passes))) in
      let u = climb l k t a.inside (omega arith) in
      record { one = u.one; inside = u.inside; passes = prefix_trans s t u.one p u.passes }
]

-- the union covers each string of either
over_union : (m n : Name) (t : Str) → In t (m ++ n) → covered t (union m n) ≡ true
unfolding union
over_union m n t i =
    let l = m ++ n in
    let u = climb l (room l) t i (omega arith) in
    some_covered t (union m n) u.one (in_sorted (kept l) u.one u.inside) u.passes

-- ---- the least upper bound

pub below_union_left : (m n : Name) → below m (union m n) ≡ true
below_union_left m n = each_below m (union m n) (λ s i. over_union m n s (in_left s m n i))

pub below_union_right : (m n : Name) → below n (union m n) ≡ true
below_union_right m n = each_below n (union m n) (λ s i. over_union m n s (in_right s m n i))

-- ↓(m ∪ n) is ↓m and ↓n together
pub covered_union : (s : Str) (m n : Name) → covered s (union m n) ≡ (covered s m || covered s n)
covered_union s m n =
    iff
    (λ e. let a = covered_some s (union m n) e in
    ⊎_elim (λ h. or_left (covered s n) (some_covered s m a.one h a.passes)) (λ h. or_right (covered s m) (some_covered s n a.one h a.passes))
    (in_append a.one m n (union_top m n a.one a.inside).inside))
    (λ e. ⊎_elim (λ h. covered_below s m (union m n) h (below_union_left m n)) (λ h. covered_below s n (union m n) h (below_union_right m n))
    (or_cases (covered s m) (covered s n) e))

pub union_least : (m n l : Name) → below m l ≡ true → below n l ≡ true → below (union m n) l ≡ true
union_least m n l p q =
    each_below (union m n) l
    (λ s i. ⊎_elim (λ h. below_each m l p s h) (λ h. below_each n l q s h) (in_append s m n (union_top m n s i).inside))

-- unions of names that are below each other, in pairs
pub union_mono : (a b m n : Name) → below a m ≡ true → below b n ≡ true → below (union a b) (union m n) ≡ true
union_mono a b m n p q =
    union_least a b (union m n) (below_trans a m (union m n) p (below_union_left m n)) (below_trans b n (union m n) q (below_union_right m n))

-- ---- the union of any number of names

pub covered_unions : {A : Type 0} (f : A → Name) (s : Str) (l : List A) → covered s (unions (map f l)) ≡ any (λ x. covered s (f x)) l
unfolding unions any covered
covered_unions f s [] = refl
covered_unions f s (x ∷ l) = covered_union s (f x) (unions (map f l)) ∙ ap (λ (b : Bool). covered s (f x) || b) (covered_unions f s l)
