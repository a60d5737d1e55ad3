-- None of the three leaves more words than it is given. Assumes nothing.
use Rattle.laws.proofs.Library.{Bool, true, false, cond, List, [], ◌∷◌, ℕ, suc, ◌+◌, ◌-◌, ◌≤◌, arith, eqb, ltb, length, length-reverse}
use Rattle.rules.specs.Strings.{siblings, str_of}
use Rattle.strings.specs.Words.{begins}
use Rattle.unions.specs.Unions.{merge_from, merge, push, push_all, reduced, seek, lift, once_from, once, lifted}

pub merge_few : (m n : List ℕ) → length (merge m n) ≤ length m + length n
unfolding merge merge_from
merge_few [] n = omega arith
merge_few (s ∷ m) n = from n (λ l. merge_few m l)
  where
    from : (n : List ℕ) → ((l : List ℕ) → length (merge m l) ≤ length m + length l) → length (merge (s ∷ m) n) ≤ suc (length m) + length n
    from [] ih = omega arith
    from (t ∷ n) ih = by (ltb s t) (begins s t) (begins t s) (from n ih) (ih (t ∷ n))
      where
        by : (a b c : Bool) → length (merge (s ∷ m) n) ≤ suc (length m) + length n → length (merge m (t ∷ n)) ≤ length m + suc (length n)
            → length (cond a (cond b (merge m (t ∷ n)) (s ∷ merge m (t ∷ n))) (cond c (merge (s ∷ m) n) (t ∷ merge (s ∷ m) n)))
            ≤ suc (length m) + suc (length n)
        by true true c p q = omega arith
        by true false c p q = omega arith
        by false b true p q = omega arith
        by false b false p q = omega arith

push_few : (n : List ℕ) (s : ℕ) → length (push s n) ≤ suc (length n)
unfolding push
push_few [] s = omega arith
push_few (t ∷ n) s = by (siblings (str_of t) (str_of s)) _ (omega (arith, push_few n (t - 1)))
  where
    by : (b : Bool) (l : List ℕ) → length l ≤ suc (suc (length n)) → length (cond b l (s ∷ t ∷ n)) ≤ suc (suc (length n))
    by true l h = h
    by false l h = omega arith

all_few : (l n : List ℕ) → length (push_all n l) ≤ length n + length l
unfolding push_all
all_few [] n = omega arith
all_few (s ∷ l) n = omega (arith, all_few l (push s n), push_few n s)

pub reduced_few : (l : List ℕ) → length (reduced l) ≤ length l
unfolding reduced
reduced_few l = omega (arith, length-reverse (push_all [] l), all_few l [])

from_few : (l : List ℕ) (a : ℕ) → length (once_from a l) ≤ length l
unfolding once_from
from_few [] a = omega arith
from_few (b ∷ l) a = by (eqb a b) (from_few l a) (from_few l b)
  where
    by : (c : Bool) → length (once_from a l) ≤ length l → length (once_from b l) ≤ length l → length (cond c (once_from a l) (b ∷ once_from b l)) ≤ suc (length l)
    by true p q = omega arith
    by false p q = omega arith

once_few : (l : List ℕ) → length (once l) ≤ length l
unfolding once
once_few [] = omega arith
once_few (a ∷ l) = omega (arith, from_few l a)

lift_few : (u i : List ℕ) → length (lift i u) ≤ length u
unfolding lift
lift_few [] i = omega arith
lift_few (r ∷ u) i = omega (arith, lift_few u (seek i r))

pub lifted_few : (i u : List ℕ) → length (lifted i u) ≤ length u
unfolding lifted
lifted_few i u = omega (arith, once_few (lift i u), lift_few u i)
