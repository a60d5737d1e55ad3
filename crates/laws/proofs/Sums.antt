-- The sum of a weight over a name's strings. Two names that share all but a few strings differ by the weights of those few,
-- since a rising list is told by its strings. Assumes nothing.
use Rattle.laws.proofs.Library.{◌≡◌, refl, ap, Bool, true, not, [], ◌∷◌, inl, inr, ℕ, ◌+◌, arith, length}
use Rattle.rules.specs.Strings.{Str}
use Rattle.rules.specs.Names.{Name, keep, member, rising}
use Rattle.laws.proofs.Tests.{clash, decide, not-true, not_is, is_not, In, keep_in, in_keep}
use Rattle.laws.proofs.Rising.{rising_head, rising_tail, rising_cons, rising_unique}
use Rattle.laws.proofs.Below.{member_in, in_member}

-- the weights of all strings of n
unfoldable pub total : (Str → ℕ) → Name → ℕ
total f [] = 0
total f (s ∷ n) = f s + total f n

pub length_total : (n : Name) → length n ≡ total (λ s. 1) n
unfolding total
length_total [] = refl
length_total (s ∷ n) = omega (arith, length_total n)

-- ---- some strings of a name

pub keep_rising : (p : Str → Bool) (n : Name) → rising n ≡ true → rising (keep p n) ≡ true
unfolding keep
keep_rising p [] h = h
keep_rising p (s ∷ n) h =
    let on = keep_rising p n (rising_tail s n h) in
    elim (decide (p s)) [ inl e ↦ rw e (rising_cons s (keep p n) (λ t i. rising_head s n h t (keep_in p n t i).0) on) | inr e ↦ rw e on ]

-- what passes and what does not make up the whole
pub total_keep : (f : Str → ℕ) (p : Str → Bool) (n : Name) → total f (keep p n) + total f (keep (λ s. not (p s)) n) ≡ total f n
unfolding total keep
total_keep f p [] = refl
total_keep f p (s ∷ n) = elim (decide (p s)) [ inl e ↦ rw e (omega (arith, total_keep f p n)) | inr e ↦ rw e (omega (arith, total_keep f p n)) ]

-- ---- two names

-- the strings of m that n holds too, and those that it does not
abbrev shared : Name → Name → Name
shared m n = keep (λ s. member s n) m

abbrev pub beyond : Name → Name → Name
beyond m n = keep (λ s. not (member s n)) m

shared_in : (m n : Name) (s : Str) → In s (shared m n) → In s (shared n m)
shared_in m n s i =
    let h = keep_in (λ x. member x n) m s i in
    in_keep (λ x. member x m) n s (member_in s n h.1) (in_member s m h.0)

-- m and n differ by what each holds beyond the other
pub total_exchange : (f : Str → ℕ) (m n : Name) → rising m ≡ true → rising n ≡ true
    → total f m + total f (beyond n m) ≡ total f n + total f (beyond m n)
total_exchange f m n h k =
    let e : shared m n ≡ shared n m =
    rising_unique (shared m n) (shared n m) (keep_rising (λ s. member s n) m h) (keep_rising (λ s. member s m) n k) (shared_in m n) (shared_in n m) in
    omega (arith, ap (total f) e, total_keep f (λ s. member s n) m, total_keep f (λ s. member s m) n)

-- the strings of m beyond n, told one by one
pub beyond_is : (m n l : Name) → rising m ≡ true → rising l ≡ true
    → ((s : Str) → In s m → (In s n → ⊥) → In s l) → ((s : Str) → In s l → In s m × (In s n → ⊥)) → beyond m n ≡ l
beyond_is m n l h k f g =
    rising_unique (beyond m n) l (keep_rising (λ s. not (member s n)) m h) k
    (λ s i. let a = keep_in (λ x. not (member x n)) m s i in f s a.0 (λ j. clash (in_member s n j) (not_is a.1)))
    (λ s i. in_keep (λ x. not (member x n)) m s (g s i).0 (is_not (not-true (λ e. (g s i).1 (member_in s n e)))))
