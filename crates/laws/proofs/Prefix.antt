-- Prefix is an order on strings: a prefix is the first part of that length, and of two first parts of one string the shorter is one of the
-- longer. Assumes nothing.
use Rattle.laws.proofs.Library.{◌≡◌, refl, sym, ap, ap₂, ◌∙◌, Bool, Bool·beq, true, false, [], ◌∷◌, ◌++◌, append-nil, append_snoc, ◌⊎◌, inl, inr}
use Rattle.laws.proofs.Library.{⊎_elim, ◌≤◌, arith, length, drop, length-append, length-take, take, take_all, take-append-drop, take-take}
use Rattle.rules.specs.Strings.{Str, prefix, same, ◌▹◌}
use Rattle.laws.proofs.Tests.{no, clash, not-true, and_left, and_right, at_most}

beq_is : (a b : Bool) → Bool·beq a b ≡ true → a ≡ b
beq_is true true e = refl
beq_is false false e = refl
beq_is true false e = absurd (no e)
beq_is false true e = absurd (no e)

-- ---- first parts

pub prefix_append : (s t : Str) → prefix s (s ++ t) ≡ true
unfolding prefix
prefix_append [] t = refl
prefix_append (true ∷ s) t = prefix_append s t
prefix_append (false ∷ s) t = prefix_append s t

pub prefix_refl : (s : Str) → prefix s s ≡ true
prefix_refl s = rw append-nil at (prefix_append s [])

prefix_first : (s t : Str) → prefix s t ≡ true → take (length s) t ≡ s
unfolding prefix
prefix_first [] t p = refl
prefix_first (a ∷ s) [] p = absurd (no p)
prefix_first (a ∷ s) (b ∷ t) p =
    ap₂ (λ (x : Bool) (l : Str). x ∷ l) (sym (beq_is a b (and_left (Bool·beq a b) (prefix s t) p))) (prefix_first s t (and_right (Bool·beq a b) (prefix s t) p))

first_prefix : (s t : Str) → take (length s) t ≡ s → prefix s t ≡ true
first_prefix s t e = rw (take-append-drop, e) at (prefix_append (take (length s) t) (drop (length s) t))

pub prefix_length : (s t : Str) → prefix s t ≡ true → length s ≤ length t
prefix_length s t p = omega (arith, length-take (length s) t, ap length (prefix_first s t p))

-- a prefix of the same length is all of it
pub prefix_whole : (s t : Str) → prefix s t ≡ true → length t ≤ length s → s ≡ t
prefix_whole s t p h = sym (prefix_first s t p) ∙ take_all (length s) t h

-- ---- the order

pub prefix_trans : (s t u : Str) → prefix s t ≡ true → prefix t u ≡ true → prefix s u ≡ true
prefix_trans s t u p q =
    first_prefix s u
    (sym (take-take (length s) (length t) u (prefix_length s t p)) ∙ ap (take (length s)) (prefix_first t u q) ∙ prefix_first s t p)

pub prefix_antisym : (s t : Str) → prefix s t ≡ true → prefix t s ≡ true → s ≡ t
prefix_antisym s t p q = prefix_whole s t p (prefix_length t s q)

-- of two prefixes of one string the shorter is one of the longer
prefix_shorter : (s t u : Str) → prefix s u ≡ true → prefix t u ≡ true → length s ≤ length t → prefix s t ≡ true
prefix_shorter s t u p q h =
    first_prefix s t (ap (take (length s)) (sym (prefix_first t u q)) ∙ take-take (length s) (length t) u h ∙ prefix_first s u p)

pub prefix_comparable : (s t u : Str) → prefix s u ≡ true → prefix t u ≡ true → (prefix s t ≡ true) ⊎ (prefix t s ≡ true)
prefix_comparable s t u p q =
    ⊎_elim (λ h. inl (prefix_shorter s t u p q h)) (λ h. inr (prefix_shorter t s u q p (omega arith))) (at_most (length s) (length t))

-- ---- the same

pub same_refl : (s : Str) → same s s ≡ true
unfolding same
same_refl [] = refl
same_refl (true ∷ s) = same_refl s
same_refl (false ∷ s) = same_refl s

pub same_is : (s t : Str) → same s t ≡ true → s ≡ t
unfolding same
same_is [] [] e = refl
same_is [] (b ∷ t) e = absurd (no e)
same_is (a ∷ s) [] e = absurd (no e)
same_is (a ∷ s) (b ∷ t) e =
    ap₂ (λ (x : Bool) (l : Str). x ∷ l) (beq_is a b (and_left (Bool·beq a b) (same s t) e)) (same_is s t (and_right (Bool·beq a b) (same s t) e))

pub is_same : {s t : Str} → s ≡ t → same s t ≡ true
is_same {s} {t} p = rw p (same_refl t)

pub not_same : {s t : Str} → same s t ≡ false → s ≡ t → ⊥
not_same e p = clash (is_same p) e

-- ---- one digit more

pub prefix_grown : (s : Str) (d : Bool) → prefix s (s ▹ d) ≡ true
prefix_grown s d = prefix_append s (d ∷ [])

-- a prefix of s with a digit more is a prefix of s, or all of it
pub prefix_of_grown : (r s : Str) (d : Bool) → prefix r (s ▹ d) ≡ true → (prefix r s ≡ true) ⊎ (r ≡ s ▹ d)
prefix_of_grown r s d p =
    ⊎_elim (λ h. inl (prefix_shorter r s (s ▹ d) p (prefix_grown s d) h))
    (λ h. inr (prefix_whole r (s ▹ d) p (omega (arith, length-append s (d ∷ []))))) (at_most (length r) (length s))

-- what extends s is s, or goes on with 0, or goes on with 1
pub prefix_goes_on : (s t : Str) → prefix s t ≡ true → (s ≡ t) ⊎ ((prefix (s ▹ false) t ≡ true) ⊎ (prefix (s ▹ true) t ≡ true))
prefix_goes_on s t p = rw (← whole) (by (drop (length s) t))
  where
    whole : s ++ drop (length s) t ≡ t
    whole = rw (prefix_first s t p) at (take-append-drop (length s) t)

    by : (r : Str) → (s ≡ s ++ r) ⊎ ((prefix (s ▹ false) (s ++ r) ≡ true) ⊎ (prefix (s ▹ true) (s ++ r) ≡ true))
    by [] = inl (sym (append-nil s))
    by (false ∷ r) = inr (inl (rw append_snoc at (prefix_append (s ▹ false) r)))
    by (true ∷ r) = inr (inr (rw append_snoc at (prefix_append (s ▹ true) r)))

-- nothing is a prefix of a shorter part of itself
pub grown_not_prefix : (s : Str) (d : Bool) → prefix (s ▹ d) s ≡ false
grown_not_prefix s d = not-true (λ p. omega (arith, prefix_length (s ▹ d) s p, length-append s (d ∷ [])))
