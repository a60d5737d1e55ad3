-- A name below another has no more strings than it: the first string is a prefix of a string there, and without that one the others are
-- below what is left, since two prefixes of one string are comparable and in a name none is a prefix of another. Assumes nothing.
use Rattle.laws.proofs.Library.{◌≡◌, refl, sym, ap, ◌∙◌, true, List, [], ◌∷◌, ◌⊎◌, inl, inr, ⊎_elim, suc, ◌≤◌, zero-le, arith, length}
use Rattle.rules.specs.Strings.{Str, prefix}
use Rattle.rules.specs.Names.{Name, rising, covered, below}
use Rattle.laws.proofs.Tests.{clash, In}
use Rattle.laws.proofs.Prefix.{prefix_comparable}
use Rattle.laws.proofs.Rising.{less_apart, rising_head, rising_tail}
use Rattle.laws.proofs.Below.{covered_some, some_covered, below_each, each_below}

module _ {A : Type 0} where
  -- what is left of a list without one place of x
  record Rest (x : A) (l : List A) : Type 0 where
    rest : List A
    fewer : length l ≡ suc (length rest)
    others : (y : A) → In y l → (y ≡ x) ⊎ In y rest

  take_out : (x : A) (l : List A) → In x l → Rest x l
  take_out x [] i = absurd i
  take_out x (y ∷ l) i =
      ⊎_elim (λ h. record { rest = l; fewer = refl; others = λ z j. ⊎_elim (λ k. inl (k ∙ sym h)) (λ k. inr k) j })
      (λ h. let r = take_out x l h in
      record {
        rest = y ∷ r.rest;
        fewer = ap suc r.fewer;
        others = λ z j. ⊎_elim (λ k. inr (inl k)) (λ k. ⊎_elim (λ e. inl e) (λ e. inr (inr e)) (r.others z k)) j;
      })
      i

-- "u never has more strings than i"
pub count_below : (u i : Name) → rising u ≡ true → below u i ≡ true → length u ≤ length i
count_below [] i h b = zero-le
count_below (s ∷ u) i h b =
    let c = covered_some s i (below_each (s ∷ u) i b s (inl refl)) in
    let r = take_out c.one i c.inside in
    let taken : (y : Str) → In y u → prefix y c.one ≡ true → ⊥ = λ y j p.
    let a = less_apart s y (rising_head s u h y j) in
    ⊎_elim (λ e. clash e a.0) (λ e. clash e a.1) (prefix_comparable s y c.one c.passes p) in
    let left : (y : Str) → In y u → covered y r.rest ≡ true = λ y j.
    let k = covered_some y i (below_each (s ∷ u) i b y (inr j)) in
    some_covered y r.rest k.one (⊎_elim (λ e. absurd (taken y j (rw e at k.passes))) (λ z. z) (r.others k.one k.inside)) k.passes in
    omega (arith, r.fewer, count_below u r.rest (rising_tail s u h) (each_below u r.rest left))
