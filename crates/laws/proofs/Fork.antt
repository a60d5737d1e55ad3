-- A name with one digit appended to each string: as many strings, still in rising order, no two of them siblings since all end alike;
-- and it covers what the name covers and its own strings besides. Assumes nothing.
use Rattle.laws.proofs.Library.{◌≡◌, refl, sym, ap, ◌∙◌, subst, Bool, true, false, [], ◌∷◌, ◌⊎◌, inl, inr, ⊎_elim, none, ℕ, suc, ◌≤◌, arith, eqb, leb}
use Rattle.laws.proofs.Library.{length, drop, drop_at, length-map, leb-true, eqb-false, le-leb}
use Rattle.rules.specs.Strings.{Str, prefix, ◌▹◌}
use Rattle.rules.specs.Names.{Name, any, all, rising, covered, below}
use Rattle.rules.specs.Stamps.{pair, append}
use Rattle.laws.proofs.Tests.{no, In, any_none, all_each, each_all}
use Rattle.laws.proofs.Prefix.{prefix_grown, prefix_of_grown}
use Rattle.laws.proofs.Rising.{less_append, rising_head, rising_tail, rising_cons}
use Rattle.laws.proofs.Below.{covered_some, some_covered, below_trans, each_below}
use Rattle.laws.proofs.Settle.{none_pair}
use Rattle.laws.proofs.Steps.{grown_same}
use Rattle.laws.proofs.Shares.{grown_length}

-- ---- one string

-- a string with a digit more tells both
pub grown_is : (s t : Str) (a b : Bool) → s ▹ a ≡ t ▹ b → (s ≡ t) × (a ≡ b)
grown_is s t a b e =
    let p = grown_same s t a b e in
    let q : a ∷ [] ≡ b ∷ [] =
    sym (drop_at s (a ∷ []) (length s) refl) ∙ ap (drop (length s)) e ∙ drop_at t (b ∷ []) (length s) (ap length (sym p)) in
    (p, cc)

-- ---- each string of a name

module _ (d : Bool) where
  -- x is a string of i with d at its end
  pub record Grown (i : Name) (x : Str) : Type 0 where
    pub root : Str
    pub inside : In root i
    pub grown : x ≡ root ▹ d

  pub in_append_digit : (i : Name) (s : Str) → In s i → In (s ▹ d) (append d i)
  unfolding append
  in_append_digit [] s j = j
  in_append_digit (t ∷ i) s j = ⊎_elim (λ e. inl (ap (λ (x : Str). x ▹ d) e)) (λ h. inr (in_append_digit i s h)) j

  pub append_in : (i : Name) (x : Str) → In x (append d i) → Grown i x
  unfolding append
  append_in [] x j = absurd j
  append_in (t ∷ i) x j =
      ⊎_elim (λ e. record { root = t; inside = inl refl; grown = e })
      (λ h. let g = append_in i x h in record { root = g.root; inside = inr g.inside; grown = g.grown })
      j

  pub append_length : (i : Name) → length (append d i) ≡ length i
  unfolding append
  append_length i = length-map i (λ s. s ▹ d)

  pub append_rising : (i : Name) → rising i ≡ true → rising (append d i) ≡ true
  unfolding append rising
  append_rising [] h = refl
  append_rising (s ∷ i) h =
      rising_cons (s ▹ d) (append d i)
      (λ x j. let g = append_in i x j in
      rw g.grown (less_append s g.root (d ∷ []) (d ∷ []) (rising_head s i h g.root g.inside)))
      (append_rising i (rising_tail s i h))

  -- what it covers, the name covers, or it is one of its own strings
  pub covered_append : (r : Str) (i : Name) → covered r (append d i) ≡ true → (covered r i ≡ true) ⊎ In r (append d i)
  covered_append r i e =
      let c = covered_some r (append d i) e in
      let g = append_in i c.one c.inside in
      ⊎_elim (λ p. inl (some_covered r i g.root g.inside p)) (λ p. inr (subst (λ (y : Str). In y (append d i)) (g.grown ∙ sym p) c.inside))
      (prefix_of_grown r g.root d (subst (λ (y : Str). prefix r y ≡ true) g.grown c.passes))

  pub below_append : (u i : Name) → below u i ≡ true → below u (append d i) ≡ true
  below_append u i b =
      below_trans u i (append d i) b
      (each_below i (append d i) (λ s j. some_covered s (append d i) (s ▹ d) (in_append_digit i s j) (prefix_grown s d)))

  pub append_no_pair : (i : Name) → pair (append d i) ≡ none
  append_no_pair i = none_pair (append d i) (λ s j k. no (ends s false j ∙ sym (ends s true k)))
    where
      ends : (s : Str) (a : Bool) → In (s ▹ a) (append d i) → a ≡ d
      ends s a j = let g = append_in i (s ▹ a) j in (grown_is s g.root a d g.grown).1

  -- strings of at most so many digits, none of just so many, leave room for one more
  pub append_short : (most : ℕ) (i : Name) → all (λ s. leb (length s) most) i ≡ true → any (λ s. eqb (length s) most) i ≡ false
      → all (λ s. leb (length s) most) (append d i) ≡ true
  append_short most i h k =
      each_all (λ s. leb (length s) most) (append d i)
      (λ x j. let g = append_in i x j in
      let l : length g.root ≤ most = leb-true (length g.root) most (all_each (λ s. leb (length s) most) i h g.root g.inside) in
      let n : length g.root ≡ most → ⊥ = eqb-false (length g.root) most (any_none (λ s. eqb (length s) most) i k g.root g.inside) in
      let e : length x ≡ suc (length g.root) = ap length g.grown ∙ grown_length g.root d in
      le-leb (length x) most (omega arith))
