-- Words of strings stand as their strings do: a prefix has no greater word, and of two that are apart the one that comes before has the lesser.
-- Both are read off a word's value: the digits moved to the top, and the length. Assumes nothing.
use Rattle.laws.proofs.Library.{◌≡◌, refl, sym, ap, ap₂, ◌∙◌, subst, Bool, true, false, [], ◌∷◌, ◌++◌, ℕ, ◌+◌, ◌*◌, ◌-◌, ◌^◌, ◌≤◌, ◌<◌, mul_assoc, add-mul}
use Rattle.laws.proofs.Library.{arith, leb-true, eqb-true, ltb-true, ltb-false, eqb, leb, ltb, length, length-append, pow-add}
use Rattle.rules.specs.Strings.{Str, prefix, less, value, word_of, str_of, is_word}
use Rattle.laws.proofs.Tests.{no, clash, not-true, and_left, and_right}
use Rattle.laws.proofs.Prefix.{prefix_refl}
use Rattle.laws.proofs.Rising.{less_apart}
use Rattle.laws.proofs.Bits.{value_append, value_shift}
use Rattle.laws.proofs.Words.{less_words, word_value, word_lt}

-- ---- a prefix and the rest

record Rest (s t : Str) : Type 0 where
  rest : Str
  is : t ≡ s ++ rest

prefix_rest : (s t : Str) → prefix s t ≡ true → Rest s t
unfolding prefix
prefix_rest [] t p = record { rest = t; is = refl }
prefix_rest (a ∷ s) [] p = absurd (no p)
prefix_rest (true ∷ s) (true ∷ t) p = let r = prefix_rest s t p in record { rest = r.rest; is = ap (λ (l : Str). true ∷ l) r.is }
prefix_rest (false ∷ s) (false ∷ t) p = let r = prefix_rest s t p in record { rest = r.rest; is = ap (λ (l : Str). false ∷ l) r.is }
prefix_rest (true ∷ s) (false ∷ t) p = absurd (no p)
prefix_rest (false ∷ s) (true ∷ t) p = absurd (no p)

-- digits behind a string make its word no less
word_append : (s r : Str) → length s + length r ≤ 64 → word_of s ≤ word_of (s ++ r)
word_append s r h =
    let v = value s in
    let m = length s in
    let k = length r in
    let p = 2 ^ (64 - (m + k)) in
    let both : word_of (s ++ r) ≡ (v * 2 ^ k + value r) * p + (m + k) =
    word_value (s ++ r) ∙ ap₂ (λ (x n : ℕ). x * 2 ^ (64 - n) + n) (value_append 0 s r ∙ value_shift v r) (length-append s r) in
    let top : v * 2 ^ k * p ≡ v * 2 ^ (64 - m) =
    mul_assoc v (2 ^ k) p
    ∙ ap (λ (n : ℕ). v * n) (sym (pow-add 2 k (64 - (m + k))) ∙ ap (λ (n : ℕ). 2 ^ n) (let e : k + (64 - (m + k)) ≡ 64 - m = omega arith in e)) in
    omega (arith, word_value s, both, top, add-mul (v * 2 ^ k) (value r) p)

pub prefix_word : (s t : Str) → length t ≤ 58 → prefix s t ≡ true → word_of s ≤ word_of t
prefix_word s t h p =
    let r = prefix_rest s t p in
    let e : length t ≡ length s + length r.rest = ap length r.is ∙ length-append s r.rest in
    subst (λ (x : Str). word_of s ≤ word_of x) (sym r.is) (word_append s r.rest (omega arith))

-- ---- words of strings within a limit

module _ (most : ℕ) (small : most ≤ 58) where
  pub word_is : (w : ℕ) → is_word most w ≡ true → w ≡ word_of (str_of w)
  unfolding is_word
  word_is w e = eqb-true w (word_of (str_of w)) (and_right (leb (length (str_of w)) most) (eqb w (word_of (str_of w))) e)

  pub word_short : (w : ℕ) → is_word most w ≡ true → length (str_of w) ≤ 58
  unfolding is_word
  word_short w e = omega (arith, leb-true (length (str_of w)) most (and_left (leb (length (str_of w)) most) (eqb w (word_of (str_of w))) e))

  pub word_fits : (w : ℕ) → is_word most w ≡ true → w < 2 ^ 64
  word_fits w e = subst (λ (x : ℕ). x < 2 ^ 64) (sym (word_is w e)) (word_lt (str_of w) (word_short w e))

  module _ (a b : ℕ) (ha : is_word most a ≡ true) (hb : is_word most b ≡ true) where
    -- a prefix has no greater word
    pub prefix_le : prefix (str_of a) (str_of b) ≡ true → a ≤ b
    prefix_le p = omega (arith, word_is a ha, word_is b hb, prefix_word (str_of a) (str_of b) (word_short b hb) p)

    -- what comes before has the lesser word
    pub less_lt : less (str_of a) (str_of b) ≡ true → a < b
    less_lt p =
        let q = less_apart (str_of a) (str_of b) p in
        ltb-true a b (sym (less_words a b (word_fits a ha) (word_fits b hb) q.0 q.1) ∙ p)

  -- no greater word and no prefix: it comes before
  pub le_less : (a b : ℕ) → is_word most a ≡ true → is_word most b ≡ true → a ≤ b → prefix (str_of a) (str_of b) ≡ false → less (str_of a) (str_of b) ≡ true
  le_less a b ha hb l p = less_words a b (word_fits a ha) (word_fits b hb) p q ∙ by (ltb a b) refl
    where
      one : b ≤ a → ⊥
      one k =
          let e : a ≡ b = omega arith in
          clash (subst (λ (x : ℕ). prefix (str_of a) (str_of x) ≡ true) e (prefix_refl (str_of a))) p

      q : prefix (str_of b) (str_of a) ≡ false
      q = not-true (λ h. one (prefix_le b a hb ha h))

      by : (x : Bool) → ltb a b ≡ x → ltb a b ≡ true
      by true e = e
      by false e = absurd (one (ltb-false a b e))
