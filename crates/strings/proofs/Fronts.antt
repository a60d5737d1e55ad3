-- Prefix and order by the leading digits that two words share, where the words stand in order: the lower one's string is a prefix of the
-- other's exactly when they share as many digits as it has, since the longer of two such strings has the greater word. Assumes nothing.
use Rattle.laws.proofs.Library.{◌≡◌, refl, sym, ap, ◌∙◌, Bool, true, false, not, ◌&&◌, [], ◌∷◌, ℕ, suc, ◌%◌, ◌≤◌, ◌<◌, arith, le_of_lt, leb-true}
use Rattle.laws.proofs.Library.{leb-false, ltb-true, le-leb, lt-ltb, leb, ltb}
use Rattle.rules.specs.Strings.{Str, prefix, less, common, field, str_of, is_word}
use Rattle.laws.proofs.Tests.{clash, not-true, and_both}
use Rattle.laws.proofs.Rising.{less_apart}
use Rattle.laws.proofs.Words.{prefix_words}
use Rattle.strings.specs.Words.{begins}
use Rattle.strings.proofs.Order.{prefix_le, less_lt, le_less}

common_sym : (s t : Str) → common s t ≡ common t s
unfolding common
common_sym [] [] = refl
common_sym [] (b ∷ t) = refl
common_sym (a ∷ s) [] = refl
common_sym (true ∷ s) (true ∷ t) = ap suc (common_sym s t)
common_sym (false ∷ s) (false ∷ t) = ap suc (common_sym s t)
common_sym (true ∷ s) (false ∷ t) = refl
common_sym (false ∷ s) (true ∷ t) = refl

module _ (most : ℕ) (small : most ≤ 58) (a b : ℕ) (ha : is_word most a ≡ true) (hb : is_word most b ≡ true) where
  abbrev z : ℕ
  z = common (field 64 a) (field 64 b)

  -- a longer string that shares the other's digits extends it, and so has the greater word
  longer : a ≤ b → b % 64 < a % 64 → a % 64 ≤ z → ⊥
  longer l h k =
      let m : b % 64 ≤ a % 64 = le_of_lt h in
      let n : b % 64 ≤ z = omega arith in
      let p = sym (prefix_words b a z (common_sym (field 64 a) (field 64 b))) ∙ and_both (le-leb (b % 64) (a % 64) m) (le-leb (b % 64) z n) in
      let g = prefix_le most small b a hb ha p in
      let e : a ≡ b = omega arith in
      omega (arith, ap (λ (x : ℕ). x % 64) e)

  -- the string of a lower word is a prefix exactly when the two share as many digits as it has
  pub begins_prefix : a ≤ b → begins a b ≡ prefix (str_of a) (str_of b)
  unfolding begins
  begins_prefix l = by (leb (a % 64) (b % 64)) refl ∙ prefix_words a b z refl
    where
      by : (x : Bool) → leb (a % 64) (b % 64) ≡ x → leb (a % 64) z ≡ (leb (a % 64) (b % 64) && leb (a % 64) z)
      by true p = rw p refl
      by false p = rw p (not-true (λ h. longer l (leb-false (a % 64) (b % 64) p) (leb-true (a % 64) z h)))

  -- else it comes before
  pub begins_less : (ltb a b && not (begins a b)) ≡ less (str_of a) (str_of b)
  begins_less = by (ltb a b) refl
    where
      of : (x : Bool) → a < b → prefix (str_of a) (str_of b) ≡ x → not x ≡ less (str_of a) (str_of b)
      of true l p = sym (not-true (λ h. clash p (less_apart (str_of a) (str_of b) h).0))
      of false l p = sym (le_less most small a b ha hb (le_of_lt l) p)

      by : (x : Bool) → ltb a b ≡ x → (ltb a b && not (begins a b)) ≡ less (str_of a) (str_of b)
      by true e = let l = ltb-true a b e in rw (e, begins_prefix (le_of_lt l)) (of (prefix (str_of a) (str_of b)) l refl)
      by false e = rw e (sym (not-true (λ h. clash (lt-ltb a b (less_lt most small a b ha hb h)) e)))
