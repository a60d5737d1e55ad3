-- Words of strings, one string to a word, and the strings of a list of them. Assumes nothing.
use Rattle.laws.proofs.Library.{◌≡◌, refl, sym, ap, ◌∙◌, Bool, true, List, [], ◌∷◌, map, inl, inr, ⊎_elim, ℕ, ◌≤◌, arith, eq-eqb, leb-true, le-leb, eqb}
use Rattle.laws.proofs.Library.{leb, length}
use Rattle.rules.specs.Strings.{Str, prefix, word_of, str_of, is_word}
use Rattle.rules.specs.Names.{Name}
use Rattle.laws.proofs.Tests.{and_left, and_both, In}
use Rattle.laws.proofs.Words.{str_word}
use Rattle.strings.proofs.Order.{word_is}

-- the strings of some words
abbrev pub strs : List ℕ → Name
strs l = map str_of l

-- the string of s is a prefix of that of t
abbrev pub prefix_w : ℕ → ℕ → Bool
prefix_w s t = prefix (str_of s) (str_of t)

-- ---- elements of a list and of its image

-- y is the string of a word of l
pub record From (l : List ℕ) (y : Str) : Type 0 where
  pub one : ℕ
  pub inside : In one l
  pub is : str_of one ≡ y

pub in_strs : (l : List ℕ) (x : ℕ) → In x l → In (str_of x) (strs l)
in_strs [] x i = absurd i
in_strs (w ∷ l) x i = ⊎_elim (λ e. inl (ap str_of e)) (λ h. inr (in_strs l x h)) i

pub strs_in_lem : (l : List ℕ) (y : Str) → In y (strs l) → From l y
strs_in_lem [] y i = absurd i
strs_in_lem (w ∷ l) y i =
    ⊎_elim (λ e. record { one = w; inside = inl refl; is = sym e })
    (λ h. let f = strs_in_lem l y h in record { one = f.one; inside = inr f.inside; is = f.is }) i

-- ---- words

module _ (most : ℕ) (hm : most ≤ 58) where
  pub word_within : (w : ℕ) → is_word most w ≡ true → length (str_of w) ≤ most
  unfolding is_word
  word_within w h = leb-true (length (str_of w)) most (and_left (leb (length (str_of w)) most) (eqb w (word_of (str_of w))) h)

  pub of_string : (s : Str) → length s ≤ most → is_word most (word_of s) ≡ true
  unfolding is_word
  of_string s h =
      let e : str_of (word_of s) ≡ s = str_word s (omega arith) in
      rw e (and_both (le-leb (length s) most h) (eq-eqb (word_of s) (word_of s) refl))

  -- one string has one word
  pub word_alike : (a b : ℕ) → is_word most a ≡ true → is_word most b ≡ true → str_of a ≡ str_of b → a ≡ b
  word_alike a b ha hb s = word_is most hm a ha ∙ ap word_of s ∙ sym (word_is most hm b hb)
