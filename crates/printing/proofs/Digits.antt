-- The digits of a word's string: the highest bit of the word is the first, and a shift brings up those behind it. Assumes nothing.
use Rattle.laws.proofs.Library.{◌≡◌, refl, ap, ap₂, ◌∙◌, [], ◌∷◌, ℕ, suc, ◌+◌, ◌*◌, ◌/◌, ◌%◌, ◌^◌, ◌≤◌, ◌<◌, arith, eqb, length, take, take-append-le}
use Rattle.laws.proofs.Library.{mod-eq_of_lt, shl-shr}
use Rattle.rules.specs.Strings.{Str, digit, field, str_of}
use Rattle.rules.specs.Traces.{Text, digits_text}
use Rattle.laws.proofs.Bits.{field_length, digit_eqb}
use Rattle.laws.proofs.Words.{field_low, field_split, str_length}

-- the first n bits of a word, as digits
unfoldable pub highest : ℕ → ℕ → Text
highest n w = digits_text (take n (field 64 w))

pub highest_none : (w : ℕ) → highest 0 w ≡ []
unfolding highest digits_text
highest_none w = refl

first_digit : (k n w : ℕ) → digits_text (take (suc n) (field (suc k) w)) ≡ (48 + digit (eqb (w / 2 ^ k % 2) 1)) ∷ digits_text (take n (field k w))
unfolding field digits_text
first_digit k n w = refl

top_bit : (w : ℕ) → w < 2 ^ 64 → digit (eqb (w / 2 ^ 63 % 2) 1) ≡ w / 2 ^ 63
top_bit w h = let small : w / 2 ^ 63 < 2 = omega arith in rw (mod-eq_of_lt small) (digit_eqb (w / 2 ^ 63) small)

-- behind a shift stand the bits that were below the highest
shifted : (n w : ℕ) → n ≤ 63 → take n (field 63 w) ≡ take n (field 64 ((w * 2) % 2 ^ 64))
shifted n w h =
    rw (field_low 64 (w * 2), field_split 63 1 (w * 2), shl-shr w 1, take-append-le n (field 63 w) (field 1 (w * 2)) (omega (arith, field_length 63 w)))

pub highest_more : (n w : ℕ) → n ≤ 63 → w < 2 ^ 64 → highest (suc n) w ≡ (48 + w / 2 ^ 63) ∷ highest n ((w * 2) % 2 ^ 64)
unfolding highest
highest_more n w h k = first_digit 63 n w ∙ ap₂ (λ (d : ℕ) (s : Str). (48 + d) ∷ digits_text s) (top_bit w k) (shifted n w h)

-- the string that a word says
pub highest_all : (w : ℕ) → highest (w % 64) w ≡ digits_text (str_of w)
unfolding highest str_of
highest_all w = refl

pub digits_length : (s : Str) → length (digits_text s) ≡ length s
unfolding digits_text
digits_length [] = refl
digits_length (d ∷ s) = ap suc (digits_length s)

-- a word says how many there are: at most 63
pub digits_count : (w : ℕ) → length (digits_text (str_of w)) ≡ w % 64
digits_count w = digits_length (str_of w) ∙ str_length w
