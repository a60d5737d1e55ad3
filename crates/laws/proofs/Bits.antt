-- Numbers and their bits: a field of any width says the number's low bits, and bits are the field of the number that they say.
-- Assumes nothing.
use Rattle.laws.proofs.Library.{◌≡◌, refl, ap, ap₂, ◌∙◌, Bool, true, false, List, [], ◌∷◌, ◌++◌, ℕ, zero, suc, ◌+◌, ◌*◌, ◌/◌, ◌%◌, ◌^◌, ◌<◌, pow-suc}
use Rattle.laws.proofs.Library.{mod-eq_of_lt, arith, eqb, mod-pow-add, pow-add, high, length, replicate}
use Rattle.rules.specs.Strings.{digit, field, value_from, value}

pub field_length : (w a : ℕ) → length (field w a) ≡ w
unfolding field
field_length zero a = refl
field_length (suc w) a = ap suc (field_length w a)

-- a digit below 2 as a Bool and back
pub digit_eqb : (x : ℕ) → x < 2 → digit (eqb x 1) ≡ x
digit_eqb zero h = refl
digit_eqb (suc zero) h = refl
digit_eqb (suc (suc x)) h = absurd (omega arith)

pub value_append : (a : ℕ) (s t : List Bool) → value_from a (s ++ t) ≡ value_from (value_from a s) t
unfolding value_from
value_append a [] t = refl
value_append a (x ∷ s) t = value_append (a * 2 + digit x) s t

pub value_snoc : (a : ℕ) (s : List Bool) (x : Bool) → value_from a (s ++ (x ∷ [])) ≡ value_from a s * 2 + digit x
unfolding value_from
value_snoc a s x = value_append a s (x ∷ [])

value_from_field : (a w v : ℕ) → value_from a (field w v) ≡ a * 2 ^ w + v % 2 ^ w
unfolding value_from field
value_from_field a zero v = omega arith
value_from_field a (suc w) v =
    let e : suc w ≡ 1 + w = omega arith in
    let d = v / 2 ^ w % 2 in
    rw (value_from_field (a * 2 + digit (eqb d 1)) w v, digit_eqb d (omega arith), e, mod-pow-add v 1 w, pow-add 2 1 w) (omega arith)

-- a field of any width says the number's low bits
pub value_field : (w v : ℕ) → value (field w v) ≡ v % 2 ^ w
value_field w v = value_from_field 0 w v ∙ omega arith

pub value_field_exact : (w v : ℕ) → v < 2 ^ w → value (field w v) ≡ v
value_field_exact w v h = value_field w v ∙ mod-eq_of_lt h

-- bits behind a number are added to it, moved up
pub value_shift : (a : ℕ) (s : List Bool) → value_from a s ≡ a * 2 ^ length s + value s
unfolding value_from
value_shift a [] = omega arith
value_shift a (x ∷ s) = rw (value_shift (a * 2 + digit x) s, value_shift (0 * 2 + digit x) s, pow-suc 2 (length s)) (omega arith)

pub value_lt : (s : List Bool) → value s < 2 ^ length s
unfolding value_from
value_lt [] = omega arith
value_lt (true ∷ s) = omega (arith, value_shift 1 s, value_lt s, pow-suc 2 (length s))
value_lt (false ∷ s) = omega (arith, value_lt s, pow-suc 2 (length s))

odd_digit : (a : ℕ) (x : Bool) → eqb ((a * 2 + digit x) % 2) 1 ≡ x
odd_digit a true = ap (λ (n : ℕ). eqb n 1) (let e : (a * 2 + 1) % 2 ≡ 1 = omega arith in e)
odd_digit a false = ap (λ (n : ℕ). eqb n 1) (let e : (a * 2 + 0) % 2 ≡ 0 = omega arith in e)

field_from : (a : ℕ) (s : List Bool) → field (length s) (value_from a s) ≡ s
unfolding field value_from
field_from a [] = refl
field_from a (x ∷ s) =
    let top : value_from (a * 2 + digit x) s / 2 ^ length s ≡ a * 2 + digit x =
    ap (λ (n : ℕ). n / 2 ^ length s) (value_shift (a * 2 + digit x) s) ∙ high (a * 2 + digit x) (length s) (value_lt s) in
    ap₂ (λ (y : Bool) (l : List Bool). y ∷ l) (ap (λ (n : ℕ). eqb (n % 2) 1) top ∙ odd_digit a x) (field_from (a * 2 + digit x) s)

-- and back: bits are the field of the number that they say
pub field_value : (s : List Bool) → field (length s) (value s) ≡ s
field_value s = field_from 0 s

-- zeros say nothing
pub value_zeros : (n : ℕ) → value (replicate n false) ≡ 0
unfolding value_from
value_zeros zero = refl
value_zeros (suc n) = value_zeros n
