-- A reader of bits, of a number or of a string gives back what was written in front of the rest, and what it gives was written there.
-- Assumes nothing.
use Rattle.laws.proofs.Library.{◌≡◌, refl, sym, ap, ap₂, ◌∙◌, Bool, true, false, cond, List, ◌++◌, append_assoc, Option, none, some, Option·none-ne-some}
use Rattle.laws.proofs.Library.{Option·some-injective, ℕ, ◌^◌, ◌≤◌, ◌<◌, arith, leb-true, le-leb, leb, length, take, drop, length-append, take-append-drop}
use Rattle.laws.proofs.Library.{take_at, drop_at, length-take-le}
use Rattle.rules.specs.Limits.{Limits}
use Rattle.rules.specs.Strings.{Str, field, value}
use Rattle.rules.specs.Packed.{string_bits, Taken, then_take, take_bits, take_number, take_string}
use Rattle.laws.proofs.Bits.{field_length, value_lt, value_field_exact, field_value}

module _ {A : Type 0} where
  -- a test that was passed, and what it let through
  pub let_through : (b : Bool) (t : Option A) (g : A) → cond b t none ≡ some g → (b ≡ true) × (t ≡ some g)
  let_through true t g e = (refl, e)
  let_through false t g e = absurd (Option·none-ne-some g e)

  pub same_value : (x y : A) (p q : List Bool) → ◌≡◌ {A = Taken A} (some (x, p)) (some (y, q)) → (x ≡ y) × (p ≡ q)
  same_value x y p q e =
      let h = Option·some-injective {A = A × List Bool} (x, p) (y, q) e in
      (ap (λ (g : A × List Bool). g.0) h, ap (λ (g : A × List Bool). g.1) h)

module _ {A B : Type 0} where
  -- what the first of two readers gave, and that the second went on from there
  pub steps : {P : Type 0} (t : Taken A) (f : A → List Bool → Taken B) (g : B × List Bool) → then_take t f ≡ some g
      → ((x : A) (r : List Bool) → t ≡ some (x, r) → f x r ≡ some g → P) → P
  steps none f g e k = absurd (Option·none-ne-some g e)
  steps (some h) f g e k = k h.0 h.1 refl e

  pub go_on : {t : Taken A} {x : A} {r : List Bool} (f : A → List Bool → Taken B) → t ≡ some (x, r) → then_take t f ≡ f x r
  go_on f e = ap (λ (u : Taken A). then_take u f) e

-- ---- bits

pub bits_back : (n : ℕ) (s rest : List Bool) → length s ≡ n → take_bits n (s ++ rest) ≡ some (s, rest)
unfolding take_bits
bits_back n s rest e =
    rw (le-leb n (length (s ++ rest)) (omega (arith, length-append s rest)))
    (ap₂ (λ (a b : List Bool). some (a, b)) (take_at s rest n e) (drop_at s rest n e))

pub took_bits : (n : ℕ) (bs s rest : List Bool) → take_bits n bs ≡ some (s, rest) → (length s ≡ n) × (bs ≡ s ++ rest)
unfolding take_bits
took_bits n bs s rest e =
    let c = let_through (leb n (length bs)) (some (take n bs, drop n bs)) (s, rest) e in
    let p = same_value (take n bs) s (drop n bs) rest c.1 in
    (ap length (sym p.0) ∙ length-take-le n bs (leb-true n (length bs) c.0), rw (← p.0, ← p.1) (sym (take-append-drop n bs)))

-- ---- numbers

pub number_back : (w v : ℕ) (rest : List Bool) → v < 2 ^ w → take_number w (field w v ++ rest) ≡ some (v, rest)
unfolding take_number
number_back w v rest h = rw (bits_back w (field w v) rest (field_length w v), value_field_exact w v h)

pub took_number : (w : ℕ) (bs : List Bool) (v : ℕ) (rest : List Bool) → take_number w bs ≡ some (v, rest) → (v < 2 ^ w) × (bs ≡ field w v ++ rest)
unfolding take_number
took_number w bs v rest e = steps _ _ (v, rest) e (λ s r first last.
    let b = took_bits w bs s r first in
    let p = same_value (value s) v r rest last in
    let same : field w v ≡ s = ap₂ field (sym b.0) (sym p.0) ∙ field_value s in
    (omega (arith, value_lt s, p.0, ap (λ (n : ℕ). 2 ^ n) b.0), b.1 ∙ ap₂ (λ (a c : List Bool). a ++ c) (sym same) p.1))

-- ---- strings

module _ (L : Limits) where
  pub string_back : (s : Str) (rest : List Bool) → length s ≤ L.digits → L.digits < 2 ^ L.length_bits → take_string L (string_bits L s ++ rest) ≡ some (s, rest)
  unfolding take_string string_bits
  string_back s rest short fits =
      rw (append_assoc (field L.length_bits (length s)) s rest, number_back L.length_bits (length s) (s ++ rest) (omega arith))
      (rw (le-leb (length s) L.digits short) (bits_back (length s) s rest refl))

  pub took_string : (bs : List Bool) (s : Str) (rest : List Bool) → take_string L bs ≡ some (s, rest) → (length s ≤ L.digits) × (bs ≡ string_bits L s ++ rest)
  unfolding take_string string_bits
  took_string bs s rest e = steps _ _ (s, rest) e (λ n r first next.
      let c = let_through (leb n L.digits) (take_bits n r) (s, rest) next in
      let f = took_number L.length_bits bs n r first in
      let b = took_bits n r s rest c.1 in (
        omega (arith, leb-true n L.digits c.0, b.0),
        f.1 ∙ ap₂ (λ (m : ℕ) (q : List Bool). field L.length_bits m ++ q) (sym b.0) b.1 ∙ sym (append_assoc (field L.length_bits (length s)) s rest),
      ))
