-- The slot that some bytes name, by how many they are; none where there are more than two or a space among them; and never above 99. Assumes nothing.
use Rattle.laws.proofs.Library.{◌≡◌, refl, Bool, true, false, cond, not, ◌&&◌, and-false, [], ◌∷◌, Option·none-ne-some, none, some, ℕ, suc, ◌+◌, ◌*◌, ◌-◌, ◌≤◌}
use Rattle.laws.proofs.Library.{◌<◌, arith, leb-true, eqb-true, ne_eqb, eqb, leb, length, get_or}
use Rattle.std.specs.declared.option.Option.{Option}
use Rattle.std.specs.declared.option.Option.TheVariants.{None, Some}
use Rattle.rules.specs.Traces.{Text, slot_of, is_digit}
use Rattle.laws.proofs.Tests.{and_left, and_right}
use Rattle.lines.specs.Inner.{digit_of, given}
use Rattle.lines.proofs.Splits.{first_at}

digit_le : (x : ℕ) → is_digit x ≡ true → x ≤ 57
digit_le x e = leb-true x 57 (and_right (leb 48 x) (leb x 57) e)

-- a space is no digit
pub slot_space : (l : Text) → first_at 32 l < length l → slot_of l ≡ none
unfolding slot_of first_at
slot_space [] h = refl
slot_space (x ∷ []) h = by (eqb x 32) refl h
  where
    by : (b : Bool) → eqb x 32 ≡ b → cond b 0 1 < 1 → cond (is_digit x) (some (x - 48)) none ≡ none
    by true e h = rw (eqb-true x 32 e)
    by false e h = absurd (omega arith)
slot_space (x ∷ (y ∷ [])) h = by (eqb x 32) (eqb y 32) refl refl h
  where
    by : (a b : Bool) → eqb x 32 ≡ a → eqb y 32 ≡ b → cond a 0 (suc (cond b 0 1)) < 2
        → cond (is_digit x && is_digit y && not (eqb x 48)) (some ((x - 48) * 10 + (y - 48))) none ≡ none
    by true b e f h = rw (eqb-true x 32 e)
    by false true e f h = rw (eqb-true y 32 f, and-false)
    by false false e f h = absurd (omega arith)
slot_space (x ∷ (y ∷ (z ∷ l))) h = refl

-- two digits' number, where both are
abbrev pub both : Option ℕ → Option ℕ → Option ℕ
both None q = None
both (Some a) None = None
both (Some a) (Some b) = Some (10 * a + b)

pub slot_one : (l : Text) → length l ≡ 1 → digit_of (get_or l 0 0) ≡ given (slot_of l)
unfolding slot_of
slot_one [] h = absurd (omega arith)
slot_one (x ∷ []) h = by (is_digit x)
  where
    by : (b : Bool) → cond b (Some (x - 48)) None ≡ given (cond b (some (x - 48)) none)
    by true = refl
    by false = refl
slot_one (x ∷ (y ∷ l)) h = absurd (omega arith)

pub slot_zero : (l : Text) → length l ≡ 2 → get_or l 0 0 ≡ 48 → ◌≡◌ {A = Option ℕ} None (given (slot_of l))
unfolding slot_of
slot_zero [] h e = refl
slot_zero (x ∷ []) h e = absurd (omega arith)
slot_zero (x ∷ (y ∷ [])) h e = rw (e, and-false)
slot_zero (x ∷ (y ∷ (z ∷ l))) h e = refl

pub slot_two : (l : Text) (p q : Option ℕ) → length l ≡ 2 → (get_or l 0 0 ≡ 48 → ⊥) → p ≡ digit_of (get_or l 0 0) → q ≡ digit_of (get_or l 1 0)
    → both p q ≡ given (slot_of l)
unfolding slot_of
slot_two [] p q h e m n = absurd (omega arith)
slot_two (x ∷ []) p q h e m n = absurd (omega arith)
slot_two (x ∷ (y ∷ [])) p q h e m n = rw (m, n, ne_eqb x 48 e) (by (is_digit x) (is_digit y))
  where
    by : (a b : Bool)
        → both (cond a (Some (x - 48)) None) (cond b (Some (y - 48)) None) ≡ given (cond (a && b && true) (some ((x - 48) * 10 + (y - 48))) none)
    by true true = let k : 10 * (x - 48) + (y - 48) ≡ (x - 48) * 10 + (y - 48) = omega arith in rw k
    by true false = refl
    by false b = refl
slot_two (x ∷ (y ∷ (z ∷ l))) p q h e m n = absurd (omega arith)

-- neither one byte nor two
slot_none : (l : Text) → (length l ≡ 1 → ⊥) → (length l ≡ 2 → ⊥) → slot_of l ≡ none
unfolding slot_of
slot_none [] h k = refl
slot_none (x ∷ []) h k = absurd (h refl)
slot_none (x ∷ (y ∷ [])) h k = absurd (k refl)
slot_none (x ∷ (y ∷ (z ∷ l))) h k = refl

pub slot_other : (l : Text) → (length l ≡ 1 → ⊥) → (length l ≡ 2 → ⊥) → ◌≡◌ {A = Option ℕ} None (given (slot_of l))
slot_other l h k = rw (slot_none l h k)

pub slot_short : (l : Text) → 3 ≤ length l → slot_of l ≡ none
slot_short l h = slot_none l (λ e. omega arith) (λ e. omega arith)

given_below : (b : Bool) (n a : ℕ) → (b ≡ true → n < 100) → cond b (some n) none ≡ some a → a < 100
given_below true n a h e = let k : n ≡ a = cc in omega (arith, h refl)
given_below false n a h e = absurd (Option·none-ne-some a e)

-- every slot is below 100
pub slot_below : (l : Text) (a : ℕ) → slot_of l ≡ some a → a < 100
unfolding slot_of
slot_below [] a e = absurd (Option·none-ne-some a e)
slot_below (x ∷ []) a e = given_below (is_digit x) (x - 48) a (λ f. omega (arith, digit_le x f)) e
slot_below (x ∷ (y ∷ [])) a e = given_below (is_digit x && is_digit y && not (eqb x 48)) ((x - 48) * 10 + (y - 48)) a two e
  where
    two : (is_digit x && is_digit y && not (eqb x 48)) ≡ true → (x - 48) * 10 + (y - 48) < 100
    two f =
        let g = and_left (is_digit x && is_digit y) (not (eqb x 48)) f in
        omega (arith, digit_le x (and_left (is_digit x) (is_digit y) g), digit_le y (and_right (is_digit x) (is_digit y) g))
slot_below (x ∷ (y ∷ (z ∷ l))) a e = absurd (Option·none-ne-some a e)
