-- The parts of a text between the bytes c: the first ends where the first c stands, and together they are as long as the text, less the c's.
-- Assumes nothing.
use Rattle.laws.proofs.Library.{◌≡◌, refl, sym, Bool, true, false, cond, List, [], ◌∷◌, ℕ, zero, suc, ◌+◌, ◌≤◌, ◌<◌, arith, ltb-true, ltb-false, eqb, ltb, length}
use Rattle.laws.proofs.Library.{take, drop}
use Rattle.std.specs.declared.option.Option.{Option}
use Rattle.std.specs.declared.option.Option.TheVariants.{None, Some}
use Rattle.std.specs.Option.{MatchOption}
use Rattle.std.specs.List.{position, position_or_len}
use Rattle.std.proofs.lemmas.List.Recursion.{is_position_or_len}
use Rattle.rules.specs.Traces.{Text, split_at, onto_first}

-- what holds on both ways of a test
pub either : {A : Type 0} (P : A → Type 0) (b : Bool) {x y : A} → (b ≡ true → P x) → (b ≡ false → P y) → P (cond b x y)
either P true p q = p refl
either P false p q = q refl

-- ---- where the first c stands

-- the length where there is none
unfoldable pub first_at : ℕ → Text → ℕ
first_at c [] = zero
first_at c (x ∷ l) = cond (eqb x c) zero (suc (first_at c l))

first_is : (c : ℕ) (l : Text) → first_at c l ≡ position_or_len (λ x. eqb x c) l
unfolding first_at
first_is c l = is_position_or_len (first_at c) (λ x. eqb x c) refl (λ x xs. let e : suc (first_at c xs) ≡ 1 + first_at c xs = omega arith in rw e) l

found : (c : ℕ) (l : Text) (n : ℕ) → first_at c l ≡ n → (b : Bool) → ltb n (length l) ≡ b → (r : Option ℕ) → r ≡ cond b (Some n) None
    → MatchOption r (length l ≤ first_at c l) (λ k. (k ≡ first_at c l) × (k < length l))
found c l n e true f r re = rw re (sym e, ltb-true n (length l) f)
found c l n e false f r re = rw re (omega (arith, ltb-false n (length l) f))

-- what a search for c gives
pub found_first : (c : ℕ) (l : Text) (r : Option ℕ) → r ≡ position (λ x. eqb x c) l
    → MatchOption r (length l ≤ first_at c l) (λ k. (k ≡ first_at c l) × (k < length l))
found_first c l r = found c l _ (first_is c l) _ refl r

-- ---- the parts

pub split_none : (c : ℕ) (l : Text) → length l ≤ first_at c l → split_at c l ≡ l ∷ []
unfolding split_at first_at
split_none c [] h = refl
split_none c (x ∷ l) h = by (eqb x c) h (λ k. split_none c l k)
  where
    by : (b : Bool) → suc (length l) ≤ cond b 0 (suc (first_at c l)) → (length l ≤ first_at c l → split_at c l ≡ l ∷ [])
        → cond b ([] ∷ split_at c l) (onto_first x (split_at c l)) ≡ (x ∷ l) ∷ []
    by true h ih = absurd (omega arith)
    by false h ih = rw (ih (omega arith))

pub split_some : (c : ℕ) (l : Text) → first_at c l < length l → split_at c l ≡ take (first_at c l) l ∷ split_at c (drop (suc (first_at c l)) l)
unfolding split_at first_at
split_some c [] h = absurd (omega arith)
split_some c (x ∷ l) h = by (eqb x c) h (λ k. split_some c l k)
  where
    by : (b : Bool) → cond b 0 (suc (first_at c l)) < suc (length l)
        → (first_at c l < length l → split_at c l ≡ take (first_at c l) l ∷ split_at c (drop (suc (first_at c l)) l))
        → cond b ([] ∷ split_at c l) (onto_first x (split_at c l))
        ≡ take (cond b 0 (suc (first_at c l))) (x ∷ l) ∷ split_at c (drop (suc (cond b 0 (suc (first_at c l)))) (x ∷ l))
    by true h ih = refl
    by false h ih = rw (ih (omega arith))

-- there is always a part
pub parts : (c : ℕ) (l : Text) → (p : Text) × (ps : List Text) × (split_at c l ≡ p ∷ ps)
unfolding split_at
parts c [] = ([], [], refl)
parts c (x ∷ l) =
    let r = parts c l in
    either (λ (ls : List Text). (p : Text) × (ps : List Text) × (ls ≡ p ∷ ps)) (eqb x c) (λ e. ([], split_at c l, refl)) (λ e. (x ∷ r.0, r.1, rw r.2))

-- the bytes of all parts, and one more for each
unfoldable pub spread : List Text → ℕ
spread [] = 0
spread (p ∷ ps) = suc (length p) + spread ps

pub spread_split : (c : ℕ) (l : Text) → spread (split_at c l) ≡ suc (length l)
unfolding split_at spread
spread_split c [] = refl
spread_split c (x ∷ l) = by (eqb x c) (split_at c l) (spread_split c l)
  where
    by : (b : Bool) (ps : List Text) → spread ps ≡ suc (length l) → spread (cond b ([] ∷ ps) (onto_first x ps)) ≡ suc (suc (length l))
    by true ps e = omega arith
    by false [] e = absurd (omega arith)
    by false (p ∷ ps) e = omega arith
