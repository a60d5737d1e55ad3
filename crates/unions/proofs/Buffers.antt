-- A buffer with words at its front and zeros in the place of what is gone: union, reduction and what reduction makes of an update leave such a buffer.
-- Assumes nothing.
use Rattle.laws.proofs.Library.{◌≡◌, refl, sym, ap, ◌∙◌, List, ◌++◌, append_assoc, ℕ, zero, suc, ◌+◌, ◌-◌, ◌≤◌, arith, length, take, drop, replicate}
use Rattle.laws.proofs.Library.{length-append, length-replicate, replicate-append-replicate, sets, sets-eq, take_at, drop_at}
use Rattle.rules.specs.Packed.{over}
use Rattle.unions.specs.Unions.{cleared}

dropped : (k n : ℕ) → drop {A = ℕ} n (replicate k 0) ≡ replicate (k - n) 0
dropped k zero = ap (λ (n : ℕ). replicate n 0) (let e : k ≡ k - 0 = omega arith in e)
dropped zero (suc n) = ap (λ (n : ℕ). replicate n 0) (let e : 0 ≡ 0 - suc n = omega arith in e)
dropped (suc k) (suc n) = dropped k n ∙ ap (λ (n : ℕ). replicate n 0) (let e : k - n ≡ suc k - suc n = omega arith in e)

-- words stored one after the other in zeros
pub sets_cleared : (c : ℕ) (l : List ℕ) → length l ≤ c → sets (replicate c 0) 0 l ≡ cleared c l
sets_cleared c l h =
    sets-eq l (replicate c 0) 0 (omega (arith, length-replicate {A = ℕ} c 0)) ∙ ap (λ (z : List ℕ). l ++ z) (dropped c (0 + length l))
    ∙ ap (λ (n : ℕ). l ++ replicate (c - n) 0) (let e : 0 + length l ≡ length l = omega arith in e)

pub cleared_length : (c : ℕ) (l : List ℕ) → length l ≤ c → length (cleared c l) ≡ c
cleared_length c l h = omega (arith, length-append l (replicate (c - length l) 0), length-replicate {A = ℕ} (c - length l) 0)

-- words in the place of others of the same number
pub over_over : (v w l : List ℕ) → length v ≡ length w → over v (over w l) ≡ over v l
over_over v w l e =
    ap (λ (z : List ℕ). v ++ z)
    (ap (λ (n : ℕ). drop n (over w l)) e ∙ drop_at w (drop (length w) l) (length w) refl ∙ ap (λ (n : ℕ). drop n l) (sym e))

-- fewer words in the place of the first c, and zeros: at the front
pub cleared_front : (c : ℕ) (w l : List ℕ) → take (length w) (over (cleared c w) l) ≡ w
cleared_front c w l =
    ap (take (length w)) (append_assoc w (replicate (c - length w) 0) (drop (length (cleared c w)) l))
    ∙ take_at w (replicate (c - length w) 0 ++ drop (length (cleared c w)) l) (length w) refl

-- and in a buffer of zeros
pub cleared_over : (room c : ℕ) (w : List ℕ) → length w ≤ c → c ≤ room → over (cleared c w) (replicate room 0) ≡ cleared room w
cleared_over room c w h k =
    let e : c - length w + (room - c) ≡ room - length w = omega arith in
    append_assoc w (replicate (c - length w) 0) (drop (length (cleared c w)) (replicate room 0))
    ∙ ap (λ (z : List ℕ). w ++ z)
    (ap (λ (z : List ℕ). replicate (c - length w) 0 ++ z)
    (ap (λ (n : ℕ). drop n (replicate room 0)) (cleared_length c w h) ∙ dropped room c)
    ∙ replicate-append-replicate (c - length w) (room - c) 0 ∙ ap (λ (n : ℕ). replicate n 0) e)
