-- The bits behind some digits, as code makes them, and a number without them. Assumes nothing.
use Rattle.laws.proofs.Library.{◌≡◌, ap, ◌∙◌, ℕ, ◌+◌, ◌*◌, ◌-◌, ◌/◌, ◌^◌, ◌≤◌, arith, split, high, ones_lt, ones_split}
use lib.Bits.{bit_and, and_mask}

-- all the bits behind n digits
pub ones_are : (n : ℕ) → n ≤ 64 → (2 ^ 64 - 1) / 2 ^ n ≡ 2 ^ (64 - n) - 1
ones_are n h =
    let e : 64 ≡ 64 - n + n = omega arith in
    ap (λ (k : ℕ). (2 ^ k - 1) / 2 ^ n) e ∙ ap (λ (x : ℕ). x / 2 ^ n) (ones_split (64 - n) n) ∙ high (2 ^ (64 - n) - 1) n (ones_lt n)

-- a number without them: its n top digits
pub above_is : (d n : ℕ) → n ≤ 64 → d - bit_and d ((2 ^ 64 - 1) / 2 ^ n) ≡ d / 2 ^ (64 - n) * 2 ^ (64 - n)
above_is d n h =
    ap (λ (x : ℕ). d - x) (ap (bit_and d) (ones_are n h) ∙ and_mask d (64 - n)) ∙ omega (arith, split d (64 - n))
