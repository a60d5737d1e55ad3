-- Fields of bits as numbers: what reading bits from bytes and writing them both cite. Assumes nothing.
use Rattle.laws.proofs.Library.{◌≡◌, refl, sym, ap, ap₂, ◌∙◌, Bool, true, false, not, List, [], ◌∷◌, ◌++◌, ℕ, suc, ◌+◌, ◌*◌, ◌^◌, ◌≤◌, ◌<◌, mul-le-mul_right}
use Rattle.laws.proofs.Library.{suc-mul, arith, lt-ltb, ne_eqb, eqb, pow_pos, pow-add, high, low, length, get_or}
use Rattle.rules.specs.Strings.{field, value_from, value}
use Rattle.rules.specs.Names.{any, all}
use Rattle.rules.specs.Packed.{is_filling}
use Rattle.laws.proofs.Tests.{and_both}
use Rattle.laws.proofs.Bits.{value_shift}
use Rattle.laws.proofs.Words.{field_low, field_split}
use Rattle.layout.proofs.Bytes.{are_bytes}

-- a number of d bits with k bits below it has d + k
pub join_lt : (a d k v : ℕ) → a < 2 ^ d → v < 2 ^ k → a * 2 ^ k + v < 2 ^ (d + k)
join_lt a d k v h g =
    let e : suc a * 2 ^ k ≤ 2 ^ d * 2 ^ k = mul-le-mul_right (2 ^ k) h in
    omega (arith, suc-mul a (2 ^ k), pow-add 2 d k)

-- and their bits stand one behind the other
pub field_join : (d k a v : ℕ) → v < 2 ^ k → field (d + k) (a * 2 ^ k + v) ≡ field d a ++ field k v
field_join d k a v h =
    field_split d k (a * 2 ^ k + v)
    ∙ ap₂ (λ (s t : List Bool). s ++ t) (ap (field d) (high a k h)) (sym (field_low k (a * 2 ^ k + v)) ∙ ap (field k) (low a k h))

-- bits are all zero exactly when the number that they say is
zero_bits : (s : List Bool) → eqb (value s) 0 ≡ not (any (λ (x : Bool). x) s)
unfolding any value_from
zero_bits [] = refl
zero_bits (true ∷ s) = ne_eqb (value_from 1 s) 0 (λ e. omega (arith, value_shift 1 s, pow_pos (length s)))
zero_bits (false ∷ s) = zero_bits s

pub filling_value : (s : List Bool) → length s < 8 → eqb (value s) 0 ≡ is_filling s
unfolding is_filling
filling_value s h = zero_bits s ∙ simp (lt-ltb (length s) 8 h)

pub bytes_are : (b : List ℕ) → ((i : ℕ) → get_or b i 0 < 256) → are_bytes b ≡ true
unfolding all
bytes_are [] h = refl
bytes_are (x ∷ b) h = and_both (lt-ltb x 256 (h 0)) (bytes_are b (λ i. h (suc i)))
