-- Bits filled up to whole bytes, and the bits of bytes, are inverse to each other: eight bits are the field of the number that they say,
-- and fewer than eight zeros are the one filling. Assumes nothing.
use Rattle.laws.proofs.Library.{◌≡◌, refl, sym, ap, ap₂, ◌∙◌, Bool, true, false, not, List, [], ◌∷◌, ◌++◌, ℕ, zero, suc, ◌+◌, ◌*◌, ◌-◌, ◌^◌, ◌≤◌, ◌<◌, arith}
use Rattle.laws.proofs.Library.{ltb-true, lt-ltb, ltb, pow_mono, length, take, drop, replicate, length-append, length-take, length-drop, length-replicate}
use Rattle.laws.proofs.Library.{take-append-drop, take_at, drop_at, length-take-le}
use Rattle.rules.specs.Limits.{byte_bits, bytes_for}
use Rattle.rules.specs.Strings.{field, value}
use Rattle.rules.specs.Names.{any, all}
use Rattle.rules.specs.Packed.{bytes_of, pack_bits, bits_of, is_filling}
use Rattle.laws.proofs.Tests.{no, and_left, and_right, and_both, not_is, is_not}
use Rattle.laws.proofs.Bits.{field_length, value_lt, value_field_exact, field_value}

-- each is a byte
abbrev pub are_bytes : List ℕ → Bool
are_bytes b = all (λ x. ltb x 256) b

pub bits_length : (b : List ℕ) → length (bits_of b) ≡ length b * byte_bits
unfolding bits_of
bits_length [] = refl
bits_length (x ∷ b) = length-append (field byte_bits x) (bits_of b) ∙ ap₂ (λ (m n : ℕ). m + n) (field_length byte_bits x) (bits_length b) ∙ omega arith

pub bytes_length : (n : ℕ) (bs : List Bool) → length (bytes_of n bs) ≡ n
unfolding bytes_of
bytes_length zero bs = refl
bytes_length (suc n) bs = ap suc (bytes_length n (drop byte_bits bs))

pub bytes_are_bytes : (n : ℕ) (bs : List Bool) → are_bytes (bytes_of n bs) ≡ true
unfolding bytes_of all
bytes_are_bytes zero bs = refl
bytes_are_bytes (suc n) bs =
    let s = take byte_bits bs in
    let room : 2 ^ length s ≤ 2 ^ byte_bits = pow_mono {i = length s} {j = byte_bits} (omega (arith, length-take byte_bits bs)) in
    and_both (lt-ltb (value s) 256 (omega (arith, value_lt s))) (bytes_are_bytes n (drop byte_bits bs))

-- bytes are told by their bits
pub bytes_of_bits : (b : List ℕ) → are_bytes b ≡ true → bytes_of (length b) (bits_of b) ≡ b
unfolding bytes_of bits_of all
bytes_of_bits [] h = refl
bytes_of_bits (x ∷ b) h =
    let small : x < 256 = ltb-true x 256 (and_left (ltb x 256) (are_bytes b) h) in
    rw (take_at (field byte_bits x) (bits_of b) byte_bits (field_length byte_bits x), drop_at (field byte_bits x) (bits_of b) byte_bits (field_length byte_bits x))
    (ap₂ (λ (y : ℕ) (l : List ℕ). y ∷ l) (value_field_exact byte_bits x small) (bytes_of_bits b (and_right (ltb x 256) (are_bytes b) h)))

-- and whole bytes of bits by their bytes
pub bits_of_bytes : (n : ℕ) (bs : List Bool) → length bs ≡ n * byte_bits → bits_of (bytes_of n bs) ≡ bs
unfolding bytes_of bits_of
bits_of_bytes zero [] h = refl
bits_of_bytes zero (x ∷ bs) h = absurd (omega arith)
bits_of_bytes (suc n) bs h =
    let eight : length (take byte_bits bs) ≡ byte_bits = length-take-le byte_bits bs (omega arith) in
    ap₂ (λ (s t : List Bool). s ++ t)
    (ap (λ (w : ℕ). field w (value (take byte_bits bs))) (sym eight) ∙ field_value (take byte_bits bs))
    (bits_of_bytes n (drop byte_bits bs) (length-drop byte_bits bs ∙ omega arith))
    ∙ take-append-drop byte_bits bs

-- ---- the filling

-- the zeros that fill n bits up to whole bytes
abbrev pub filling_of : ℕ → List Bool
filling_of n = replicate (bytes_for n * byte_bits - n) false

pub pack_length : (bs : List Bool) → length (pack_bits bs) ≡ bytes_for (length bs)
unfolding pack_bits
pack_length bs = bytes_length (bytes_for (length bs)) (bs ++ filling_of (length bs))

pub packed_bits : (bs : List Bool) → bits_of (pack_bits bs) ≡ bs ++ filling_of (length bs)
unfolding pack_bits
packed_bits bs =
    let k = bytes_for (length bs) * byte_bits - length bs in
    bits_of_bytes (bytes_for (length bs)) (bs ++ filling_of (length bs))
    (length-append bs (filling_of (length bs)) ∙ ap (λ (n : ℕ). length bs + n) (length-replicate k false) ∙ omega arith)

zeros_none : (n : ℕ) → any (λ (x : Bool). x) (replicate n false) ≡ false
unfolding any
zeros_none zero = refl
zeros_none (suc n) = zeros_none n

none_zeros : (z : List Bool) → any (λ (x : Bool). x) z ≡ false → z ≡ replicate (length z) false
unfolding any
none_zeros [] h = refl
none_zeros (true ∷ z) h = absurd (no (sym h))
none_zeros (false ∷ z) h = ap (λ (l : List Bool). false ∷ l) (none_zeros z h)

pub filling_is : (n : ℕ) → is_filling (filling_of n) ≡ true
unfolding is_filling
filling_is n =
    let k = bytes_for n * byte_bits - n in
    and_both (lt-ltb (length (filling_of n)) byte_bits (let e : length (filling_of n) ≡ k = length-replicate k false in omega arith)) (is_not (zeros_none k))

-- bytes whose bits are these and a filling are these bits packed
pub pack_of_bits : (b : List ℕ) (bs z : List Bool) → are_bytes b ≡ true → bits_of b ≡ bs ++ z → is_filling z ≡ true → pack_bits bs ≡ b
unfolding is_filling pack_bits
pack_of_bits b bs z h e f =
    let short : length z < byte_bits = ltb-true (length z) byte_bits (and_left (ltb (length z) byte_bits) (not (any (λ (x : Bool). x) z)) f) in
    let zeros : z ≡ replicate (length z) false = none_zeros z (not_is (and_right (ltb (length z) byte_bits) (not (any (λ (x : Bool). x) z)) f)) in
    let bits : length b * byte_bits ≡ length bs + length z = sym (bits_length b) ∙ ap length e ∙ length-append bs z in
    let bytes : bytes_for (length bs) ≡ length b = omega arith in
    let left : bytes_for (length bs) * byte_bits - length bs ≡ length z = omega arith in
    ap₂ (λ (n : ℕ) (l : List Bool). bytes_of n l) bytes (ap (λ (n : ℕ). bs ++ replicate n false) left ∙ ap (λ (l : List Bool). bs ++ l) (sym zeros) ∙ sym e)
    ∙ bytes_of_bits b h
