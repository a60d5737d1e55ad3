-- What the readers cite: bytes as bits and as numbers, bits moved up in a word, and parts of a list. Assumes nothing.
use Rattle.laws.proofs.Library.{◌≡◌, refl, sym, ap, ap₂, ◌∙◌, Bool, List, [], ◌∷◌, ◌++◌, ℕ, zero, suc, ◌+◌, ◌*◌, ◌-◌, ◌/◌, ◌%◌, ◌^◌, ◌≤◌, ◌<◌}
use Rattle.laws.proofs.Library.{mod-eq_of_lt, add-zero, mul-mod_left, arith, length, get_or, take, drop, length-drop, pow_pos, shl-shr, shr_lt}
use Rattle.laws.proofs.Library.{mod-pow-add, length-take-le, drop-cons, take_at, drop_at, take-append-le, take-take, drop-drop, take-add}
use Rattle.laws.proofs.Library.{drop-nil, take-nil}
use Rattle.std.specs.Int.{w64, from_be_bytes}
use Rattle.rules.specs.Strings.{field, value_from, value}
use Rattle.rules.specs.Packed.{bits_of}
use Rattle.laws.proofs.Bits.{field_length, value_append, value_shift, value_field, value_field_exact, field_value}
use Rattle.laws.proofs.Words.{field_split, field_top, field_low}
use Rattle.layout.proofs.Bytes.{bits_length}
use Rattle.reading.specs.Reading.{stream}
use Rattle.layout.proofs.Values.{field_join}

-- ---- lists

module _ {A : Type 0} where
  -- a part that ends within the first m is a part of all
  pub part_within : (n p m : ℕ) (l : List A) → p + n ≤ m → take n (drop p (take m l)) ≡ take n (drop p l)
  part_within n zero m l h = take-take n m l (omega arith)
  part_within n (suc p) m [] h = ap (λ (l : List A). take n (drop (suc p) l)) (take-nil m)
  part_within n (suc p) zero (x ∷ l) h = absurd (omega arith)
  part_within n (suc p) (suc m) (x ∷ l) h = part_within n p m l (omega arith)

-- ---- bytes

bits_drop : (n : ℕ) (b : List ℕ) → drop (n * 8) (bits_of b) ≡ bits_of (drop n b)
unfolding bits_of
bits_drop zero b = ap (λ (k : ℕ). drop k (bits_of b)) (let e : 0 * 8 ≡ 0 = omega arith in e)
bits_drop (suc n) [] = drop-nil (suc n * 8)
bits_drop (suc n) (x ∷ b) =
    ap (λ (k : ℕ). drop k (field 8 x ++ bits_of b)) (let e : suc n * 8 ≡ 8 + n * 8 = omega arith in e)
    ∙ sym (drop-drop (n * 8) 8 (field 8 x ++ bits_of b))
    ∙ ap (drop (n * 8)) (drop_at (field 8 x) (bits_of b) 8 (field_length 8 x))
    ∙ bits_drop n b

pub bits_take : (n : ℕ) (b : List ℕ) → take (n * 8) (bits_of b) ≡ bits_of (take n b)
unfolding bits_of
bits_take zero b = ap (λ (k : ℕ). take k (bits_of b)) (let e : 0 * 8 ≡ 0 = omega arith in e)
bits_take (suc n) [] = take-nil (suc n * 8)
bits_take (suc n) (x ∷ b) =
    ap (λ (k : ℕ). take k (field 8 x ++ bits_of b)) (let e : suc n * 8 ≡ 8 + n * 8 = omega arith in e)
    ∙ take-add 8 (n * 8) (field 8 x ++ bits_of b)
    ∙ ap₂ (λ (s t : List Bool). s ++ take (n * 8) t) (take_at (field 8 x) (bits_of b) 8 (field_length 8 x)) (drop_at (field 8 x) (bits_of b) 8 (field_length 8 x))
    ∙ ap (λ (t : List Bool). field 8 x ++ t) (bits_take n b)

-- a byte behind the number a
byte_behind : (a x : ℕ) (b : List ℕ) → x < 256 → value_from a (bits_of (x ∷ b)) ≡ value_from (a * 256 + x) (bits_of b)
unfolding bits_of
byte_behind a x b h =
    value_append a (field 8 x) (bits_of b)
    ∙ ap (λ (n : ℕ). value_from n (bits_of b))
    (value_shift a (field 8 x) ∙ ap₂ (λ (m n : ℕ). a * 2 ^ m + n) (field_length 8 x) (value_field 8 x ∙ mod-eq_of_lt h))

-- n bytes of b from k on, one by one
abbrev bytes_from : ℕ → ℕ → List ℕ → List ℕ
bytes_from zero k b = []
bytes_from (suc n) k b = get_or b k 0 ∷ bytes_from n (suc k) b

bytes_are_part : (n k : ℕ) (b : List ℕ) → k + n ≤ length b → take n (drop k b) ≡ bytes_from n k b
bytes_are_part zero k b h = refl
bytes_are_part (suc n) k b h =
    ap (take (suc n)) (drop-cons b k 0 (omega arith)) ∙ ap (λ (l : List ℕ). get_or b k 0 ∷ l) (bytes_are_part n (suc k) b (omega arith))

-- and the number that they say behind a
abbrev number_from : ℕ → ℕ → List ℕ → ℕ → ℕ
number_from zero k b a = a
number_from (suc n) k b a = number_from n (suc k) b (a * 256 + get_or b k 0)

bytes_number : (n k : ℕ) (b : List ℕ) (a : ℕ) → ((i : ℕ) → get_or b i 0 < 256) → value_from a (bits_of (bytes_from n k b)) ≡ number_from n k b a
unfolding bits_of value_from
bytes_number zero k b a h = refl
bytes_number (suc n) k b a h = byte_behind a (get_or b k 0) (bytes_from n (suc k) b) (h k) ∙ bytes_number n (suc k) b (a * 256 + get_or b k 0) h

-- eight bytes, as the number that their bits say
pub eight_value : (b : List ℕ) (at : ℕ) → at + 8 ≤ length b → ((i : ℕ) → get_or b i 0 < 256)
    → from_be_bytes w64 (take 8 (drop at b)) ≡ value (take 64 (drop (at * 8) (bits_of b)))
eight_value b at h f =
    let here = bytes_are_part 8 at b h in
    let sum : from_be_bytes w64 (bytes_from 8 at b) ≡ number_from 8 at b 0 = omega arith in
    ap (from_be_bytes w64) here ∙ sum ∙ sym (bytes_number 8 at b 0 f) ∙ ap (λ (l : List ℕ). value (bits_of l)) (sym here)
    ∙ sym (ap (λ (l : List Bool). value (take 64 l)) (bits_drop at b) ∙ ap value (bits_take 8 (drop at b)))

-- the number that w bits say has those bits
pub value_fields : (w v : ℕ) (s : List Bool) → length s ≡ w → v ≡ value s → field w v ≡ s
value_fields w v s e f = ap₂ field (sym e) f ∙ field_value s

-- ---- bits moved up

moved_up : (x w r : ℕ) → (x * 2 ^ r) % 2 ^ (w + r) ≡ x % 2 ^ w * 2 ^ r
moved_up x w r =
    mod-pow-add (x * 2 ^ r) w r ∙ ap₂ (λ (a b : ℕ). a % 2 ^ w * 2 ^ r + b) (shl-shr x r) (mul-mod_left x (2 ^ r)) ∙ omega arith

shown_up : (n w r x : ℕ) → n ≤ w → take n (field (w + r) ((x * 2 ^ r) % 2 ^ (w + r))) ≡ take n (drop r (field (r + w) x))
shown_up n w r x h =
    let up : field (w + r) ((x * 2 ^ r) % 2 ^ (w + r)) ≡ field w x ++ field r 0 =
    ap (field (w + r)) (moved_up x w r ∙ sym (add-zero (x % 2 ^ w * 2 ^ r))) ∙ field_join w r (x % 2 ^ w) 0 (pow_pos r)
    ∙ ap (λ (l : List Bool). l ++ field r 0) (field_low w x) in
    let down : drop r (field (r + w) x) ≡ field w x =
    ap (drop r) (field_split r w x) ∙ drop_at (field r (x / 2 ^ w)) (field w x) r (field_length r (x / 2 ^ w)) in
    ap (take n) up ∙ take-append-le n (field w x) (field r 0) (omega (arith, field_length w x)) ∙ ap (take n) (sym down)

-- moved up by r places in t, the top r bits are lost; what stands above the zeros that come in
pub field_up : (n r t x : ℕ) → n + r ≤ t → take n (field t ((x * 2 ^ r) % 2 ^ t)) ≡ take n (drop r (field t x))
field_up n r t x h =
    let e : t - r + r ≡ t = omega arith in
    let f : r + (t - r) ≡ t = omega arith in
    ap (λ (k : ℕ). take n (field k ((x * 2 ^ r) % 2 ^ k))) (sym e) ∙ shown_up n (t - r) r x (omega arith) ∙ ap (λ (k : ℕ). take n (drop r (field k x))) f

-- the first n bits of 64, as the number that they say
pub top_value : (n v : ℕ) → v < 2 ^ 64 → n ≤ 64 → v / 2 ^ (64 - n) ≡ value (take n (field 64 v))
top_value n v h g =
    let e : n + (64 - n) ≡ 64 = omega arith in
    sym
    (ap (λ (k : ℕ). value (take n (field k v))) (sym e) ∙ ap value (field_top n (64 - n) v)
    ∙ value_field_exact n (v / 2 ^ (64 - n)) (shr_lt n (64 - n) (rw e h)))

-- a word that shows m bits shows the first n of them
pub shows : (n m pos v : ℕ) (b : List ℕ) → n ≤ m → take m (field 64 v) ≡ take m (drop pos (bits_of b)) → take n (field 64 v) ≡ take n (drop pos (bits_of b))
shows n m pos v b h e = sym (take-take n m (field 64 v) h) ∙ ap (take n) e ∙ take-take n m (drop pos (bits_of b)) h

-- the bits behind a position
pub room_is : (b : List ℕ) (bits pos : ℕ) → bits ≤ length b * 8 → length (drop pos (stream bits b)) ≡ bits - pos
room_is b bits pos h = length-drop pos (stream bits b) ∙ ap (λ (n : ℕ). n - pos) (length-take-le bits (bits_of b) (omega (arith, bits_length b)))
