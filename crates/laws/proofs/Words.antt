-- Words that hold strings: the leading zeros of an exclusive-or are the leading digits shared, words stand in the order of their strings,
-- and a word tells its string. What is said of any width goes from the highest digit down, by induction. Assumes nothing.
use Rattle.laws.proofs.Library.{◌≡◌, refl, sym, ap, ap₂, ◌∙◌, Bool, true, false, cond, ◌&&◌, Bool·beq, List, [], ◌∷◌, ◌++◌, inl, inr, and-false, ℕ}
use Rattle.laws.proofs.Library.{zero, suc, ◌+◌, ◌*◌, ◌-◌, ◌/◌, ◌%◌, ◌^◌, ◌≤◌, ◌<◌, min, mod-lt, pow-suc, le_of_suc-le-suc, not-suc-le-zero}
use Rattle.laws.proofs.Library.{div-lt_iff_lt-mul, mod-eq_of_lt, add-mul, mul-le-mul_right, mul-mod_left, le-mul_of_pos_right, arith, ltb-true, lt-ltb}
use Rattle.laws.proofs.Library.{le-ltb, leb-true, eqb-true, eq-eqb, eqb, leb, ltb, leb·zero, leb·suc-zero, leb·suc-suc, length, take, take-append-drop}
use Rattle.laws.proofs.Library.{drop, replicate, length-append, length-replicate, split, pow_pos, pow-add, pow_mono, shr-shr, shl-shr, high, low}
use Rattle.laws.proofs.Library.{mod-pow-add, take_at, length-take-le}
use lib.Bits.{bit_xor, xor_block, xor_lt}
use lib.Count.{count_leading_zeros, leading_length, leading_unique}
use Rattle.rules.specs.Strings.{Str, prefix, less, common, siblings, ◌▹◌, digit, field, value_from, value, aligned, word_of, str_of, is_word}
use Rattle.laws.proofs.Tests.{decide, iff, not-false}
use Rattle.laws.proofs.Rising.{less_append, less_irrefl, less_total, less_trans}
use Rattle.laws.proofs.Bits.{field_length, value_lt, value_snoc, value_append, value_shift, value_field, value_field_exact, field_value, value_zeros}

-- ---- fields

-- higher bits make no difference
pub field_low : (k a : ℕ) → field k (a % 2 ^ k) ≡ field k a
field_low k a = ap₂ (λ (n v : ℕ). field n v) (sym (field_length k a)) (sym (value_field k a)) ∙ field_value (field k a)

pub field_split : (j k a : ℕ) → field (j + k) a ≡ field j (a / 2 ^ k) ++ field k a
unfolding field
field_split zero k a = ap (λ (n : ℕ). field n a) (let e : 0 + k ≡ k = omega arith in e)
field_split (suc j) k a =
    ap (λ (n : ℕ). field n a) (let e : suc j + k ≡ suc (j + k) = omega arith in e)
    ∙ ap₂ (λ (n : ℕ) (l : List Bool). eqb (n % 2) 1 ∷ l)
    (ap (λ (n : ℕ). a / 2 ^ n) (let e : j + k ≡ k + j = omega arith in e) ∙ sym (shr-shr a k j)) (field_split j k a)

-- the first n digits of a field are the field of what stands above the rest
pub field_top : (n k a : ℕ) → take n (field (n + k) a) ≡ field n (a / 2 ^ k)
field_top n k a = ap (take n) (field_split n k a) ∙ take_at (field n (a / 2 ^ k)) (field k a) n (field_length n (a / 2 ^ k))

-- ---- leading digits shared

-- a highest digit that is 0 is one leading zero more
zeros_low : (k v : ℕ) → v < 2 ^ k → count_leading_zeros (suc k) (0 * 2 ^ k + v) ≡ suc (count_leading_zeros k v)
zeros_low k v h =
    let s = leading_length k v h in
    let e : 0 * 2 ^ k + v ≡ v = omega arith in
    rw e (sym (leading_unique (suc k) v (suc (count_leading_zeros k v)) s.0 (omega (arith, s.1)) s.2 s.3))

-- a highest digit that is 1 leaves none
zeros_high : (k v : ℕ) → v < 2 ^ k → count_leading_zeros (suc k) (1 * 2 ^ k + v) ≡ zero
zeros_high k v h =
    sym (leading_unique (suc k) (1 * 2 ^ k + v) zero (suc k) (omega arith) (omega (arith, pow-suc 2 k)) (omega (arith, pow-suc 2 k)))

-- a digit in front, of bits as many as t
front : (a : Bool) (s t : List Bool) → length s ≡ length t → value (a ∷ s) ≡ digit a * 2 ^ length t + value s
unfolding value_from
front true s t e = value_shift 1 s ∙ ap (λ (n : ℕ). 1 * 2 ^ n + value s) e
front false s t e = omega arith

lead_step : (a b : Bool) (k v : ℕ) → v < 2 ^ k
    → count_leading_zeros (suc k) (bit_xor (digit a) (digit b) * 2 ^ k + v) ≡ cond (Bool·beq a b) (suc (count_leading_zeros k v)) zero
lead_step true true k v h = zeros_low k v h
lead_step false false k v h = zeros_low k v h
lead_step true false k v h = zeros_high k v h
lead_step false true k v h = zeros_high k v h

-- the leading zeros of an exclusive-or are the leading digits shared
lead_value : (s t : List Bool) → length s ≡ length t → count_leading_zeros (length s) (bit_xor (value s) (value t)) ≡ common s t
unfolding count_leading_zeros common
lead_value [] [] e = refl
lead_value [] (b ∷ t) e = absurd (omega arith)
lead_value (a ∷ s) [] e = absurd (omega arith)
lead_value (a ∷ s) (b ∷ t) e =
    let k = length s in
    let l : k ≡ length t = omega arith in
    let small : value t < 2 ^ k = rw l (value_lt t) in
    ap (count_leading_zeros (suc k)) (ap₂ bit_xor (front a s s refl) (front b t s (sym l)) ∙ xor_block k (digit a) (digit b) (value s) (value t) (value_lt s) small)
    ∙ lead_step a b k (bit_xor (value s) (value t)) (xor_lt k (value s) (value t) (value_lt s) small)
    ∙ ap (λ (n : ℕ). cond (Bool·beq a b) (suc n) zero) (lead_value s t l)

-- at every width
pub lead : (k a b : ℕ) → a < 2 ^ k → b < 2 ^ k → count_leading_zeros k (bit_xor a b) ≡ common (field k a) (field k b)
lead k a b ha hb =
    ap₂ count_leading_zeros (sym (field_length k a)) (sym (ap₂ bit_xor (value_field_exact k a ha) (value_field_exact k b hb)))
    ∙ lead_value (field k a) (field k b) (field_length k a ∙ sym (field_length k b))

-- ---- prefix

-- a first part is a prefix of a first part exactly when it is no longer than that, nor than what the two share
pub prefix_take : (m n : ℕ) (s t : Str) → m ≤ length s → n ≤ length t → prefix (take m s) (take n t) ≡ (leb m n && leb m (common s t))
unfolding prefix common
prefix_take zero n s t hm hn = simp leb·zero
prefix_take (suc m) n [] t hm hn = absurd (not-suc-le-zero hm)
prefix_take (suc m) zero (a ∷ s) t hm hn = simp leb·suc-zero
prefix_take (suc m) (suc n) (a ∷ s) [] hm hn = absurd (not-suc-le-zero hn)
prefix_take (suc m) (suc n) (a ∷ s) (b ∷ t) hm hn = elim (decide (Bool·beq a b)) [
  | inl e ↦ simp (e, leb·suc-suc) (prefix_take m n s t (le_of_suc-le-suc hm) (le_of_suc-le-suc hn))
  | inr e ↦ simp (e, leb·suc-zero, and-false)
]

-- the same for what a caller has in hand: z is what the two words share
pub prefix_words : (a b z : ℕ) → z ≡ common (field 64 a) (field 64 b) → (leb (a % 64) (b % 64) && leb (a % 64) z) ≡ prefix (str_of a) (str_of b)
unfolding str_of
prefix_words a b z e =
    rw e (sym (prefix_take (a % 64) (b % 64) (field 64 a) (field 64 b) (omega (arith, field_length 64 a)) (omega (arith, field_length 64 b))))

-- ---- siblings

pub common_le : (s t : Str) → common s t ≤ length s
unfolding common
common_le [] t = omega arith
common_le (a ∷ s) [] = omega arith
common_le (a ∷ s) (b ∷ t) = elim (decide (Bool·beq a b)) [ inl e ↦ rw e (omega (arith, common_le s t)) | inr e ↦ rw e (omega arith) ]

-- first parts of one length share what the wholes share, up to that length
common_take : (m : ℕ) (s t : Str) → common (take m s) (take m t) ≡ min m (common s t)
unfolding common
common_take zero s t = omega arith
common_take (suc m) [] t = omega arith
common_take (suc m) (a ∷ s) [] = omega arith
common_take (suc m) (a ∷ s) (b ∷ t) = elim (decide (Bool·beq a b)) [ inl e ↦ rw e (omega (arith, common_take m s t)) | inr e ↦ rw e (omega arith) ]

but_one : (m k : ℕ) → eqb (suc (min m k)) m ≡ eqb (k + 1) m
but_one m k =
    iff (λ p. eq-eqb (k + 1) m (omega (arith, eqb-true (suc (min m k)) m p))) (λ p. eq-eqb (suc (min m k)) m (omega (arith, eqb-true (k + 1) m p)))

-- first parts are siblings exactly when they are of one length and the wholes share all of it but one digit
pub siblings_take : (m n : ℕ) (s t : Str) → m ≤ length s → n ≤ length t → siblings (take m s) (take n t) ≡ (eqb m n && eqb (common s t + 1) m)
unfolding siblings
siblings_take m n s t hm hn = elim (decide (eqb m n)) [
  | inl e ↦
      let c : common (take m s) (take n t) ≡ min m (common s t) = ap (λ (k : ℕ). common (take m s) (take k t)) (sym (eqb-true m n e)) ∙ common_take m s t in
      simp (length-take-le m s hm, length-take-le n t hn, e, c) (but_one m (common s t))
  | inr e ↦ simp (length-take-le m s hm, length-take-le n t hn, e)
]

pub siblings_words : (a b z : ℕ) → z ≡ common (field 64 a) (field 64 b) → (eqb (a % 64) (b % 64) && eqb (z + 1) (a % 64)) ≡ siblings (str_of a) (str_of b)
unfolding str_of
siblings_words a b z e =
    rw e (sym (siblings_take (a % 64) (b % 64) (field 64 a) (field 64 b) (omega (arith, field_length 64 a)) (omega (arith, field_length 64 b))))

-- ---- order

-- the order of bits is the order of the numbers that they say
less_value : (s t : List Bool) → length s ≡ length t → less s t ≡ ltb (value s) (value t)
unfolding less value_from
less_value [] [] e = sym (le-ltb 0 0 (omega arith))
less_value [] (b ∷ t) e = absurd (omega arith)
less_value (a ∷ s) [] e = absurd (omega arith)
less_value (false ∷ s) (false ∷ t) e = less_value s t (omega arith)
less_value (true ∷ s) (true ∷ t) e =
    let p = front true s s refl in
    let q = front true t s (omega arith) in
    less_value s t (omega arith)
    ∙ iff (λ h. lt-ltb (value_from 1 s) (value_from 1 t) (omega (arith, ltb-true (value s) (value t) h)))
    (λ h. lt-ltb (value s) (value t) (omega (arith, ltb-true (value_from 1 s) (value_from 1 t) h)))
less_value (true ∷ s) (false ∷ t) e = sym (le-ltb (value_from 1 s) (value t) (omega (arith, front true s t (omega arith), value_lt t)))
less_value (false ∷ s) (true ∷ t) e = sym (lt-ltb (value s) (value_from 1 t) (omega (arith, front true t s (omega arith), value_lt s)))

-- at every width
pub less_field : (k a b : ℕ) → a < 2 ^ k → b < 2 ^ k → less (field k a) (field k b) ≡ ltb a b
less_field k a b ha hb =
    less_value (field k a) (field k b) (field_length k a ∙ sym (field_length k b)) ∙ ap₂ ltb (value_field_exact k a ha) (value_field_exact k b hb)

-- first parts of which neither is a prefix of the other stand as the wholes do
less_take : (m n : ℕ) (s t : Str) → prefix (take m s) (take n t) ≡ false → prefix (take n t) (take m s) ≡ false
    → less (take m s) (take n t) ≡ less s t
less_take m n s t p q =
    iff (on m n s t)
    (λ h. not-false (λ e. less_irrefl s (less_trans s t s h (on n m t s (less_total (take m s) (take n t) p q e)))))
  where
    on : (m n : ℕ) (s t : Str) → less (take m s) (take n t) ≡ true → less s t ≡ true
    on m n s t e = rw (take-append-drop m s, take-append-drop n t) at (less_append (take m s) (take n t) (drop m s) (drop n t) e)

-- strings of which neither is a prefix of the other stand as their words do
pub less_words : (a b : ℕ) → a < 2 ^ 64 → b < 2 ^ 64 → prefix (str_of a) (str_of b) ≡ false → prefix (str_of b) (str_of a) ≡ false
    → less (str_of a) (str_of b) ≡ ltb a b
unfolding str_of
less_words a b ha hb p q = less_take (a % 64) (b % 64) (field 64 a) (field 64 b) p q ∙ less_field 64 a b ha hb

-- ---- a word and its string

pub str_length : (w : ℕ) → length (str_of w) ≡ w % 64
unfolding str_of
str_length w = length-take-le (w % 64) (field 64 w) (omega (arith, field_length 64 w))

-- the word of s: its number moved to the top, and its length
pub word_value : (s : Str) → word_of s ≡ value s * 2 ^ (64 - length s) + length s
unfolding word_of aligned
word_value s =
    let z = replicate (64 - length s) false in
    rw (value_append 0 s z, value_shift (value s) z, length-replicate (64 - length s) false, value_zeros (64 - length s)) (omega arith)

-- a string's digits leave the six low bits free
room : (n : ℕ) → n ≤ 58 → 64 ≤ 2 ^ (64 - n)
room n h = pow_mono {i = 6} {j = 64 - n} (omega arith)

whole_word : (n : ℕ) → n ≤ 64 → 2 ^ n * 2 ^ (64 - n) ≡ 2 ^ 64
whole_word n h = sym (pow-add 2 n (64 - n)) ∙ ap (λ (k : ℕ). 2 ^ k) (let e : n + (64 - n) ≡ 64 = omega arith in e)

-- n digits moved to the top leave room for what is below their place
moved_lt : (v n : ℕ) → v < 2 ^ n → n ≤ 64 → v * 2 ^ (64 - n) + 2 ^ (64 - n) ≤ 2 ^ 64
moved_lt v n hv hn =
    let m : (v + 1) * 2 ^ (64 - n) ≤ 2 ^ n * 2 ^ (64 - n) = mul-le-mul_right (2 ^ (64 - n)) (omega arith) in
    omega (arith, add-mul v 1 (2 ^ (64 - n)), whole_word n hn)

pub word_lt : (s : Str) → length s ≤ 58 → word_of s < 2 ^ 64
word_lt s h = omega (arith, word_value s, room (length s) h, moved_lt (value s) (length s) (value_lt s) (omega arith))

-- what is moved to the top is a multiple of 64
over : (v n : ℕ) → n ≤ 58 → v * 2 ^ (64 - n) ≡ v * 2 ^ (58 - n) * 64
over v n h = let e : 64 - n ≡ 58 - n + 6 = omega arith in rw (e, pow-add 2 (58 - n) 6) (omega arith)

pub word_length : (s : Str) → length s ≤ 58 → word_of s % 64 ≡ length s
word_length s h = omega (arith, word_value s, over (value s) (length s) h)

-- the string of a word: what stands above the rest, as digits
pub str_top : (w : ℕ) → str_of w ≡ field (w % 64) (w / 2 ^ (64 - w % 64))
unfolding str_of
str_top w =
    ap (λ (k : ℕ). take (w % 64) (field k w)) (let e : 64 ≡ w % 64 + (64 - w % 64) = omega arith in e) ∙ field_top (w % 64) (64 - w % 64) w

pub str_word : (s : Str) → length s ≤ 58 → str_of (word_of s) ≡ s
str_word s h =
    str_top (word_of s)
    ∙ ap₂ (λ (n w : ℕ). field n (w / 2 ^ (64 - n))) (word_length s h) (word_value s)
    ∙ ap (field (length s)) (high (value s) (64 - length s) (omega (arith, room (length s) h)))
    ∙ field_value s

-- the word of a word's string: what stands above the rest, and the length
word_str : (w : ℕ) → w < 2 ^ 64 → w % 64 ≤ 58 → word_of (str_of w) ≡ w / 2 ^ (64 - w % 64) * 2 ^ (64 - w % 64) + w % 64
word_str w h hn =
    let m = 64 - w % 64 in
    let small : w / 2 ^ m < 2 ^ (w % 64) = (div-lt_iff_lt-mul (pow_pos m)).1 (omega (arith, whole_word (w % 64) (omega arith))) in
    rw (word_value (str_of w), str_length w, str_top w, value_field (w % 64) (w / 2 ^ m), mod-eq_of_lt small)

-- moved up by n digits, the m low digits remain
moved : (x m n : ℕ) → (x * 2 ^ n) % 2 ^ (m + n) ≡ x % 2 ^ m * 2 ^ n
moved x m n = rw (mod-pow-add (x * 2 ^ n) m n, shl-shr x n, mul-mod_left x (2 ^ n)) (omega arith)

-- the two tests over plain numbers: r is what stands behind the digits
behind : (w n m q r : ℕ) → q * 2 ^ m + r ≡ w → r < 2 ^ m → n ≤ r → m + n ≡ 64
    → eqb w (q * 2 ^ m + n) ≡ eqb (((w - n) * 2 ^ n) % 2 ^ 64) 0
behind w n m q r ew hr hn e64 =
    let rest : (w - n) % 2 ^ m ≡ r - n =
    ap (λ (x : ℕ). x % 2 ^ m) (let e : w - n ≡ q * 2 ^ m + (r - n) = omega arith in e) ∙ low q m (omega arith) in
    let up : ((w - n) * 2 ^ n) % 2 ^ 64 ≡ (r - n) * 2 ^ n =
    ap (λ (k : ℕ). ((w - n) * 2 ^ n) % 2 ^ k) (sym e64) ∙ moved (w - n) m n ∙ ap (λ (x : ℕ). x * 2 ^ n) rest in
    iff
    (λ p. let z : r - n ≡ 0 = omega (arith, eqb-true w (q * 2 ^ m + n) p) in eq-eqb _ _ (up ∙ ap (λ (x : ℕ). x * 2 ^ n) z ∙ omega arith))
    (λ p. eq-eqb w (q * 2 ^ m + n) (omega (arith, le-mul_of_pos_right (r - n) (pow_pos n), eqb-true (((w - n) * 2 ^ n) % 2 ^ 64) 0 p)))

-- a word is its string's when nothing stands behind the digits but the length
pub word_test : (w : ℕ) → w < 2 ^ 64 → w % 64 ≤ 58 → eqb w (word_of (str_of w)) ≡ eqb (((w - w % 64) * 2 ^ (w % 64)) % 2 ^ 64) 0
word_test w h hn =
    let m = 64 - w % 64 in
    ap (eqb w) (word_str w h hn)
    ∙ behind w (w % 64) m (w / 2 ^ m) (w % 2 ^ m) (split w m) (mod-lt w (pow_pos m))
    (omega (arith, split w m, over (w / 2 ^ m) (w % 64) hn)) (omega arith)

-- what a test of a word asks: the length within the limit, and nothing behind the digits
pub is_word_lem : (most w : ℕ) → most ≤ 58 → w < 2 ^ 64 → (leb (w % 64) most && eqb (((w - w % 64) * 2 ^ (w % 64)) % 2 ^ 64) 0) ≡ is_word most w
unfolding is_word
is_word_lem most w hm hw = elim (decide (leb (w % 64) most)) [
  | inl e ↦ simp (str_length, e) (sym (word_test w hw (omega (arith, leb-true (w % 64) most e))))
  | inr e ↦ simp (str_length, e)
]

grown : (v d n : ℕ) → n < 64 → (v * 2 + d) * 2 ^ (64 - (n + 1)) + (n + 1) ≡ v * 2 ^ (64 - n) + n + 1 + d * 2 ^ (63 - n)
grown v d n h =
    let e : 64 - (n + 1) ≡ 63 - n = omega arith in
    let f : 64 - n ≡ suc (63 - n) = omega arith in
    rw (e, f, pow-suc 2 (63 - n)) (omega arith)

-- a digit more: the length rises by one, and the digit comes behind the others
pub word_grown : (s : Str) (d : Bool) → length s < 58 → word_of (s ▹ d) ≡ word_of s + 1 + digit d * 2 ^ (63 - length s)
word_grown s d h =
    word_value (s ▹ d)
    ∙ ap₂ (λ (v n : ℕ). v * 2 ^ (64 - n) + n) (value_snoc 0 s d) (length-append s (d ∷ []))
    ∙ grown (value s) (digit d) (length s) (omega arith)
    ∙ ap (λ (w : ℕ). w + 1 + digit d * 2 ^ (63 - length s)) (sym (word_value s))
