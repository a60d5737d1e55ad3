-- `Bits::string_at` meets its contract: the top five bits that are shown are the length, those behind them the digits, and each
-- test of the code is the one that the reader of bits makes there. Assumes nothing.
use Rattle.laws.proofs.Library.{◌≡◌, refl, sym, ap, ap₂, ◌∙◌, Bool, true, false, List, none, some, ℕ, ◌+◌, ◌*◌, ◌-◌, ◌/◌, ◌%◌, ◌^◌, ◌≤◌, ◌<◌, mod-lt, arith}
use Rattle.laws.proofs.Library.{le-leb, lt-leb, leb-true, leb-false, eq-eqb, leb, length, take, drop, length-drop, pow_pos}
use Rattle.laws.proofs.Library.{length-take-le, drop-drop}
use lib.Bits.{bit_and}
use Rattle.rules.specs.Limits.{narrow}
use Rattle.rules.specs.Strings.{Str, field, value, word_of, str_of, is_word}
use Rattle.rules.specs.Packed.{bits_of, take_bits, take_number, take_string}
use Rattle.laws.proofs.Tests.{and_both}
use Rattle.laws.proofs.Words.{word_value, str_word}
use Rattle.strings.proofs.Ones.{above_is}
use Rattle.reading.specs.Reading.{stream, rest, StringRead}
use Rattle.reading.proofs.Streams.{part_within, field_up, top_value, shows, room_is}
use Rattle.reading.proofs.Bits.string_at.Goals as goal
use Rattle.reading.proofs.Bits.string_at.Goals.{then-n-gt-DIGITS-via-then-n-gt-DIGITS, then-n-gt-DIGITS-via-else-n-gt-DIGITS+then-self-next}
use Rattle.std.specs.declared.option.Option.TheVariants.{None, Some}

-- ---- the ways of the reader of bits

module _ (bs : List Bool) where
  cut : length bs < 5 → take_string narrow bs ≡ none
  unfolding take_string take_number take_bits
  cut h = simp (lt-leb 5 (length bs) h)

  module _ (n : ℕ) (h : 5 ≤ length bs) (e : n ≡ value (take 5 bs)) where
    over_long : 24 < n → take_string narrow bs ≡ none
    unfolding take_string take_number take_bits
    over_long l = simp (le-leb 5 (length bs) h, sym e, lt-leb n 24 l)

    cut_short : n ≤ 24 → length bs < n + 5 → take_string narrow bs ≡ none
    unfolding take_string take_number take_bits
    cut_short l s = simp (le-leb 5 (length bs) h, sym e, le-leb n 24 l, lt-leb n (length (drop 5 bs)) (omega (arith, length-drop 5 bs)))

    there : n ≤ 24 → n + 5 ≤ length bs → take_string narrow bs ≡ some (take n (drop 5 bs), drop n (drop 5 bs))
    unfolding take_string take_number take_bits
    there l s = simp (le-leb 5 (length bs) h, sym e, le-leb n 24 l, le-leb n (length (drop 5 bs)) (omega (arith, length-drop 5 bs)))

-- ---- what the code answers

refused : (b : List ℕ) (bits pos : ℕ) → take_string narrow (rest b bits pos) ≡ none → StringRead b bits pos None
refused b bits pos e = record { reads = e; whole = tt; inside = tt }

module _ (b : List ℕ) (bits pos v n : ℕ) (en : n ≡ v / 2 ^ 59) (hv : v < 2 ^ 64) (hb : bits ≤ length b * 8)
    (e : take 57 (field 64 v) ≡ take 57 (drop pos (bits_of b))) where
  abbrev bs : List Bool
  bs = drop pos (stream bits b)

  length_is : 5 ≤ length bs → n ≡ value (take 5 bs)
  length_is h =
      en ∙ top_value 5 v hv (omega arith)
      ∙ ap value (shows 5 57 pos v b (omega arith) e ∙ sym (part_within 5 pos bits (bits_of b) (omega (arith, room_is b bits pos hb))))

  too_long_lem : 24 < n → take_string narrow bs ≡ none
  too_long_lem l = by (leb 5 (length bs)) refl
    where
      by : (x : Bool) → leb 5 (length bs) ≡ x → take_string narrow bs ≡ none
      by true h = let g = leb-true 5 (length bs) h in over_long bs n g (length_is g) l
      by false h = cut bs (leb-false 5 (length bs) h)

  too_short : n ≤ 24 → bits < pos + 5 + n → take_string narrow bs ≡ none
  too_short l s = by (leb 5 (length bs)) refl
    where
      by : (x : Bool) → leb 5 (length bs) ≡ x → take_string narrow bs ≡ none
      by true h = let g = leb-true 5 (length bs) h in cut_short bs n g (length_is g) l (omega (arith, room_is b bits pos hb))
      by false h = cut bs (leb-false 5 (length bs) h)

  abbrev d : ℕ
  d = (v * 32) % 2 ^ 64

  abbrev str : Str
  str = take n (drop (pos + 5) (stream bits b))

  digits_are : n ≤ 24 → pos + 5 + n ≤ bits → take n (field 64 d) ≡ str
  digits_are l s =
      field_up n 5 64 v (omega arith)
      ∙ sym (part_within n 5 57 (field 64 v) (omega arith))
      ∙ ap (λ (x : List Bool). take n (drop 5 x)) e
      ∙ part_within n 5 57 (drop pos (bits_of b)) (omega arith)
      ∙ ap (take n) (drop-drop 5 pos (bits_of b))
      ∙ sym (part_within n (pos + 5) bits (bits_of b) (omega arith))

  found : n ≤ 24 → pos + 5 + n ≤ bits
      → StringRead b bits pos (Some (d - bit_and d ((2 ^ 64 - 1) / 2 ^ n) + n, pos + 5 + n))
  unfolding is_word
  found l s =
      let m = 64 - n in
      let q = d / 2 ^ m in
      let w = d - bit_and d ((2 ^ 64 - 1) / 2 ^ n) + n in
      let h : 5 ≤ length bs = omega (arith, room_is b bits pos hb) in
      let long : length str ≡ n = length-take-le n (drop (pos + 5) (stream bits b)) (omega (arith, room_is b bits (pos + 5) hb)) in
      let above : w ≡ q * 2 ^ m + n = ap (λ (x : ℕ). x + n) (above_is d n (omega arith)) in
      let says : q ≡ value str = top_value n d (mod-lt (v * 32) (pow_pos 64)) (omega arith) ∙ ap value (digits_are l s) in
      let is : w ≡ word_of str =
      above ∙ ap₂ (λ (x k : ℕ). x * 2 ^ (64 - k) + k) says (sym long) ∙ sym (word_value str) in
      let tells : str_of w ≡ str = ap str_of is ∙ str_word str (omega arith) in
      record {
        reads =
            there bs n h (length_is h) l (omega (arith, room_is b bits pos hb))
            ∙ ap (λ (x : List Bool). some (take n x, drop n x)) (drop-drop 5 pos (stream bits b))
            ∙ ap₂ (λ (x : Str) (y : List Bool). some (x, y)) (sym tells) (drop-drop n (pos + 5) (stream bits b));
        whole =
            and_both (le-leb (length (str_of w)) 24 (omega (arith, ap length tells))) (eq-eqb w (word_of (str_of w)) (is ∙ sym (ap word_of tells)));
        inside = omega arith;
      }

pub returns-then-n-gt-DIGITS : goal.returns-then-n-gt-DIGITS
returns-then-n-gt-DIGITS c =
    let r = c.args.self in
    let v = c.word_at-v.result in
    refused r.bytes.now r.count c.args.pos
    (elim c.then-n-gt-DIGITS.branch [
      | then-n-gt-DIGITS-via-then-n-gt-DIGITS w ↦ too_long_lem r.bytes.now r.count c.args.pos v _ refl (omega arith) (omega arith) c.word_at-v.ensures (omega arith)
      | then-n-gt-DIGITS-via-else-n-gt-DIGITS+then-self-next w ↦
          too_short r.bytes.now r.count c.args.pos v _ refl (omega arith) (omega arith) c.word_at-v.ensures (omega arith) (omega arith)
    ])

pub returns : goal.returns
returns c =
    let r = c.args.self in
    found r.bytes.now r.count c.args.pos c.word_at-v.result _ refl (omega arith) (omega arith) c.word_at-v.ensures (omega arith) (omega arith)
