-- `writing::Pen::put` meets its contract: w bits fit behind those that are held, and four bytes that go out have the highest 32
-- of them. Assumes nothing.
use Rattle.laws.proofs.Library.{◌≡◌, refl, sym, ap, ◌∙◌, subst, true, Bool, List, ◌++◌, append_assoc, ℕ, ◌+◌, ◌*◌, ◌-◌, ◌/◌, ◌%◌, ◌^◌, ◌≤◌, ◌<◌, arith}
use Rattle.laws.proofs.Library.{length, take}
use Rattle.laws.proofs.Library.{shr_lt, length-take-le}
use Rattle.std.specs.Int.{bytes_high_first}
use Rattle.std.specs.Int.RustNames.{bit_or}
use Rattle.std.proofs.lemmas.Nat.{or_shifted}
use Rattle.std.proofs.lemmas.Slice.{take-put_mid, drop-put_mid}
use borrow.Rule.Slice.PartMut.{put_mid, same_len_mid}
use Rattle.rules.specs.Strings.{field}
use Rattle.rules.specs.Packed.{bits_of}
use Rattle.layout.proofs.Bytes.{are_bytes}
use Rattle.laws.proofs.Bits.{field_length}
use Rattle.laws.proofs.Words.{field_low, field_split, field_top}
use Rattle.writing.specs.Cursors.{written}
use Rattle.writing.specs.declared.Pen.{Pen}
use Rattle.writing.proofs.Writing.{shifted, push_bits, bits_append, bytes_bits, bytes_append, high_are_bytes}
use Rattle.writing.proofs.Pen.put.Goals as goal

top_lt : (w v : ℕ) → w ≤ 64 → v < 2 ^ 64 → v / 2 ^ (64 - w) < 2 ^ w
top_lt w v h l = let e : w + (64 - w) ≡ 64 = omega arith in shr_lt w (64 - w) (rw e l)

-- the bits of v that go behind those of a
pushed : (a w v : ℕ) → w ≤ 64 → v < 2 ^ 64 → bit_or ((a * 2 ^ w) % 2 ^ 64) (v / 2 ^ (64 - w)) ≡ (a * 2 ^ w) % 2 ^ 64 + v / 2 ^ (64 - w)
pushed a w v h l =
    let e : 64 ≡ (64 - w) + w = omega arith in
    let up : (a * 2 ^ w) % 2 ^ 64 ≡ (a % 2 ^ (64 - w)) * 2 ^ w = ap (λ (n : ℕ). (a * 2 ^ w) % 2 ^ n) e ∙ shifted a (64 - w) w in
    rw up (or_shifted (a % 2 ^ (64 - w)) w (v / 2 ^ (64 - w)) (top_lt w v h l))

module _ (p : Pen) (w v : ℕ) (some : 1 ≤ w) (short : w ≤ 29) (word : v < 2 ^ 64) (few : p.held ≤ 31) where
  abbrev grown : ℕ
  grown = bit_or ((p.acc * 2 ^ w) % 2 ^ 64) (v / 2 ^ (64 - w))

  -- it is held
  held_bits : bits_of (take p.at p.out.now) ++ field (p.held + w) grown ≡ written p ++ take w (field 64 v)
  held_bits =
      let b = bits_of (take p.at p.out.now) in
      let top = v / 2 ^ (64 - w) in
      let e : 64 ≡ w + (64 - w) = omega arith in
      ap (λ (n : ℕ). b ++ field (p.held + w) n) (pushed p.acc w v (omega arith) word)
      ∙ ap (λ (s : List Bool). b ++ s) (push_bits p.acc p.held (64 - w) w top (omega arith) (omega arith) (top_lt w v (omega arith) word))
      ∙ sym (append_assoc b (field p.held p.acc) (field w top))
      ∙ ap (λ (s : List Bool). written p ++ s) (sym (field_top w (64 - w) v) ∙ ap (λ (n : ℕ). take w (field n v)) (sym e))

  -- and four bytes go out
  out_bits : (h : ℕ) (k : List ℕ) → 32 + h ≡ p.held + w → take (p.at + 4) k ≡ take p.at p.out.now ++ bytes_high_first 4 (grown / 2 ^ h % 2 ^ 32)
      → bits_of (take (p.at + 4) k) ++ field h grown ≡ written p ++ take w (field 64 v)
  out_bits h k e front =
      let b = take p.at p.out.now in
      ap (λ (s : List Bool). s ++ field h grown) (ap bits_of front ∙ bits_append b (bytes_high_first 4 (grown / 2 ^ h % 2 ^ 32)) ∙ ap (λ (s : List Bool). bits_of b ++ s) (bytes_bits 4 (grown / 2 ^ h % 2 ^ 32) ∙ field_low 32 (grown / 2 ^ h)))
      ∙ append_assoc (bits_of b) (field 32 (grown / 2 ^ h)) (field h grown)
      ∙ ap (λ (s : List Bool). bits_of b ++ s) (sym (field_split 32 h grown) ∙ ap (λ (n : ℕ). field n grown) e) ∙ held_bits

pub returns-then-self-ge32 : goal.returns-then-self-ge32
returns-then-self-ge32 c =
    let p = c.args.self.now in
    let w = c.args.w in
    let h = p.held + w - 32 in
    let out = c.copy_from_slice.new.self in
    let bytes : out ≡ bytes_high_first 4 (bit_or ((p.acc * 2 ^ w) % 2 ^ 64) (c.args.v / 2 ^ (64 - w)) / 2 ^ h % 2 ^ 32) = c.copy_from_slice.ensures.after ∙ c.to_be_bytes.ensures in
    let four : length out ≡ 4 = ap length bytes in
    let room : p.at + 4 ≤ length p.out.now = omega (arith, c.requires.2.room) in
    let front : take (p.at + 4) (put_mid p.at (p.at + 4 - p.at) p.out.now out) ≡ take p.at p.out.now ++ bytes_high_first 4 (bit_or ((p.acc * 2 ^ w) % 2 ^ 64) (c.args.v / 2 ^ (64 - w)) / 2 ^ h % 2 ^ 32) =
    take-put_mid p.at _ p.out.now out (p.at + 4) (omega arith) (omega arith) ∙ ap (λ (l : List ℕ). take p.at p.out.now ++ l) bytes in
    record {
      bits = out_bits p w c.args.v c.requires.0 c.requires.1 c.ranges.v.fits c.requires.2.few h _ (omega arith) front;
      kept = drop-put_mid p.at _ p.out.now out (p.at + 4) (omega arith) (omega arith) (omega arith);
      long = same_len_mid p.at _ p.out.now out c.copy_from_slice.ensures.len;
      few = omega arith;
      bytes = λ h. subst (λ (l : List ℕ). are_bytes l ≡ true) (sym front) (bytes_append (take p.at p.out.now) _ h (high_are_bytes 4 _));
      on = omega arith;
      moved = omega (arith, length-take-le w (field 64 c.args.v) (omega (arith, field_length 64 c.args.v)));
      same = refl;
    }

pub returns-else-self-ge32 : goal.returns-else-self-ge32
returns-else-self-ge32 c =
    let p = c.args.self.now in
    let w = c.args.w in
    record {
      bits = held_bits p w c.args.v c.requires.0 c.requires.1 c.ranges.v.fits c.requires.2.few;
      kept = refl;
      long = refl;
      few = omega arith;
      bytes = λ h. h;
      on = omega arith;
      moved = omega (arith, length-take-le w (field 64 c.args.v) (omega (arith, field_length 64 c.args.v)));
      same = refl;
    }
