-- `writing::Pen::end` meets its contract: what is held stands at the top of the word with zeros behind it, so that the bytes up to the last
-- one with a bit of it are the bits packed. Assumes nothing.
use Rattle.laws.proofs.Library.{◌≡◌, refl, sym, ap, ap₂, ◌∙◌, Bool, true, List, ◌++◌, append_assoc, ℕ, ◌+◌, ◌*◌, ◌-◌, ◌/◌, ◌%◌, ◌^◌, ◌≤◌, ◌<◌}
use Rattle.laws.proofs.Library.{add-zero, zero-mul, zero-div, arith, eq-eqb, pow_pos, length, take, drop, take-append-add}
use Rattle.laws.proofs.Library.{sub-zero, length-drop, take_all, append-nil, subst, set, length-set, take-suc-set, add-one, lt-ltb, take-append-le, [], ◌∷◌, length-append, length-take-le, drop-drop}
use Rattle.rules.specs.Strings.{field, value}
use Rattle.rules.specs.Names.{all}
use Rattle.laws.proofs.Tests.{and_both}
use Rattle.laws.proofs.Words.{field_split}
use Rattle.rules.specs.Packed.{bits_of, pack_bits, over, is_filling}
use Rattle.laws.proofs.Bits.{field_length, value_field_exact}
use Rattle.laws.proofs.Words.{field_top}
use Rattle.layout.proofs.Bytes.{are_bytes, pack_of_bits}
use Rattle.layout.proofs.Values.{field_join, filling_value}
use Rattle.writing.specs.Cursors.{written}
use Rattle.writing.specs.declared.Pen.{Pen}
use Rattle.writing.proofs.Writing.{push_bits, bits_append, bytes_append}
use borrow.Rule.Slice.PartMut.{put_mid}
use Rattle.writing.proofs.Pen.end.Invariants.{Going}
use Rattle.writing.proofs.Pen.end.Goals as goal

-- ---- the word

-- no bits but zeros
zeros : (n k : ℕ) → take n (field (n + k) 0) ≡ field n 0
zeros n k = field_top n k 0 ∙ ap (field n) (zero-div (2 ^ k))

-- what is held, at the top
raised : (a h : ℕ) → h ≤ 31 → field 64 ((((a * 2 ^ 24) % 2 ^ 64) * 2 ^ (40 - h)) % 2 ^ 64) ≡ field h a ++ field (64 - h) 0
raised a h l =
    let b = (a * 2 ^ 24) % 2 ^ 64 in
    let k = 40 - h in
    let once : field (h + 24) b ≡ field h a ++ field 24 0 =
    ap (field (h + 24)) (sym (add-zero b)) ∙ push_bits a h 40 24 0 (omega arith) refl (pow_pos 24) in
    let twice : field ((h + 24) + k) ((b * 2 ^ k) % 2 ^ 64) ≡ field (h + 24) b ++ field k 0 =
    ap (field ((h + 24) + k)) (sym (add-zero ((b * 2 ^ k) % 2 ^ 64))) ∙ push_bits b (h + 24) (64 - k) k 0 (omega arith) (omega arith) (pow_pos k) in
    ap (λ (n : ℕ). field n ((b * 2 ^ k) % 2 ^ 64)) (let e : 64 ≡ (h + 24) + k = omega arith in e) ∙ twice
    ∙ ap (λ (s : List Bool). s ++ field k 0) once ∙ append_assoc (field h a) (field 24 0) (field k 0)
    ∙ ap (λ (s : List Bool). field h a ++ s) (sym (field_join 24 k 0 0 (pow_pos k)) ∙ ap₂ field (let e : 24 + k ≡ 64 - h = omega arith in e) (add-zero (0 * 2 ^ k) ∙ zero-mul (2 ^ k)))

filling_field : (k : ℕ) → k < 8 → is_filling (field k 0) ≡ true
filling_field k h =
    sym (filling_value (field k 0) (omega (arith, field_length k 0))) ∙ eq-eqb (value (field k 0)) 0 (value_field_exact k 0 (pow_pos k))

-- its highest byte, and what a shift leaves behind it
top_byte : (t h : ℕ) → h ≤ 56 → take (8 + h) (field 64 t) ≡ field 8 (t / 2 ^ 56) ++ take h (field 64 ((t * 2 ^ 8) % 2 ^ 64))
top_byte t h l =
    let x = field 8 (t / 2 ^ 56) in
    let n : h ≤ length (field 56 t) = omega (arith, field_length 56 t) in
    let shifted : field 64 ((t * 2 ^ 8) % 2 ^ 64) ≡ field 56 t ++ field 8 0 =
    ap (field 64) (sym (add-zero ((t * 2 ^ 8) % 2 ^ 64))) ∙ push_bits t 56 56 8 0 (omega arith) refl (omega arith) in
    ap₂ (λ (k : ℕ) (s : List Bool). take (k + h) s) (sym (field_length 8 (t / 2 ^ 56))) (field_split 8 56 t)
    ∙ take-append-add x (field 56 t) h
    ∙ ap (λ (s : List Bool). x ++ s) (sym (take-append-le h (field 56 t) (field 8 0) n) ∙ ap (take h) (sym shifted))

-- ---- the loop

-- a byte behind bytes
module _ (l : List ℕ) (i x : ℕ) (inside : i < length l) where
  front_is : take (i + 1) (set l i x) ≡ take i l ++ x ∷ []
  front_is = rw add-one (take-suc-set l i x inside)

  byte_put : bits_of (take (i + 1) (set l i x)) ≡ bits_of (take i l) ++ field 8 x
  unfolding bits_of
  byte_put = ap bits_of front_is ∙ bits_append (take i l) (x ∷ []) ∙ ap (λ (s : List Bool). bits_of (take i l) ++ s) (append-nil (field 8 x))

  byte_bytes : x < 256 → are_bytes (take i l) ≡ true → are_bytes (take (i + 1) (set l i x)) ≡ true
  unfolding all
  byte_bytes h b = subst (λ (m : List ℕ). are_bytes m ≡ true) (sym front_is) (bytes_append (take i l) (x ∷ []) b (and_both (lt-ltb x 256 h) refl))

-- the next byte goes out
stepped : {bs : List Bool} {n rest i : ℕ} {l : List ℕ} → Going bs n rest i l → i < length l → rest < 2 ^ 64 → n ≤ 4
    → Going bs n ((rest * 2 ^ 8) % 2 ^ 64) (i + 1) (set l i (rest / 2 ^ 56))
stepped {bs} {n} {rest} {i} {l} g h word few =
    let k = (n - (i + 1)) * 8 in
    let e : 8 + k ≡ (n - i) * 8 = omega (arith, g.long) in
    record {
      bits =
          ap (λ (b : List Bool). b ++ take k (field 64 ((rest * 2 ^ 8) % 2 ^ 64))) (byte_put l i (rest / 2 ^ 56) h)
          ∙ append_assoc (bits_of (take i l)) (field 8 (rest / 2 ^ 56)) (take k (field 64 ((rest * 2 ^ 8) % 2 ^ 64)))
          ∙ ap (λ (b : List Bool). bits_of (take i l) ++ b) (sym (top_byte rest k (omega arith)) ∙ ap (λ (m : ℕ). take m (field 64 rest)) e) ∙ g.bits;
      bytes = byte_bytes l i (rest / 2 ^ 56) h (omega arith) g.bytes;
      long = length-set l i (rest / 2 ^ 56) ∙ g.long;
    }

-- ---- the end

module _ (p : Pen) (few : p.held ≤ 31) (bytes : are_bytes (take p.at p.out.now) ≡ true) (room : p.at * 8 + p.held ≤ length p.out.now * 8) where
  abbrev end : ℕ
  end = (p.held + 7) / 8

  abbrev rest : ℕ
  rest = (((p.acc * 2 ^ 24) % 2 ^ 64) * 2 ^ (40 - p.held)) % 2 ^ 64

  -- what is held, and the zeros that fill the last byte
  rest_bits : take (end * 8) (field 64 rest) ≡ field p.held p.acc ++ field (end * 8 - p.held) 0
  rest_bits =
      let h = field p.held p.acc in
      let k = end * 8 - p.held in
      let e : end * 8 ≡ p.held + k = omega arith in
      let f : 64 - p.held ≡ k + (64 - p.held - k) = omega arith in
      ap (take (end * 8)) (raised p.acc p.held few)
      ∙ ap (λ (m : ℕ). take m (h ++ field (64 - p.held) 0)) (e ∙ ap (λ (m : ℕ). m + k) (sym (field_length p.held p.acc)))
      ∙ take-append-add h (field (64 - p.held) 0) k ∙ ap (λ (m : ℕ). h ++ take k (field m 0)) f ∙ ap (λ (s : List Bool). h ++ s) (zeros k (64 - p.held - k))

  module _ (i last : ℕ) (l : List ℕ) (all : length l ≤ i) (g : Going (take (end * 8) (field 64 rest)) end last i l) where
    whole : take i l ≡ l
    whole = take_all i l all

    packed_is : pack_bits (written p) ≡ take p.at p.out.now ++ l
    packed_is =
        let b = take p.at p.out.now in
        let none : take ((end - i) * 8) (field 64 last) ≡ [] = ap (λ (j : ℕ). take j (field 64 last)) (let e : (end - i) * 8 ≡ 0 = omega (arith, g.long) in e) in
        let bits : bits_of l ≡ take (end * 8) (field 64 rest) =
        sym (append-nil (bits_of l)) ∙ ap₂ (λ (m : List ℕ) (s : List Bool). bits_of m ++ s) (sym whole) (sym none) ∙ g.bits in
        pack_of_bits (b ++ l) (written p) (field (end * 8 - p.held) 0)
        (bytes_append b l bytes (subst (λ (m : List ℕ). are_bytes m ≡ true) whole g.bytes))
        (bits_append b l ∙ ap (λ (s : List Bool). bits_of b ++ s) (bits ∙ rest_bits) ∙ sym (append_assoc (bits_of b) (field p.held p.acc) (field (end * 8 - p.held) 0)))
        (filling_field (end * 8 - p.held) (omega arith))

    ended : (k : ℕ) → k ≡ end → put_mid p.at k p.out.now l ≡ over (pack_bits (written p)) p.out.now
    ended k e =
        let b = take p.at p.out.now in
        let size : length (b ++ l) ≡ p.at + end = omega (arith, length-append b l, length-take-le p.at p.out.now (omega arith), g.long) in
        ap (λ (n : ℕ). b ++ (l ++ drop n (drop p.at p.out.now))) e
        ∙ sym (append_assoc b l (drop end (drop p.at p.out.now)))
        ∙ ap (λ (m : List ℕ). (b ++ l) ++ m) (drop-drop end p.at p.out.now ∙ ap (λ (n : ℕ). drop n p.out.now) (sym size))
        ∙ ap (λ (m : List ℕ). over m p.out.now) (sym packed_is)

started : (n rest : ℕ) (l : List ℕ) → length l ≡ n → Going (take (n * 8) (field 64 rest)) n rest 0 l
unfolding bits_of all
started n rest l e = record { bits = ap (λ (m : ℕ). take (m * 8) (field 64 rest)) (sub-zero n); bytes = refl; long = e }

pub loop-byte-init : goal.loop-byte-init
loop-byte-init c =
    let p = c.args.self in
    started ((p.held + 7) / 8) _ _
    (omega (arith, c.requires.room, length-take-le (p.at + (p.held + 7) / 8 - p.at) (drop p.at p.out.now) (omega (arith, c.requires.room, length-drop p.at p.out.now))))

pub loop-byte-preserved : goal.loop-byte-preserved
loop-byte-preserved c =
    let l = c.loop-byte in
    stepped l.invariant (omega (arith, c.loop-byte-test.true, l.auto.byte-items)) l.auto.rest-fits.fits (omega (arith, c.requires.few))

pub returns : goal.returns
returns c =
    let p = c.args.self in
    let l = c.loop-byte in
    ended p c.requires.few c.requires.bytes (omega (arith, c.requires.room)) l.byte-index l.rest l.byte-items
    (omega (arith, c.loop-byte-test.false, l.auto.byte-items)) l.invariant _ (omega arith)
