-- `Bits::is_filling_at` meets its contract: bits are all zero exactly when the number that they say is. Assumes nothing.
use Rattle.laws.proofs.Library.{◌≡◌, refl, sym, ap, ◌∙◌, Bool, false, List, ℕ, ◌+◌, ◌*◌, ◌-◌, ◌/◌, ◌^◌, ◌≤◌, ◌<◌, arith, le-ltb, eqb, length, take}
use Rattle.laws.proofs.Library.{drop, shr-shr, take_all}
use Rattle.rules.specs.Strings.{field, value}
use Rattle.rules.specs.Packed.{bits_of, is_filling}
use Rattle.reading.specs.Reading.{stream, rest}
use Rattle.layout.proofs.Values.{filling_value}
use Rattle.reading.proofs.Streams.{part_within, room_is, top_value, shows}
use Rattle.reading.proofs.Bits.is_filling_at.Goals as goal

-- of fewer bits than a byte has, the number says whether all are zero
filling : (b : List ℕ) (bits pos v left : ℕ) → left ≡ bits - pos → pos ≤ bits → bits ≤ length b * 8 → left < 8 → v < 2 ^ 64
    → take 57 (field 64 v) ≡ take 57 (drop pos (bits_of b)) → eqb (v / 2 / 2 ^ (63 - left)) 0 ≡ is_filling (drop pos (stream bits b))
filling b bits pos v left el hp hb hl hv e =
    let s = drop pos (stream bits b) in
    let long : length s ≡ left = room_is b bits pos hb ∙ sym el in
    let down : v / 2 / 2 ^ (63 - left) ≡ v / 2 ^ (64 - left) =
    shr-shr v 1 (63 - left) ∙ ap (λ (k : ℕ). v / 2 ^ k) (let f : 1 + (63 - left) ≡ 64 - left = omega arith in f) in
    let says : v / 2 ^ (64 - left) ≡ value s =
    top_value left v hv (omega arith) ∙ ap value (shows left 57 pos v b (omega arith) e ∙ sym (part_within left pos bits (bits_of b) (omega arith)) ∙ take_all left s (omega arith)) in
    ap (λ (x : ℕ). eqb x 0) (down ∙ says) ∙ filling_value s (omega arith)

a_byte_or_more : (s : List Bool) → 8 ≤ length s → is_filling s ≡ false
unfolding is_filling
a_byte_or_more s h = simp (le-ltb (length s) 8 h)

pub returns-then-left-lt8 : goal.returns-then-left-lt8
returns-then-left-lt8 c =
    filling c.args.self.bytes.now c.args.self.count c.args.pos c.word_at.result _ refl (omega arith) (omega arith) (omega arith) (omega arith) c.word_at.ensures

pub returns-else-left-lt8 : goal.returns-else-left-lt8
returns-else-left-lt8 c =
    let r = c.args.self in
    le-ltb (r.count - c.args.pos) 8 (omega arith) ∙ sym (a_byte_or_more (rest r.bytes.now r.count c.args.pos) (omega (arith, room_is r.bytes.now r.count c.args.pos (omega arith))))
