-- `Bits::word_at` meets its contract: of the bits of eight bytes at most seven are lost. Assumes nothing.
use Rattle.laws.proofs.Library.{◌≡◌, ap, ◌∙◌, Bool, List, ℕ, ◌+◌, ◌*◌, ◌-◌, ◌/◌, ◌%◌, ◌^◌, ◌≤◌, arith, rules, length, take, drop, length-drop, length-take-le}
use Rattle.laws.proofs.Library.{drop-drop, take-take}
use Rattle.std.specs.Int.{w64, from_be_bytes}
use Rattle.rules.specs.Strings.{field, value}
use Rattle.rules.specs.Packed.{bits_of}
use Rattle.layout.proofs.Bytes.{bits_length}
use Rattle.reading.proofs.Streams.{part_within, value_fields, field_up, eight_value}
use Rattle.reading.proofs.Bits.word_at.Goals as goal

shown : (b : List ℕ) (pos x : ℕ) → pos / 8 + 8 ≤ length b → x ≡ value (take 64 (drop (pos / 8 * 8) (bits_of b)))
    → take 57 (field 64 ((x * 2 ^ (pos % 8)) % 2 ^ 64)) ≡ take 57 (drop pos (bits_of b))
shown b pos x h e =
    let bs = bits_of b in
    let q = pos / 8 * 8 in
    field_up 57 (pos % 8) 64 x (omega arith)
    ∙ ap (λ (l : List Bool). take 57 (drop (pos % 8) l))
    (value_fields 64 x (take 64 (drop q bs)) (length-take-le 64 (drop q bs) (omega (arith, length-drop q bs, bits_length b))) e)
    ∙ part_within 57 (pos % 8) 64 (drop q bs) (omega arith)
    ∙ ap (take 57) (drop-drop (pos % 8) q bs ∙ ap (λ (k : ℕ). drop k bs) (let f : q + pos % 8 ≡ pos = omega arith in f))

pub returns : goal.returns
returns c =
    let b = c.args.self.bytes.now in
    let at = c.args.pos / 8 in
    let here : at + 8 ≤ length b = omega arith in
    let chunk = rw c.unwrap-eight.ensures at c.first_chunk.ensures.cases in
    shown b c.args.pos c.from_be_bytes.result here
    (c.from_be_bytes.ensures ∙ ap (from_be_bytes w64) (chunk.same ∙ take-take 8 (at + 8 - at) (drop at b) (omega arith)) ∙ eight_value b at here (search rules))
