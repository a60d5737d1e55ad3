-- `writing::put_stamp` meets its contract: the bits of one name behind those of the other are the stamp's, and there is room for both.
-- Assumes nothing.
use Rattle.laws.proofs.Library.{◌≡◌, refl, ap, ap₂, ◌∙◌, Bool, List, ◌++◌, map, ℕ, arith, length, take, drop, length-append, true, []}
use Rattle.rules.specs.Limits.{narrow}
use Rattle.rules.specs.Strings.{field, str_of}
use Rattle.rules.specs.Names.{all}
use Rattle.rules.specs.Packed.{name_bits, stamp_bits, pack_bits, packed, over, bits_of}
use Rattle.layout.specs.Words.{stamp_of}
use Rattle.layout.proofs.Bytes.{are_bytes}
use Rattle.layout.proofs.Sizes.{names_length}
use Rattle.writing.specs.Cursors.{written, Put}
use Rattle.writing.specs.declared.Pen.{Pen}
use Rattle.writing.proofs.Writing.{both_fit, put_then, drop_on}
use Rattle.std.proofs.Common.{rules}
use Rattle.writing.proofs.put_stamp.Goals as goal

abbrev name : List ℕ → List Bool
name n = name_bits narrow (map str_of n)

none : are_bytes [] ≡ true
unfolding all
none = refl

-- nothing is written before the update
module _ (u i : List ℕ) {p q r : Pen} (at : p.at ≡ 0) (held : p.held ≡ 0) (s : Put p (name u) q) (t : Put q (name i) r) where
  stamp_is : pack_bits (written r) ≡ packed narrow (stamp_of u i)
  unfolding packed stamp_bits bits_of field
  stamp_is =
      ap pack_bits
      ((put_then (name u) (name i) s t).bits
      ∙ ap₂ (λ (a h : ℕ). (bits_of (take a p.out.now) ++ field h p.acc) ++ (name u ++ name i)) at held)

  rest_kept : drop (length (packed narrow (stamp_of u i))) r.out.now ≡ drop (length (packed narrow (stamp_of u i))) p.out.now
  rest_kept =
      let all = put_then (name u) (name i) s t in
      drop_on r.at _ r.out.now p.out.now (omega (arith, all.moved, length-append (name u) (name i), names_length narrow (stamp_of u i))) all.kept

  whole : over (pack_bits (written r)) r.out.now ≡ over (packed narrow (stamp_of u i)) p.out.now
  whole =
      ap (λ (l : List ℕ). over l r.out.now) stamp_is ∙ ap (λ (l : List ℕ). packed narrow (stamp_of u i) ++ l) rest_kept

pub put_name-requires : goal.put_name-requires
put_name-requires c =
    let u = c.args.n.update.now in
    let i = c.args.n.id.now in (
      (both_fit u i c.requires.0).0,
      record { few = omega arith; bytes = none; room = omega (arith, c.requires.1, names_length narrow (stamp_of u i)) },
    )

pub put_name-requires-2 : goal.put_name-requires-2
put_name-requires-2 c =
    let u = c.args.n.update.now in
    let i = c.args.n.id.now in
    let put = c.put_name.ensures in (
      (both_fit u i c.requires.0).1,
      record { few = put.few; bytes = put.bytes none; room = omega (arith, put.moved, put.long, c.requires.1, names_length narrow (stamp_of u i)) },
    )

pub end-requires : goal.end-requires
end-requires c =
    let u = c.args.n.update.now in
    let i = c.args.n.id.now in
    let put = c.put_name.ensures in
    let next = c.put_name-2.ensures in
    record {
      few = next.few;
      bytes = next.bytes (put.bytes none);
      room = omega (arith, next.moved, next.long, put.moved, put.long, c.requires.1, names_length narrow (stamp_of u i));
    }

pub returns : goal.returns
returns c =
    let e : c.end.new.self.0 ≡ over (packed narrow (stamp_of c.args.n.update.now c.args.n.id.now)) c.args.out.now =
    c.end.ensures ∙ whole c.args.n.update.now c.args.n.id.now refl refl c.put_name.ensures c.put_name-2.ensures in
    search rules
