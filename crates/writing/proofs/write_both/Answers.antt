-- `writing::write_both` meets its contract: the sizes tell that both stamps fit, and the room in both buffers is tested before a byte is written.
-- Assumes nothing.
use Rattle.laws.proofs.Library.{◌≡◌, ap, ◌∙◌, true, false, ◌⊎◌, inl, inr, List, ℕ, ◌≤◌, ◌<◌, arith, lt-ltb, le-ltb, length, Ok, Err}
use Rattle.rules.specs.Limits.{narrow}
use Rattle.rules.specs.Refusals.{first}
use Rattle.rules.specs.Packed.{packed, over, wrote_two}
use Rattle.rules.specs.declared.Refusal.TheVariants.{Unlawful, Short}
use Rattle.layout.specs.Words.{stamp_of}
use Rattle.writing.specs.Fits.{fits, written_both}
use Rattle.writing.proofs.Writing.{two, refused, sized}
use Rattle.std.proofs.Common.{rules}
use Rattle.writing.proofs.write_both.Goals as goal

module _ (u x y a b : List ℕ) where
  abbrev P : List ℕ
  P = packed narrow (stamp_of u x)

  abbrev Q : List ℕ
  Q = packed narrow (stamp_of u y)

  x_not_laid : fits narrow u x ≡ false → written_both narrow u x y a b ≡ record { answer = Err Unlawful; zero = a; one = b }
  unfolding written_both first wrote_two
  x_not_laid e = rw e

  module _ (e : fits narrow u x ≡ true) where
    y_not_laid : fits narrow u y ≡ false → written_both narrow u x y a b ≡ record { answer = Err Unlawful; zero = a; one = b }
    unfolding written_both first wrote_two
    y_not_laid f = rw (e, f)

    module _ (f : fits narrow u y ≡ true) where
      short : (m n : ℕ) → m ≡ length P → n ≡ length Q → (length a < m) ⊎ ((m ≤ length a) × (length b < n))
          → written_both narrow u x y a b ≡ record { answer = Err Short; zero = a; one = b }
      unfolding written_both first wrote_two
      short m n p q (inl h) = simp (e, f, lt-ltb (length a) (length P) (omega arith))
      short m n p q (inr h) = simp (e, f, le-ltb (length a) (length P) (omega arith), lt-ltb (length b) (length Q) (omega arith))

      laid : length P ≤ length a → length Q ≤ length b
          → written_both narrow u x y a b ≡ record { answer = Ok (length P); zero = over P a; one = over Q b }
      unfolding written_both first wrote_two
      laid h k = simp (e, f, le-ltb (length a) (length P) h, le-ltb (length b) (length Q) k)

pub returns-in_err-size : goal.returns-in_err-size
returns-in_err-size c =
    let no = refused _ _ _ c.size_of.ensures _ c.in_err-size.ensures.value in
    let w = two _ _ (x_not_laid c.args.update.now c.args.x.now c.args.y.now c.args.zero.now c.args.one.now no.0) in
    let e : c.from_residual.result ≡ Err c.in_err-size.field-0.0 = search rules in
    (e ∙ ap Err no.1 ∙ w.0, w.1, w.2)

pub returns-in_err-other : goal.returns-in_err-other
returns-in_err-other c =
    let is = sized _ _ _ c.size_of.ensures _ c.in_ok-size.ensures.value in
    let no = refused _ _ _ c.size_of-2.ensures _ c.in_err-other.ensures.value in
    let w = two _ _ (y_not_laid c.args.update.now c.args.x.now c.args.y.now c.args.zero.now c.args.one.now is.0 no.0) in
    let e : c.from_residual-in_err-other.result ≡ Err c.in_err-other.field-0.0 = search rules in
    (e ∙ ap Err no.1 ∙ w.0, w.1, w.2)

pub returns-then-zero-size : goal.returns-then-zero-size
returns-then-zero-size c =
    let p = sized _ _ _ c.size_of.ensures _ c.in_ok-size.ensures.value in
    let q = sized _ _ _ c.size_of-2.ensures _ c.in_ok-other.ensures.value in
    two _ _ (short c.args.update.now c.args.x.now c.args.y.now c.args.zero.now c.args.one.now p.0 q.0 _ _ p.1 q.1 c.then-zero-size.either)

pub put_stamp-requires : goal.put_stamp-requires
put_stamp-requires c =
    let p = sized _ _ _ c.size_of.ensures _ c.in_ok-size.ensures.value in
    (p.0, omega (arith, p.1))

pub put_stamp-requires-2 : goal.put_stamp-requires-2
put_stamp-requires-2 c =
    let q = sized _ _ _ c.size_of-2.ensures _ c.in_ok-other.ensures.value in
    (q.0, omega (arith, q.1))

pub returns : goal.returns
returns c =
    let p = sized _ _ _ c.size_of.ensures _ c.in_ok-size.ensures.value in
    let q = sized _ _ _ c.size_of-2.ensures _ c.in_ok-other.ensures.value in
    let w = two _ _
    (laid c.args.update.now c.args.x.now c.args.y.now c.args.zero.now c.args.one.now p.0 q.0 (omega (arith, p.1)) (omega (arith, q.1))) in
    (ap Ok p.1 ∙ w.0, c.put_stamp.ensures ∙ w.1, c.put_stamp-2.ensures ∙ w.2)
