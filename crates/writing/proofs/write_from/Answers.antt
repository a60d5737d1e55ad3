-- `writing::write_from` meets its contract: a size tells that the names fit, and the room is tested before a byte is written. Assumes nothing.
use Rattle.laws.proofs.Library.{◌≡◌, ap, ◌∙◌, true, false, List, ℕ, ◌≤◌, ◌<◌, arith, lt-ltb, le-ltb, length, Ok, Err}
use Rattle.rules.specs.Limits.{narrow}
use Rattle.rules.specs.Refusals.{first}
use Rattle.rules.specs.Packed.{packed, over, wrote}
use Rattle.rules.specs.declared.Refusal.TheVariants.{Unlawful, Short}
use Rattle.layout.specs.Words.{stamp_of}
use Rattle.writing.specs.Fits.{fits, written_names}
use Rattle.writing.proofs.Writing.{both, refused, sized}
use Rattle.std.proofs.Common.{rules}
use Rattle.writing.proofs.write_from.Goals as goal

module _ (u i : List ℕ) where
  abbrev bytes : List ℕ
  bytes = packed narrow (stamp_of u i)

  -- ---- the three ways

  not_laid : (l : List ℕ) → fits narrow u i ≡ false → written_names narrow u i l ≡ record { answer = Err Unlawful; out = l }
  unfolding written_names first wrote
  not_laid l e = rw e

  too_short : (l : List ℕ) → fits narrow u i ≡ true → length l < length bytes → written_names narrow u i l ≡ record { answer = Err Short; out = l }
  unfolding written_names first wrote
  too_short l e h = simp (e, lt-ltb (length l) (length bytes) h)

  laid : (l : List ℕ) → fits narrow u i ≡ true → length bytes ≤ length l
      → written_names narrow u i l ≡ record { answer = Ok (length bytes); out = over bytes l }
  unfolding written_names first wrote
  laid l e h = simp (e, le-ltb (length l) (length bytes) h)

pub returns-in_err-size : goal.returns-in_err-size
returns-in_err-size c =
    let no = refused _ _ _ c.size_of.ensures _ c.in_err-size.ensures.value in
    let w = both _ _ (not_laid c.args.n.update.now c.args.n.id.now c.args.out.now no.0) in
    let e : c.from_residual.result ≡ Err c.in_err-size.field-0.0 = search rules in
    (e ∙ ap Err no.1 ∙ w.0, w.1)

pub returns-then-out-size : goal.returns-then-out-size
returns-then-out-size c =
    let is = sized _ _ _ c.size_of.ensures _ c.in_ok-size.ensures.value in
    both _ _ (too_short c.args.n.update.now c.args.n.id.now c.args.out.now is.0 (omega (arith, c.if-out-size.true, is.1)))

pub put_stamp-requires : goal.put_stamp-requires
put_stamp-requires c =
    let is = sized _ _ _ c.size_of.ensures _ c.in_ok-size.ensures.value in
    (is.0, omega (arith, c.if-out-size.false, is.1))

pub returns : goal.returns
returns c =
    let is = sized _ _ _ c.size_of.ensures _ c.in_ok-size.ensures.value in
    let w = both _ _ (laid c.args.n.update.now c.args.n.id.now c.args.out.now is.0 (omega (arith, c.if-out-size.false, is.1))) in
    (ap Ok is.1 ∙ w.0, c.put_stamp.ensures ∙ w.1)
