-- `strings::is_word` meets its contract: with the length taken off, what stands behind the digits is moved up over the word's end.
-- Assumes nothing.
use Rattle.laws.proofs.Library.{◌∙◌, le-leb, lt-leb, arith, ◌%◌, ◌≤◌, ◌<◌}
use Rattle.rules.specs.Limits.{narrow}
use Rattle.laws.proofs.Words.{is_word_lem}
use Rattle.strings.proofs.is_word.Goals as goal

pub returns-then-length-le-DIGITS : goal.returns-then-length-le-DIGITS
returns-then-length-le-DIGITS c =
    let w = c.args.w in
    let h : w % 64 ≤ narrow.digits = omega arith in
    simp (le-leb _ _ h) at (is_word_lem narrow.digits w (omega arith) c.ranges.w.fits)

pub returns-else-length-le-DIGITS : goal.returns-else-length-le-DIGITS
returns-else-length-le-DIGITS c =
    let w = c.args.w in
    let h : narrow.digits < w % 64 = omega arith in
    lt-leb _ _ h ∙ simp (lt-leb _ _ h) at (is_word_lem narrow.digits w (omega arith) c.ranges.w.fits)
