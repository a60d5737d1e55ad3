-- A buffer that the longest answer fits takes at least one of the answers that are left, and no more than those; their text is in it.
-- Assumes nothing.
use Rattle.laws.proofs.Library.{◌≡◌, sym, List, ℕ, ◌≤◌, ◌<◌, length, take, length-take-le}
use Rattle.lines.specs.declared.Command.{Command}
use Rattle.printing.specs.declared.Printed.{Printed}
use Rattle.printing.specs.Answers.{longest, printed}
use Rattle.printing.proofs.Fits.{fits_few, fits_some, text_room}

pub some : (rest : List Command) (out : List ℕ) (p : Printed) → p ≡ printed rest out → longest ≤ length out → 0 < length rest → 0 < p.count
unfolding printed
some rest out p e h k = rw e (fits_some rest out h k)

pub few : (rest : List Command) (out : List ℕ) (p : Printed) → p ≡ printed rest out → p.count ≤ length rest
unfolding printed
few rest out p e = rw e (fits_few rest out)

pub short : (rest : List Command) (out : List ℕ) (p : Printed) → p ≡ printed rest out → p.len ≤ length out
unfolding printed
short rest out p e = rw e (text_room rest out)

-- so is each part of it
pub cut : (n : ℕ) (out : List ℕ) → n ≤ length out → n ≡ length (take n out)
cut n out h = sym (length-take-le n out h)
