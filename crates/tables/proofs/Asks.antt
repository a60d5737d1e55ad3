-- What a test of a number says. Assumes nothing.
use Rattle.laws.proofs.Library.{◌≡◌, refl, Bool, true, false, not}
use lib.Dec.{T as Holds}

pub holds_true : (y : Bool) → Holds y → y ≡ true
holds_true true h = refl
holds_true false h = elim h [ ]

pub holds_false : (y : Bool) → Holds (not y) → y ≡ false
holds_false false h = refl
holds_false true h = elim h [ ]
