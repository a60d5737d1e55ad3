-- `stamps::blank` meets its contract, by computing. Assumes nothing.
use Rattle.laws.proofs.Library.{refl}
use Rattle.rules.specs.Stored.{words_of, stored, blank}
use Rattle.stamps.proofs.blank.Goals as goal

pub returns : goal.returns
unfolding words_of stored blank
returns c = refl
