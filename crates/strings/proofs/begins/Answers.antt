-- `strings::begins` meets its contract: what `shared` counts is held against the length. Assumes nothing.
use Rattle.laws.proofs.Library.{ap, ◌%◌, leb}
use Rattle.strings.specs.Words.{begins}
use Rattle.strings.proofs.begins.Goals as goal

pub returns : goal.returns
unfolding begins
returns c = ap (leb (c.args.s % 64)) c.shared.ensures
