-- `packed::read` meets its contract: a name's words over zeros are all that its record holds. Assumes nothing.
use Rattle.laws.proofs.Library.{Ok}
use Rattle.reading.proofs.Lent.{read_is}
use Rattle.packed.proofs.read.Goals as goal

pub returns : goal.returns
returns c =
    let e = c.in_ok-counts.ensures in
    read_is c.args.b.now (Ok c.in_ok-counts.counts) c.read_in.new.update c.read_in.new.id e.0 e.1 e.2
