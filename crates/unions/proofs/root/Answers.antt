-- `unions::root` meets its contract: one case with a lower word, one with a word that is not lower, and one without a word. Assumes nothing.
use Rattle.laws.proofs.Library.{arith}
use Rattle.unions.proofs.Seeks.{root_here, root_self, root_end}
use Rattle.unions.proofs.root.Goals as goal

pub returns-in-len1-up : goal.returns-in-len1-up
returns-in-len1-up c = root_here c.args.id.now c.args.r (omega arith) c.if-t-r.true

pub returns-in_default : goal.returns-in_default
returns-in_default c = root_end c.args.id.now c.args.r (omega arith)

pub returns-in_default-2 : goal.returns-in_default-2
returns-in_default-2 c = root_self c.args.id.now c.args.r (omega arith) c.if-t-r.false
