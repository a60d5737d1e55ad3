-- `walks::reach` meets its contract: what was passed is below s.
use Rattle.laws.proofs.Library.{◌≡◌, length}
use Rattle.walks.specs.Walks.{at_least}
use Rattle.walks.proofs.reach.Given as goal

abbrev pub invariant-loop-rest : goal.invariant-loop-rest
invariant-loop-rest l = at_least l.s l.rest ≡ at_least l.s l.n

abbrev pub decreases-loop-rest : goal.decreases-loop-rest
decreases-loop-rest l = length l.rest
