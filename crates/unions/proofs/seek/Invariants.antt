use Rattle.laws.proofs.Library.{◌≡◌, length}
use Rattle.unions.specs.Unions.{seek}
use Rattle.unions.proofs.seek.Given as goal

abbrev pub invariant-loop-rest : goal.invariant-loop-rest
invariant-loop-rest l = seek l.rest l.r ≡ seek l.id l.r

abbrev pub decreases-loop-rest : goal.decreases-loop-rest
decreases-loop-rest l = length l.rest
