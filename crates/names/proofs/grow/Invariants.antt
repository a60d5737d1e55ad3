use Rattle.laws.proofs.Library.{◌≡◌, take}
use Rattle.names.specs.Lent.{grown_in}
use Rattle.names.proofs.grow.Given as goal

abbrev pub invariant-loop-k : goal.invariant-loop-k
invariant-loop-k l = (l.zero ≡ grown_in 0 (take l.k l.s-items) l.fn.zero) × (l.one ≡ grown_in 1 (take l.k l.s-items) l.fn.one)
