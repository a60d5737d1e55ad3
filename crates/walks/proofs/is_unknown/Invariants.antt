-- `walks::is_unknown` meets its contract: the strings of u from the index on, asked of what is left of the other's id and update, decide.
use Rattle.laws.proofs.Library.{◌≡◌, drop}
use Rattle.walks.specs.Walks.{unknown_walk}
use Rattle.walks.proofs.is_unknown.Given as goal

abbrev pub invariant-loop-r : goal.invariant-loop-r
invariant-loop-r l = unknown_walk (drop l.r-index l.u) l.ids l.updates ≡ unknown_walk l.u l.fn.other.id.now l.fn.other.update.now
