-- `walks::is_overlapping` meets its contract: what is left of both decides, and the measure is how many are to come.
use Rattle.laws.proofs.Library.{◌≡◌, ◌+◌, length}
use Rattle.walks.specs.Walks.{overlap_walk}
use Rattle.walks.proofs.is_overlapping.Given as goal

abbrev pub invariant-loop-ours : goal.invariant-loop-ours
invariant-loop-ours l = overlap_walk l.ours l.theirs ≡ overlap_walk l.m l.n

abbrev pub decreases-loop-ours : goal.decreases-loop-ours
decreases-loop-ours l = length l.ours + length l.theirs
