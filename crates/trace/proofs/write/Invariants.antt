use Rattle.laws.proofs.Library.{◌≤◌, length}
use Rattle.printing.specs.Answers.{longest}
use Rattle.trace.proofs.write.Given as goal

-- no more answers are left than there were, and the longest has room
abbrev pub invariant-loop-rest : goal.invariant-loop-rest
invariant-loop-rest g l = (length l.rest ≤ length l.commands) × (longest ≤ length l.out)

-- how many answers are left
abbrev pub decreases-loop-rest : goal.decreases-loop-rest
decreases-loop-rest g l = length l.rest
