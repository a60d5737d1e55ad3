use Rattle.laws.proofs.Library.{◌≤◌, ◌<◌, length}
use Rattle.printing.specs.Answers.{longest}
use Rattle.trace.proofs.answer.Given as goal

-- the buffers have room
abbrev pub invariant-loop-input : goal.invariant-loop-input
invariant-loop-input g l = (0 < length l.piece) × (length l.piece ≤ length l.commands) × (longest ≤ length l.out)

-- how many bytes more the trace takes
abbrev pub decreases-loop-input : goal.decreases-loop-input
decreases-loop-input g l = l.trace.budget
