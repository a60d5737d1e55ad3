use Rattle.traces.proofs.Turns.{Runs}
use Rattle.traces.proofs.run.Given as goal

-- the commands before this one are answered
abbrev pub invariant-loop-c : goal.invariant-loop-c
invariant-loop-c l = Runs l.initial.commands l.fn.table l.c-index l.t l.commands
