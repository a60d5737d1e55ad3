-- `traces::run` meets its contract: each turn answers the command at its place, and the table goes on to the next. Assumes nothing.
use Rattle.laws.proofs.Library.{arith}
use Rattle.traces.proofs.Turns.{runs_start, runs_step, runs_end}
use Rattle.traces.proofs.run.Goals as goal

pub loop-c-init : goal.loop-c-init
loop-c-init c = runs_start _ _

pub loop-c-preserved : goal.loop-c-preserved
loop-c-preserved c = runs_step _ _ (omega arith) c.loop-c.invariant c.serve.ensures

pub returns : goal.returns
returns c = runs_end (omega arith) c.loop-c.invariant
