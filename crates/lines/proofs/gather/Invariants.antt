use Rattle.laws.proofs.Library.{◌≡◌, ◌≤◌, length, drop}
use Rattle.lines.proofs.Turns.{gathers}
use Rattle.lines.proofs.gather.Given as goal

abbrev pub invariant-loop-x : goal.invariant-loop-x
invariant-loop-x l =
    (l.count ≤ l.x-index) × (length l.commands ≡ length l.initial.commands)
    × (gathers l.held (drop l.x-index l.piece) l.commands l.count ≡ gathers l.initial.held l.piece l.initial.commands 0)
