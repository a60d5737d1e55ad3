use Rattle.laws.proofs.Library.{◌≡◌, ◌≤◌, length, take}
use Rattle.unions.specs.Unions.{push, stack}
use Rattle.unions.proofs.push.Given as goal

abbrev pub invariant-loop-below : goal.invariant-loop-below
invariant-loop-below l = record {
  part : l.below ≡ take (length l.below) l.fn.words;
  fewer : length l.below ≤ l.count;
  same : push l.x (stack l.fn.words (length l.below)) ≡ push l.s (stack l.fn.words l.count);
}

abbrev pub decreases-loop-below : goal.decreases-loop-below
decreases-loop-below l = length l.below
