use Rattle.laws.proofs.Library.{◌≡◌, ◌+◌, ◌-◌, ◌≤◌, length, drop}
use Rattle.unions.proofs.Turns.{merges}
use Rattle.unions.proofs.unite.Given as goal

abbrev pub invariant-loop-ours : goal.invariant-loop-ours
invariant-loop-ours l = record {
  room : l.count + length l.ours + length l.theirs ≤ length l.out;
  ours_left : l.ours ≡ drop (length l.m - length l.ours) l.m;
  theirs_left : l.theirs ≡ drop (length l.n - length l.theirs) l.n;
  same : merges l.ours l.theirs l.out l.count ≡ merges l.m l.n l.initial.out 0;
}

abbrev pub decreases-loop-ours : goal.decreases-loop-ours
decreases-loop-ours l = length l.ours + length l.theirs
