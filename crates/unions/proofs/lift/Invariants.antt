use Rattle.laws.proofs.Library.{◌≡◌, [], ◌≤◌, drop}
use Rattle.unions.specs.Unions.{stack, lift}
use Rattle.unions.proofs.Seeks.{once_all}
use Rattle.unions.proofs.lift.Given as goal

abbrev pub invariant-loop-i : goal.invariant-loop-i
invariant-loop-i l = record {
  behind : l.count ≤ l.i;
  ahead : drop l.i l.update ≡ drop l.i l.initial.update;
  same : once_all (stack l.update l.count) (lift l.rest (drop l.i l.initial.update)) ≡ once_all [] (lift l.id l.initial.update);
}
