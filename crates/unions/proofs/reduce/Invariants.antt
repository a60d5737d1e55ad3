use Rattle.laws.proofs.Library.{◌≡◌, [], ◌≤◌, drop}
use Rattle.unions.specs.Unions.{push_all, stack}
use Rattle.unions.proofs.reduce.Given as goal

abbrev pub invariant-loop-i : goal.invariant-loop-i
invariant-loop-i l = record {
  behind : l.count ≤ l.i;
  ahead : drop l.i l.id ≡ drop l.i l.initial.id;
  same : push_all (stack l.id l.count) (drop l.i l.initial.id) ≡ push_all [] l.initial.id;
}
