-- What the loop of `bundles::find` keeps: what is sought from `at` on is what was sought from the start.
use Rattle.laws.proofs.Library.{◌≡◌, ◌-◌, drop}
use Rattle.rules.specs.Limits.{narrow}
use Rattle.rules.specs.Bundles.{entry_in, entry}
use Rattle.bundles.proofs.find.Given as goal

abbrev pub invariant-loop : goal.invariant-loop
invariant-loop l = entry_in narrow (l.k - l.counter) (drop l.at l.b) ≡ entry narrow l.k l.b
