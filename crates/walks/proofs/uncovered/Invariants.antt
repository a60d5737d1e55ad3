-- `walks::uncovered` meets its contract: while each string is covered, the strings of m from the place on, asked of the words that are left of
-- n, tell how many places on the first uncovered one stands.
use Rattle.laws.proofs.Library.{◌≡◌, ◌+◌, length, drop}
use Rattle.std.specs.Prelude.{None}
use Rattle.walks.specs.Walks.{uncovered_walk}
use Rattle.walks.proofs.uncovered.Given as goal

abbrev pub invariant-each : goal.invariant-each
invariant-each l = (l.first ≡ None) × (l.place + uncovered_walk (drop l.place l.m) l.rest ≡ uncovered_walk l.m l.n)

abbrev pub invariant-loop-rest : goal.invariant-loop-rest
invariant-loop-rest l = (l.first ≡ None) × (l.place + uncovered_walk (drop l.place l.m) l.rest ≡ uncovered_walk l.m l.n)

abbrev pub decreases-loop-rest : goal.decreases-loop-rest
decreases-loop-rest l = length l.rest
