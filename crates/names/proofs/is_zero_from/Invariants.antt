use Rattle.laws.proofs.Library.{◌≡◌, ◌&&◌, eqb, drop}
use Rattle.rules.specs.Names.{all}
use Rattle.names.proofs.is_zero_from.Given as goal

-- the bits seen so far, and the words that are left, decide
abbrev pub invariant-loop-x : goal.invariant-loop-x
invariant-loop-x l = (eqb l.bits 0 && all (eqb 0) (drop l.x-index l.x-items)) ≡ all (eqb 0) (drop l.c l.w)
