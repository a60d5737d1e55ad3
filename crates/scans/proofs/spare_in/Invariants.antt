use Rattle.laws.proofs.Library.{◌≡◌, drop}
use Rattle.rules.specs.Limits.{narrow}
use Rattle.rules.specs.Stored.{held}
use Rattle.rules.specs.Tables.{spare_from}
use Rattle.scans.proofs.spare_in.Given as goal

-- what the records from slot k on answer is what all answer
abbrev pub invariant-loop-k : goal.invariant-loop-k
invariant-loop-k l = spare_from narrow (held l.m) l.a l.k (drop l.k l.t) ≡ spare_from narrow (held l.m) l.a 0 l.t
