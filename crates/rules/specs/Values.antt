-- Update, fork, join and compare of stamps by value, on records of any content.
-- "Stamps by value go the same way, without 1": 2 for the first, 2 for the second, 8, 9, 6, 7.
use Rattle.std.specs.Prelude.{Bool, true, false, List, [], ◌∷◌, Result, Ok, Err}
use Rattle.rules.specs.Limits.{Limits}
use Rattle.rules.specs.Strings.{word_of}
use Rattle.rules.specs.Names.{Name, uncovered, lacked}
use Rattle.rules.specs.Stamps.{Stamp, update, fork, join, compare}
use Rattle.rules.specs.Stored.{stored, held, unlawful}
use Rattle.rules.specs.Refusals.{Answer, first, long, many, overlap, unseen}
use Rattle.rules.specs.declared.Record.{Record}
use Rattle.rules.specs.declared.Verdict.{Verdict}
use Rattle.rules.specs.declared.Refusal.{Refusal}
use Rattle.rules.specs.declared.Refusal.TheVariants.{Unlawful, Long, Many, Overlap, Unseen}
use Rattle.rules.specs.declared.Uncovered.{Uncovered}
use Rattle.rules.specs.declared.Standing.{Standing}
use Rattle.rules.specs.declared.Branches.{Branches}

-- "A refusal comes with no stamp"
abbrev pub given : Limits → Answer → Stamp → Result Record Refusal
given L (Ok x) s = Ok (stored L s)
given L (Err r) s = Err r

abbrev pub branches : Limits → Answer → Stamp → Stamp → Result Branches Refusal
branches L (Ok x) s t = Ok (record { zero = stored L s; one = stored L t })
branches L (Err r) s t = Err r

-- what a comparison says
abbrev pub Compared : Type 0
Compared = Result Verdict Refusal

abbrev pub told : Answer → Verdict → Compared
told (Ok x) v = Ok v
told (Err r) v = Err r

unfoldable pub updated : Limits → Record → Result Record Refusal
updated L r = given L (first ((unlawful L r, Unlawful) ∷ [])) (update (held r))

unfoldable pub forked : Limits → Record → Result Branches Refusal
forked L r = branches L (first ((unlawful L r, Unlawful) ∷ (long L (held r), Long) ∷ [])) (fork false (held r)) (fork true (held r))

-- both lawful, their ids apart, and neither's update unseen where the other's id would know it
abbrev pub meeting : Limits → Record → Record → List (Bool × Refusal) → List (Bool × Refusal)
meeting L a b more =
    (unlawful L a, Unlawful) ∷ (unlawful L b, Unlawful) ∷ (overlap (held a) (held b), Overlap) ∷ (unseen (held a) (held b), Unseen) ∷ more

unfoldable pub joined : Limits → Record → Record → Result Record Refusal
joined L a b =
    let j : Stamp = join (held a) (held b) in
    given L (first (meeting L a b ((many L j, Many) ∷ []))) j

unfoldable pub compared : Limits → Record → Record → Compared
compared L a b = told (first (meeting L a b [])) (compare (held a) (held b))

-- ---- a comparison, and which edits the other copy lacks

-- what m has and n lacks
abbrev pub beyond : Name → Name → Uncovered
beyond m n = record { place = uncovered m n; word = word_of (lacked m n) }

-- "Equal has none, obsolete the second's, newer the first's, conflict both"
abbrev pub placed : Compared → Uncovered → Uncovered → Result Standing Refusal
placed (Ok Verdict.Equal) x y = Ok Standing.Equal
placed (Ok Verdict.Obsolete) x y = Ok (Standing.Obsolete y)
placed (Ok Verdict.Newer) x y = Ok (Standing.Newer x)
placed (Ok Verdict.Conflict) x y = Ok (Standing.Conflict x y)
placed (Err r) x y = Err r

-- what was compared, without the places
abbrev pub verdict_of : Standing → Verdict
verdict_of Standing.Equal = Verdict.Equal
verdict_of (Standing.Obsolete y) = Verdict.Obsolete
verdict_of (Standing.Newer x) = Verdict.Newer
verdict_of (Standing.Conflict x y) = Verdict.Conflict

abbrev pub compared_of : Result Standing Refusal → Compared
compared_of (Ok s) = Ok (verdict_of s)
compared_of (Err r) = Err r

-- two update names that were so compared
abbrev pub stands_as : Compared → Name → Name → Result Standing Refusal
stands_as c u v = placed c (beyond u v) (beyond v u)

unfoldable pub standing : Limits → Record → Record → Result Standing Refusal
standing L a b = stands_as (compared L a b) (held a).update (held b).update
