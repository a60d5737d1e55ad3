-- What is asked of numbers alone, and what the rules make of the records that they are given.
use Rattle.std.specs.Prelude.{Bool, true, false, cond, ◌||◌, List, [], ◌∷◌, ℕ, eqb, leb, ltb, Option, Result}
use Rattle.std.specs.Option.{is_none}
use Rattle.rules.specs.Limits.{narrow, records}
use Rattle.rules.specs.Stamps.{update, fork, join, compare}
use Rattle.rules.specs.Stored.{held, unlawful, absent}
use Rattle.rules.specs.Refusals.{Answer, number, first, long, many, overlap, unseen}
use Rattle.rules.specs.Values.{given, branches, told, stands_as}
use Rattle.rules.specs.declared.Record.{Record}
use Rattle.rules.specs.declared.Branches.{Branches}
use Rattle.rules.specs.declared.Refusal.{Refusal}
use Rattle.rules.specs.declared.Refusal.TheVariants.{Unlawful, NoSlot, OneSlot, Full, Long, Many, Overlap, Unseen, Unfit}
use Rattle.rules.specs.declared.Verdict.{Verdict}
use Rattle.rules.specs.declared.Standing.{Standing}

-- of a table of n records: 12 for the size, then 3 for either slot
unfoldable pub gate : ℕ → ℕ → ℕ → Answer
gate n a b = first ((eqb n 0 || ltb records n, Unfit) ∷ (leb n a || leb n b, NoSlot) ∷ [])

-- a record that a rule on stamps refuses as unlawful, 2, is 12 at the table
abbrev pub refused_at : Refusal → Refusal
refused_at r = cond (eqb (number r) (number Unlawful)) Unfit r

-- what is asked of a slot's record first
abbrev pub slot_tests : Record → List (Bool × Refusal) → List (Bool × Refusal)
slot_tests s more = (absent narrow s, NoSlot) ∷ (unlawful narrow s, Unfit) ∷ more

unfoldable pub update_rule : Record → Result Record Refusal
update_rule s = given narrow (first (slot_tests s [])) (update (held s))

-- to is the lowest absent slot, if there is one
unfoldable pub fork_rule : Record → Option ℕ → Result Branches Refusal
fork_rule s to =
    branches narrow (first (slot_tests s ((is_none to, Full) ∷ (long narrow (held s), Long) ∷ []))) (fork false (held s)) (fork true (held s))

-- what is asked of two slots' records before they are joined
abbrev pub pair_tests : ℕ → ℕ → Record → Record → List (Bool × Refusal) → List (Bool × Refusal)
pair_tests a b s u more = (absent narrow s, NoSlot) ∷ (absent narrow u, NoSlot) ∷ (eqb a b, OneSlot) ∷ more

-- and what of two records that meet
abbrev pub meet_tests : Record → Record → List (Bool × Refusal) → List (Bool × Refusal)
meet_tests s u more =
    (unlawful narrow s, Unfit)
    ∷ (unlawful narrow u, Unfit)
    ∷ (overlap (held s) (held u), Overlap)
    ∷ (unseen (held s) (held u), Unseen)
    ∷ more

-- s and u are the records of slots a and b, of which b's becomes absent
unfoldable pub join_rule : ℕ → ℕ → Record → Record → Result Record Refusal
join_rule a b s u =
    given narrow (first (pair_tests a b s u (meet_tests s u ((many narrow (join (held s) (held u)), Many) ∷ [])))) (join (held s) (held u))

-- a slot is equal to itself, where it has a lawful record
abbrev pub compare_tests : ℕ → ℕ → Record → Record → List (Bool × Refusal)
compare_tests a b s u = cond (eqb a b) (slot_tests s []) ((absent narrow s, NoSlot) ∷ (absent narrow u, NoSlot) ∷ meet_tests s u [])

abbrev pub verdict_of : ℕ → ℕ → Record → Record → Verdict
verdict_of a b s u = cond (eqb a b) Verdict.Equal (compare (held s) (held u))

unfoldable pub compare_rule : ℕ → ℕ → Record → Record → Result Standing Refusal
compare_rule a b s u = stands_as (told (first (compare_tests a b s u)) (verdict_of a b s u)) (held s).update (held u).update
