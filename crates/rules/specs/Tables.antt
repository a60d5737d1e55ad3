-- "The table of copies": a run of records, and what each call answers and leaves in every record.
-- "Order on tables: 12 for size, 3 first slot, 3 second, 4, 12 first stamp, 12 second, 8, 9, 5, 6, 7."
use Rattle.std.specs.Prelude.{Bool, true, false, cond, not, ◌&&◌, ◌||◌, List, [], ◌∷◌, ℕ, zero, suc, ◌+◌, eqb, leb, ltb, length, get_or, set, replicate, Result, Ok, Err}
use Rattle.rules.specs.Limits.{Limits, records}
use Rattle.rules.specs.Stamps.{Stamp, start, update, fork, join, compare}
use Rattle.rules.specs.Stored.{stored, held, unlawful, blank, absent}
use Rattle.rules.specs.Refusals.{Answer, number, first, long, many, overlap, unseen}
use Rattle.rules.specs.Values.{Compared, told, stands_as}
use Rattle.rules.specs.Packed.{written_number}
use Rattle.rules.specs.declared.Record.{Record}
use Rattle.rules.specs.declared.Verdict.{Verdict}
use Rattle.rules.specs.declared.Refusal.{Refusal}
use Rattle.rules.specs.declared.Refusal.TheVariants.{NoSlot, OneSlot, Full, Long, Many, Overlap, Unseen, Unfit}
use Rattle.rules.specs.declared.Standing.{Standing}
use Rattle.rules.specs.declared.Spared.{Spared}
use Rattle.rules.specs.declared.Spared.TheVariants.{Spare, Kept}

abbrev pub Table : Type 0
Table = List Record

-- record a; behind the last there is nothing
abbrev pub outside : Record
outside = record { update = record { count = 0; words = [] }; id = record { count = 0; words = [] } }

abbrev pub at : Table → ℕ → Record
at t a = get_or t a outside

-- the stamp in slot a
abbrev pub stamp_at : Table → ℕ → Stamp
stamp_at t a = held (at t a)

-- 12: "table of no records, or of more than 32"
unfoldable pub bad_size : Table → Bool
bad_size t = eqb (length t) 0 || ltb records (length t)

-- 3: "slot number not below the table's size, or slot absent"
unfoldable pub no_slot : Limits → Table → ℕ → Bool
no_slot L t a = leb (length t) a || absent L (at t a)

abbrev pub present : Limits → Table → ℕ → Bool
present L t a = not (no_slot L t a)

-- the lowest absent slot; the table's size where none is
unfoldable pub lowest : Limits → Table → ℕ
lowest L [] = zero
lowest L (r ∷ t) = cond (absent L r) zero (suc (lowest L t))

-- 5: "fork, and no slot is absent"
unfoldable pub full : Limits → Table → Bool
full L t = eqb (lowest L t) (length t)

-- the slot that a call names: its own, or for a fork the new one
abbrev pub Slot : Type 0
Slot = Result ℕ Refusal

-- a call's answer, and what every record holds afterwards
pub record Step : Type 0 where
  pub answer : Slot
  pub table : Table

-- "every record and byte stays" on refusal
abbrev pub stepped : Answer → ℕ → Table → Table → Step
stepped (Ok x) a old new = record { answer = Ok a; table = new }
stepped (Err r) a old new = record { answer = Err r; table = old }

-- "A fresh table has [e|e] in slot 0 and nothing else"
unfoldable pub fresh_table : Limits → ℕ → Table
fresh_table L n = set (replicate n (blank L)) 0 (stored L start)

unfoldable pub make_fresh : Limits → Table → Step
make_fresh L t = stepped (first ((bad_size t, Unfit) ∷ [])) 0 t (fresh_table L (length t))

-- what every call with one slot asks of it first
abbrev pub one_slot : Limits → Table → ℕ → List (Bool × Refusal) → List (Bool × Refusal)
one_slot L t a more = (bad_size t, Unfit) ∷ (no_slot L t a, NoSlot) ∷ (unlawful L (at t a), Unfit) ∷ more

-- "Update keeps the slot"
unfoldable pub update_at : Limits → Table → ℕ → Step
update_at L t a = stepped (first (one_slot L t a [])) a t (set t a (stored L (update (stamp_at t a))))

-- "Fork leaves the 0 branch in the slot named and puts the 1 branch into the lowest absent slot"
unfoldable pub fork_at : Limits → Table → ℕ → Step
fork_at L t a =
    let b : ℕ = lowest L t in
    stepped (first (one_slot L t a ((full L t, Full) ∷ (long L (stamp_at t a), Long) ∷ []))) b t
    (set (set t a (stored L (fork false (stamp_at t a)))) b (stored L (fork true (stamp_at t a))))

-- "Join leaves its result in the first slot named, and the second becomes absent"
unfoldable pub join_at : Limits → Table → ℕ → ℕ → Step
join_at L t a b =
    let j : Stamp = join (stamp_at t a) (stamp_at t b) in
    stepped
    (first
    ((bad_size t, Unfit)
    ∷ (no_slot L t a, NoSlot)
    ∷ (no_slot L t b, NoSlot)
    ∷ (eqb a b, OneSlot)
    ∷ (unlawful L (at t a), Unfit)
    ∷ (unlawful L (at t b), Unfit)
    ∷ (overlap (stamp_at t a) (stamp_at t b), Overlap)
    ∷ (unseen (stamp_at t a) (stamp_at t b), Unseen)
    ∷ (many L j, Many)
    ∷ []))
    a
    t
    (set (set t a (stored L j)) b (blank L))

-- "A table compare of a slot with itself is equal": 8 and 9 are of two different slots
unfoldable pub compare_at : Limits → Table → ℕ → ℕ → Compared
compare_at L t a b =
    told
    (first
    ((bad_size t, Unfit)
    ∷ (no_slot L t a, NoSlot)
    ∷ (no_slot L t b, NoSlot)
    ∷ (unlawful L (at t a), Unfit)
    ∷ (unlawful L (at t b), Unfit)
    ∷ (not (eqb a b) && overlap (stamp_at t a) (stamp_at t b), Overlap)
    ∷ (not (eqb a b) && unseen (stamp_at t a) (stamp_at t b), Unseen)
    ∷ []))
    (compare (stamp_at t a) (stamp_at t b))

unfoldable pub standing_at : Limits → Table → ℕ → ℕ → Result Standing Refusal
standing_at L t a b = stands_as (compare_at L t a b) (stamp_at t a).update (stamp_at t b).update

-- whether a copy may go
abbrev pub Sparing : Type 0
Sparing = Result Spared Refusal

-- one pair: "the first obsolete verdict gives yes, the first refusal is the result"
abbrev pub or_next : Answer → Verdict → Sparing → Sparing
or_next (Ok x) Verdict.Obsolete next = Ok Spare
or_next (Ok x) Verdict.Equal next = next
or_next (Ok x) Verdict.Newer next = next
or_next (Ok x) Verdict.Conflict next = next
or_next (Err r) v next = Err r

-- s, of slot a, against the records from slot b on: "in rising order, skipping a and absent ones"
unfoldable pub spare_from : Limits → Stamp → ℕ → ℕ → Table → Sparing
spare_from L s a b [] = Ok Kept
spare_from L s a b (r ∷ t) =
    let next : Sparing = spare_from L s a (suc b) t in
    cond (eqb a b || absent L r) next
    (or_next (first ((unlawful L r, Unfit) ∷ (overlap s (held r), Overlap) ∷ (unseen s (held r), Unseen) ∷ [])) (compare s (held r)) next)

abbrev pub spared_after : Answer → Sparing → Sparing
spared_after (Ok x) s = s
spared_after (Err r) s = Err r

-- "Slot a is spare when it is obsolete relative to some other present slot"
unfoldable pub spare_at : Limits → Table → ℕ → Sparing
spare_at L t a = spared_after (first (one_slot L t a [])) (spare_from L (stamp_at t a) a 0 t)

-- ---- the answers as numbers: the slot, 0 kept and 1 spare; a refusal is 1,000 plus its number

abbrev pub slot_number : Slot → ℕ
slot_number = written_number

abbrev pub spare_number : Spared → ℕ
spare_number Kept = 0
spare_number Spare = 1

abbrev pub spared_number : Sparing → ℕ
spared_number (Ok s) = spare_number s
spared_number (Err r) = 1000 + number r
