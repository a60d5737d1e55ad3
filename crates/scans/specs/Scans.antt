-- What a copy is told beside the record of another slot, by the words that count.
use Rattle.std.specs.Prelude.{Bool, true, false, cond, Result, Ok, Err}
use Rattle.rules.specs.Limits.{narrow}
use Rattle.rules.specs.Stored.{is_stored, absent}
use Rattle.rules.specs.Refusals.{and_then}
use Rattle.rules.specs.declared.Record.{Record}
use Rattle.rules.specs.declared.Standing.{Standing}
use Rattle.rules.specs.declared.Refusal.{Refusal}
use Rattle.rules.specs.declared.Refusal.TheVariants.{Unfit}
use Rattle.walks.specs.Walks.{front, compare_walk}

abbrev pub is_obsolete : Standing → Bool
is_obsolete Standing.Equal = false
is_obsolete (Standing.Obsolete y) = true
is_obsolete (Standing.Newer x) = false
is_obsolete (Standing.Conflict x y) = false

-- whether m, which is lawful, is obsolete relative to r; no copy makes it so, and 12 where r is unlawful
unfoldable pub obsolete_beside : Record → Record → Result Bool Refusal
obsolete_beside m r =
    cond (absent narrow r) (Ok false)
    (cond (is_stored narrow r)
    (and_then (compare_walk (front m.update) (front m.id) (front r.update) (front r.id)) (λ s. Ok (is_obsolete s)))
    (Err Unfit))
