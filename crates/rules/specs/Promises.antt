-- What is promised of the definitions, as propositions: a definition claims nothing, and docs/CONTRACTS.md says which are proved.
use Rattle.std.specs.Prelude.{◌≡◌, true, false, cond, List, map, ℕ, ◌≤◌, ltb, length, Ok, Err}
use Rattle.rules.specs.Limits.{Limits, records}
use Rattle.rules.specs.Strings.{Str, prefix, whole}
use Rattle.rules.specs.Names.{all, member, below, unions}
use Rattle.rules.specs.Stamps.{Stamp, lawful}
use Rattle.rules.specs.Stored.{stored, held, is_stored}
use Rattle.rules.specs.Refusals.{number}
use Rattle.rules.specs.Values.{Compared}
use Rattle.rules.specs.Packed.{packed, read_stamp}
use Rattle.rules.specs.Tables.{Table, Slot, Sparing, at, stamp_at, bad_size, present, make_fresh, update_at, fork_at, join_at, compare_at, spare_at}
use Rattle.rules.specs.Histories.{Call, World, events_at, events_of, within, event_verdict, is_behind, sum_table, history, calls_table, beside}
use Rattle.rules.specs.declared.Refusal.{Refusal}
use Rattle.rules.specs.declared.Record.{Record}
use Rattle.rules.specs.declared.Spared.TheVariants.{Spare, Kept}

-- ---- demand 2

-- "write then read gives the stamp back"
abbrev pub WriteRead : Limits → Type 0
WriteRead L = (s : Stamp) → lawful L s ≡ true → read_stamp L (packed L s) ≡ Ok (stored L s)

-- "for all accepted bytes read then write gives the bytes back"
abbrev pub ReadWrite : Limits → Type 0
ReadWrite L = (b : List ℕ) (r : Record) → all (λ x. ltb x 256) b ≡ true → read_stamp L b ≡ Ok r → packed L (held r) ≡ b

-- ---- demand 3

-- this refusal has none of the numbers that such a table never gives
abbrev pub Usual : Refusal → Type 0
Usual r = (number r ≡ 8 → ⊥) × (number r ≡ 9 → ⊥) × (number r ≡ 12 → ⊥)

abbrev pub UsualSlot : Slot → Type 0
UsualSlot (Ok a) = Unit {0}
UsualSlot (Err r) = Usual r

abbrev pub UsualCompared : Compared → Type 0
UsualCompared (Ok v) = Unit {0}
UsualCompared (Err r) = Usual r

abbrev pub UsualSpared : Sparing → Type 0
UsualSpared (Ok s) = Unit {0}
UsualSpared (Err r) = Usual r

-- every slot of S holds a copy
abbrev pub AllPresent : Limits → Table → List ℕ → Type 0
AllPresent L t S = all (present L t) S ≡ true

-- what holds of a table and its events
pub record Right (L : Limits) (w : World) : Type 0 where
  -- "any two present copies compare exactly as their event sets do by inclusion"
  pub verdicts : (a b : ℕ) → present L w.table a ≡ true → present L w.table b ≡ true
      → compare_at L w.table a b ≡ Ok (event_verdict (events_at w a) (events_at w b))
  -- "and spare answers as the event sets say"
  pub spares : (a : ℕ) → present L w.table a ≡ true → spare_at L w.table a ≡ cond (is_behind L w a) (Ok Spare) (Ok Kept)
  -- Proposition 5.1: events lie within those of a set of copies exactly when the update name is below the union of theirs
  pub unions_too : (a : ℕ) (S : List ℕ) → present L w.table a ≡ true → AllPresent L w.table S → 1 ≤ length S
      → within (events_at w a) (events_of w S) ≡ below (stamp_at w.table a).update (unions (map (λ b. (stamp_at w.table b).update) S))
  -- "no id string is a prefix of another, in one copy or across two"
  pub apart : (a b : ℕ) (s t : Str) → present L w.table a ≡ true → present L w.table b ≡ true
      → member s (stamp_at w.table a).id ≡ true → member t (stamp_at w.table b).id ≡ true → prefix s t ≡ true → (a ≡ b) × (s ≡ t)
  -- "the shares add up to exactly one"
  pub shares : sum_table L.digits w.table ≡ whole L.digits
  -- "every present record is the stored shape of a lawful stamp"
  pub shapes : (a : ℕ) → present L w.table a ≡ true → is_stored L (at w.table a) ≡ true
  -- "8, 9 and 12 never occur"
  pub usual_update : (a : ℕ) → UsualSlot (update_at L w.table a).answer
  pub usual_fork : (a : ℕ) → UsualSlot (fork_at L w.table a).answer
  pub usual_join : (a b : ℕ) → UsualSlot (join_at L w.table a b).answer
  pub usual_compare : (a b : ℕ) → UsualCompared (compare_at L w.table a b)
  pub usual_spare : (a : ℕ) → UsualSpared (spare_at L w.table a)

-- "On a table made fresh, after any sequence of update, fork, join and compare calls, accepted or refused"
abbrev pub EveryHistory : Limits → Type 0
EveryHistory L = (n : ℕ) (cs : List Call) → 1 ≤ n → n ≤ records → Right L (history L n cs)

-- the records themselves: `make_fresh` of a run of 1 to 32 records answers slot 0, and from there calls leave the table of their history
abbrev pub MadeByCalls : Limits → Type 0
MadeByCalls L = (t : Table) → bad_size t ≡ false
    → ((make_fresh L t).answer ≡ Ok 0) × ((cs : List Call) → calls_table L (make_fresh L t).table cs ≡ (history L (length t) cs).table)

-- so demand 3 is true of the records that any such calls leave, whatever the run held before
abbrev pub RightByCalls : Limits → Type 0
RightByCalls L = (t : Table) (cs : List Call) → bad_size t ≡ false → Right L (beside (calls_table L (make_fresh L t).table cs) (history L (length t) cs))
