-- What the loop over a buffer's commands comes to from a turn on: a turn leaves it as it was, and at the end it is what the contract says.
-- Assumes nothing.
use Rattle.laws.proofs.Library.{◌≡◌, refl, List, ◌++◌, ℕ, suc, ◌+◌, ◌≤◌, ◌<◌, arith, add-one, append_assoc, append-nil, length, get_or, set, take, drop}
use Rattle.laws.proofs.Library.{drop-cons, drop-set-lt, drop_of_length-le, take_all, take-suc-set}
use Rattle.rules.specs.Limits.{narrow}
use Rattle.rules.specs.Tables.{Table}
use Rattle.rules.specs.Traces.{line_table}
use Rattle.lines.specs.declared.Command.{Command}
use Rattle.lines.specs.Runs.{meant, answer, answered, table_after}

-- the first i commands of the buffer are answered, and the table is t
pub record Runs (commands : List Command) (table : Table) (i : ℕ) (t : Table) (l : List Command) : Type 0 where
  pub left : table_after narrow t (drop i l) ≡ table_after narrow table commands
  pub told : take i l ++ answered narrow t (drop i l) ≡ answered narrow table commands

pub runs_start : (commands : List Command) (table : Table) → Runs commands table 0 table commands
runs_start commands table = record { left = refl; told = refl }

-- the command in place i gives way to its answer
pub runs_step : {commands : List Command} {table t u : Table} {l : List Command} {i : ℕ} (c d : Command) → i < length l → Runs commands table i t l
    → (d ≡ answer narrow t (get_or l i c)) × (u ≡ line_table narrow t (meant (get_or l i c))) → Runs commands table (i + 1) u (set l i d)
unfolding answered table_after
runs_step {commands} {table} {t} {u} {l} {i} c d h r s =
    let here = drop-cons l i c h in
    let behind = drop-set-lt (suc i) l i d (omega arith) in
    record {
      left = rw (add-one i, behind, s.1) (rw here at r.left);
      told = rw (add-one i, take-suc-set l i d h, behind, append_assoc, s.0, s.1) (rw here at r.told);
    }

pub runs_end : {commands : List Command} {table t : Table} {l : List Command} {i : ℕ} → length l ≤ i → Runs commands table i t l
    → (t ≡ table_after narrow table commands) × (l ≡ answered narrow table commands)
unfolding answered table_after
runs_end {commands} {table} {t} {l} {i} h r =
    let end = drop_of_length-le l h in
    (rw end at r.left, rw (end, append-nil, take_all i l h) at r.told)
