-- `traces::fresh_in` meets its contract: a table of 32 records is of an allowed size. Assumes nothing.
use Rattle.laws.proofs.Library.{◌≡◌, refl, ◌∙◌, length}
use Rattle.rules.specs.Limits.{narrow, records}
use Rattle.rules.specs.Refusals.{first}
use Rattle.rules.specs.Tables.{Table, bad_size, fresh_table, make_fresh}
use Rattle.traces.proofs.fresh_in.Goals as goal

all_filled : (t : Table) → length t ≡ 32 → (make_fresh narrow t).table ≡ fresh_table narrow records
unfolding make_fresh bad_size first
all_filled t e = rw e

pub returns : goal.returns
returns c = record { fresh = c.fresh.ensures.1 ∙ all_filled _ refl }
