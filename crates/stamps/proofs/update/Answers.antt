-- `stamps::update` meets its contract: a stored id is its own stored shape. Assumes nothing.
use Rattle.laws.proofs.Library.{sym, ◌∙◌}
use Rattle.rules.specs.Limits.{narrow}
use Rattle.rules.specs.Values.{updated}
use Rattle.std.proofs.Common.{rules}
use Rattle.stamps.proofs.Laws.{updated_is, alone_stored}
use Rattle.stamps.proofs.update.Goals as goal

pub returns-in_err-lawful : goal.returns-in_err-lawful
unfolding updated
returns-in_err-lawful c = rw (sym c.lawful.ensures ∙ c.in_err-lawful.was) (search rules)

pub returns : goal.returns
returns c = updated_is narrow c.args.r (alone_stored narrow c.args.r (sym c.lawful.ensures ∙ c.in_ok-lawful.was))
