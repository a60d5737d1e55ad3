-- `lawful` meets its contract: it refuses what `is_lawful_in` says no to. Assumes nothing.
use Rattle.rules.specs.Refusals.{first}
use Rattle.rules.specs.Stored.{unlawful}
use Rattle.stamps.proofs.lawful.Goals as goal

pub returns-then-is_lawful_in : goal.returns-then-is_lawful_in
unfolding first unlawful
returns-then-is_lawful_in c = rw (← c.if-is_lawful_in.ensures)

pub returns-else-is_lawful_in : goal.returns-else-is_lawful_in
unfolding first unlawful
returns-else-is_lawful_in c = rw (← c.if-is_lawful_in.ensures)
