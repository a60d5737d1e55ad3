-- A refusal's number is small: 1,000 and two digits. Assumes nothing.
use Rattle.laws.proofs.Library.{◌+◌, ◌≤◌, lit≤}
use Rattle.rules.specs.Refusals.{number}
use Rattle.rules.specs.declared.Refusal.{Refusal}
use Rattle.rules.specs.declared.Refusal.TheVariants.{Malformed, Unlawful, NoSlot, OneSlot, Full, Long, Many, Overlap, Unseen, Short, Unread, Unfit, Ended}

-- a refusal's number is small
pub code_few : (r : Refusal) → 1000 + number r ≤ 2000
code_few Malformed = lit≤ tt
code_few Unlawful = lit≤ tt
code_few NoSlot = lit≤ tt
code_few OneSlot = lit≤ tt
code_few Full = lit≤ tt
code_few Long = lit≤ tt
code_few Many = lit≤ tt
code_few Overlap = lit≤ tt
code_few Unseen = lit≤ tt
code_few Short = lit≤ tt
code_few Unread = lit≤ tt
code_few Unfit = lit≤ tt
code_few Ended = lit≤ tt
