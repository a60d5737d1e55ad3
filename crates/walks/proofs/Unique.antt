-- Each public contract is an equation for the result and for what was lent, so it leaves one answer. Assumes nothing.
use Rattle.laws.proofs.Library.{refl}
use Rattle.rules.specs.OneAnswer.{OneAnswer}
use Rattle.laws.proofs.Contracts.{agree, both_say}
use Rattle.walks.specs.contracts.meet
use Rattle.walks.specs.contracts.compare
use Rattle.walks.specs.contracts.is_below
use Rattle.walks.specs.contracts.uncovered
use Rattle.walks.specs.contracts.is_overlapping
use Rattle.walks.specs.contracts.has_twins
use Rattle.walks.specs.contracts.is_long

pub meet_one_answer : OneAnswer meet.ended (λ M 𝓤 𝓛. meet.clauses 𝓛) (λ M 𝓤 𝓛. meet.spec 𝓛)
meet_one_answer M 𝓤 𝓛 mem run = (refl, λ κs a g h r s v w. both_say 𝓤 (λ e f. (agree e f, refl)))

pub compare_one_answer : OneAnswer compare.ended (λ M 𝓤 𝓛. compare.clauses 𝓛) (λ M 𝓤 𝓛. compare.spec 𝓛)
compare_one_answer M 𝓤 𝓛 mem run = (refl, λ κs a g h r s v w. both_say 𝓤 (λ e f. (agree e f, refl)))

pub is_below_one_answer : OneAnswer is_below.ended (λ M 𝓤 𝓛. is_below.clauses 𝓛) (λ M 𝓤 𝓛. is_below.spec 𝓛)
is_below_one_answer M 𝓤 𝓛 mem run = (refl, λ κs a g h r s v w. both_say 𝓤 (λ e f. (agree e f, refl)))

pub uncovered_one_answer : OneAnswer uncovered.ended (λ M 𝓤 𝓛. uncovered.clauses 𝓛) (λ M 𝓤 𝓛. uncovered.spec 𝓛)
uncovered_one_answer M 𝓤 𝓛 mem run = (refl, λ κs a g h r s v w. both_say 𝓤 (λ e f. (agree e f, refl)))

pub is_overlapping_one_answer : OneAnswer is_overlapping.ended (λ M 𝓤 𝓛. is_overlapping.clauses 𝓛) (λ M 𝓤 𝓛. is_overlapping.spec 𝓛)
is_overlapping_one_answer M 𝓤 𝓛 mem run = (refl, λ κs a g h r s v w. both_say 𝓤 (λ e f. (agree e f, refl)))

pub has_twins_one_answer : OneAnswer has_twins.ended (λ M 𝓤 𝓛. has_twins.clauses 𝓛) (λ M 𝓤 𝓛. has_twins.spec 𝓛)
has_twins_one_answer M 𝓤 𝓛 mem run = (refl, λ κs a g h r s v w. both_say 𝓤 (λ e f. (agree e f, refl)))

pub is_long_one_answer : OneAnswer is_long.ended (λ M 𝓤 𝓛. is_long.clauses 𝓛) (λ M 𝓤 𝓛. is_long.spec 𝓛)
is_long_one_answer M 𝓤 𝓛 mem run = (refl, λ κs a g h r s v w. both_say 𝓤 (λ e f. (agree e f, refl)))
