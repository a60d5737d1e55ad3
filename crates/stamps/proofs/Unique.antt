-- Each public contract is an equation for the result, so it leaves one answer. Assumes nothing.
use Rattle.laws.proofs.Library.{refl}
use Rattle.rules.specs.OneAnswer.{OneAnswer}
use Rattle.laws.proofs.Contracts.{agree, both_say}
use Rattle.stamps.specs.contracts.blank
use Rattle.stamps.specs.contracts.is_lawful
use Rattle.stamps.specs.contracts.is_lawful_in
use Rattle.stamps.specs.contracts.lawful
use Rattle.stamps.specs.contracts.update
use Rattle.stamps.specs.contracts.fork
use Rattle.stamps.specs.contracts.meet
use Rattle.stamps.specs.contracts.compare

pub blank_one_answer : OneAnswer blank.ended (λ M 𝓤 𝓛. blank.clauses 𝓛) (λ M 𝓤 𝓛. blank.spec 𝓛)
blank_one_answer M 𝓤 𝓛 mem run = (refl, λ κs a g h r s v w. both_say 𝓤 (λ e f. (agree e f, refl)))

pub is_lawful_one_answer : OneAnswer is_lawful.ended (λ M 𝓤 𝓛. is_lawful.clauses 𝓛) (λ M 𝓤 𝓛. is_lawful.spec 𝓛)
is_lawful_one_answer M 𝓤 𝓛 mem run = (refl, λ κs a g h r s v w. both_say 𝓤 (λ e f. (agree e f, refl)))

pub update_one_answer : OneAnswer update.ended (λ M 𝓤 𝓛. update.clauses 𝓛) (λ M 𝓤 𝓛. update.spec 𝓛)
update_one_answer M 𝓤 𝓛 mem run = (refl, λ κs a g h r s v w. both_say 𝓤 (λ e f. (agree e f, refl)))

pub fork_one_answer : OneAnswer fork.ended (λ M 𝓤 𝓛. fork.clauses 𝓛) (λ M 𝓤 𝓛. fork.spec 𝓛)
fork_one_answer M 𝓤 𝓛 mem run = (refl, λ κs a g h r s v w. both_say 𝓤 (λ e f. (agree e f, refl)))

pub meet_one_answer : OneAnswer meet.ended (λ M 𝓤 𝓛. meet.clauses 𝓛) (λ M 𝓤 𝓛. meet.spec 𝓛)
meet_one_answer M 𝓤 𝓛 mem run = (refl, λ κs a g h r s v w. both_say 𝓤 (λ e f. (agree e f, refl)))

pub compare_one_answer : OneAnswer compare.ended (λ M 𝓤 𝓛. compare.clauses 𝓛) (λ M 𝓤 𝓛. compare.spec 𝓛)
compare_one_answer M 𝓤 𝓛 mem run = (refl, λ κs a g h r s v w. both_say 𝓤 (λ e f. (agree e f, refl)))

pub is_lawful_in_one_answer : OneAnswer is_lawful_in.ended (λ M 𝓤 𝓛. is_lawful_in.clauses 𝓛) (λ M 𝓤 𝓛. is_lawful_in.spec 𝓛)
is_lawful_in_one_answer M 𝓤 𝓛 mem run = (refl, λ κs a g h r s v w. both_say 𝓤 (λ e f. (agree e f, refl)))

pub lawful_one_answer : OneAnswer lawful.ended (λ M 𝓤 𝓛. lawful.clauses 𝓛) (λ M 𝓤 𝓛. lawful.spec 𝓛)
lawful_one_answer M 𝓤 𝓛 mem run = (refl, λ κs a g h r s v w. both_say 𝓤 (λ e f. (agree e f, refl)))
