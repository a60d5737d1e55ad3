-- Each public contract is an equation for the result, so it leaves one answer. Assumes nothing.
use Rattle.laws.proofs.Library.{refl}
use Rattle.rules.specs.OneAnswer.{OneAnswer}
use Rattle.laws.proofs.Contracts.{agree, both_say}
use Rattle.strings.specs.contracts.shared
use Rattle.strings.specs.contracts.begins
use Rattle.strings.specs.contracts.precedes
use Rattle.strings.specs.contracts.are_siblings
use Rattle.strings.specs.contracts.is_word

pub shared_one_answer : OneAnswer shared.ended (λ M 𝓤 𝓛. shared.clauses 𝓛) (λ M 𝓤 𝓛. shared.spec 𝓛)
shared_one_answer M 𝓤 𝓛 mem run = (refl, λ κs a g h r s v w. both_say 𝓤 (λ e f. (agree e f, refl)))

pub begins_one_answer : OneAnswer begins.ended (λ M 𝓤 𝓛. begins.clauses 𝓛) (λ M 𝓤 𝓛. begins.spec 𝓛)
begins_one_answer M 𝓤 𝓛 mem run = (refl, λ κs a g h r s v w. both_say 𝓤 (λ e f. (agree e f, refl)))

pub are_siblings_one_answer : OneAnswer are_siblings.ended (λ M 𝓤 𝓛. are_siblings.clauses 𝓛) (λ M 𝓤 𝓛. are_siblings.spec 𝓛)
are_siblings_one_answer M 𝓤 𝓛 mem run = (refl, λ κs a g h r s v w. both_say 𝓤 (λ e f. (agree e f, refl)))

pub is_word_one_answer : OneAnswer is_word.ended (λ M 𝓤 𝓛. is_word.clauses 𝓛) (λ M 𝓤 𝓛. is_word.spec 𝓛)
is_word_one_answer M 𝓤 𝓛 mem run = (refl, λ κs a g h r s v w. both_say 𝓤 (λ e f. (agree e f, refl)))

pub precedes_one_answer : OneAnswer precedes.ended (λ M 𝓤 𝓛. precedes.clauses 𝓛) (λ M 𝓤 𝓛. precedes.spec 𝓛)
precedes_one_answer M 𝓤 𝓛 mem run = (refl, λ κs a g h r s v w. both_say 𝓤 (λ e f. (agree e f, refl)))
