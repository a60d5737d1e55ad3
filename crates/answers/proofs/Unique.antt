-- Each public contract is an equation for the result, so it leaves one answer. Assumes nothing.
use Rattle.laws.proofs.Library.{refl}
use Rattle.rules.specs.OneAnswer.{OneAnswer}
use Rattle.laws.proofs.Contracts.{agree, both_say}
use Rattle.answers.specs.contracts.refusal_code
use Rattle.answers.specs.contracts.compared_code
use Rattle.answers.specs.contracts.written_code
use Rattle.answers.specs.contracts.spared_code

pub refusal_code_one_answer : OneAnswer refusal_code.ended (λ M 𝓤 𝓛. refusal_code.clauses 𝓛) (λ M 𝓤 𝓛. refusal_code.spec 𝓛)
refusal_code_one_answer M 𝓤 𝓛 mem run = (refl, λ κs a g h r s v w. both_say 𝓤 (λ e f. (agree e f, refl)))

pub compared_code_one_answer : OneAnswer compared_code.ended (λ M 𝓤 𝓛. compared_code.clauses 𝓛) (λ M 𝓤 𝓛. compared_code.spec 𝓛)
compared_code_one_answer M 𝓤 𝓛 mem run = (refl, λ κs a g h r s v w. both_say 𝓤 (λ e f. (agree e f, refl)))

pub written_code_one_answer : OneAnswer written_code.ended (λ M 𝓤 𝓛. written_code.clauses 𝓛) (λ M 𝓤 𝓛. written_code.spec 𝓛)
written_code_one_answer M 𝓤 𝓛 mem run = (refl, λ κs a g h r s v w. both_say 𝓤 (λ e f. (agree e f, refl)))

pub spared_code_one_answer : OneAnswer spared_code.ended (λ M 𝓤 𝓛. spared_code.clauses 𝓛) (λ M 𝓤 𝓛. spared_code.spec 𝓛)
spared_code_one_answer M 𝓤 𝓛 mem run = (refl, λ κs a g h r s v w. both_say 𝓤 (λ e f. (agree e f, refl)))
