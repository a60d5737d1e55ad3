-- Each public contract is an equation for the result, so it leaves one answer. Assumes nothing.
use Rattle.laws.proofs.Library.{refl}
use Rattle.rules.specs.OneAnswer.{OneAnswer}
use Rattle.laws.proofs.Contracts.{agree, both_say}
use Rattle.slots.specs.contracts.gate
use Rattle.slots.specs.contracts.start
use Rattle.slots.specs.contracts.is_absent
use Rattle.slots.specs.contracts.asked
use Rattle.slots.specs.contracts.update_rule
use Rattle.slots.specs.contracts.fork_rule
use Rattle.slots.specs.contracts.join_rule
use Rattle.slots.specs.contracts.compare_rule

pub gate_one_answer : OneAnswer gate.ended (λ M 𝓤 𝓛. gate.clauses 𝓛) (λ M 𝓤 𝓛. gate.spec 𝓛)
gate_one_answer M 𝓤 𝓛 mem run = (refl, λ κs a g h r s v w. both_say 𝓤 (λ e f. (agree e f, refl)))

pub start_one_answer : OneAnswer start.ended (λ M 𝓤 𝓛. start.clauses 𝓛) (λ M 𝓤 𝓛. start.spec 𝓛)
start_one_answer M 𝓤 𝓛 mem run = (refl, λ κs a g h r s v w. both_say 𝓤 (λ e f. (agree e f, refl)))

pub is_absent_one_answer : OneAnswer is_absent.ended (λ M 𝓤 𝓛. is_absent.clauses 𝓛) (λ M 𝓤 𝓛. is_absent.spec 𝓛)
is_absent_one_answer M 𝓤 𝓛 mem run = (refl, λ κs a g h r s v w. both_say 𝓤 (λ e f. (agree e f, refl)))

pub asked_one_answer : OneAnswer asked.ended (λ M 𝓤 𝓛. asked.clauses 𝓛) (λ M 𝓤 𝓛. asked.spec 𝓛)
asked_one_answer M 𝓤 𝓛 mem run = (refl, λ κs a g h r s v w. both_say 𝓤 (λ e f. (agree e f, refl)))

pub update_rule_one_answer : OneAnswer update_rule.ended (λ M 𝓤 𝓛. update_rule.clauses 𝓛) (λ M 𝓤 𝓛. update_rule.spec 𝓛)
update_rule_one_answer M 𝓤 𝓛 mem run = (refl, λ κs a g h r s v w. both_say 𝓤 (λ e f. (agree e f, refl)))

pub fork_rule_one_answer : OneAnswer fork_rule.ended (λ M 𝓤 𝓛. fork_rule.clauses 𝓛) (λ M 𝓤 𝓛. fork_rule.spec 𝓛)
fork_rule_one_answer M 𝓤 𝓛 mem run = (refl, λ κs a g h r s v w. both_say 𝓤 (λ e f. (agree e f, refl)))

pub join_rule_one_answer : OneAnswer join_rule.ended (λ M 𝓤 𝓛. join_rule.clauses 𝓛) (λ M 𝓤 𝓛. join_rule.spec 𝓛)
join_rule_one_answer M 𝓤 𝓛 mem run = (refl, λ κs a g h r s v w. both_say 𝓤 (λ e f. (agree e f, refl)))

pub compare_rule_one_answer : OneAnswer compare_rule.ended (λ M 𝓤 𝓛. compare_rule.clauses 𝓛) (λ M 𝓤 𝓛. compare_rule.spec 𝓛)
compare_rule_one_answer M 𝓤 𝓛 mem run = (refl, λ κs a g h r s v w. both_say 𝓤 (λ e f. (agree e f, refl)))
