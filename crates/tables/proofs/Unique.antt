-- Each public contract is an equation for the result and for what was lent, so it leaves one answer. Assumes nothing.
use Rattle.laws.proofs.Library.{refl}
use Rattle.rules.specs.OneAnswer.{OneAnswer}
use Rattle.laws.proofs.Contracts.{agree, both_say}
use Rattle.tables.specs.contracts.fresh
use Rattle.tables.specs.contracts.update
use Rattle.tables.specs.contracts.fork
use Rattle.tables.specs.contracts.join
use Rattle.tables.specs.contracts.compare
use Rattle.tables.specs.contracts.spare

pub fresh_one_answer : OneAnswer fresh.ended (λ M 𝓤 𝓛. fresh.clauses 𝓛) (λ M 𝓤 𝓛. fresh.spec 𝓛)
fresh_one_answer M 𝓤 𝓛 mem run = (refl, λ κs a g h r s v w. both_say 𝓤 (λ e f. (agree e.0 f.0, λ i. (agree e.1 f.1 i, tt))))

pub update_one_answer : OneAnswer update.ended (λ M 𝓤 𝓛. update.clauses 𝓛) (λ M 𝓤 𝓛. update.spec 𝓛)
update_one_answer M 𝓤 𝓛 mem run = (refl, λ κs a g h r s v w. both_say 𝓤 (λ e f. (agree e.0 f.0, λ i. (agree e.1 f.1 i, (tt, tt)))))

pub fork_one_answer : OneAnswer fork.ended (λ M 𝓤 𝓛. fork.clauses 𝓛) (λ M 𝓤 𝓛. fork.spec 𝓛)
fork_one_answer M 𝓤 𝓛 mem run = (refl, λ κs a g h r s v w. both_say 𝓤 (λ e f. (agree e.0 f.0, λ i. (agree e.1 f.1 i, (tt, tt)))))

pub join_one_answer : OneAnswer join.ended (λ M 𝓤 𝓛. join.clauses 𝓛) (λ M 𝓤 𝓛. join.spec 𝓛)
join_one_answer M 𝓤 𝓛 mem run = (refl, λ κs a g h r s v w. both_say 𝓤 (λ e f. (agree e.0 f.0, λ i. (agree e.1 f.1 i, (tt, (tt, tt))))))

pub compare_one_answer : OneAnswer compare.ended (λ M 𝓤 𝓛. compare.clauses 𝓛) (λ M 𝓤 𝓛. compare.spec 𝓛)
compare_one_answer M 𝓤 𝓛 mem run = (refl, λ κs a g h r s v w. both_say 𝓤 (λ e f. (agree e f, refl)))

pub spare_one_answer : OneAnswer spare.ended (λ M 𝓤 𝓛. spare.clauses 𝓛) (λ M 𝓤 𝓛. spare.spec 𝓛)
spare_one_answer M 𝓤 𝓛 mem run = (refl, λ κs a g h r s v w. both_say 𝓤 (λ e f. (agree e f, refl)))
