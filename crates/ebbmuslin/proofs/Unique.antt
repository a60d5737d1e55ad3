-- Each public contract is an equation for the result and for what was lent, so it leaves one answer. Assumes nothing.
use Rattle.laws.proofs.Library.{refl}
use Rattle.rules.specs.OneAnswer.{OneAnswer}
use Rattle.laws.proofs.Contracts.{agree, both_say}
use Rattle.ebbmuslin.specs.contracts.ebbmuslin_update
use Rattle.ebbmuslin.specs.contracts.ebbmuslin_fork
use Rattle.ebbmuslin.specs.contracts.ebbmuslin_join
use Rattle.ebbmuslin.specs.contracts.ebbmuslin_compare
use Rattle.ebbmuslin.specs.contracts.ebbmuslin_room

pub ebbmuslin_update_one_answer : OneAnswer ebbmuslin_update.ended (λ M 𝓤 𝓛. ebbmuslin_update.clauses 𝓛) (λ M 𝓤 𝓛. ebbmuslin_update.spec 𝓛)
ebbmuslin_update_one_answer M 𝓤 𝓛 mem run = (refl, λ κs a g h r s v w. both_say 𝓤 (λ e f. (agree e.0 f.0, λ i. (tt, (agree e.1 f.1 i, tt)))))

pub ebbmuslin_fork_one_answer : OneAnswer ebbmuslin_fork.ended (λ M 𝓤 𝓛. ebbmuslin_fork.clauses 𝓛) (λ M 𝓤 𝓛. ebbmuslin_fork.spec 𝓛)
ebbmuslin_fork_one_answer M 𝓤 𝓛 mem run = (refl, λ κs a g h r s v w. both_say 𝓤 (λ e f. (agree e.0 f.0, λ i. (tt, (agree e.1 f.1 i, (agree e.2 f.2 i, tt))))))

pub ebbmuslin_join_one_answer : OneAnswer ebbmuslin_join.ended (λ M 𝓤 𝓛. ebbmuslin_join.clauses 𝓛) (λ M 𝓤 𝓛. ebbmuslin_join.spec 𝓛)
ebbmuslin_join_one_answer M 𝓤 𝓛 mem run = (refl, λ κs a g h r s v w. both_say 𝓤 (λ e f. (agree e.0 f.0, λ i. (tt, (tt, (agree e.1 f.1 i, tt))))))

pub ebbmuslin_compare_one_answer : OneAnswer ebbmuslin_compare.ended (λ M 𝓤 𝓛. ebbmuslin_compare.clauses 𝓛) (λ M 𝓤 𝓛. ebbmuslin_compare.spec 𝓛)
ebbmuslin_compare_one_answer M 𝓤 𝓛 mem run = (refl, λ κs a g h r s v w. both_say 𝓤 (λ e f. (agree e f, refl)))

pub ebbmuslin_room_one_answer : OneAnswer ebbmuslin_room.ended (λ M 𝓤 𝓛. ebbmuslin_room.clauses 𝓛) (λ M 𝓤 𝓛. ebbmuslin_room.spec 𝓛)
ebbmuslin_room_one_answer M 𝓤 𝓛 mem run = (refl, λ κs a g h r s v w. both_say 𝓤 (λ e f. (agree e f, refl)))
