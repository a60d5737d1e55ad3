-- The public contract is an equation for the result and for what was lent, so it leaves one answer. Assumes nothing.
use Rattle.laws.proofs.Library.{refl}
use Rattle.rules.specs.OneAnswer.{OneAnswer}
use Rattle.laws.proofs.Contracts.{agree, both_say}
use Rattle.unions.specs.contracts.join

pub join_one_answer : OneAnswer join.ended (λ M 𝓤 𝓛. join.clauses 𝓛) (λ M 𝓤 𝓛. join.spec 𝓛)
join_one_answer M 𝓤 𝓛 mem run =
    (refl, λ κs a g h r s v w. both_say 𝓤 (λ e f. (agree e.0 f.0, λ i. (tt, (tt, (agree e.1 f.1 i, (agree e.2 f.2 i, tt)))))))
