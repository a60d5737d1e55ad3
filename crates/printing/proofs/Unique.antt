-- The public contract is an equation for the result and for what was lent, so it leaves one answer. Assumes nothing.
use Rattle.laws.proofs.Library.{refl}
use Rattle.rules.specs.OneAnswer.{OneAnswer}
use Rattle.laws.proofs.Contracts.{agree, both_say}
use Rattle.printing.specs.contracts.print

pub print_one_answer : OneAnswer print.ended (λ M 𝓤 𝓛. print.clauses 𝓛) (λ M 𝓤 𝓛. print.spec 𝓛)
print_one_answer M 𝓤 𝓛 mem run = (refl, λ κs a g h r s v w. both_say 𝓤 (λ e f. (agree e.0 f.0, λ i. (tt, (agree e.1 f.1 i, tt)))))
