-- Each public contract is an equation for the result, so it leaves one answer. Assumes nothing.
use Rattle.laws.proofs.Library.{refl}
use Rattle.rules.specs.OneAnswer.{OneAnswer}
use Rattle.laws.proofs.Contracts.{agree, both_say}
use Rattle.bundles.specs.contracts.entry

pub entry_one_answer : OneAnswer entry.ended (λ M 𝓤 𝓛. entry.clauses 𝓛) (λ M 𝓤 𝓛. entry.spec 𝓛)
entry_one_answer M 𝓤 𝓛 mem run = (refl, λ κs a g h r s v w. both_say 𝓤 (λ e f. (agree e f, refl)))
