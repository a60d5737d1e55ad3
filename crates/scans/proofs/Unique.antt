-- Each public contract is an equation for the result, so it leaves one answer. Assumes nothing.
use Rattle.laws.proofs.Library.{refl}
use Rattle.rules.specs.OneAnswer.{OneAnswer}
use Rattle.laws.proofs.Contracts.{agree, both_say}
use Rattle.scans.specs.contracts.lowest_absent
use Rattle.scans.specs.contracts.spare_in

pub lowest_absent_one_answer : OneAnswer lowest_absent.ended (λ M 𝓤 𝓛. lowest_absent.clauses 𝓛) (λ M 𝓤 𝓛. lowest_absent.spec 𝓛)
lowest_absent_one_answer M 𝓤 𝓛 mem run = (refl, λ κs a g h r s v w. both_say 𝓤 (λ e f. (agree e f, refl)))

pub spare_in_one_answer : OneAnswer spare_in.ended (λ M 𝓤 𝓛. spare_in.clauses 𝓛) (λ M 𝓤 𝓛. spare_in.spec 𝓛)
spare_in_one_answer M 𝓤 𝓛 mem run = (refl, λ κs a g h r s v w. both_say 𝓤 (λ e f. (agree e f, refl)))
