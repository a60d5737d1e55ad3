-- Each public contract is an equation for the result and for what was lent, so it leaves one answer. Assumes nothing.
use Rattle.laws.proofs.Library.{refl}
use Rattle.rules.specs.OneAnswer.{OneAnswer}
use Rattle.laws.proofs.Contracts.{agree, both_say}
use Rattle.packed.specs.contracts.read
use Rattle.packed.specs.contracts.write

pub read_one_answer : OneAnswer read.ended (λ M 𝓤 𝓛. read.clauses 𝓛) (λ M 𝓤 𝓛. read.spec 𝓛)
read_one_answer M 𝓤 𝓛 mem run = (refl, λ κs a g h r s v w. both_say 𝓤 (λ e f. (agree e f, refl)))

pub write_one_answer : OneAnswer write.ended (λ M 𝓤 𝓛. write.clauses 𝓛) (λ M 𝓤 𝓛. write.spec 𝓛)
write_one_answer M 𝓤 𝓛 mem run = (refl, λ κs a g h r s v w. both_say 𝓤 (λ e f. (agree e.0 f.0, λ i. (tt, (agree e.1 f.1 i, tt)))))
