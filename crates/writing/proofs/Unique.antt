-- Each public contract is an equation for the result and for what was lent, so it leaves one answer. Assumes nothing.
use Rattle.laws.proofs.Library.{refl}
use Rattle.rules.specs.OneAnswer.{OneAnswer}
use Rattle.laws.proofs.Contracts.{agree, both_say}
use Rattle.writing.specs.contracts.write_from
use Rattle.writing.specs.contracts.write_both
use Rattle.writing.specs.contracts.size_of

pub write_from_one_answer : OneAnswer write_from.ended (λ M 𝓤 𝓛. write_from.clauses 𝓛) (λ M 𝓤 𝓛. write_from.spec 𝓛)
write_from_one_answer M 𝓤 𝓛 mem run =
    (refl, λ κs a g h r s v w. both_say 𝓤 (λ e f. (agree e.0 f.0, λ i. (tt, (agree e.1 f.1 i, tt)))))

pub write_both_one_answer : OneAnswer write_both.ended (λ M 𝓤 𝓛. write_both.clauses 𝓛) (λ M 𝓤 𝓛. write_both.spec 𝓛)
write_both_one_answer M 𝓤 𝓛 mem run =
    (refl, λ κs a g h r s v w. both_say 𝓤 (λ e f. (agree e.0 f.0, λ i. (tt, (tt, (tt, (agree e.1 f.1 i, (agree e.2 f.2 i, tt))))))))

pub size_of_one_answer : OneAnswer size_of.ended (λ M 𝓤 𝓛. size_of.clauses 𝓛) (λ M 𝓤 𝓛. size_of.spec 𝓛)
size_of_one_answer M 𝓤 𝓛 mem run = (refl, λ κs a g h r s v w. both_say 𝓤 (λ e f. (agree e f, refl)))
