-- Each public contract is an equation for the result and for what was lent, so it leaves one answer. Assumes nothing.
use Rattle.laws.proofs.Library.{refl}
use Rattle.rules.specs.OneAnswer.{OneAnswer}
use Rattle.laws.proofs.Contracts.{agree, both_say}
use Rattle.inputs.specs.contracts.start
use Rattle.inputs.specs.contracts.feed
use Rattle.inputs.specs.contracts.close

pub start_one_answer : OneAnswer start.ended (λ M 𝓤 𝓛. start.clauses 𝓛) (λ M 𝓤 𝓛. start.spec 𝓛)
start_one_answer M 𝓤 𝓛 mem run = (refl, λ κs a g h r s v w. both_say 𝓤 (λ e f. (agree e f, refl)))

pub feed_one_answer : OneAnswer feed.ended (λ M 𝓤 𝓛. feed.clauses 𝓛) (λ M 𝓤 𝓛. feed.spec 𝓛)
feed_one_answer M 𝓤 𝓛 mem run =
    (refl, λ κs a g h r s v w. both_say 𝓤 (λ e f. (agree e.0 f.0, λ i. (tt, (tt, (agree e.1 f.1 i, tt))))))

pub close_one_answer : OneAnswer close.ended (λ M 𝓤 𝓛. close.clauses 𝓛) (λ M 𝓤 𝓛. close.spec 𝓛)
close_one_answer M 𝓤 𝓛 mem run =
    (refl, λ κs a g h r s v w. both_say 𝓤 (λ e f. (agree e.0 f.0, λ i. (tt, (agree e.1 f.1 i, tt)))))
