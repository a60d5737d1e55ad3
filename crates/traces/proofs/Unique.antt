-- Each public contract is an equation for the result and for what was lent, so it leaves one answer. Assumes nothing.
use Rattle.laws.proofs.Library.{refl}
use Rattle.rules.specs.OneAnswer.{OneAnswer}
use Rattle.laws.proofs.Contracts.{agree, both_say}
use Rattle.traces.specs.contracts.serve
use Rattle.traces.specs.contracts.run
use Rattle.traces.specs.contracts.fresh_in

pub serve_one_answer : OneAnswer serve.ended (λ M 𝓤 𝓛. serve.clauses 𝓛) (λ M 𝓤 𝓛. serve.spec 𝓛)
serve_one_answer M 𝓤 𝓛 mem run = (refl, λ κs a g h r s v w. both_say 𝓤 (λ e f. (agree e.0 f.0, λ i. (agree e.1 f.1 i, (tt, tt)))))

pub run_one_answer : OneAnswer run.ended (λ M 𝓤 𝓛. run.clauses 𝓛) (λ M 𝓤 𝓛. run.spec 𝓛)
run_one_answer M 𝓤 𝓛 mem run = (refl, λ κs a g h r s v w. both_say 𝓤 (λ e f. (agree e.0 f.0, λ i. (agree e.1 f.1 i, (tt, tt)))))

pub fresh_in_one_answer : OneAnswer fresh_in.ended (λ M 𝓤 𝓛. fresh_in.clauses 𝓛) (λ M 𝓤 𝓛. fresh_in.spec 𝓛)
fresh_in_one_answer M 𝓤 𝓛 mem run = (refl, λ κs a g h r s v w. both_say 𝓤 (λ e f. (agree e f, refl)))
