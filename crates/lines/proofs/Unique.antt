-- Each public contract is an equation for the result and for what was lent, so it leaves one answer. Assumes nothing.
use Rattle.laws.proofs.Library.{refl}
use Rattle.rules.specs.OneAnswer.{OneAnswer}
use Rattle.laws.proofs.Contracts.{agree, both_say}
use Rattle.lines.specs.contracts.begin
use Rattle.lines.specs.contracts.push
use Rattle.lines.specs.contracts.parse
use Rattle.lines.specs.contracts.gather

pub begin_one_answer : OneAnswer begin.ended (λ M 𝓤 𝓛. begin.clauses 𝓛) (λ M 𝓤 𝓛. begin.spec 𝓛)
begin_one_answer M 𝓤 𝓛 mem run = (refl, λ κs a g h r s v w. both_say 𝓤 (λ e f. (agree e f, refl)))

pub push_one_answer : OneAnswer push.ended (λ M 𝓤 𝓛. push.clauses 𝓛) (λ M 𝓤 𝓛. push.spec 𝓛)
push_one_answer M 𝓤 𝓛 mem run = (refl, λ κs a g h r s v w. both_say 𝓤 (λ e f. (agree e f, refl)))

pub parse_one_answer : OneAnswer parse.ended (λ M 𝓤 𝓛. parse.clauses 𝓛) (λ M 𝓤 𝓛. parse.spec 𝓛)
parse_one_answer M 𝓤 𝓛 mem run = (refl, λ κs a g h r s v w. both_say 𝓤 (λ e f. (agree e f, refl)))

pub gather_one_answer : OneAnswer gather.ended (λ M 𝓤 𝓛. gather.clauses 𝓛) (λ M 𝓤 𝓛. gather.spec 𝓛)
gather_one_answer M 𝓤 𝓛 mem run = (refl, λ κs a g h r s v w. both_say 𝓤 (λ e f. (agree e.0 f.0, λ i. (tt, (tt, (agree e.1 f.1 i, tt))))))
