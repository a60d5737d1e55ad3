-- Each public contract is an equation for the result and for what was lent, so it leaves one answer. Assumes nothing.
-- `counted` gives back a part of a slice: the contract fixes its place and its words, not the name that the checker gives it.
use Rattle.laws.proofs.Library.{refl, List, ℕ}
use Rattle.rules.specs.OneAnswer.{OneAnswer, OneSeen}
use Rattle.laws.proofs.Contracts.{agree, both_say}
use Rattle.names.specs.contracts.is_name_in
use Rattle.names.specs.contracts.counted
use Rattle.names.specs.contracts.lent
use Rattle.names.specs.contracts.grow
use Rattle.names.specs.contracts.is_zero_from

pub is_name_in_one_answer : OneAnswer is_name_in.ended (λ M 𝓤 𝓛. is_name_in.clauses 𝓛) (λ M 𝓤 𝓛. is_name_in.spec 𝓛)
is_name_in_one_answer M 𝓤 𝓛 mem run = (refl, λ κs a g h r s v w. both_say 𝓤 (λ e f. (agree e f, refl)))

-- what a caller sees of a slice: where it begins, and its words
pub counted_one_answer : OneSeen counted.ended (λ κs. (ℕ × ℕ) × List ℕ) (λ κs r. (r.ref_ptr, r.now)) (λ M 𝓤 𝓛. counted.clauses 𝓛) (λ M 𝓤 𝓛. counted.spec 𝓛)
counted_one_answer M 𝓤 𝓛 mem run = (refl, λ κs a g h r s v w. both_say 𝓤 (λ e f. (λ i. (agree e.0 f.0 i, agree e.1 f.1 i), refl)))

pub grow_one_answer : OneAnswer grow.ended (λ M 𝓤 𝓛. grow.clauses 𝓛) (λ M 𝓤 𝓛. grow.spec 𝓛)
grow_one_answer M 𝓤 𝓛 mem run = (refl, λ κs a g h r s v w. both_say 𝓤 (λ e f. (refl, λ i. (tt, (agree e.0 f.0 i, (agree e.1 f.1 i, tt))))))

pub is_zero_from_one_answer : OneAnswer is_zero_from.ended (λ M 𝓤 𝓛. is_zero_from.clauses 𝓛) (λ M 𝓤 𝓛. is_zero_from.spec 𝓛)
is_zero_from_one_answer M 𝓤 𝓛 mem run = (refl, λ κs a g h r s v w. both_say 𝓤 (λ e f. (agree e f, refl)))

-- of both names, the words
pub lent_one_answer : OneSeen lent.ended (λ κs. List ℕ × List ℕ) (λ κs r. (r.update.now, r.id.now)) (λ M 𝓤 𝓛. lent.clauses 𝓛) (λ M 𝓤 𝓛. lent.spec 𝓛)
lent_one_answer M 𝓤 𝓛 mem run = (refl, λ κs a g h r s v w. both_say 𝓤 (λ e f. (λ i. (agree e.0 f.0 i, agree e.1 f.1 i), refl)))
