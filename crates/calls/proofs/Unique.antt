-- Each public contract is an equation for the result and for what was lent, so it leaves one answer. Assumes nothing.
-- `keep` gives back a slice, and of a part of a slice the contract fixes address and bytes, not the name that the checker gives it.
use Rattle.laws.proofs.Library.{◌≡◌, refl, ap, List, ℕ}
use denote.Ref.{Bor}
use Rattle.rules.specs.Limits.{narrow}
use Rattle.rules.specs.Packed.{Side, the_first, the_second, neither, side_of, packed_compare}
use Rattle.rules.specs.OneAnswer.{OneAnswer, OneSeen}
use Rattle.calls.specs.Keep.{kept_is}
use Rattle.laws.proofs.Contracts.{agree, both_say}
use Rattle.calls.specs.contracts.update
use Rattle.calls.specs.contracts.fork
use Rattle.calls.specs.contracts.join
use Rattle.calls.specs.contracts.compare
use Rattle.calls.specs.contracts.keep
use Rattle.calls.specs.contracts.room
use Rattle.calls.specs.contracts.room_in

pub update_one_answer : OneAnswer update.ended (λ M 𝓤 𝓛. update.clauses 𝓛) (λ M 𝓤 𝓛. update.spec 𝓛)
update_one_answer M 𝓤 𝓛 mem run = (refl, λ κs a g h r s v w. both_say 𝓤 (λ e f. (agree e.0 f.0, λ i. (tt, (agree e.1 f.1 i, tt)))))

pub fork_one_answer : OneAnswer fork.ended (λ M 𝓤 𝓛. fork.clauses 𝓛) (λ M 𝓤 𝓛. fork.spec 𝓛)
fork_one_answer M 𝓤 𝓛 mem run = (refl, λ κs a g h r s v w. both_say 𝓤 (λ e f. (agree e.0 f.0, λ i. (tt, (agree e.1 f.1 i, (agree e.2 f.2 i, tt))))))

pub join_one_answer : OneAnswer join.ended (λ M 𝓤 𝓛. join.clauses 𝓛) (λ M 𝓤 𝓛. join.spec 𝓛)
join_one_answer M 𝓤 𝓛 mem run = (refl, λ κs a g h r s v w. both_say 𝓤 (λ e f. (agree e.0 f.0, λ i. (tt, (tt, (agree e.1 f.1 i, tt))))))

pub compare_one_answer : OneAnswer compare.ended (λ M 𝓤 𝓛. compare.clauses 𝓛) (λ M 𝓤 𝓛. compare.spec 𝓛)
compare_one_answer M 𝓤 𝓛 mem run = (refl, λ κs a g h r s v w. both_say 𝓤 (λ e f. (agree e f, refl)))

pub room_one_answer : OneAnswer room.ended (λ M 𝓤 𝓛. room.clauses 𝓛) (λ M 𝓤 𝓛. room.spec 𝓛)
room_one_answer M 𝓤 𝓛 mem run = (refl, λ κs a g h r s v w. both_say 𝓤 (λ e f. (agree e f, refl)))

pub room_in_one_answer : OneAnswer room_in.ended (λ M 𝓤 𝓛. room_in.clauses 𝓛) (λ M 𝓤 𝓛. room_in.spec 𝓛)
room_in_one_answer M 𝓤 𝓛 mem run = (refl, λ κs a g h r s v w. both_say 𝓤 (λ e f. (agree e f, refl)))

-- what a caller sees of a slice: where it begins, and its bytes
abbrev pub Shown : Type 0
Shown = (ℕ × ℕ) × List ℕ

abbrev pub shown : Bor (List ℕ) → Shown
shown r = (r.ref_ptr, r.now)

-- two slices that are the one to keep
pub kept_agree : (d : Side) (s t p q : Bor (List ℕ)) → kept_is d s t p → kept_is d s t q → shown p ≡ shown q
kept_agree the_first s t p q e f = ap shown (agree e f)
kept_agree the_second s t p q e f = ap shown (agree e f)
kept_agree neither s t p q e f = λ i. (agree e.0 f.0 i, agree e.1 f.1 i)

pub keep_one_answer : OneSeen keep.ended (λ κs. Shown) (λ κs r. shown r) (λ M 𝓤 𝓛. keep.clauses 𝓛) (λ M 𝓤 𝓛. keep.spec 𝓛)
keep_one_answer M 𝓤 𝓛 mem run = (
  refl,
  λ κs a g h r s v w. both_say 𝓤 (λ e f. (kept_agree (side_of (packed_compare narrow a.0.now a.1.0.now)) a.0 a.1.0 r s e f, refl)),
)
