-- Each public contract is an equation for the result and for what was lent, so it leaves one answer. Assumes nothing.
use Rattle.laws.proofs.Library.{◌≡◌, refl, List, ℕ}
use denote.Ref.{Bor}
use Rattle.rules.specs.Limits.{narrow}
use Rattle.rules.specs.Packed.{Side, the_first, the_second, neither, side_of, packed_compare}
use Rattle.calls.specs.Keep.{kept_is}
use Rattle.rules.specs.OneAnswer.{OneAnswer}
use Rattle.laws.proofs.Contracts.{agree, both_say}
use Rattle.probes.specs.contracts.probe_fresh
use Rattle.probes.specs.contracts.probe_update
use Rattle.probes.specs.contracts.probe_fork
use Rattle.probes.specs.contracts.probe_join
use Rattle.probes.specs.contracts.probe_compare
use Rattle.probes.specs.contracts.probe_spare
use Rattle.probes.specs.contracts.probe_read
use Rattle.probes.specs.contracts.probe_write
use Rattle.probes.specs.contracts.probe_entry
use Rattle.probes.specs.contracts.probe_keep
use Rattle.probes.specs.contracts.probe_kept
use Rattle.probes.specs.contracts.probe_is_lawful
use Rattle.probes.specs.contracts.probe_updated
use Rattle.probes.specs.contracts.probe_forked
use Rattle.probes.specs.contracts.probe_joined
use Rattle.probes.specs.contracts.probe_met
use Rattle.probes.specs.contracts.probe_compared
use Rattle.probes.specs.contracts.probe_stood

pub probe_fresh_one_answer : OneAnswer probe_fresh.ended (λ M 𝓤 𝓛. probe_fresh.clauses 𝓛) (λ M 𝓤 𝓛. probe_fresh.spec 𝓛)
probe_fresh_one_answer M 𝓤 𝓛 mem run = (refl, λ κs a g h r s v w. both_say 𝓤 (λ e f. (agree e.0 f.0, λ i. (agree e.1 f.1 i, tt))))

pub probe_update_one_answer : OneAnswer probe_update.ended (λ M 𝓤 𝓛. probe_update.clauses 𝓛) (λ M 𝓤 𝓛. probe_update.spec 𝓛)
probe_update_one_answer M 𝓤 𝓛 mem run = (refl, λ κs a g h r s v w. both_say 𝓤 (λ e f. (agree e.0 f.0, λ i. (agree e.1 f.1 i, (tt, tt)))))

pub probe_fork_one_answer : OneAnswer probe_fork.ended (λ M 𝓤 𝓛. probe_fork.clauses 𝓛) (λ M 𝓤 𝓛. probe_fork.spec 𝓛)
probe_fork_one_answer M 𝓤 𝓛 mem run = (refl, λ κs a g h r s v w. both_say 𝓤 (λ e f. (agree e.0 f.0, λ i. (agree e.1 f.1 i, (tt, tt)))))

pub probe_join_one_answer : OneAnswer probe_join.ended (λ M 𝓤 𝓛. probe_join.clauses 𝓛) (λ M 𝓤 𝓛. probe_join.spec 𝓛)
probe_join_one_answer M 𝓤 𝓛 mem run = (refl, λ κs a g h r s v w. both_say 𝓤 (λ e f. (agree e.0 f.0, λ i. (agree e.1 f.1 i, (tt, (tt, tt))))))

pub probe_compare_one_answer : OneAnswer probe_compare.ended (λ M 𝓤 𝓛. probe_compare.clauses 𝓛) (λ M 𝓤 𝓛. probe_compare.spec 𝓛)
probe_compare_one_answer M 𝓤 𝓛 mem run = (refl, λ κs a g h r s v w. both_say 𝓤 (λ e f. (agree e f, refl)))

pub probe_spare_one_answer : OneAnswer probe_spare.ended (λ M 𝓤 𝓛. probe_spare.clauses 𝓛) (λ M 𝓤 𝓛. probe_spare.spec 𝓛)
probe_spare_one_answer M 𝓤 𝓛 mem run = (refl, λ κs a g h r s v w. both_say 𝓤 (λ e f. (agree e f, refl)))

pub probe_read_one_answer : OneAnswer probe_read.ended (λ M 𝓤 𝓛. probe_read.clauses 𝓛) (λ M 𝓤 𝓛. probe_read.spec 𝓛)
probe_read_one_answer M 𝓤 𝓛 mem run = (refl, λ κs a g h r s v w. both_say 𝓤 (λ e f. (agree e.0 f.0, λ i. (tt, (agree e.1 f.1 i, tt)))))

pub probe_write_one_answer : OneAnswer probe_write.ended (λ M 𝓤 𝓛. probe_write.clauses 𝓛) (λ M 𝓤 𝓛. probe_write.spec 𝓛)
probe_write_one_answer M 𝓤 𝓛 mem run = (refl, λ κs a g h r s v w. both_say 𝓤 (λ e f. (agree e.0 f.0, λ i. (tt, (agree e.1 f.1 i, tt)))))

pub probe_entry_one_answer : OneAnswer probe_entry.ended (λ M 𝓤 𝓛. probe_entry.clauses 𝓛) (λ M 𝓤 𝓛. probe_entry.spec 𝓛)
probe_entry_one_answer M 𝓤 𝓛 mem run = (refl, λ κs a g h r s v w. both_say 𝓤 (λ e f. (agree e.0 f.0, λ i. (tt, (tt, (agree e.1 f.1 i, tt))))))

pub probe_keep_one_answer : OneAnswer probe_keep.ended (λ M 𝓤 𝓛. probe_keep.clauses 𝓛) (λ M 𝓤 𝓛. probe_keep.spec 𝓛)
probe_keep_one_answer M 𝓤 𝓛 mem run = (refl, λ κs a g h r s v w. both_say 𝓤 (λ e f. (agree e f, refl)))

kept_same : (d : Side) (s t p q : Bor (List ℕ)) → kept_is d s t p → kept_is d s t q → p ≡ q
kept_same the_first s t p q e f = agree e f
kept_same the_second s t p q e f = agree e f
kept_same neither s t p q e f = λ i. record { ref_ptr = agree e.0 f.0 i; now = agree e.1 f.1 i }

pub probe_kept_one_answer : OneAnswer probe_kept.ended (λ M 𝓤 𝓛. probe_kept.clauses 𝓛) (λ M 𝓤 𝓛. probe_kept.spec 𝓛)
probe_kept_one_answer M 𝓤 𝓛 mem run = (
  refl,
  λ κs a g h r s v w. both_say 𝓤 (λ e f. (refl, λ i. (tt, (tt, (kept_same (side_of (packed_compare narrow a.0.now a.1.0.now)) a.0 a.1.0 v.1.1.0 w.1.1.0 e f i, tt))))),
)

pub probe_is_lawful_one_answer : OneAnswer probe_is_lawful.ended (λ M 𝓤 𝓛. probe_is_lawful.clauses 𝓛) (λ M 𝓤 𝓛. probe_is_lawful.spec 𝓛)
probe_is_lawful_one_answer M 𝓤 𝓛 mem run = (refl, λ κs a g h r s v w. both_say 𝓤 (λ e f. (agree e f, refl)))

pub probe_updated_one_answer : OneAnswer probe_updated.ended (λ M 𝓤 𝓛. probe_updated.clauses 𝓛) (λ M 𝓤 𝓛. probe_updated.spec 𝓛)
probe_updated_one_answer M 𝓤 𝓛 mem run = (refl, λ κs a g h r s v w. both_say 𝓤 (λ e f. (agree e.0 f.0, λ i. (tt, (agree e.1 f.1 i, tt)))))

pub probe_forked_one_answer : OneAnswer probe_forked.ended (λ M 𝓤 𝓛. probe_forked.clauses 𝓛) (λ M 𝓤 𝓛. probe_forked.spec 𝓛)
probe_forked_one_answer M 𝓤 𝓛 mem run =
    (refl, λ κs a g h r s v w. both_say 𝓤 (λ e f. (agree e.0 f.0, λ i. (tt, (agree e.1 f.1 i, (agree e.2 f.2 i, tt))))))

pub probe_joined_one_answer : OneAnswer probe_joined.ended (λ M 𝓤 𝓛. probe_joined.clauses 𝓛) (λ M 𝓤 𝓛. probe_joined.spec 𝓛)
probe_joined_one_answer M 𝓤 𝓛 mem run = (refl, λ κs a g h r s v w. both_say 𝓤 (λ e f. (agree e.0 f.0, λ i. (tt, (tt, (agree e.1 f.1 i, tt))))))

pub probe_met_one_answer : OneAnswer probe_met.ended (λ M 𝓤 𝓛. probe_met.clauses 𝓛) (λ M 𝓤 𝓛. probe_met.spec 𝓛)
probe_met_one_answer M 𝓤 𝓛 mem run = (refl, λ κs a g h r s v w. both_say 𝓤 (λ e f. (agree e f, refl)))

pub probe_compared_one_answer : OneAnswer probe_compared.ended (λ M 𝓤 𝓛. probe_compared.clauses 𝓛) (λ M 𝓤 𝓛. probe_compared.spec 𝓛)
probe_compared_one_answer M 𝓤 𝓛 mem run = (refl, λ κs a g h r s v w. both_say 𝓤 (λ e f. (agree e.0 f.0, λ i. (tt, (tt, (agree e.1 f.1 i, tt))))))

pub probe_stood_one_answer : OneAnswer probe_stood.ended (λ M 𝓤 𝓛. probe_stood.clauses 𝓛) (λ M 𝓤 𝓛. probe_stood.spec 𝓛)
probe_stood_one_answer M 𝓤 𝓛 mem run = (refl, λ κs a g h r s v w. both_say 𝓤 (λ e f. (agree e.0 f.0, λ i. (tt, (tt, (agree e.1 f.1 i, tt))))))
