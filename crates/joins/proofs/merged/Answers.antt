-- `joins::merged` meets its contract: the first words of both buffers are those of the join, and its record holds them where a name has room.
-- Assumes nothing.
use Rattle.laws.proofs.Library.{arith}
use Rattle.std.proofs.Common.{rules}
use Rattle.rules.specs.Stamps.{join}
use Rattle.rules.specs.Stored.{held}
use Rattle.joins.proofs.Joining.{has_room, told, few, too_many, few_enough}
use Rattle.joins.proofs.merged.Goals as goal

pub unwrap-counts-requires : goal.unwrap-counts-requires
unwrap-counts-requires c = has_room c.args.a.now c.args.b.now c.requires c.join.result c.lent.ensures c.lent-2.ensures c.join.ensures

pub returns-then-counts-gt-STRINGS : goal.returns-then-counts-gt-STRINGS
returns-then-counts-gt-STRINGS c =
    let t = told c.args.a.now c.args.b.now c.requires c.join.result c.lent.ensures c.lent-2.ensures c.join.ensures c.unwrap-counts.ensures in
    too_many (join (held c.args.a.now) (held c.args.b.now)) c.unwrap-counts.result _ _ t (omega arith)

pub slice_bounds-u-end : goal.slice_bounds-u-end
slice_bounds-u-end c =
    let h = few c.args.a.now c.args.b.now c.requires c.join.result c.lent.ensures c.lent-2.ensures c.join.ensures c.unwrap-counts.ensures (omega arith) in
    search (rules, h)

pub slice_bounds-narrowed-end : goal.slice_bounds-narrowed-end
slice_bounds-narrowed-end c =
    let h = few c.args.a.now c.args.b.now c.requires c.join.result c.lent.ensures c.lent-2.ensures c.join.ensures c.unwrap-counts.ensures (omega arith) in
    search (rules, h)

pub narrowed-update-requires : goal.narrowed-update-requires
narrowed-update-requires c =
    let h = few c.args.a.now c.args.b.now c.requires c.join.result c.lent.ensures c.lent-2.ensures c.join.ensures c.unwrap-counts.ensures (omega arith) in
    search (rules, h)

pub returns : goal.returns
returns c =
    let t = told c.args.a.now c.args.b.now c.requires c.join.result c.lent.ensures c.lent-2.ensures c.join.ensures c.unwrap-counts.ensures in
    few_enough (join (held c.args.a.now) (held c.args.b.now)) c.unwrap-counts.result _ _ t _ _ (omega arith) c.narrowed-update.ensures c.narrowed-id.ensures
