-- `unions::lift` meets its contract. The loop's invariant: what the words to come become beside the rest of the id, put behind the first k words, is what
-- all words become beside the whole id. Assumes nothing.
use Rattle.laws.proofs.Library.{refl, ◌∙◌, ◌≤◌, arith, length}
use Rattle.std.proofs.Common.{rules}
use Rattle.unions.specs.Unions.{stack, lifted}
use Rattle.unions.proofs.Stacks.{ahead, turn_clears}
use Rattle.unions.proofs.Seeks.{lift_more, lift_end}
use Rattle.unions.proofs.lift.Goals as goal

pub loop-i-init : goal.loop-i-init
unfolding stack
loop-i-init c = record { behind = search rules; ahead = refl; same = refl }

pub loop-i-preserved : goal.loop-i-preserved
loop-i-preserved c =
    let start = c.args.update.now in
    let l = c.loop-i.update in
    let after = c.push_once-count.new.words in
    let i = c.loop-i.invariant in record {
      behind = omega (arith, c.push_once-count.ensures.0);
      ahead = ahead start l after c.loop-i.count c.loop-i.i i.behind i.ahead c.push_once-count.ensures.2;
      same =
          lift_more start l after c.loop-i.rest.now c.seek-rest.result.now c.loop-i.count c.push_once-count.result c.loop-i.i c.root.result c.loop-i-test.true i.ahead
          c.seek-rest.ensures c.root.ensures c.push_once-count.ensures.1 ∙ i.same;
    }

pub returns : goal.returns
returns c =
    let start = c.args.update.now in
    let d = c.loop-i.update in
    let k = c.loop-i.count in
    let room : k ≤ length d = search rules in
    turn_clears (lifted c.args.id.now start) d c.fill.new.self k (length start) c.loop-i.auto.update room
    (lift_end start d c.loop-i.rest.now c.args.id.now k c.loop-i.i c.loop-i-test.false room c.loop-i.invariant.same) (c.fill.ensures.after (λ y e. e))
