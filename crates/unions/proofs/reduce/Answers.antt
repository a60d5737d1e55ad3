-- `unions::reduce` meets its contract. The loop's invariant: the words to come pushed on the stack are all words pushed on none. The stack never
-- overtakes the reader, so the words to come are as they were. Assumes nothing.
use Rattle.laws.proofs.Library.{refl, ◌∙◌, ◌≤◌, arith, length}
use Rattle.std.proofs.Common.{rules}
use Rattle.unions.specs.Unions.{stack, reduced}
use Rattle.unions.proofs.Stacks.{ahead, turn_more, turn_end, turn_clears}
use Rattle.unions.proofs.reduce.Goals as goal

pub loop-i-init : goal.loop-i-init
unfolding stack
loop-i-init c = record { behind = search rules; ahead = refl; same = refl }

pub loop-i-preserved : goal.loop-i-preserved
loop-i-preserved c =
    let start = c.args.id.now in
    let i = c.loop-i.invariant in record {
      behind = omega (arith, c.push-count.ensures.0);
      ahead = ahead start c.loop-i.id c.push-count.new.words c.loop-i.count c.loop-i.i i.behind i.ahead c.push-count.ensures.2;
      same =
          turn_more start c.loop-i.id c.push-count.new.words c.loop-i.count c.push-count.result c.loop-i.i c.loop-i-test.true i.ahead c.push-count.ensures.1 ∙ i.same;
    }

pub returns : goal.returns
returns c =
    let start = c.args.id.now in
    let d = c.loop-i.id in
    let k = c.loop-i.count in
    let room : k ≤ length d = search rules in
    turn_clears (reduced start) d c.fill.new.self k (length start) c.loop-i.auto.id room
    (turn_end start d k c.loop-i.i c.loop-i-test.false room c.loop-i.invariant.same) (c.fill.ensures.after (λ y e. e))
