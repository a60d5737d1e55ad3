-- `unions::push` meets its contract. The loop's invariant: the word in hand pushed on what is left of the stack is s pushed on all of it.
-- The measure is how many words are left. Assumes nothing.
use Rattle.laws.proofs.Library.{sym, ◌∙◌, inl, inr, ◌+◌, arith, length, drop-set-lt}
use Rattle.std.proofs.Common.{rules}
use Rattle.unions.proofs.Stacks.{siblings_filled, under_part, push_again, push_ends, stack_put}
use Rattle.unions.proofs.push.Goals as goal
use Rattle.unions.proofs.push.Goals.{in_default, in-len1-up+then-not-are_siblings}

pub overflow_sub-x : goal.overflow_sub-x
overflow_sub-x c = siblings_filled _ _ (sym c.are_siblings.ensures ∙ c.if-not-are_siblings.false)

pub loop-below-preserved : goal.loop-below-preserved
loop-below-preserved c =
    let words = c.args.words.now in
    let below = c.loop-below.below.now in
    let i = c.loop-below.invariant in record {
      part = under_part words below c.loop-below.x i.part;
      fewer = search rules;
      same = push_again words below c.loop-below.x i.part (omega arith) (sym c.are_siblings.ensures ∙ c.if-not-are_siblings.false) ∙ i.same;
    }

pub returns : goal.returns
returns c =
    let words = c.args.words.now in
    let below = c.loop-below.below.now in
    let x = c.loop-below.x in
    let i = c.loop-below.invariant in
    let ends = push_ends words below x i.part (elim c.if-below-lt1.branch [ in_default w ↦ inl (search rules) | in-len1-up+then-not-are_siblings w ↦ inr (search rules, sym w.are_siblings.ensures ∙ w.if-not-are_siblings.true) ]) in (
      search rules,
      stack_put words x (length below) (omega arith) ∙ sym ends ∙ i.same,
      drop-set-lt (c.args.count + 1) words (length below) x (omega arith),
    )
