-- `unions::push_once` meets its contract: one case with x on top already, and one where it is stored. Assumes nothing.
use Rattle.laws.proofs.Library.{refl, sym, ◌∙◌, ◌+◌, arith, drop-set-lt}
use Rattle.unions.proofs.Stacks.{stack_put}
use Rattle.unions.proofs.Seeks.{once_tells}
use Rattle.std.proofs.Common.{rules}
use Rattle.unions.proofs.push_once.Goals as goal

pub returns-then-eq : goal.returns-then-eq
returns-then-eq c =
    let e = once_tells c.args.words.now c.args.x c.args.count (search rules) c.last.result _ c.eq.result refl c.last.ensures.value c.eq.ensures in
    (search rules, sym (rw c.if-eq.true at e), refl)

pub returns : goal.returns
returns c =
    let e = once_tells c.args.words.now c.args.x c.args.count (search rules) c.last.result _ c.eq.result refl c.last.ensures.value c.eq.ensures in (
      search rules,
      stack_put c.args.words.now c.args.x c.args.count c.requires ∙ sym (rw c.if-eq.false at e),
      drop-set-lt (c.args.count + 1) c.args.words.now c.args.count c.args.x (omega arith),
    )
