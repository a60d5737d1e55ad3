-- `printing::print` meets its contract. The loop's invariant: the answers to come that have room, written from here on, are all answers that
-- have room, written from the start. Assumes nothing.
use Rattle.laws.proofs.Library.{◌≡◌, ◌∙◌, ◌-◌, ◌≤◌, arith, length, drop, rules}
use Rattle.lines.specs.declared.Command.{Command}
use Rattle.printing.specs.declared.answers.Page.{Page}
use Rattle.printing.specs.Answers.{longest, answer_text}
use Rattle.printing.specs.Inner.{Writes}
use Rattle.printing.proofs.Texts.{answer_room}
use Rattle.printing.proofs.Turns.{writes, so_far, writes_next, writes_full, writes_none, writes_end}
use Rattle.printing.proofs.print.Goals as goal
use Rattle.printing.proofs.print.Goals.{else-loop-c-test, then-loop-c-test+then-page-lt-LONGEST}

has_room : (c : Command) (p q : Page) → longest ≤ length p.out.now - p.len → Writes p (answer_text c) q → q.len ≤ length q.out.now
has_room c p q h w = omega (arith, answer_room c)

pub loop-c-preserved : goal.loop-c-preserved
loop-c-preserved c =
    let i = c.loop-c.invariant in
    let p = c.loop-c.page in
    let w = c.answer.ensures in
    record {
      room = has_room _ p _ (omega arith) w;
      lent = w.lent ∙ i.lent;
      few = omega arith;
      whole = writes_next _ _ p _ c.loop-c.c-index c.loop-c.count (omega arith) (omega arith) w ∙ i.whole;
    }

pub returns : goal.returns
returns c =
    let commands = c.args.commands.now in
    let p = c.loop-c.page in
    let k = c.loop-c.count in
    let rest = drop c.loop-c.c-index commands in
    let end : writes rest p.out.now p.len k ≡ so_far p k =
    elim c.loop-c-test.branch [
      | else-loop-c-test w ↦ writes_none commands p c.loop-c.c-index k (omega arith)
      | then-loop-c-test+then-page-lt-LONGEST w ↦ writes_full rest p k (omega arith)
    ] in
    let said = writes_end commands c.args.out.now p k rest c.loop-c.invariant.whole end in
    let left : _ ≡ p.out.now = search rules in
    (said.0, left ∙ said.1)
