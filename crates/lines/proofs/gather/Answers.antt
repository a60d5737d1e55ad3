-- `lines::gather` meets its contract. The loop's invariant: what the bytes to come make of the line and the buffer is what all of them make
-- of those at the start. Assumes nothing.
use Rattle.laws.proofs.Library.{sym, ap, ◌∙◌, List, arith, rules}
use Rattle.std.specs.declared.option.Option.TheVariants.{Some}
use Rattle.lines.specs.declared.Command.{Command}
use Rattle.lines.specs.declared.Gathered.{Gathered}
use Rattle.lines.proofs.Turns.{gathers_line, gathers_byte, gathers_end, gathers_all, gathers_none}
use Rattle.lines.proofs.gather.Goals.{then-x-eq-NEWLINE, else-x-eq-NEWLINE}
use Rattle.lines.proofs.gather.Goals as goal

pub returns-then-commands-piece : goal.returns-then-commands-piece
returns-then-commands-piece c = gathers_none c.args.line c.args.piece.now c.args.commands.now (omega arith)

pub loop-x-preserved : goal.loop-x-preserved
loop-x-preserved c =
    elim c.if-x-eq-NEWLINE.branch [
      | then-x-eq-NEWLINE w ↦ (
        omega arith,
        search rules,
        gathers_line c.loop-x.held _ c.args.piece.now c.loop-x.commands _ c.loop-x.count _ c.loop-x.x-index (omega arith) (omega arith)
            (rw w.parse.ensures at w.commands-is) (w.held-is ∙ w.begin-held.ensures) w.count-is
            ∙ c.loop-x.invariant.2,
      )
      | else-x-eq-NEWLINE w ↦ (
        omega arith,
        search rules,
        gathers_byte c.loop-x.held _ c.args.piece.now c.loop-x.commands _ c.loop-x.count _ c.loop-x.x-index (omega arith) (λ e. omega arith)
            (w.held-is ∙ w.push-held.ensures) w.commands-is w.count-is
            ∙ c.loop-x.invariant.2,
      )
    ]

pub returns : goal.returns
returns c =
    let all = sym (gathers_end c.loop-x.held c.args.piece.now c.loop-x.commands c.loop-x.count c.loop-x.x-index (omega arith)) ∙ c.loop-x.invariant.2 in
    let whole = gathers_all c.args.line c.args.piece.now c.args.commands.now (omega arith) in
    (ap (λ (r : Gathered × List Command). Some r.0) all ∙ whole.0, ap (λ (r : Gathered × List Command). r.1) all ∙ whole.1)
