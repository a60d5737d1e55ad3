-- `inputs::feed` meets its contract: with room for a command for each byte, what gathering leaves is run (`fed_all`); without it nothing is touched.
-- Assumes nothing.
use Rattle.laws.proofs.Library.{sym, ◌∙◌, arith, length-take-le}
use Rattle.inputs.proofs.Feeds.{fed_long, fed_none, fed_few, fed_all}
use Rattle.inputs.proofs.feed.Goals as goal

pub returns-in_err-budget : goal.returns-in_err-budget
returns-in_err-budget c =
    let h = fed_long c.args.trace c.args.piece.now c.args.commands.now (omega (arith, c.in_err-budget.ensures)) in (c.from_residual.ensures ∙ h.0, h.1)

pub returns-in_err-line : goal.returns-in_err-line
returns-in_err-line c =
    let h = fed_none c.args.trace c.args.piece.now c.args.commands.now c.gather.new.commands (sym c.in_err-line.was ∙ c.gather.ensures.0) c.gather.ensures.1 in
    (c.from_residual-in_err-line.ensures ∙ h.0, h.1)

pub slice_bounds-run-end : goal.slice_bounds-run-end
slice_bounds-run-end c =
    fed_few c.args.trace c.args.piece.now c.args.commands.now c.in_ok-line.field-0 _ (sym c.in_ok-line.was ∙ c.gather.ensures.0) c.gather.ensures.1

pub slice_bounds-run-end-2 : goal.slice_bounds-run-end-2
slice_bounds-run-end-2 c =
    sym (length-take-le c.in_ok-line.field-0.count c.gather.new.commands
    (fed_few c.args.trace c.args.piece.now c.args.commands.now c.in_ok-line.field-0 _ (sym c.in_ok-line.was ∙ c.gather.ensures.0) c.gather.ensures.1))

pub returns : goal.returns
returns c =
    fed_all c.args.trace c.args.piece.now c.args.commands.now c.in_ok-line.field-0 c.gather.new.commands
    (sym c.in_ok-line.was ∙ c.gather.ensures.0) c.gather.ensures.1 _ _ c.in_ok-budget.budget c.in_ok-budget.ensures c.run-table.ensures.0 c.run-table.ensures.1
