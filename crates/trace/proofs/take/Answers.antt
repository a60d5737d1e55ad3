-- `trace::take` meets its contract: what is fed is taken, and so is the end (`came`). Assumes nothing.
use Rattle.laws.proofs.Library.{refl, inl, inr, ◌∙◌, eqb-true, length, rules}
use Rattle.trace.proofs.Taken.{IsTaken, came}
use Rattle.trace.proofs.take.Goals as goal
use Rattle.trace.proofs.take.Goals.{then-is_empty, else-is_empty}

pub returns-in_default : goal.returns-in_default
returns-in_default c =
    let is : IsTaken c.args.trace.now (length c.args.piece.now) c.args.commands.now c.if-is_empty.fed =
    came _ _ _ _ c.requires.piece_in_bounds c.requires.commands_nonzero
    (elim c.if-is_empty.branch [ then-is_empty w ↦ inl (eqb-true _ 0 (search rules), w.fed-is ∙ w.close-fed.ensures.0) | else-is_empty w ↦ inr (w.fed-is ∙ w.feed-fed.ensures.0) ]) in
    (refl, rw c.in_default.is at is)

pub returns : goal.returns
returns c =
    let is : IsTaken c.args.trace.now (length c.args.piece.now) c.args.commands.now c.if-is_empty.fed =
    came _ _ _ _ c.requires.piece_in_bounds c.requires.commands_nonzero
    (elim c.if-is_empty.branch [ then-is_empty w ↦ inl (eqb-true _ 0 (search rules), w.fed-is ∙ w.close-fed.ensures.0) | else-is_empty w ↦ inr (w.fed-is ∙ w.feed-fed.ensures.0) ]) in
    rw c.if-is_empty.auto.commands (rw c.in-Some.is at is)
