-- `unions::seek` meets its contract: what is sought in the rest is what is sought in the whole id. Assumes nothing.
use Rattle.laws.proofs.Library.{sym, ◌∙◌, inl, inr, arith}
use Rattle.unions.proofs.Seeks.{seek_next, seek_stop, seek_end}
use Rattle.unions.proofs.seek.Goals as goal
use Rattle.unions.proofs.seek.Goals.{then-t-r-via-then-t-r, then-t-r-via-else-t-r+then-begins}

pub loop-rest-preserved : goal.loop-rest-preserved
loop-rest-preserved c =
    seek_next c.loop-rest.rest.now c.args.r (omega arith) c.if-t-r.false (sym c.begins.ensures ∙ c.if-begins.false) ∙ c.loop-rest.invariant

pub returns-in_default : goal.returns-in_default
returns-in_default c = sym (seek_end c.loop-rest.rest.now c.args.r (omega arith)) ∙ c.loop-rest.invariant

pub returns-then-t-r : goal.returns-then-t-r
returns-then-t-r c =
    sym (seek_stop c.loop-rest.rest.now c.args.r (omega arith)
    (elim c.then-t-r.branch [ then-t-r-via-then-t-r w ↦ inl w.if-t-r.true | then-t-r-via-else-t-r+then-begins w ↦ inr (sym w.begins.ensures ∙ w.if-begins.true) ]))
    ∙ c.loop-rest.invariant
