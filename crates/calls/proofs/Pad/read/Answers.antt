-- `calls::Pad::read` meets its contract: the words that the reader counts are those of a lawful stamp's names, or its refusal is passed out.
-- Assumes nothing.
use Rattle.laws.proofs.Library.{sym, ◌∙◌}
use Rattle.calls.proofs.Laws.{was_read, not_read}
use Rattle.calls.proofs.Pad.read.Goals as goal

pub shared_ref_as_front-result : goal.shared_ref_as_front-result
shared_ref_as_front-result c =
    let e = c.in-Ok.ensures in
    (was_read _ _ _ _ _ _ e.0 e.1 e.2).update_few

pub shared_ref_as_front-result-2 : goal.shared_ref_as_front-result-2
shared_ref_as_front-result-2 c =
    let e = c.in-Ok.ensures in
    (was_read _ _ _ _ _ _ e.0 e.1 e.2).id_few

pub returns : goal.returns
returns c =
    let e = c.in-Ok.ensures in
    let r = was_read _ _ _ _ _ _ e.0 e.1 e.2 in
    record { lent = record { of = r.of; stored = r.stored; update = r.update; id = r.id }; is = r.read }

pub returns-in_default : goal.returns-in_default
returns-in_default c = not_read _ _ (sym c.unwrap_err.ensures ∙ c.read_in-read.ensures.0)
