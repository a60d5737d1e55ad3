-- `stamps::meet` meets its contract: an unlawful stamp is refused, and of lawful ones the counted words tell the rest. Assumes nothing.
use Rattle.laws.proofs.Library.{sym, ◌∙◌, [], arith}
use Rattle.std.proofs.Common.{rules}
use Rattle.rules.specs.Limits.{narrow}
use Rattle.walks.specs.Walks.{meet_walk}
use Rattle.walks.proofs.Meets.{meet_walk_lem}
use Rattle.stamps.proofs.Laws.{alone_stored, first_alone, second_alone}
use Rattle.stamps.proofs.meet.Goals as goal

pub returns-in_err-lawful : goal.returns-in_err-lawful
returns-in_err-lawful c = rw (first_alone narrow c.args.a c.args.b [] (sym c.lawful.ensures ∙ c.in_err-lawful.was)) (search rules)

pub returns-in_err-lawful-2 : goal.returns-in_err-lawful-2
returns-in_err-lawful-2 c =
    rw (second_alone narrow c.args.a c.args.b [] (sym c.lawful.ensures ∙ c.in_ok-lawful.was) (sym c.lawful-2.ensures ∙ c.in_err-lawful-2.was)) (search rules)

pub returns : goal.returns
returns c =
    c.meet.ensures
    ∙ (λ n. meet_walk (c.lent.ensures.0 n) (c.lent.ensures.1 n) (c.lent-2.ensures.0 n) (c.lent-2.ensures.1 n))
    ∙ meet_walk_lem narrow (omega arith) c.args.a c.args.b
    (alone_stored narrow c.args.a (sym c.lawful.ensures ∙ c.in_ok-lawful.was)) (alone_stored narrow c.args.b (sym c.lawful-2.ensures ∙ c.in_ok-lawful-2.was))
