-- `stamps::compare` meets its contract: an unlawful stamp is refused, and of lawful ones the counted words tell the rest. Assumes nothing.
use Rattle.laws.proofs.Library.{◌≡◌, sym, ◌∙◌, [], Err, arith}
use Rattle.std.proofs.Common.{rules}
use Rattle.rules.specs.Limits.{narrow}
use Rattle.rules.specs.Refusals.{first}
use Rattle.rules.specs.Values.{meeting, compared, standing}
use Rattle.rules.specs.declared.Record.{Record}
use Rattle.rules.specs.declared.Refusal.{Refusal}
use Rattle.walks.specs.Walks.{compare_walk}
use Rattle.walks.proofs.Meets.{compare_walk_lem}
use Rattle.stamps.proofs.Laws.{alone_stored, first_alone, second_alone}
use Rattle.stamps.proofs.compare.Goals as goal

refused : (a b : Record) {r : Refusal} → first (meeting narrow a b []) ≡ Err r → standing narrow a b ≡ Err r
unfolding compared standing
refused a b e = rw e

pub returns-in_err-lawful : goal.returns-in_err-lawful
returns-in_err-lawful c =
    rw (refused c.args.a c.args.b (first_alone narrow c.args.a c.args.b [] (sym c.lawful.ensures ∙ c.in_err-lawful.was))) (search rules)

pub returns-in_err-lawful-2 : goal.returns-in_err-lawful-2
returns-in_err-lawful-2 c =
    let e = second_alone narrow c.args.a c.args.b [] (sym c.lawful.ensures ∙ c.in_ok-lawful.was) (sym c.lawful-2.ensures ∙ c.in_err-lawful-2.was) in
    rw (refused c.args.a c.args.b e) (search rules)

pub returns : goal.returns
returns c =
    c.compare.ensures
    ∙ (λ n. compare_walk (c.lent.ensures.0 n) (c.lent.ensures.1 n) (c.lent-2.ensures.0 n) (c.lent-2.ensures.1 n))
    ∙ compare_walk_lem narrow (omega arith) c.args.a c.args.b
    (alone_stored narrow c.args.a (sym c.lawful.ensures ∙ c.in_ok-lawful.was)) (alone_stored narrow c.args.b (sym c.lawful-2.ensures ∙ c.in_ok-lawful-2.was))
