-- `calls::compare` meets its contract: what the readers refuse is passed out, the first's before the second's; then two lawful stamps are
-- compared. Assumes nothing.
use Rattle.laws.proofs.Library.{◌≡◌, sym, ◌∙◌, List, ℕ, lit≤, Err}
use Rattle.rules.specs.Limits.{narrow}
use Rattle.rules.specs.Packed.{read_stamp, packed_standing}
use Rattle.rules.specs.declared.Refusal.{Refusal}
use Rattle.rules.specs.declared.StampWords.{StampWords}
use Rattle.walks.specs.Walks.{compare_walk}
use Rattle.walks.proofs.Meets.{compare_walk_lem}
use Rattle.calls.specs.Joins.{LentBy}
use Rattle.std.proofs.Common.{rules}
use Rattle.calls.proofs.compare.Goals as goal

module _ (s t : List ℕ) where
  first_refused : {r : Refusal} → read_stamp narrow s ≡ Err r → Err r ≡ packed_standing narrow s t
  unfolding packed_standing
  first_refused n = rw n

  module _ {v : StampWords} (x : LentBy s v) where
    second_refused : {r : Refusal} → read_stamp narrow t ≡ Err r → Err r ≡ packed_standing narrow s t
    unfolding packed_standing
    second_refused n = rw (x.is, n)

    compares : {w : StampWords} → LentBy t w → compare_walk v.update.now v.id.now w.update.now w.id.now ≡ packed_standing narrow s t
    unfolding packed_standing
    compares y =
        rw (sym x.lent.update, sym x.lent.id, sym y.lent.update, sym y.lent.id, x.is, y.is)
        (compare_walk_lem narrow (lit≤ tt) x.lent.of y.lent.of x.lent.stored y.lent.stored)

pub returns-in_err-a : goal.returns-in_err-a
returns-in_err-a c =
    let e : c.from_residual.result ≡ Err c.in_err-a.field-0.0 = search rules in
    e ∙ first_refused c.args.first.now c.args.second.now c.in_err-a.ensures

pub returns-in_err-read : goal.returns-in_err-read
returns-in_err-read c =
    let e : c.from_residual-in_err-read.result ≡ Err c.in_err-read.field-0.0 = search rules in
    e ∙ second_refused c.args.first.now c.args.second.now c.in_ok-a.ensures c.in_err-read.ensures

pub returns : goal.returns
returns c = c.compare.ensures ∙ compares c.args.first.now c.args.second.now c.in_ok-a.ensures c.in_ok-read.ensures
