-- `calls::join` meets its contract: what the readers refuse is passed out, the first's before the second's, then what two stamps that meet are
-- refused for; of the join of two lawful stamps only 7 and 10 are left to refuse. Assumes nothing.
use Rattle.laws.proofs.Library.{◌≡◌, refl, sym, ap₂, ◌∙◌, Bool, true, false, List, [], ℕ, lit≤, Ok, Err}
use Rattle.rules.specs.Limits.{narrow}
use Rattle.rules.specs.Stamps.{Stamp, join}
use Rattle.rules.specs.Stored.{held}
use Rattle.rules.specs.Refusals.{Answer, first, many}
use Rattle.rules.specs.Values.{meeting}
use Rattle.rules.specs.Packed.{read_stamp, wrote, packed_join}
use Rattle.rules.specs.declared.Record.{Record}
use Rattle.rules.specs.declared.Refusal.{Refusal}
use Rattle.rules.specs.declared.StampWords.{StampWords}
use Rattle.layout.specs.Words.{stamp_of}
use Rattle.laws.proofs.Lawful.{lawful_join}
use Rattle.laws.proofs.Stored.{stored_lawful, held_stored}
use Rattle.walks.specs.Walks.{meet_walk}
use Rattle.walks.proofs.Meets.{meet_walk_lem}
use Rattle.stamps.proofs.Laws.{joined_then}
use Rattle.writing.proofs.Writing.{both}
use Rattle.calls.specs.Joins.{Lent, LentBy, wrote_join}
use Rattle.calls.proofs.Laws.{held_is, tells_same}
use Rattle.std.proofs.Common.{rules}
use Rattle.calls.proofs.join.Goals as goal

-- the walk has asked what 8 and 9 ask
asked : {u i v j : List ℕ} (x : Lent u i) (y : Lent v j) {e : Answer} → e ≡ meet_walk u i v j → first (meeting narrow x.of y.of []) ≡ e
asked x y e = sym (rw (sym x.update, sym x.id, sym y.update, sym y.id) at e ∙ meet_walk_lem narrow (lit≤ tt) x.of y.of x.stored y.stored)

module _ (s t l : List ℕ) where
  first_refused : {r : Refusal} → read_stamp narrow s ≡ Err r → packed_join narrow s t l ≡ record { answer = Err r; out = l }
  unfolding packed_join wrote
  first_refused n = rw n

  module _ {v : StampWords} (x : LentBy s v) where
    abbrev a : Record
    a = x.lent.of

    second_refused : {r : Refusal} → read_stamp narrow t ≡ Err r → packed_join narrow s t l ≡ record { answer = Err r; out = l }
    unfolding packed_join wrote
    second_refused n = rw (x.is, n)

    module _ {w : StampWords} (y : LentBy t w) where
      abbrev b : Record
      b = y.lent.of

      join_refused : {r : Refusal} → first (meeting narrow a b []) ≡ Err r → packed_join narrow s t l ≡ record { answer = Err r; out = l }
      unfolding packed_join wrote
      join_refused n = rw (x.is, y.is, joined_then narrow a b, n)

      joins : first (meeting narrow a b []) ≡ Ok tt → wrote_join (held a) (held b) l ≡ packed_join narrow s t l
      unfolding packed_join wrote_join first wrote
      joins k = by (many narrow (join (held a) (held b))) refl where
        by : (m : Bool) → many narrow (join (held a) (held b)) ≡ m → wrote_join (held a) (held b) l ≡ packed_join narrow s t l
        by true m = rw (x.is, y.is, joined_then narrow a b, k, m)
        by false m =
            let z = lawful_join narrow (held a) (held b) (stored_lawful narrow a x.lent.stored) (stored_lawful narrow b y.lent.stored) m in
            rw (x.is, y.is, joined_then narrow a b, k, m, held_stored narrow (lit≤ tt) (join (held a) (held b)) z)

      writes : first (meeting narrow a b []) ≡ Ok tt → wrote_join (stamp_of v.update.now v.id.now) (stamp_of w.update.now w.id.now) l ≡ packed_join narrow s t l
      writes k = ap₂ (λ (c d : Stamp). wrote_join c d l) (sym (held_is x.lent)) (sym (held_is y.lent)) ∙ joins k

pub returns-in_err-a : goal.returns-in_err-a
returns-in_err-a c =
    let w = both _ _ (first_refused c.args.first.now c.args.second.now c.args.out.now c.in_err-a.ensures) in
    let e : c.from_residual.result ≡ Err c.in_err-a.field-0.0 = search rules in
    (e ∙ w.0, w.1)

pub returns-in_err-b : goal.returns-in_err-b
returns-in_err-b c =
    let w = both _ _ (second_refused c.args.first.now c.args.second.now c.args.out.now c.in_ok-a.ensures c.in_err-b.ensures) in
    let e : c.from_residual-in_err-b.result ≡ Err c.in_err-b.field-0.0 = search rules in
    (e ∙ w.0, w.1)

pub returns-in_err-meet : goal.returns-in_err-meet
returns-in_err-meet c =
    let x = c.in_ok-a.ensures in
    let y = c.in_ok-b.ensures in
    let w = both _ _ (join_refused c.args.first.now c.args.second.now c.args.out.now x y (asked x.lent y.lent c.in_err-meet.ensures)) in
    let e : c.from_residual-in_err-meet.result ≡ Err c.in_err-meet.field-0.0 = search rules in
    (e ∙ w.0, w.1)

pub write_joined-requires : goal.write_joined-requires
write_joined-requires c = (c.in_ok-a.ensures.lent, c.in_ok-b.ensures.lent)

pub returns : goal.returns
returns c =
    let x = c.in_ok-a.ensures in
    let y = c.in_ok-b.ensures in
    tells_same (writes _ _ _ x y (asked x.lent y.lent c.in_ok-meet.ensures)) c.write_joined.ensures
