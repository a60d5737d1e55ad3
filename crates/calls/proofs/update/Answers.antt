-- `calls::update` meets its contract: a refusal of the reader is passed out, and what is read is lawful, so that its update is too,
-- and only a short buffer is left to refuse. Assumes nothing.
use Rattle.laws.proofs.Library.{◌≡◌, sym, ap, ◌∙◌, true, List, ℕ, lit≤, Err}
use Rattle.rules.specs.Limits.{narrow}
use Rattle.rules.specs.Stamps.{update}
use Rattle.rules.specs.Stored.{stored, strs_in, held, is_stored}
use Rattle.rules.specs.Refusals.{first}
use Rattle.rules.specs.Packed.{read_stamp, wrote, packed_update}
use Rattle.rules.specs.declared.Record.{Record}
use Rattle.rules.specs.declared.Refusal.{Refusal}
use Rattle.rules.specs.declared.StampWords.{StampWords}
use Rattle.laws.proofs.Lawful.{lawful_update}
use Rattle.laws.proofs.Stored.{is_stored_lem, stored_is, stored_lawful}
use Rattle.stamps.proofs.Laws.{updated_is}
use Rattle.writing.specs.Fits.{written_names}
use Rattle.writing.proofs.Writing.{both, stored_fits}
use Rattle.calls.specs.Joins.{LentBy}
use Rattle.calls.proofs.Laws.{tells_same}
use Rattle.std.proofs.Common.{rules}
use Rattle.calls.proofs.update.Goals as goal

module _ (s l : List ℕ) where
  refused : {r : Refusal} → read_stamp narrow s ≡ Err r → packed_update narrow s l ≡ record { answer = Err r; out = l }
  unfolding packed_update wrote
  refused n = rw n

  module _ {w : StampWords} (x : LentBy s w) where
    abbrev r : Record
    r = x.lent.of

    -- the id twice
    abbrev alike : Record
    alike = record { update = r.id; id = r.id }

    alike_stored : is_stored narrow alike ≡ true
    unfolding stored update
    alike_stored =
        ap (λ (y : Record). is_stored narrow (record { update = y.id; id = y.id })) (stored_is narrow r x.lent.stored)
        ∙ is_stored_lem narrow (lit≤ tt) (update (held r)) (lawful_update narrow (held r) (stored_lawful narrow r x.lent.stored))

    writes : written_names narrow w.id.now w.id.now l ≡ packed_update narrow s l
    unfolding packed_update written_names first held strs_in
    writes = rw (sym x.lent.id, x.is, sym (updated_is narrow r x.lent.stored), stored_fits alike alike_stored)

pub returns-in_err-s : goal.returns-in_err-s
returns-in_err-s c =
    let w = both _ _ (refused c.args.stamp.now c.args.out.now c.in_err-s.ensures) in
    let e : c.from_residual.result ≡ Err c.in_err-s.field-0.0 = search rules in
    (e ∙ w.0, w.1)

pub returns : goal.returns
returns c = tells_same (writes c.args.stamp.now c.args.out.now c.in_ok-s.ensures) c.write_from.ensures
