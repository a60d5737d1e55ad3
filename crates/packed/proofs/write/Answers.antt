-- `packed::write` meets its contract: what is written of a lawful record is what is written of the words that it lends. Assumes nothing.
use Rattle.laws.proofs.Library.{◌≡◌, refl, sym, ◌∙◌, false}
use Rattle.rules.specs.Limits.{narrow}
use Rattle.rules.specs.Stored.{is_stored, unlawful}
use Rattle.rules.specs.Refusals.{first}
use Rattle.rules.specs.Packed.{wrote, written_stamp}
use Rattle.writing.proofs.Writing.{written_is, both}
use Rattle.packed.proofs.write.Goals as goal

pub returns-then-not-is_lawful : goal.returns-then-not-is_lawful
unfolding written_stamp unlawful first wrote
returns-then-not-is_lawful c =
    let e : is_stored narrow c.args.r ≡ false = cc in
    rw e (refl, refl)

pub returns : goal.returns
returns c =
    let same = both _ _ (written_is c.args.r c.args.out.now (sym c.is_lawful.ensures ∙ c.if-not-is_lawful.false)) in
    let wrote = rw (c.lent.ensures.0, c.lent.ensures.1) at c.write_from.ensures in
    (wrote.0 ∙ same.0, wrote.1 ∙ same.1)
