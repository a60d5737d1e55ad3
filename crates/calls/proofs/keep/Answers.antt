-- `calls::keep` meets its contract: each standing's own side is given back, by the reference itself; the empty part has the first's address.
-- Assumes nothing.
use Rattle.laws.proofs.Library.{◌≡◌, refl, sym, ap, ◌∙◌, List, ℕ, Result, Ok}
use Rattle.rules.specs.Limits.{narrow}
use Rattle.rules.specs.Values.{compared_of}
use Rattle.rules.specs.Packed.{side_of, packed_compare, packed_standing}
use Rattle.rules.specs.declared.Refusal.{Refusal}
use Rattle.rules.specs.declared.Standing.{Standing}
use Rattle.laws.proofs.Standing.{compared_packed}
use Rattle.calls.proofs.keep.Goals as goal

-- two packed stamps that stand so
side_is : (s t : List ℕ) {c x : Result Standing Refusal} → c ≡ packed_standing narrow s t → c ≡ x → side_of (packed_compare narrow s t) ≡ side_of (compared_of x)
side_is s t e f = ap side_of (sym (compared_packed narrow s t) ∙ ap compared_of (sym e ∙ f))

pub returns-in-Ok-Equal : goal.returns-in-Ok-Equal
returns-in-Ok-Equal c = rw (side_is _ _ c.compare.ensures (c.in-Ok-Equal.is ∙ ap Ok c.in-Ok-Equal.field-0-is)) refl

pub returns-in-Ok-Obsolete : goal.returns-in-Ok-Obsolete
returns-in-Ok-Obsolete c = rw (side_is _ _ c.compare.ensures (c.in-Ok-Obsolete.is ∙ ap Ok c.in-Ok-Obsolete.field-0-is)) refl

pub returns-in-Ok-Newer : goal.returns-in-Ok-Newer
returns-in-Ok-Newer c = rw (side_is _ _ c.compare.ensures (c.in-Ok-Newer.is ∙ ap Ok c.in-Ok-Newer.field-0-is)) refl

pub returns-in-Ok-Conflict : goal.returns-in-Ok-Conflict
returns-in-Ok-Conflict c = rw (side_is _ _ c.compare.ensures (c.in-Ok-Conflict.is ∙ ap Ok c.in-Ok-Conflict.field-0-is)) (refl, refl)

pub returns-in-Err : goal.returns-in-Err
returns-in-Err c = rw (side_is _ _ c.compare.ensures c.in-Err.is) (refl, refl)
