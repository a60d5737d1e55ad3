-- `lines::text::slot` meets its contract: by the number of bytes, and for two by whether the first is a zero. Assumes nothing.
use Rattle.laws.proofs.Library.{refl, sym, ◌∙◌, arith}
use Rattle.std.specs.declared.option.Option.TheVariants.{None, Some}
use Rattle.lines.proofs.Slots.{slot_one, slot_zero, slot_two, slot_other}
use Rattle.lines.proofs.text.slot.Goals as goal

pub returns-in-len1 : goal.returns-in-len1
returns-in-len1 c = c.digit.ensures ∙ slot_one c.args.digits.now (omega arith)

pub returns-in-48 : goal.returns-in-48
returns-in-48 c = slot_zero c.args.digits.now (omega arith) (omega arith)

pub returns-in_err-digit-in-len2 : goal.returns-in_err-digit-in-len2
returns-in_err-digit-in-len2 c =
    c.from_residual.ensures
    ∙ slot_two c.args.digits.now None _ (omega arith) (λ e. omega arith) (sym c.in_err-digit-in-len2.was ∙ c.digit-in-len2.ensures) refl

pub returns-in_err-digit-in-len2-2 : goal.returns-in_err-digit-in-len2-2
returns-in_err-digit-in-len2-2 c =
    c.from_residual-in_err-digit-in-len2-2.ensures
    ∙ slot_two c.args.digits.now (Some c.in_ok-digit-in-len2.field-0) None (omega arith) (λ e. omega arith)
    (sym c.in_ok-digit-in-len2.was ∙ c.digit-in-len2.ensures)
    (sym c.in_err-digit-in-len2-2.was ∙ c.digit-in-len2-2.ensures)

pub returns-in_ok-digit-in-len2-2 : goal.returns-in_ok-digit-in-len2-2
returns-in_ok-digit-in-len2-2 c =
    slot_two c.args.digits.now (Some c.in_ok-digit-in-len2.field-0) (Some c.in_ok-digit-in-len2-2.field-0) (omega arith) (λ e. omega arith)
    (sym c.in_ok-digit-in-len2.was ∙ c.digit-in-len2.ensures)
    (sym c.in_ok-digit-in-len2-2.was ∙ c.digit-in-len2-2.ensures)

pub returns-in_default : goal.returns-in_default
returns-in_default c = slot_other c.args.digits.now (λ e. omega arith) (λ e. omega arith)

pub returns-in_default-2 : goal.returns-in_default-2
returns-in_default-2 c = slot_other c.args.digits.now (λ e. omega arith) (λ e. omega arith)
