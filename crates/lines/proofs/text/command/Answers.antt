-- `lines::text::command` meets its contract: a line without two bytes, or without its second a space, does not read; else its letter and
-- where the rest's first space is decide. Assumes nothing.
use Rattle.laws.proofs.Library.{refl, sym, ◌∙◌, arith}
use Rattle.std.specs.declared.option.Option.TheVariants.{None, Some}
use Rattle.lines.proofs.Reading.{said_short, said_unspaced, says_one, says_two, says_none}
use Rattle.lines.proofs.text.command.Goals as goal

pub returns-in_default : goal.returns-in_default
returns-in_default c = said_short c.args.line.now (omega arith)

pub returns-in_default-3 : goal.returns-in_default-3
returns-in_default-3 c = said_unspaced c.args.line.now (omega arith) (λ e. omega arith)

pub returns-in_err-slot-in-85-None : goal.returns-in_err-slot-in-85-None
returns-in_err-slot-in-85-None c =
    c.from_residual.ensures
    ∙ says_one c.args.line.now (omega arith) (omega arith) c.from-op.result c.from-op.ensures c.first_space.result c.first_space.ensures
    None c.in-85-None.is-0 c.in-85-None.is-1 (sym c.in_err-slot-in-85-None.was ∙ c.slot.ensures)

pub returns-in_ok-slot-in-85-None : goal.returns-in_ok-slot-in-85-None
returns-in_ok-slot-in-85-None c =
    says_one c.args.line.now (omega arith) (omega arith) c.from-op.result c.from-op.ensures c.first_space.result c.first_space.ensures
    (Some c.in_ok-slot-in-85-None.field-0) c.in-85-None.is-0 c.in-85-None.is-1 (sym c.in_ok-slot-in-85-None.was ∙ c.slot.ensures)

pub returns-in_err-slot-in-74-Some : goal.returns-in_err-slot-in-74-Some
returns-in_err-slot-in-74-Some c =
    c.from_residual-in_err-slot-in-74-Some.ensures
    ∙ says_two c.args.line.now (omega arith) (omega arith) c.from-op.result c.from-op.ensures c.first_space.result c.first_space.ensures
    c.in-74-Some.cut None _ c.in-74-Some.is-0 c.in-74-Some.is-1 (sym c.in_err-slot-in-74-Some.was ∙ c.slot-in-74-Some.ensures) refl

pub returns-in_err-slot-in-74-Some-2 : goal.returns-in_err-slot-in-74-Some-2
returns-in_err-slot-in-74-Some-2 c =
    c.from_residual-in_err-slot-in-74-Some-2.ensures
    ∙ says_two c.args.line.now (omega arith) (omega arith) c.from-op.result c.from-op.ensures c.first_space.result c.first_space.ensures
    c.in-74-Some.cut (Some c.in_ok-slot-in-74-Some.field-0) None c.in-74-Some.is-0 c.in-74-Some.is-1
    (sym c.in_ok-slot-in-74-Some.was ∙ c.slot-in-74-Some.ensures) (sym c.in_err-slot-in-74-Some-2.was ∙ c.slot-in-74-Some-2.ensures)

pub returns-in_ok-slot-in-74-Some-2 : goal.returns-in_ok-slot-in-74-Some-2
returns-in_ok-slot-in-74-Some-2 c =
    says_two c.args.line.now (omega arith) (omega arith) c.from-op.result c.from-op.ensures c.first_space.result c.first_space.ensures
    c.in-74-Some.cut (Some c.in_ok-slot-in-74-Some.field-0) (Some c.in_ok-slot-in-74-Some-2.field-0) c.in-74-Some.is-0 c.in-74-Some.is-1
    (sym c.in_ok-slot-in-74-Some.was ∙ c.slot-in-74-Some.ensures) (sym c.in_ok-slot-in-74-Some-2.was ∙ c.slot-in-74-Some-2.ensures)

-- a letter of one slot, and two; of two, and one; and no letter
pub returns-in_default-2 : goal.returns-in_default-2
returns-in_default-2 c =
    says_none c.args.line.now (omega arith) (omega arith) c.from-op.result c.from-op.ensures c.first_space.result c.first_space.ensures
    (λ e. absurd (cc)) (λ k e w. omega arith)

pub returns-in_default-2-2 : goal.returns-in_default-2-2
returns-in_default-2-2 c =
    says_none c.args.line.now (omega arith) (omega arith) c.from-op.result c.from-op.ensures c.first_space.result c.first_space.ensures
    (λ e w. omega arith) (λ k e. absurd (cc))

pub returns-in_default-2-3 : goal.returns-in_default-2-3
returns-in_default-2-3 c =
    says_none c.args.line.now (omega arith) (omega arith) c.from-op.result c.from-op.ensures c.first_space.result c.first_space.ensures
    (λ e. c.in_default-2.is-0.0.1) (λ k e. c.in_default-2.is-0.1)
