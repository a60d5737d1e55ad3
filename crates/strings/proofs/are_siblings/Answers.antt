-- `strings::are_siblings` meets its contract: strings of one length that share all digits but one. Assumes nothing.
use Rattle.laws.proofs.Library.{eq-eqb, ne_eqb, ◌≡◌, ◌∙◌, refl, arith, ◌%◌}
use Rattle.rules.specs.Strings.{common, field}
use Rattle.laws.proofs.Bits.{field_length}
use Rattle.laws.proofs.Words.{common_le, siblings_words}
use Rattle.strings.proofs.are_siblings.Goals as goal

pub overflow_add-result : goal.overflow_add-result
overflow_add-result c =
    omega (arith, c.shared.ensures, common_le (field 64 c.args.a) (field 64 c.args.b), field_length 64 c.args.a)

pub returns-then-m-n : goal.returns-then-m-n
returns-then-m-n c =
    let h : c.args.a % 64 ≡ c.args.b % 64 = omega arith in
    simp (eq-eqb _ _ h) at (siblings_words c.args.a c.args.b c.shared.result c.shared.ensures)

pub returns-else-m-n : goal.returns-else-m-n
returns-else-m-n c =
    let h : c.args.a % 64 ≡ c.args.b % 64 → ⊥ = c.if-m-n.false in
    ne_eqb _ _ h ∙ simp (ne_eqb _ _ h) at (siblings_words c.args.a c.args.b (common (field 64 c.args.a) (field 64 c.args.b)) refl)
