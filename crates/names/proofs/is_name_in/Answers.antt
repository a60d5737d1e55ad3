-- `is_name_in` meets its contract: it asks the tests of `stored_test` in their order, and a record of fewer or more words is none. Assumes nothing.
use Rattle.laws.proofs.Library.{◌≡◌, ◌⊎◌, inl, inr, sym, ap, ◌∙◌, Bool, false, ◌&&◌, arith, ◌≤◌, ◌<◌, le-leb, lt-leb, eqb, length}
use Rattle.rules.specs.Limits.{narrow}
use Rattle.rules.specs.Names.{all}
use Rattle.rules.specs.Stored.{is_stored_name}
use Rattle.rules.specs.declared.Words.{Words}
use Rattle.laws.proofs.Tests.{not-true}
use Rattle.names.proofs.Laws.{front, behind}
use Rattle.names.proofs.Shape.{lent, rise, stored_test, stored_full}
use Rattle.names.proofs.is_name_in.Goals as goal

module _ (n : Words) where
  refused : (length n.words ≡ 16 → ⊥) ⊎ ((length n.words ≡ 16) × (16 < n.count)) → false ≡ is_stored_name narrow n
  refused (inl f) = sym (not-true (λ h. f (stored_full narrow n h)))
  refused (inr h) = sym (stored_test narrow n h.0 ∙ rw (lt-leb n.count 16 h.1))

  -- within the limit, what `rises` says decides, and then the words behind
  within : length n.words ≡ 16 → n.count ≤ 16 → {b : Bool} → b ≡ rise 24 (front n) → (b && all (eqb 0) (behind n)) ≡ is_stored_name narrow n
  within f k e = ap (λ (x : Bool). x && all (eqb 0) (behind n)) e ∙ sym (stored_test narrow n f ∙ rw (le-leb n.count 16 k))

pub returns-then-words-ne-STRINGS : goal.returns-then-words-ne-STRINGS
returns-then-words-ne-STRINGS c = refused (lent c.args.count c.args.words.now) c.then-words-ne-STRINGS.either

pub returns-then-rises : goal.returns-then-rises
returns-then-rises c = c.is_zero_from.ensures ∙ within (lent c.args.count c.args.words.now) (omega arith) (omega arith) c.if-rises.ensures

pub returns-else-rises : goal.returns-else-rises
returns-else-rises c = c.if-rises.false ∙ within (lent c.args.count c.args.words.now) (omega arith) (omega arith) c.if-rises.ensures
