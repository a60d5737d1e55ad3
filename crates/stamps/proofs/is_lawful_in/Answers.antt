-- `stamps::is_lawful_in` meets its contract: the four parts of a stored record, one after the other. Assumes nothing.
use Rattle.laws.proofs.Library.{◌≡◌, refl, sym, ap, ap₂, ◌∙◌, Bool, true, false, not, ◌&&◌, List, ℕ, take}
use Rattle.rules.specs.Limits.{narrow}
use Rattle.rules.specs.Names.{below}
use Rattle.rules.specs.Stamps.{is_none, pair}
use Rattle.rules.specs.Stored.{strs_in, is_stored_name, is_stored}
use Rattle.rules.specs.declared.Record.{Record}
use Rattle.walks.specs.Walks.{below_walk, has_twins}
use Rattle.stamps.proofs.Laws.{stored_parts, lent_below, lent_twins}
use Rattle.stamps.proofs.is_lawful_in.Goals.{then-not-is_name_in-via-then-not-is_name_in, then-not-is_name_in-via-else-not-is_name_in+then-not-is_name_in-2}
use Rattle.stamps.proofs.is_lawful_in.Goals as goal

abbrev given : List ℕ → ℕ → List ℕ → ℕ → Record
given u uc i ic = record { update = record { count = uc; words = u }; id = record { count = ic; words = i } }

module _ (r : Record) where
  -- what was asked of both names, and then of what they tell
  names : {x y : Bool} → x ≡ is_stored_name narrow r.update → y ≡ is_stored_name narrow r.id
      → (x && y && below (strs_in r.update) (strs_in r.id) && is_none (pair (strs_in r.id))) ≡ is_stored narrow r
  names e f = rw (e, f) (sym (stored_parts narrow r))

  -- where both are stored the walks decide: m and n are the words that count
  walks : {x y : Bool} {m n : List ℕ} → true ≡ is_stored_name narrow r.update → true ≡ is_stored_name narrow r.id
      → m ≡ take r.update.count r.update.words → n ≡ take r.id.count r.id.words → x ≡ below_walk m n → y ≡ has_twins n → (x && not y) ≡ is_stored narrow r
  walks u i e f p q =
      ap₂ (λ (a b : Bool). a && not b) (p ∙ (λ k. below_walk (e k) (f k)) ∙ lent_below r.update r.id (sym u) (sym i))
      (q ∙ ap has_twins f ∙ lent_twins r.id (sym i))
      ∙ ap (λ (b : Bool). below (strs_in r.update) (strs_in r.id) && b) (not_not (is_none (pair (strs_in r.id))))
      ∙ names u i
    where
      not_not : (b : Bool) → not (not b) ≡ b
      not_not true = refl
      not_not false = refl

pub returns-then-not-is_name_in : goal.returns-then-not-is_name_in
returns-then-not-is_name_in c =
    let r : Record = given c.args.u.now c.args.uc c.args.i.now c.args.ic in
    elim c.then-not-is_name_in.branch [
      | then-not-is_name_in-via-then-not-is_name_in w ↦ names r w.if-not-is_name_in.ensures refl
      | then-not-is_name_in-via-else-not-is_name_in+then-not-is_name_in-2 w ↦ names r w.if-not-is_name_in.ensures w.if-not-is_name_in-2.ensures
    ]

pub returns-then-is_below : goal.returns-then-is_below
returns-then-is_below c =
    walks (given c.args.u.now c.args.uc c.args.i.now c.args.ic) c.if-not-is_name_in.ensures c.if-not-is_name_in-2.ensures
    c.counted.ensures.1 c.counted-id.ensures.1 c.if-is_below.ensures c.has_twins.ensures

pub returns-else-is_below : goal.returns-else-is_below
returns-else-is_below c =
    c.if-is_below.false
    ∙ walks (given c.args.u.now c.args.uc c.args.i.now c.args.ic) c.if-not-is_name_in.ensures c.if-not-is_name_in-2.ensures
    c.counted.ensures.1 c.counted-id.ensures.1 c.if-is_below.ensures refl
