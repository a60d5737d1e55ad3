-- One turn of the search for a copy that makes a lawful one obsolete: what it is told beside the next record decides, or the records behind do. Assumes nothing.
use Rattle.laws.proofs.Library.{◌≡◌, not, eq-eqb, ne_eqb, refl, sym, ap, ◌∙◌, Bool, true, false, cond, ◌||◌, [], ◌∷◌, ℕ, suc, ◌+◌, ◌<◌, ◌≤◌, add-one, arith, eqb, length, drop, get_or, drop-cons, drop_of_length-le, Result, Ok, Err}
use Rattle.rules.specs.Limits.{narrow}
use Rattle.rules.specs.Stored.{held, absent, is_stored, unlawful}
use Rattle.rules.specs.Refusals.{Answer, first, and_then, overlap, unseen}
use Rattle.rules.specs.Stamps.{compare}
use Rattle.rules.specs.Values.{told, compared, standing, stands_as}
use Rattle.rules.specs.Tables.{Table, Sparing, outside, spare_from, or_next}
use Rattle.rules.specs.Names.{Name}
use Rattle.rules.specs.declared.Record.{Record}
use Rattle.rules.specs.declared.Refusal.{Refusal}
use Rattle.rules.specs.declared.Refusal.TheVariants.{NoSlot, Overlap, Unseen, Unfit}
use Rattle.rules.specs.declared.Verdict.{Verdict}
use Rattle.rules.specs.declared.Verdict.TheVariants.{Equal, Obsolete, Newer, Conflict}
use Rattle.rules.specs.declared.Spared.TheVariants.{Spare, Kept}
use Rattle.walks.proofs.Meets.{compare_walk_lem}
use Rattle.slots.specs.Rules.{slot_tests}
use Rattle.scans.specs.Scans.{is_obsolete, obsolete_beside}

-- what is told beside one record, and what the records behind it answer
abbrev pub or_on : Result Bool Refusal → Sparing → Sparing
or_on (Ok true) next = Ok Spare
or_on (Ok false) next = next
or_on (Err r) next = Err r

-- of what the words tell of two lawful records the rules make the same
told_on : (b : Answer) (v : Verdict) (m n : Name) (next : Sparing)
    → or_on (and_then (stands_as (told b v) m n) (λ s. Ok (is_obsolete s))) next ≡ or_next b v next
told_on (Ok x) Equal m n next = refl
told_on (Ok x) Obsolete m n next = refl
told_on (Ok x) Newer m n next = refl
told_on (Ok x) Conflict m n next = refl
told_on (Err r) v m n next = refl

abbrev meets : Record → Record → Answer
meets m r = first ((unlawful narrow r, Unfit) ∷ (overlap (held m) (held r), Overlap) ∷ (unseen (held m) (held r), Unseen) ∷ [])

module _ (m : Record) (lawful : is_stored narrow m ≡ true) where
  beside : (r : Record) (next : Sparing) → or_on (obsolete_beside m r) next ≡ cond (absent narrow r) next (or_next (meets m r) (compare (held m) (held r)) next)
  unfolding obsolete_beside standing compared first unlawful
  beside r next = by (absent narrow r) (is_stored narrow r) refl refl
    where
      by : (x y : Bool) → absent narrow r ≡ x → is_stored narrow r ≡ y
          → or_on (obsolete_beside m r) next ≡ cond (absent narrow r) next (or_next (meets m r) (compare (held m) (held r)) next)
      by true y e f = simp e
      by false false e f = simp (e, f)
      by false true e f =
          simp (e, f, lawful, compare_walk_lem narrow (omega arith) m r lawful f)
          (told_on (first ((overlap (held m) (held r), Overlap) ∷ (unseen (held m) (held r), Unseen) ∷ [])) (compare (held m) (held r)) (held m).update (held r).update next)

  turn : (a k : ℕ) (r : Record) (t : Table)
      → spare_from narrow (held m) a k (r ∷ t) ≡ or_on (cond (eqb a k) (Ok false) (obsolete_beside m r)) (spare_from narrow (held m) a (suc k) t)
  unfolding spare_from
  turn a k r t = by (eqb a k) (beside r (spare_from narrow (held m) a (suc k) t))
    where
      by : (x : Bool) → or_on (obsolete_beside m r) (spare_from narrow (held m) a (suc k) t)
          ≡ cond (absent narrow r) (spare_from narrow (held m) a (suc k) t) (or_next (meets m r) (compare (held m) (held r)) (spare_from narrow (held m) a (suc k) t))
          → cond (x || absent narrow r) (spare_from narrow (held m) a (suc k) t) (or_next (meets m r) (compare (held m) (held r)) (spare_from narrow (held m) a (suc k) t))
          ≡ or_on (cond x (Ok false) (obsolete_beside m r)) (spare_from narrow (held m) a (suc k) t)
      by true h = refl
      by false h = sym h

abbrev accepted : Answer
accepted = Ok tt

-- what was asked of the record first says that it is lawful
asked_lawful : (m : Record) → Ok tt ≡ first (slot_tests m []) → is_stored narrow m ≡ true
unfolding first unlawful
asked_lawful m h = by (absent narrow m) (is_stored narrow m) h
  where
    by : (x y : Bool) → accepted ≡ cond x (Err NoSlot) (cond (not y) (Err Unfit) accepted) → y ≡ true
    by true y e = absurd (cc)
    by false true e = refl
    by false false e = absurd (cc)

module _ (m : Record) (a k : ℕ) (t : Table) where
  at_turn : Ok tt ≡ first (slot_tests m []) → k < length t
      → spare_from narrow (held m) a k (drop k t)
      ≡ or_on (cond (eqb a k) (Ok false) (obsolete_beside m (get_or t k outside))) (spare_from narrow (held m) a (k + 1) (drop (k + 1) t))
  at_turn e h =
      ap (λ (u : Table). spare_from narrow (held m) a k u) (drop-cons t k outside h)
      ∙ turn m (asked_lawful m e) a k (get_or t k outside) (drop (suc k) t)
      ∙ ap (λ (n : ℕ). or_on (cond (eqb a k) (Ok false) (obsolete_beside m (get_or t k outside))) (spare_from narrow (held m) a n (drop n t))) (sym (add-one k))

  -- at a slot but its own
  pub tells : Ok tt ≡ first (slot_tests m []) → k < length t → (k ≡ a → ⊥)
      → spare_from narrow (held m) a k (drop k t) ≡ or_on (obsolete_beside m (get_or t k outside)) (spare_from narrow (held m) a (k + 1) (drop (k + 1) t))
  tells e h n = at_turn e h ∙ simp (ne_eqb a k (λ i. n (sym i)))

  -- its own is passed over
  pub passes : Ok tt ≡ first (slot_tests m []) → k < length t → k ≡ a → spare_from narrow (held m) a k (drop k t) ≡ spare_from narrow (held m) a (k + 1) (drop (k + 1) t)
  passes e h n = at_turn e h ∙ simp (eq-eqb a k (sym n))

  -- behind the last slot there is no other
  pub turns_end : length t ≤ k → spare_from narrow (held m) a k (drop k t) ≡ Ok Kept
  unfolding spare_from
  turns_end h = ap (λ (u : Table). spare_from narrow (held m) a k u) (drop_of_length-le t h)

pub ruleset turns = (tells, passes, turns_end)
