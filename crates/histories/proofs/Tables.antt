-- What a table holds after a store, which slot a fork takes, what the shares of all slots come to after a store, and what a call's
-- answer tells of its tests. Assumes nothing.
use Rattle.laws.proofs.Library.{◌≡◌, Ok, Err, refl, sym, ap, ◌∙◌, Bool, true, false, not, ◌&&◌, List, [], ◌∷◌, inl, inr, ℕ, zero, suc, ◌+◌, ◌≤◌, ◌<◌, sub-zero, arith}
use Rattle.laws.proofs.Library.{eqb, leb, length, get_or, set, replicate, length-set, get_or-set_same, get_or-set_other, leb-false, lt-leb}
use Rattle.rules.specs.Limits.{Limits}
use Rattle.rules.specs.Strings.{share, whole}
use Rattle.rules.specs.Stamps.{Stamp, start, lawful, join, sum_shares}
use Rattle.rules.specs.Stored.{words_of, stored, strs_in, held, unlawful, blank, absent}
use Rattle.rules.specs.Refusals.{Answer, first, long, many, overlap, unseen}
use Rattle.rules.specs.Tables.{Table, outside, at, stamp_at, bad_size, no_slot, present, lowest, full, one_slot}
use Rattle.rules.specs.Histories.{sum_table}
use Rattle.rules.specs.Promises.{Usual}
use Rattle.rules.specs.declared.Record.{Record}
use Rattle.rules.specs.declared.Refusal.{Refusal}
use Rattle.rules.specs.declared.Refusal.TheVariants.{NoSlot, OneSlot, Full, Long, Many, Overlap, Unseen, Unfit}
use Rattle.laws.proofs.Tests.{clash, decide, not-true, is_not, not_is, or_right}
use Rattle.laws.proofs.Stored.{held_stored, stored_present, blank_absent}
use Rattle.histories.specs.Configurations.{put}
use Rattle.histories.proofs.Config.{here, there, is_where}

-- ---- answers

-- no test holds
abbrev pub Passed : List (Bool × Refusal) → Type 0
Passed [] = Unit {0}
Passed (t ∷ ts) = (t.0 ≡ false) × Passed ts

pub passed_done : (ts : List (Bool × Refusal)) → Passed ts → first ts ≡ Ok tt
unfolding first
passed_done [] p = refl
passed_done (t ∷ ts) p = rw p.0 (passed_done ts p.1)

-- what holds where no test does, and of every refusal, holds of the answer
pub answered : (ts : List (Bool × Refusal)) (P : Answer → Type 0) → (Passed ts → P (Ok tt)) → ((r : Refusal) → P (Err r)) → P (first ts)
unfolding first
answered [] P f g = f tt
answered (t ∷ ts) P f g = elim (decide t.0) [ inl e ↦ rw e (g t.1) | inr e ↦ rw e (answered ts P (λ p. f (e, p)) g) ]

-- tests in their order: each never holds, or has a number that such a table gives
pub data Usuals : List (Bool × Refusal) → Type 0 where
  end : Usuals []
  never : {b : Bool} {r : Refusal} {ts : List (Bool × Refusal)} → b ≡ false → Usuals ts → Usuals ((b, r) ∷ ts)
  gives : {b : Bool} {r : Refusal} {ts : List (Bool × Refusal)} → Usual r → (b ≡ false → Usuals ts) → Usuals ((b, r) ∷ ts)

abbrev pub UsualAnswer : Answer → Type 0
UsualAnswer (Ok x) = Unit {0}
UsualAnswer (Err r) = Usual r

pub first_usual : {ts : List (Bool × Refusal)} → Usuals ts → UsualAnswer (first ts)
unfolding first
first_usual end = tt
first_usual (never p u) = rw p (first_usual u)
first_usual (gives {b} {r} {ts} n f) = elim (decide b) [ inl e ↦ rw e n | inr e ↦ rw e (first_usual (f e)) ]

-- the tests of a fork, a join and a compare, in their order
abbrev pub fork_tests : Limits → Table → ℕ → List (Bool × Refusal)
fork_tests L t a = one_slot L t a ((full L t, Full) ∷ (long L (stamp_at t a), Long) ∷ [])

abbrev pub join_tests : Limits → Table → ℕ → ℕ → List (Bool × Refusal)
join_tests L t a b =
    (bad_size t, Unfit)
    ∷ (no_slot L t a, NoSlot)
    ∷ (no_slot L t b, NoSlot)
    ∷ (eqb a b, OneSlot)
    ∷ (unlawful L (at t a), Unfit)
    ∷ (unlawful L (at t b), Unfit)
    ∷ (overlap (stamp_at t a) (stamp_at t b), Overlap)
    ∷ (unseen (stamp_at t a) (stamp_at t b), Unseen)
    ∷ (many L (join (stamp_at t a) (stamp_at t b)), Many)
    ∷ []

abbrev pub compare_tests : Limits → Table → ℕ → ℕ → List (Bool × Refusal)
compare_tests L t a b =
    (bad_size t, Unfit)
    ∷ (no_slot L t a, NoSlot)
    ∷ (no_slot L t b, NoSlot)
    ∷ (unlawful L (at t a), Unfit)
    ∷ (unlawful L (at t b), Unfit)
    ∷ (not (eqb a b) && overlap (stamp_at t a) (stamp_at t b), Overlap)
    ∷ (not (eqb a b) && unseen (stamp_at t a) (stamp_at t b), Unseen)
    ∷ []

-- ---- stores

-- the list with v in place a
pub get_d_put : {A : Type 0} (l : List A) (a : ℕ) (v d : A) (x : ℕ) → a < length l → get_or (set l a v) x d ≡ put a v (λ y. get_or l y d) x
get_d_put l a v d x h = elim (is_where a x) [ here p e ↦ rw (e, p) (get_or-set_same l a v d h) | there n e ↦ rw e (get_or-set_other l a x v d n) ]

put_map : {A B : Type 0} (f : A → B) (a : ℕ) (v : A) (g : ℕ → A) (x : ℕ) → f (put a v g x) ≡ put a (f v) (λ y. f (g y)) x
put_map f a v g x = elim (is_where a x) [ here p e ↦ rw e | there n e ↦ rw e ]

-- putting what is there changes nothing
pub put_self : {A : Type 0} (a : ℕ) (v : A) (g : ℕ → A) (x : ℕ) → g a ≡ v → put a v g x ≡ g x
put_self a v g x h = elim (is_where a x) [ here p e ↦ rw (e, p) (sym h) | there n e ↦ rw e ]

-- ---- slots

-- a slot is present when the table has it and its record is not all zeros
module _ (L : Limits) (t : Table) (a : ℕ) where
  pub present_size : present L t a ≡ true → a < length t
  unfolding no_slot
  present_size p = leb-false (length t) a (not-true (λ e. clash p (rw e)))

  pub present_there : present L t a ≡ true → absent L (at t a) ≡ false
  unfolding no_slot
  present_there p = not-true (λ e. clash (or_right (leb (length t) a) e) (not_is p))

  pub present_by : a < length t → present L t a ≡ not (absent L (at t a))
  unfolding no_slot
  present_by h = rw (lt-leb (length t) a h)

-- the table with a record stored in slot a
module _ (L : Limits) (t : Table) (a : ℕ) (h : a < length t) where
  pub at_put : (r : Record) (x : ℕ) → at (set t a r) x ≡ put a r (at t) x
  at_put r x = get_d_put t a r outside x h

  present_put : (r : Record) (b : Bool) (x : ℕ) → not (absent L r) ≡ b → present L (set t a r) x ≡ put a b (present L t) x
  unfolding no_slot
  present_put r b x c = rw (length-set t a r, at_put r x) (elim (is_where a x) [ here p e ↦ rw (e, p, lt-leb (length t) a h) c | there n e ↦ rw e ])

  -- all zeros: no copy
  pub present_blank : (x : ℕ) → present L (set t a (blank L)) x ≡ put a false (present L t) x
  present_blank x = present_put (blank L) false x (rw (blank_absent L))

  -- a lawful stamp: its copy
  module _ (s : Stamp) (l : lawful L s ≡ true) (x : ℕ) where
    pub present_stored : present L (set t a (stored L s)) x ≡ put a true (present L t) x
    present_stored = present_put (stored L s) true x (is_not (stored_present L s l))

    pub stamp_stored : L.digits ≤ 58 → stamp_at (set t a (stored L s)) x ≡ put a s (stamp_at t) x
    stamp_stored room =
        ap held (at_put (stored L s) x) ∙ put_map held a (stored L s) (at t) x
        ∙ ap (λ (z : Stamp). put a z (stamp_at t) x) (held_stored L room s l)

-- the slot that a fork takes has no copy
module _ (L : Limits) where
  pub lowest_absent : (t : Table) → lowest L t < length t → absent L (at t (lowest L t)) ≡ true
  unfolding lowest
  lowest_absent [] h = absurd (omega arith)
  lowest_absent (r ∷ t) h = elim (decide (absent L r)) [
    | inl e ↦ rw e e
    | inr e ↦ rw e (lowest_absent t (let k : suc (lowest L t) < suc (length t) = rw e at h in omega arith))
  ]

  pub lowest_size : (t : Table) → lowest L t ≤ length t
  unfolding lowest
  lowest_size [] = omega arith
  lowest_size (r ∷ t) = elim (decide (absent L r)) [ inl e ↦ rw e (omega arith) | inr e ↦ rw e (omega (arith, lowest_size t)) ]

-- ---- shares

abbrev pub share_of : ℕ → Record → ℕ
share_of most r = sum_shares most (held r).id

-- what a store adds to the sum, and what it takes from it
pub sum_set : (most : ℕ) (t : Table) (a : ℕ) (r : Record) → a < length t → sum_table most (set t a r) + share_of most (at t a) ≡ sum_table most t + share_of most r
unfolding sum_table
sum_set most [] a r h = absurd (omega arith)
sum_set most (q ∷ t) zero r h = omega arith
sum_set most (q ∷ t) (suc a) r h = omega (arith, sum_set most t a r (omega arith))

-- an absent record has no share
pub share_blank : (L : Limits) (most : ℕ) → share_of most (blank L) ≡ 0
unfolding held blank stored words_of strs_in sum_shares
share_blank L most = refl

pub sum_blank : (L : Limits) (most n : ℕ) → sum_table most (replicate n (blank L)) ≡ 0
unfolding sum_table
sum_blank L most zero = refl
sum_blank L most (suc n) = omega (arith, share_blank L most, sum_blank L most n)

-- a lawful stamp in the place of a record
pub sum_stored : (L : Limits) → L.digits ≤ 58 → (most : ℕ) (t : Table) (a : ℕ) (s : Stamp) → a < length t → lawful L s ≡ true
    → sum_table most (set t a (stored L s)) + share_of most (at t a) ≡ sum_table most t + sum_shares most s.id
sum_stored L room most t a s h l =
    sum_set most t a (stored L s) h ∙ ap (λ (x : Stamp). sum_table most t + sum_shares most x.id) (held_stored L room s l)

-- [e|e] has the whole
pub share_start : (most : ℕ) → sum_shares most start.id ≡ whole most
unfolding sum_shares share
share_start most = rw sub-zero (omega arith)
