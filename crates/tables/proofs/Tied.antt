-- What the gate and the rules on records answer, put together as the code does, is what the rules say of the table. Assumes nothing.
use Rattle.laws.proofs.Library.{◌≡◌, refl, sym, ap, subst, ◌∙◌, Bool, true, false, cond, ◌||◌, [], ◌∷◌, ℕ, zero, suc, ◌+◌, ◌≤◌, ◌<◌, arith, eq-eqb, eqb-true, eqb-false}
use Rattle.laws.proofs.Library.{leb-true, leb-false, le-ltb, lt-ltb, ltb-false, eqb, leb, ltb, length, length-set, set, replicate, Result, Ok, Err}
use Rattle.std.specs.Prelude.{Option, Some, None, not, position}
use Rattle.std.specs.List.{position_or_len}
use Rattle.std.proofs.lemmas.List.Sums.{prefix_len-le-length}
use Rattle.laws.proofs.Below.{below_refl}
use Rattle.laws.proofs.Tests.{clash}
use Rattle.rules.specs.Limits.{narrow, records}
use Rattle.rules.specs.Refusals.{Answer, and_then, first, long, many}
use Rattle.rules.specs.Stamps.{Stamp, start, update, fork, join, compare}
use Rattle.rules.specs.Stored.{stored, blank, absent, unlawful, held}
use Rattle.rules.specs.Tables.{Table, Step, Sparing, at, bad_size, no_slot, lowest, full, stepped, fresh_table, spare_from, spared_after}
use Rattle.rules.specs.Tables.{make_fresh, update_at, fork_at, join_at, compare_at, standing_at, spare_at}
use Rattle.rules.specs.Values.{given, branches}
use Rattle.rules.specs.declared.Record.{Record}
use Rattle.rules.specs.declared.Branches.{Branches}
use Rattle.rules.specs.declared.Refusal.{Refusal}
use Rattle.rules.specs.declared.Refusal.TheVariants.{NoSlot, Unfit, Full, Long, Many}
use Rattle.rules.specs.declared.Verdict.TheVariants.{Equal}
use Rattle.rules.specs.declared.Standing.{Standing}
use Rattle.slots.specs.Rules.{gate, slot_tests, pair_tests, meet_tests, update_rule, fork_rule, join_rule, compare_rule}

-- ---- the gate

abbrev bad_count : ℕ → Bool
bad_count n = eqb n 0 || ltb records n

abbrev accepted : Answer
accepted = Ok tt

-- the four ways past or into it
data Gate (n a b : ℕ) : Type 0 where
  size : bad_count n ≡ true → gate n a b ≡ Err Unfit → Gate n a b
  out_a : bad_count n ≡ false → leb n a ≡ true → gate n a b ≡ Err NoSlot → Gate n a b
  out_b : bad_count n ≡ false → leb n a ≡ false → leb n b ≡ true → gate n a b ≡ Err NoSlot → Gate n a b
  past : bad_count n ≡ false → leb n a ≡ false → leb n b ≡ false → gate n a b ≡ accepted → Gate n a b

gates : (n a b : ℕ) → Gate n a b
unfolding gate first
gates n a b = by (bad_count n) (leb n a) (leb n b) refl refl refl
  where
    by : (p q r : Bool) → bad_count n ≡ p → leb n a ≡ q → leb n b ≡ r → Gate n a b
    by true q r hp hq hr = size hp (simp hp)
    by false true r hp hq hr = out_a hp hq (simp (hp, hq))
    by false false true hp hq hr = out_b hp hq hr (simp (hp, hq, hr))
    by false false false hp hq hr = past hp hq hr (simp (hp, hq, hr))

few : (n : ℕ) → bad_count n ≡ false → n ≤ 32
few n e = by (eqb n 0) (ltb records n) refl refl e
  where
    by : (p q : Bool) → eqb n 0 ≡ p → ltb records n ≡ q → (p || q) ≡ false → n ≤ 32
    by true q hp hq e = absurd (clash refl e)
    by false true hp hq e = absurd (clash refl e)
    by false false hp hq e = ltb-false records n hq

-- slot 0 is in each table of a size that is allowed
none_out : (n : ℕ) → bad_count n ≡ false → leb n 0 ≡ true → ⊥
none_out n e h = by (eqb n 0) refl
  where
    by : (p : Bool) → eqb n 0 ≡ p → ⊥
    by true hp = clash refl (sym (ap (λ (b : Bool). b || ltb records n) hp) ∙ e)
    by false hp = absurd (omega (arith, leb-true n 0 h, eqb-false n 0 hp))

-- past it both numbers are below the length, and that is no more than a table has
pub gate_bounds : (n a b : ℕ) → accepted ≡ gate n a b → (a < n) × (b < n) × (n ≤ 32)
gate_bounds n a b e = by (gates n a b)
  where
    by : Gate n a b → (a < n) × (b < n) × (n ≤ 32)
    by (size p c) = absurd (cc)
    by (out_a p q c) = absurd (cc)
    by (out_b p q r c) = absurd (cc)
    by (past p q r c) = (leb-false n a q, leb-false n b r, few n p)

-- ---- what is made of a rule's result: a refusal keeps the table

abbrev pub step_of : {A : Type 0} → Result A Refusal → ℕ → Table → (A → Table) → Step
step_of (Ok x) n t f = record { answer = Ok n; table = f x }
step_of (Err r) n t f = record { answer = Err r; table = t }

given_step : (r : Answer) (n : ℕ) (t : Table) (s : Stamp) (f : Record → Table) → step_of (given narrow r s) n t f ≡ stepped r n t (f (stored narrow s))
given_step (Ok x) n t s f = refl
given_step (Err r) n t s f = refl

branch_step : (r : Answer) (n : ℕ) (t : Table) (s u : Stamp) (f : Branches → Table)
    → step_of (branches narrow r s u) n t f ≡ stepped r n t (f (record { zero = stored narrow s; one = stored narrow u }))
branch_step (Ok x) n t s u f = refl
branch_step (Err r) n t s u f = refl

-- ---- fresh

abbrev fresh_form : Table → Step
fresh_form t = step_of (gate (length t) 0 0) 0 t (λ x. set (replicate (length t) (blank narrow)) 0 (stored narrow start))

pub fresh_tied : (t : Table) → make_fresh narrow t ≡ fresh_form t
unfolding make_fresh bad_size first fresh_table
fresh_tied t = by (gates (length t) 0 0)
  where
    by : Gate (length t) 0 0 → make_fresh narrow t ≡ fresh_form t
    by (size p c) = simp (c, p)
    by (out_a p q c) = absurd (none_out (length t) p q)
    by (out_b p q r c) = absurd (clash r q)
    by (past p q r c) = simp (c, p)

-- ---- update

abbrev update_form : Table → ℕ → Step
update_form t a = step_of (and_then (gate (length t) a a) (λ x. update_rule (at t a))) a t (λ r. set t a r)

pub update_tied : (t : Table) (a : ℕ) → update_at narrow t a ≡ update_form t a
unfolding update_at update_rule first bad_size no_slot
update_tied t a = by (gates (length t) a a)
  where
    by : Gate (length t) a a → update_at narrow t a ≡ update_form t a
    by (size p c) = simp (c, p)
    by (out_a p q c) = simp (c, p, q)
    by (out_b p q r c) = absurd (clash r q)
    by (past p q r c) = simp (c, p, q) (sym (given_step (first (slot_tests (at t a) [])) a t (update (held (at t a))) (λ r. set t a r)))

-- ---- compare

compare_self : (s : Stamp) → compare s s ≡ Equal
unfolding compare
compare_self s = rw (below_refl s.update) refl

abbrev compare_form : Table → ℕ → ℕ → Result Standing Refusal
compare_form t a b = and_then (gate (length t) a b) (λ x. compare_rule a b (at t a) (at t b))

-- a slot beside itself
compare_same : (t : Table) (a : ℕ) → gate (length t) a a ≡ accepted → bad_count (length t) ≡ false → leb (length t) a ≡ false
    → standing_at narrow t a a ≡ compare_form t a a
unfolding standing_at compare_at compare_rule first bad_size no_slot
compare_same t a c p q = by (absent narrow (at t a)) (unlawful narrow (at t a)) refl refl
  where
    by : (x y : Bool) → absent narrow (at t a) ≡ x → unlawful narrow (at t a) ≡ y → standing_at narrow t a a ≡ compare_form t a a
    by true y hx hy = simp (c, p, q, hx, eq-eqb a a refl)
    by false true hx hy = simp (c, p, q, hx, hy, eq-eqb a a refl)
    by false false hx hy = simp (c, p, q, hx, hy, eq-eqb a a refl, compare_self (held (at t a)))

pub compare_tied : (t : Table) (a b : ℕ) → standing_at narrow t a b ≡ compare_form t a b
unfolding standing_at compare_at compare_rule first bad_size no_slot
compare_tied t a b = by (gates (length t) a b)
  where
    one : (z : Bool) → absent narrow (at t a) ≡ z → bad_count (length t) ≡ false → leb (length t) a ≡ false → leb (length t) b ≡ true
        → gate (length t) a b ≡ Err NoSlot → standing_at narrow t a b ≡ compare_form t a b
    one true z p q r c = simp (c, p, q, z)
    one false z p q r c = simp (c, p, q, r, z)

    two : (z : Bool) → eqb a b ≡ z → bad_count (length t) ≡ false → leb (length t) a ≡ false → leb (length t) b ≡ false → gate (length t) a b ≡ accepted
        → standing_at narrow t a b ≡ compare_form t a b
    two true z p q r c =
        let e = eqb-true a b z in
        subst (λ (n : ℕ). standing_at narrow t a n ≡ compare_form t a n) e
        (compare_same t a (subst (λ (n : ℕ). gate (length t) a n ≡ accepted) (sym e) c) p q)
    two false z p q r c = simp (c, p, q, r, z)

    by : Gate (length t) a b → standing_at narrow t a b ≡ compare_form t a b
    by (size p c) = simp (c, p)
    by (out_a p q c) = simp (c, p, q)
    by (out_b p q r c) = one (absent narrow (at t a)) refl p q r c
    by (past p q r c) = two (eqb a b) refl p q r c

-- ---- join

abbrev join_form : Table → ℕ → ℕ → Step
join_form t a b = step_of (and_then (gate (length t) a b) (λ x. join_rule a b (at t a) (at t b))) a t (λ r. set (set t a r) b (blank narrow))

pub join_tied : (t : Table) (a b : ℕ) → join_at narrow t a b ≡ join_form t a b
unfolding join_at join_rule first bad_size no_slot
join_tied t a b = by (gates (length t) a b)
  where
    one : (z : Bool) → absent narrow (at t a) ≡ z → bad_count (length t) ≡ false → leb (length t) a ≡ false → leb (length t) b ≡ true
        → gate (length t) a b ≡ Err NoSlot → join_at narrow t a b ≡ join_form t a b
    one true z p q r c = simp (c, p, q, z)
    one false z p q r c = simp (c, p, q, r, z)

    by : Gate (length t) a b → join_at narrow t a b ≡ join_form t a b
    by (size p c) = simp (c, p)
    by (out_a p q c) = simp (c, p, q)
    by (out_b p q r c) = one (absent narrow (at t a)) refl p q r c
    by (past p q r c) =
        let j : Stamp = join (held (at t a)) (held (at t b)) in
        let asked : Answer = first (pair_tests a b (at t a) (at t b) (meet_tests (at t a) (at t b) ((many narrow j, Many) ∷ []))) in
        simp (c, p, q, r) (sym (given_step asked a t j (λ r. set (set t a r) b (blank narrow))))

-- ---- fork

-- the lowest absent slot is the first one at which a record is absent
lowest_is : (t : Table) → lowest narrow t ≡ position_or_len (absent narrow) t
unfolding lowest
lowest_is [] = refl
lowest_is (r ∷ t) = by (absent narrow r) (lowest_is t)
  where
    by : (b : Bool) → lowest narrow t ≡ position_or_len (absent narrow) t → cond b zero (suc (lowest narrow t)) ≡ cond (not b) (1 + position_or_len (absent narrow) t) 0
    by true h = refl
    by false h = omega arith

sought : (t : Table) → position (absent narrow) t ≡ cond (full narrow t) None (Some (lowest narrow t))
unfolding full
sought t = rw (lowest_is t) (by (position_or_len (absent narrow) t) (prefix_len-le-length (λ r. not (absent narrow r)) t) (eqb (position_or_len (absent narrow) t) (length t)) refl)
  where
    by : (n : ℕ) → n ≤ length t → (b : Bool) → eqb n (length t) ≡ b → cond (ltb n (length t)) (Some n) None ≡ cond (eqb n (length t)) None (Some n)
    by n h true e = simp (e, le-ltb n (length t) (omega (arith, eqb-true n (length t) e)))
    by n h false e = simp (e, lt-ltb n (length t) (omega (arith, eqb-false n (length t) e)))

-- the slot of the new copy: where there is none, no matter which
abbrev pub slot_of : Option ℕ → ℕ
slot_of None = 0
slot_of (Some b) = b

-- past the gate
abbrev pub fork_past : Option ℕ → Table → ℕ → Step
fork_past o t a = step_of (fork_rule (at t a) o) (slot_of o) t (λ f. set (set t a f.zero) (slot_of o) f.one)

abbrev pub gated : Answer → Table → Step → Step
gated (Ok x) t s = s
gated (Err r) t s = record { answer = Err r; table = t }

abbrev pub fork_form : Option ℕ → Table → ℕ → Step
fork_form o t a = gated (gate (length t) a a) t (fork_past o t a)

module _ (t : Table) (a : ℕ) where
  fork_full : full narrow t ≡ true → fork_at narrow t a ≡ fork_form None t a
  unfolding fork_at fork_rule first bad_size no_slot
  fork_full f = by (gates (length t) a a) (absent narrow (at t a)) (unlawful narrow (at t a)) refl refl
    where
      by : Gate (length t) a a → (x y : Bool) → absent narrow (at t a) ≡ x → unlawful narrow (at t a) ≡ y → fork_at narrow t a ≡ fork_form None t a
      by (size p c) x y hx hy = simp (c, p)
      by (out_a p q c) x y hx hy = simp (c, p, q)
      by (out_b p q r c) x y hx hy = absurd (clash r q)
      by (past p q r c) true y hx hy = simp (c, p, q, hx)
      by (past p q r c) false true hx hy = simp (c, p, q, hx, hy)
      by (past p q r c) false false hx hy = simp (c, p, q, hx, hy, f)

  fork_lowest : full narrow t ≡ false → fork_at narrow t a ≡ fork_form (Some (lowest narrow t)) t a
  unfolding fork_at fork_rule first bad_size no_slot
  fork_lowest f = by (gates (length t) a a)
    where
      by : Gate (length t) a a → fork_at narrow t a ≡ fork_form (Some (lowest narrow t)) t a
      by (size p c) = simp (c, p)
      by (out_a p q c) = simp (c, p, q)
      by (out_b p q r c) = absurd (clash r q)
      by (past p q r c) =
          simp (c, p, q, f)
          (sym (branch_step (first (slot_tests (at t a) ((false, Full) ∷ (long narrow (held (at t a)), Long) ∷ []))) (lowest narrow t) t (fork false (held (at t a)))
          (fork true (held (at t a))) (λ f. set (set t a f.zero) (lowest narrow t) f.one)))

  pub fork_tied : fork_at narrow t a ≡ fork_form (position (absent narrow) t) t a
  fork_tied = rw (sought t) (by (full narrow t) refl)
    where
      by : (f : Bool) → full narrow t ≡ f → fork_at narrow t a ≡ fork_form (cond f None (Some (lowest narrow t))) t a
      by true f = fork_full f
      by false f = fork_lowest f

-- ---- spare

abbrev spare_form : Table → ℕ → Sparing
spare_form t a = and_then (gate (length t) a a) (λ x. spared_after (first (slot_tests (at t a) [])) (spare_from narrow (held (at t a)) a 0 t))

pub spare_tied : (t : Table) (a : ℕ) → spare_at narrow t a ≡ spare_form t a
unfolding spare_at first bad_size no_slot
spare_tied t a = by (gates (length t) a a)
  where
    by : Gate (length t) a a → spare_at narrow t a ≡ spare_form t a
    by (size p c) = simp (c, p)
    by (out_a p q c) = simp (c, p, q)
    by (out_b p q r c) = absurd (clash r q)
    by (past p q r c) = simp (c, p, q)

-- what the functions cite
pub ruleset tied = (gate_bounds, fresh_tied, update_tied, fork_tied, join_tied, compare_tied, spare_tied, length-set)
