-- Reduction ends in a normal form, since each step leaves one string less in the id; and any order of steps ends there,
-- since different steps commute. Assumes nothing.
use Rattle.laws.proofs.Library.{◌≡◌, refl, sym, ap, ◌∙◌, subst, true, false, inl, inr, Option, none, some, ℕ, zero, suc, ◌≤◌, arith, length}
use Rattle.rules.specs.Strings.{Str, same, ◌▹◌}
use Rattle.rules.specs.Stamps.{Stamp, pair, settled, reduce_by, reduce}
use Rattle.laws.proofs.Tests.{decide, In, in_filled}
use Rattle.laws.proofs.Prefix.{same_is, not_same}
use Rattle.laws.proofs.Settle.{pair_in, pair_none, none_pair}
use Rattle.laws.proofs.Steps.{Proper, Steps, stop, step, settled_proper, settled_shorter, step_stays, steps_commute}

-- the two ways of one turn
data Turn (k : ℕ) (x : Stamp) : Type 0 where
  done : pair x.id ≡ none → reduce_by (suc k) x ≡ x → Turn k x
  goes : (s : Str) → In (s ▹ false) x.id → In (s ▹ true) x.id → reduce_by (suc k) x ≡ reduce_by k (settled s x) → Turn k x

turn : (k : ℕ) (x : Stamp) → Turn k x
unfolding reduce_by
turn k x = by (pair x.id) refl
  where
    by : (o : Option Str) → pair x.id ≡ o → Turn k x
    by none e = done e (rw (e, reduce_by))
    by (some s) e = let h = pair_in x.id s e in goes s h.0 h.1 (rw (e, reduce_by))

-- ---- at most k steps

-- what every step keeps, reduction keeps
module _ (P : Stamp → Type 0) (f : (s : Str) (x : Stamp) → Proper x → In (s ▹ false) x.id → In (s ▹ true) x.id → P x → P (settled s x)) where
  by_keeps : (k : ℕ) (x : Stamp) → Proper x → P x → P (reduce_by k x)
  unfolding reduce_by
  by_keeps zero x ok p = p
  by_keeps (suc k) x ok p = elim (turn k x) [
    | done n e ↦ subst P (sym e) p
    | goes s a b e ↦ subst P (sym e) (by_keeps k (settled s x) (settled_proper s x ok a b) (f s x ok a b p))
  ]

  pub reduce_keeps : (x : Stamp) → Proper x → P x → P (reduce x)
  unfolding reduce
  reduce_keeps x ok p = by_keeps (length x.id) x ok p

by_steps : (k : ℕ) (x : Stamp) → Steps x (reduce_by k x)
unfolding reduce_by
by_steps zero x = stop
by_steps (suc k) x = elim (turn k x) [
  | done n e ↦ subst (Steps x) (sym e) stop
  | goes s a b e ↦ subst (Steps x) (sym e) (step s a b (by_steps k (settled s x)))
]

-- k steps suffice for an id of k strings
by_normal : (k : ℕ) (x : Stamp) → Proper x → length x.id ≤ k → pair (reduce_by k x).id ≡ none
unfolding reduce_by
by_normal zero x ok h = none_pair x.id (λ s i j. omega (arith, in_filled (s ▹ false) x.id i))
by_normal (suc k) x ok h = elim (turn k x) [
  | done n e ↦ rw e n
  | goes s a b e ↦ rw e (by_normal k (settled s x) (settled_proper s x ok a b) (omega (arith, settled_shorter s x ok a b)))
]

by_self : (k : ℕ) (x : Stamp) → pair x.id ≡ none → reduce_by k x ≡ x
unfolding reduce_by
by_self zero x e = refl
by_self (suc k) x e = rw (e, reduce_by)

-- ---- reduction

pub reduce_proper : (x : Stamp) → Proper x → Proper (reduce x)
reduce_proper x ok = reduce_keeps Proper (λ s y p i j q. settled_proper s y p i j) x ok ok

-- "It goes on until no such pair is left"
pub reduce_normal : (x : Stamp) → Proper x → pair (reduce x).id ≡ none
unfolding reduce
reduce_normal x ok = by_normal (length x.id) x ok (omega arith)

pub reduce_steps : (x : Stamp) → Steps x (reduce x)
unfolding reduce
reduce_steps x = by_steps (length x.id) x

-- where no pair is, nothing changes
pub reduce_self : (x : Stamp) → pair x.id ≡ none → reduce x ≡ x
unfolding reduce
reduce_self x e = by_self (length x.id) x e

-- ---- "The order of these steps makes no difference"

-- the step that reduction takes first
record First (x : Stamp) : Type 0 where
  at : Str
  zero_in : In (at ▹ false) x.id
  one_in : In (at ▹ true) x.id
  same_end : reduce (settled at x) ≡ reduce x

-- where there is some step, reduction takes one
first : (s : Str) (x : Stamp) → Proper x → In (s ▹ false) x.id → In (s ▹ true) x.id → First x
unfolding reduce
first s x ok a b = elim (turn (length (settled s x).id) x) [
  | done n e ↦ absurd (pair_none x.id n s a b)
  | goes t c d e ↦
      let k : length (settled t x).id ≡ length (settled s x).id = omega (arith, settled_shorter s x ok a b, settled_shorter t x ok c d) in
      record { at = t; zero_in = c; one_in = d; same_end = rw (k, ← settled_shorter s x ok a b) (sym e) }
]

-- any step leads to the same end: it is the first one, or commutes with it
settled_end : (k : ℕ) (s : Str) (x : Stamp) → length x.id ≤ k → Proper x → In (s ▹ false) x.id → In (s ▹ true) x.id
    → reduce (settled s x) ≡ reduce x
settled_end zero s x h ok a b = absurd (omega (arith, settled_shorter s x ok a b))
settled_end (suc k) s x h ok a b =
    let f = first s x ok a b in
    let t = f.at in
    let c = f.zero_in in
    let d = f.one_in in
    let on : (r u : Str) (i : In (r ▹ false) x.id) (j : In (r ▹ true) x.id) → In (u ▹ false) x.id → In (u ▹ true) x.id → (u ≡ r → ⊥)
    → reduce (settled u (settled r x)) ≡ reduce (settled r x) =
    λ r u i j v w n. settled_end k u (settled r x) (omega (arith, settled_shorter r x ok i j)) (settled_proper r x ok i j)
    (step_stays u r x false n v) (step_stays u r x true n w) in
    elim (decide (same s t)) [
      | inl e ↦ rw (same_is s t e) f.same_end
      | inr e ↦
          let q : t ≡ s → ⊥ = λ z. not_same e (sym z) in
          sym (on s t a b c d q) ∙ ap reduce (steps_commute t s x ok c d a b q) ∙ on t s c d a b (not_same e) ∙ f.same_end
    ]

pub reduce_settled : (s : Str) (x : Stamp) → Proper x → In (s ▹ false) x.id → In (s ▹ true) x.id → reduce (settled s x) ≡ reduce x
reduce_settled s x ok a b = settled_end (length x.id) s x (omega arith) ok a b

pub steps_proper : {x y : Stamp} → Proper x → Steps x y → Proper y
steps_proper ok stop = ok
steps_proper {x} ok (step s a b r) = steps_proper (settled_proper s x ok a b) r

-- wherever steps lead, reduction from there ends as it does from the start
pub steps_reduce : {x y : Stamp} → Proper x → Steps x y → reduce y ≡ reduce x
steps_reduce ok stop = refl
steps_reduce {x} ok (step s a b r) = steps_reduce (settled_proper s x ok a b) r ∙ reduce_settled s x ok a b

-- confluence: wherever steps lead, steps lead on to what reduction gives
pub steps_diamond : {x y : Stamp} → Proper x → Steps x y → Steps y (reduce x)
steps_diamond {x} {y} ok r = subst (Steps y) (steps_reduce ok r) (reduce_steps y)

-- one normal form
pub reduce_unique : {x y : Stamp} → Proper x → Steps x y → pair y.id ≡ none → y ≡ reduce x
reduce_unique {x} {y} ok r e = sym (reduce_self y e) ∙ steps_reduce ok r
