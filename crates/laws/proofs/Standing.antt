-- A comparison with its places is the comparison that it was, and a conflict has two strings to show: both stamps are lawful, so both update
-- names have strings, none longer than the limit, and neither name is below the other. Assumes nothing.
use Rattle.laws.proofs.Library.{◌≡◌, refl, Result, Ok, Err, Bool, true, false, List, ◌∷◌, ℕ, ◌≤◌, arith, length}
use Rattle.rules.specs.Limits.{Limits}
use Rattle.rules.specs.Names.{Name, below, lacked}
use Rattle.rules.specs.Stamps.{Stamp, verdict, compare}
use Rattle.rules.specs.Stored.{unlawful}
use Rattle.rules.specs.Refusals.{Answer, and_then, first}
use Rattle.rules.specs.Values.{Compared, told, compared, placed, compared_of, standing}
use Rattle.rules.specs.Packed.{read_stamp, packed_compare, packed_standing}
use Rattle.rules.specs.Tables.{Table, at, stamp_at, compare_at, standing_at}
use Rattle.rules.specs.Traces.{lacked_at}
use Rattle.rules.specs.declared.Record.{Record}
use Rattle.rules.specs.declared.Verdict.{Verdict}
use Rattle.rules.specs.declared.Verdict.TheVariants.{Equal, Obsolete, Newer, Conflict}
use Rattle.rules.specs.declared.Refusal.{Refusal}
use Rattle.rules.specs.declared.Uncovered.{Uncovered}
use Rattle.laws.proofs.Below.{uncovered_lt, lacked_in, lacked_not_e}
use Rattle.laws.proofs.Lawful.{Named, lawful_parts}
use Rattle.laws.proofs.Stored.{lawful_stored, stored_lawful}

-- ---- without the places

pub compared_placed : (c : Compared) (x y : Uncovered) → compared_of (placed c x y) ≡ c
compared_placed (Ok Equal) x y = refl
compared_placed (Ok Obsolete) x y = refl
compared_placed (Ok Newer) x y = refl
compared_placed (Ok Conflict) x y = refl
compared_placed (Err r) x y = refl

pub compared_standing : (L : Limits) (a b : Record) → compared_of (standing L a b) ≡ compared L a b
unfolding standing
compared_standing L a b = compared_placed (compared L a b) _ _

of_read : (L : Limits) (g h : Result Record Refusal)
    → compared_of (and_then g (λ a. and_then h (standing L a))) ≡ and_then g (λ a. and_then h (compared L a))
of_read L (Err r) h = refl
of_read L (Ok a) (Err r) = refl
of_read L (Ok a) (Ok b) = compared_standing L a b

pub compared_packed : (L : Limits) (s t : List ℕ) → compared_of (packed_standing L s t) ≡ packed_compare L s t
unfolding packed_standing packed_compare
compared_packed L s t = of_read L (read_stamp L s) (read_stamp L t)

pub compared_at : (L : Limits) (t : Table) (a b : ℕ) → compared_of (standing_at L t a b) ≡ compare_at L t a b
unfolding standing_at
compared_at L t a b = compared_placed (compare_at L t a b) _ _

-- ---- what was accepted

-- where a call is accepted, no test of its list holds
pub first_done : (b : Bool) (r : Refusal) (ts : List (Bool × Refusal)) → first ((b, r) ∷ ts) ≡ Ok tt → (b ≡ false) × (first ts ≡ Ok tt)
unfolding first
first_done true r ts e = absurd (let z : ◌≡◌ {A = ℕ} 0 1 = cc in omega arith)
first_done false r ts e = (refl, e)

pub told_is : (x : Answer) (v w : Verdict) → told x v ≡ Ok w → (x ≡ Ok tt) × (v ≡ w)
told_is (Ok tt) v w e = (refl, cc)
told_is (Err r) v w e = absurd (let z : ◌≡◌ {A = ℕ} 0 1 = cc in omega arith)

-- "conflict if neither"
neither : (p q : Bool) → verdict p q ≡ Conflict → (p ≡ false) × (q ≡ false)
neither true true e = absurd (let z : ◌≡◌ {A = ℕ} 0 1 = cc in omega arith)
neither true false e = absurd (let z : ◌≡◌ {A = ℕ} 0 1 = cc in omega arith)
neither false true e = absurd (let z : ◌≡◌ {A = ℕ} 0 1 = cc in omega arith)
neither false false e = (refl, refl)

pub compare_conflict : (x y : Stamp) → compare x y ≡ Conflict → (below x.update y.update ≡ false) × (below y.update x.update ≡ false)
unfolding compare
compare_conflict x y e = neither (below x.update y.update) (below y.update x.update) e

-- ---- a conflict

-- two names, the first not below the second: the string to show
record Shown (L : Limits) (m n : Name) : Type 0 where
  some : 1 ≤ length (lacked m n)
  short : length (lacked m n) ≤ L.digits

shown : (L : Limits) (m n : Name) → Named L m → Named L n → below m n ≡ false → Shown L m n
shown L m n p q e =
    let h = uncovered_lt m n e in
    record { some = lacked_not_e m n h q.filled; short = p.short (lacked m n) (lacked_in m n h) }

module _ (L : Limits) (t : Table) (a b : ℕ) (e : compare_at L t a b ≡ Ok Conflict) where
  -- it passed the tests of both stamps
  both : Shown L (stamp_at t a).update (stamp_at t b).update × Shown L (stamp_at t b).update (stamp_at t a).update
  unfolding compare_at
  both =
      let d = told_is _ _ Conflict e in
      let f = (first_done _ _ _ (first_done _ _ _ (first_done _ _ _ d.0).1).1).1 in
      let p = first_done (unlawful L (at t a)) _ _ f in
      let q = first_done (unlawful L (at t b)) _ _ p.1 in
      let m = (lawful_parts L (stamp_at t a) (stored_lawful L (at t a) (lawful_stored L (at t a) p.0))).update_named in
      let n = (lawful_parts L (stamp_at t b) (stored_lawful L (at t b) (lawful_stored L (at t b) q.0))).update_named in
      let c = compare_conflict (stamp_at t a) (stamp_at t b) d.1 in
      (shown L _ _ m n c.0, shown L _ _ n m c.1)

  -- no string that is shown is empty
  pub conflict_says : (1 ≤ length (lacked_at t a b)) × (1 ≤ length (lacked_at t b a))
  conflict_says = (both.0.some, both.1.some)

  -- nor longer than a string may be
  pub conflict_short : (length (lacked_at t a b) ≤ L.digits) × (length (lacked_at t b a) ≤ L.digits)
  conflict_short = (both.0.short, both.1.short)
