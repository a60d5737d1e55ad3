-- What a turn of `seek`, of `push_once` and of `lift` leaves to do. Assumes nothing.
use Rattle.laws.proofs.Library.{◌≡◌, refl, sym, ap, ◌∙◌, Bool, true, false, cond, and-false, List, [], ◌∷◌, reverse_aux, reverse, ◌⊎◌, inl, inr}
use Rattle.laws.proofs.Library.{ℕ, zero, suc, ◌+◌, ◌-◌, ◌≤◌, ◌<◌, add-one, arith, lt-ltb, le-ltb, eqb, ltb, length, get_or, take, drop}
use Rattle.laws.proofs.Library.{drop_of_length-le, drop-cons, get_or-take, length-take-le}
use Rattle.std.specs.declared.option.Option.{Option}
use Rattle.std.specs.declared.option.Option.TheVariants.{None, Some}
use Rattle.std.specs.Option.{option_copied, option_eq}
use Rattle.std.specs.List.{slice_get}
use Rattle.std.proofs.Common.{Bor}
use Rattle.std.proofs.lemmas.Option.{slice_get-get_or}
use Rattle.strings.specs.Words.{begins}
use Rattle.unions.specs.Unions.{stack, seek, root, lift, once_from, once, lifted, once_on}
use Rattle.unions.proofs.Turns.{behind_first, behind_is}
use Rattle.unions.proofs.Stacks.{stack_front, same_at}

-- ---- the id's words

pub seek_next : (id : List ℕ) (r : ℕ) → 1 ≤ length id → get_or id 0 0 < r → begins (get_or id 0 0) r ≡ false → seek (behind_first id) r ≡ seek id r
unfolding seek
seek_next [] r h l e = absurd (omega arith)
seek_next (t ∷ i) r h l e = rw behind_is (simp (lt-ltb t r l, e))

pub seek_stop : (id : List ℕ) (r : ℕ) → 1 ≤ length id → (r ≤ get_or id 0 0) ⊎ (begins (get_or id 0 0) r ≡ true) → seek id r ≡ id
unfolding seek
seek_stop [] r h l = absurd (omega arith)
seek_stop (t ∷ i) r h (inl l) = simp (le-ltb t r l)
seek_stop (t ∷ i) r h (inr e) = rw (e, and-false (ltb t r))

pub seek_end : (id : List ℕ) (r : ℕ) → length id < 1 → seek id r ≡ id
unfolding seek
seek_end [] r h = refl
seek_end (t ∷ i) r h = absurd (omega arith)

pub root_here : (id : List ℕ) (r : ℕ) → 1 ≤ length id → get_or id 0 0 < r → get_or id 0 0 ≡ root id r
unfolding root
root_here [] r h l = absurd (omega arith)
root_here (t ∷ i) r h l = simp (lt-ltb t r l)

pub root_self : (id : List ℕ) (r : ℕ) → 1 ≤ length id → r ≤ get_or id 0 0 → r ≡ root id r
unfolding root
root_self [] r h l = absurd (omega arith)
root_self (t ∷ i) r h l = simp (le-ltb t r l)

pub root_end : (id : List ℕ) (r : ℕ) → length id < 1 → r ≡ root id r
unfolding root
root_end [] r h = refl
root_end (t ∷ i) r h = absurd (omega arith)

-- ---- a word once

-- b is whether the last of the first k words is x
pub once_tells : (l : List ℕ) (x k : ℕ) → k ≤ length l → (o : Option (Bor ℕ)) (y : Bor ℕ) (b : Bool) → y.now ≡ x
    → option_copied o ≡ slice_get (take k l) (length (take k l) - 1) → b ≡ option_eq (λ a c. eqb a.now c.now) o (Some y)
    → once_on x (stack l k) ≡ cond b (stack l k) (x ∷ stack l k)
unfolding once_on stack
once_tells l x zero h None y b p q e = rw e
once_tells l x zero h (Some z) y b p q e = absurd (cc)
once_tells l x (suc k) h o y b p q e = by o (q ∙ there) e
  where
    there : slice_get (take (suc k) l) (length (take (suc k) l) - 1) ≡ Some (get_or l k 0)
    there =
        let c : length (take (suc k) l) - 1 ≡ k = omega (arith, length-take-le (suc k) l h) in
        rw c (slice_get-get_or (take (suc k) l) k 0 (omega (arith, length-take-le (suc k) l h)) ∙ ap Some (get_or-take (suc k) l k 0 (omega arith)))

    by : (o : Option (Bor ℕ)) → option_copied o ≡ Some (get_or l k 0) → b ≡ option_eq (λ a c. eqb a.now c.now) o (Some y)
        → once_on x (stack l (suc k)) ≡ cond b (stack l (suc k)) (x ∷ stack l (suc k))
    by None q e = absurd (cc)
    by (Some z) q e = let f : z.now ≡ get_or l k 0 = cc in rw (e, f, p)

unfoldable pub once_all : List ℕ → List ℕ → List ℕ
once_all n [] = n
once_all n (x ∷ l) = once_all (once_on x n) l

once_from_lem : (l : List ℕ) (a : ℕ) (n : List ℕ) → reverse_aux (once_all (a ∷ n) l) [] ≡ reverse_aux (a ∷ n) (once_from a l)
unfolding once_all once_on once_from
once_from_lem [] a n = refl
once_from_lem (b ∷ l) a n = by (eqb a b) (once_from_lem l a n) (once_from_lem l b (a ∷ n))
  where
    by : (c : Bool) → reverse_aux (once_all (a ∷ n) l) [] ≡ reverse_aux (a ∷ n) (once_from a l)
        → reverse_aux (once_all (b ∷ a ∷ n) l) [] ≡ reverse_aux (b ∷ a ∷ n) (once_from b l)
        → reverse_aux (once_all (cond c (a ∷ n) (b ∷ a ∷ n)) l) [] ≡ reverse_aux (a ∷ n) (cond c (once_from a l) (b ∷ once_from b l))
    by true p q = p
    by false p q = q

once_all_lem : (l : List ℕ) → reverse (once_all [] l) ≡ once l
unfolding once_all once_on once
once_all_lem [] = refl
once_all_lem (a ∷ l) = once_from_lem l a []

-- ---- a turn of `lift`

-- with the stack of l's first k words, the rest of the id, and the words from i on to come
module _ (start : List ℕ) where
  pub lift_more : (l after id rest : List ℕ) (k r i x : ℕ) → i < length start → drop i l ≡ drop i start
      → rest ≡ seek id (get_or l i 0) → x ≡ root rest (get_or l i 0) → stack after r ≡ once_on x (stack l k)
      → once_all (stack after r) (lift rest (drop (i + 1) start)) ≡ once_all (stack l k) (lift id (drop i start))
  unfolding once_all lift
  lift_more l after id rest k r i x h e f g s = rw (s, g, f, same_at i l start e, add-one i, drop-cons start i 0 h)

  pub lift_end : (l id whole : List ℕ) (k i : ℕ) → length start ≤ i → k ≤ length l
      → once_all (stack l k) (lift id (drop i start)) ≡ once_all [] (lift whole start) → take k l ≡ lifted whole start
  unfolding once_all lift lifted
  lift_end l id whole k i h q e =
      sym (stack_front l k q) ∙ ap reverse (rw (drop_of_length-le start {i = i} h) at e) ∙ once_all_lem (lift whole start)
