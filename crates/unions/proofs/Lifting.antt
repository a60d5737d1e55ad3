-- One walk over the reduced id and the update finds what each string of the update becomes: an id's string that is passed over comes before the string
-- in hand and all behind it, so it is a prefix of none of them. Assumes nothing.
use Rattle.laws.proofs.Library.{◌≡◌, refl, sym, ◌∙◌, subst, Bool, true, false, cond, List, [], ◌∷◌, ◌⊎◌, inl, inr, ⊎_elim, ℕ, ◌≤◌, le_of_lt, arith}
use Rattle.laws.proofs.Library.{ltb-true, ltb-false, eqb-true, eqb-false, eqb, ltb}
use Rattle.rules.specs.Strings.{Str, prefix, less, str_of, is_word}
use Rattle.rules.specs.Names.{Name, all, rising}
use Rattle.rules.specs.Stamps.{Stamp, reduce}
use Rattle.laws.proofs.Tests.{clash, decide, not-true, In, all_each, each_all}
use Rattle.laws.proofs.Rising.{less_trans, less_apart, rising_head, rising_tail, rising_cons, rising_unique}
use Rattle.laws.proofs.Prefix.{prefix_refl}
use Rattle.laws.proofs.Steps.{Proper}
use Rattle.laws.proofs.Reduce.{reduce_proper}
use Rattle.strings.proofs.Order.{prefix_le, le_less}
use Rattle.strings.proofs.Fronts.{begins_less}
use Rattle.unions.specs.Unions.{behind, reduced, seek, root, lift, once_from, once, lifted}
use Rattle.unions.proofs.Words.{strs, prefix_w, in_strs, strs_in_lem, word_alike}
use Rattle.unions.proofs.Merging.{Words}
use Rattle.unions.proofs.Reducing.{reduced_id, reduced_words}
use Rattle.unions.proofs.Becoming.{Becomes, becomes_one, less_further, becomes_order, Account, reduce_account}

-- ---- what is passed over

seek_in : (c : List ℕ) (r t : ℕ) → In t (seek c r) → In t c
unfolding seek
seek_in [] r t i = i
seek_in (w ∷ c) r t i = by (behind r w) i (λ h. seek_in c r t h)
  where
    by : (b : Bool) → In t (cond b (seek c r) (w ∷ c)) → (In t (seek c r) → In t c) → In t (w ∷ c)
    by true i ih = inr (ih i)
    by false i ih = i

-- the first word is not before r
abbrev Stops : List ℕ → ℕ → Type 0
Stops [] r = Unit {0}
Stops (t ∷ d) r = less (str_of t) (str_of r) ≡ false

-- d is what is left of c
record Sought (c : List ℕ) (r : ℕ) (d : List ℕ) : Type 0 where
  past : (t : ℕ) → In t c → In t d ⊎ (less (str_of t) (str_of r) ≡ true)
  rises : rising (strs d) ≡ true
  stops : Stops d r

module _ (most : ℕ) (hm : most ≤ 58) where
  sought : (c : List ℕ) (r : ℕ) → Words most c → is_word most r ≡ true → rising (strs c) ≡ true → Sought c r (seek c r)
  unfolding seek
  sought [] r p q h = record { past = λ t i. absurd i; rises = h; stops = tt }
  sought (w ∷ c) r p q h =
      by (behind r w) (begins_less most hm w r (p w (inl refl)) q) (sought c r (λ t i. p t (inr i)) q (rising_tail (str_of w) (strs c) h))
    where
      by : (b : Bool) → b ≡ less (str_of w) (str_of r) → Sought c r (seek c r) → Sought (w ∷ c) r (cond b (seek c r) (w ∷ c))
      by true e g = record {
        past = λ t i. ⊎_elim (λ k. inr (subst (λ (x : ℕ). less (str_of x) (str_of r) ≡ true) (sym k) (sym e))) (λ k. g.past t k) i;
        rises = g.rises;
        stops = g.stops;
      }
      by false e g = record { past = λ t i. inl i; rises = h; stops = sym e }

-- ---- each string becomes what it should

-- beside the id i, the strings of u become those of l, one by one
data Lifts (i : Name) : List ℕ → List ℕ → Type 0 where
  none : Lifts i [] []
  more : {r y : ℕ} {u l : List ℕ} → Becomes i (str_of r) (str_of y) → Lifts i u l → Lifts i (r ∷ u) (y ∷ l)

-- the words of the id that are left: the others come before each of u
record Rest (i : Name) (c u : List ℕ) : Type 0 where
  within : (t : ℕ) → In t c → In (str_of t) i
  past : (t : Str) → In t i → In t (strs c) ⊎ ((r : ℕ) → In r u → less t (str_of r) ≡ true)

module _ (most : ℕ) (hm : most ≤ 58) (i : Name) where
  rooted : (d : List ℕ) (r : ℕ) → Words most d → is_word most r ≡ true → rising (strs d) ≡ true → Stops d r → ((t : ℕ) → In t d → In (str_of t) i)
      → ((t : Str) → In t i → In t (strs d) ⊎ (less t (str_of r) ≡ true)) → Becomes i (str_of r) (str_of (root d r))
  unfolding root
  rooted [] r p o h s f g = inr (refl, λ t k. ⊎_elim (λ j. absurd j) (λ l. (less_apart t (str_of r) l).0) (g t k))
  rooted (w ∷ d) r p o h s f g = by (ltb w r) refl (decide (prefix_w w r))
    where
      v : is_word most w ≡ true
      v = p w (inl refl)

      by : (b : Bool) → ltb w r ≡ b → (prefix_w w r ≡ true) ⊎ (prefix_w w r ≡ false) → Becomes i (str_of r) (str_of (cond b w r))
      by true e (inl q) = inl (f w (inl refl), q)
      -- lower, and no prefix: it would come before r
      by true e (inr q) = absurd (clash (le_less most hm w r v o (le_of_lt (ltb-true w r e)) q) s)
      -- a prefix that is not lower is r itself
      by false e (inl q) =
          let same : w ≡ r = omega (arith, prefix_le most hm w r v o q, ltb-false w r e) in
          inl (subst (λ (x : ℕ). In (str_of x) i) same (f w (inl refl)), prefix_refl (str_of r))
      by false e (inr q) =
          inr (
            refl,
            λ t k. ⊎_elim
                (λ j. ⊎_elim (λ m. subst (λ (x : Str). prefix x (str_of r) ≡ false) (sym m) q)
                (λ m. not-true (λ z. clash (less_further (str_of w) t (str_of r) (rising_head (str_of w) (strs d) h t m) z) s)) j)
                (λ l. (less_apart t (str_of r) l).0) (g t k),
          )

  lifts : (u c : List ℕ) → Words most u → Words most c → rising (strs u) ≡ true → rising (strs c) ≡ true → Rest i c u → Lifts i u (lift c u)
  unfolding lift
  lifts [] c p q h k g = none
  lifts (r ∷ u) c p q h k g =
      more (rooted d r (λ x j. q x (seek_in c r x j)) (p r (inl refl)) s.rises s.stops inner now)
      (lifts u d (λ x j. p x (inr j)) (λ x j. q x (seek_in c r x j)) (rising_tail (str_of r) (strs u) h) s.rises record { within = inner; past = later })
    where
      d : List ℕ
      d = seek c r

      s : Sought c r d
      s = sought most hm c r q (p r (inl refl)) k

      inner : (t : ℕ) → In t d → In (str_of t) i
      inner t j = g.within t (seek_in c r t j)

      -- a string of the id is left, or comes before r
      now : (t : Str) → In t i → In t (strs d) ⊎ (less t (str_of r) ≡ true)
      now t j = ⊎_elim held (λ f. inr (f r (inl refl))) (g.past t j)
        where
          held : In t (strs c) → In t (strs d) ⊎ (less t (str_of r) ≡ true)
          held m =
              let o = strs_in_lem c t m in
              ⊎_elim (λ e. inl (subst (λ (x : Str). In x (strs d)) o.is (in_strs d o.one e)))
              (λ l. inr (subst (λ (x : Str). less x (str_of r) ≡ true) o.is l)) (s.past o.one o.inside)

      later : (t : Str) → In t i → In t (strs d) ⊎ ((x : ℕ) → In x u → less t (str_of x) ≡ true)
      later t j =
          ⊎_elim (λ e. inl e) (λ l. inr (λ x m. less_trans t (str_of r) (str_of x) l (rising_head (str_of r) (strs u) h (str_of x) (in_strs u x m)))) (now t j)

-- where y came from, and what r became
record Origin (i : Name) (u : List ℕ) (y : ℕ) : Type 0 where
  one : ℕ
  inside : In one u
  is : Becomes i (str_of one) (str_of y)

record Outcome (i : Name) (l : List ℕ) (r : ℕ) : Type 0 where
  one : ℕ
  inside : In one l
  is : Becomes i (str_of r) (str_of one)

origin : {i : Name} {u l : List ℕ} → Lifts i u l → (y : ℕ) → In y l → Origin i u y
origin none y j = absurd j
origin {i} (more {r = r} {y = w} {u = u} {l = l} b g) y j =
    ⊎_elim (λ e. record { one = r; inside = inl refl; is = subst (λ (x : ℕ). Becomes i (str_of r) (str_of x)) (sym e) b })
    (λ k. let o = origin g y k in record { one = o.one; inside = inr o.inside; is = o.is }) j

outcome : {i : Name} {u l : List ℕ} → Lifts i u l → (r : ℕ) → In r u → Outcome i l r
outcome none r j = absurd j
outcome {i} (more {r = x} {y = w} {u = u} {l = l} b g) r j =
    ⊎_elim (λ e. record { one = w; inside = inl refl; is = subst (λ (z : ℕ). Becomes i (str_of z) (str_of w)) (sym e) b })
    (λ k. let o = outcome g r k in record { one = o.one; inside = inr o.inside; is = o.is }) j

-- ---- in order, each once

-- no word comes before one that stands in front of it
data Mono : List ℕ → Type 0 where
  none : Mono []
  more : {x : ℕ} {l : List ℕ} → ((y : ℕ) → In y l → (str_of x ≡ str_of y) ⊎ (less (str_of x) (str_of y) ≡ true)) → Mono l → Mono (x ∷ l)

lifts_mono : {i : Name} {u l : List ℕ} → rising i ≡ true → rising (strs u) ≡ true → Lifts i u l → Mono l
lifts_mono h k none = none
lifts_mono {i} h k (more {r = r} {y = w} {u = u} {l = l} b g) =
    more
    (λ y j. let o = origin g y j in
    becomes_order i h (str_of r) (str_of o.one) (str_of w) (str_of y) (rising_head (str_of r) (strs u) k (str_of o.one) (in_strs u o.one o.inside)) b o.is)
    (lifts_mono h (rising_tail (str_of r) (strs u) k) g)

from_in : (l : List ℕ) (a y : ℕ) → In y (once_from a l) → In y l
unfolding once_from
from_in [] a y j = j
from_in (b ∷ l) a y j = by (eqb a b) j (λ h. from_in l a y h) (λ h. from_in l b y h)
  where
    by : (c : Bool) → In y (cond c (once_from a l) (b ∷ once_from b l)) → (In y (once_from a l) → In y l) → (In y (once_from b l) → In y l) → In y (b ∷ l)
    by true j p q = inr (p j)
    by false j p q = ⊎_elim (λ e. inl e) (λ k. inr (q k)) j

in_from : (l : List ℕ) (a y : ℕ) → In y l → In y (a ∷ once_from a l)
unfolding once_from
in_from [] a y j = absurd j
in_from (b ∷ l) a y j = by (eqb a b) refl j (λ h. in_from l a y h) (λ h. in_from l b y h)
  where
    by : (c : Bool) → eqb a b ≡ c → In y (b ∷ l) → (In y l → In y (a ∷ once_from a l)) → (In y l → In y (b ∷ once_from b l)) → In y (a ∷ cond c (once_from a l) (b ∷ once_from b l))
    by true e j p q = ⊎_elim (λ k. inl (k ∙ sym (eqb-true a b e))) (λ k. p k) j
    by false e j p q = ⊎_elim (λ k. inr (inl k)) (λ k. inr (q k)) j

once_in : (l : List ℕ) (y : ℕ) → In y (once l) → In y l
unfolding once
once_in [] y j = j
once_in (a ∷ l) y j = ⊎_elim (λ e. inl e) (λ k. inr (from_in l a y k)) j

in_once : (l : List ℕ) (y : ℕ) → In y l → In y (once l)
unfolding once
in_once [] y j = j
in_once (a ∷ l) y j = ⊎_elim (λ e. inl e) (λ k. in_from l a y k) j

module _ (most : ℕ) (hm : most ≤ 58) where
  from_rising : (l : List ℕ) (a : ℕ) → Words most (a ∷ l) → Mono (a ∷ l) → rising (strs (a ∷ once_from a l)) ≡ true
  unfolding once_from rising
  from_rising [] a p g = rising_cons (str_of a) [] (λ t j. absurd j) refl
  from_rising (b ∷ l) a p (more f (more k g)) =
      by (eqb a b) refl (from_rising l a (λ x j. p x (⊎_elim (λ e. inl e) (λ m. inr (inr m)) j)) (more (λ y j. f y (inr j)) g))
      (from_rising l b (λ x j. p x (inr j)) (more k g))
    where
      by : (c : Bool) → eqb a b ≡ c → rising (strs (a ∷ once_from a l)) ≡ true → rising (strs (b ∷ once_from b l)) ≡ true
          → rising (strs (a ∷ cond c (once_from a l) (b ∷ once_from b l))) ≡ true
      by true e s t = s
      by false e s t =
          let lower : less (str_of a) (str_of b) ≡ true =
          ⊎_elim (λ q. absurd (eqb-false a b e (word_alike most hm a b (p a (inl refl)) (p b (inr (inl refl))) q))) (λ q. q) (f b (inl refl)) in
          rising_cons (str_of a) (strs (b ∷ once_from b l))
          (λ x j. ⊎_elim (λ q. subst (λ (z : Str). less (str_of a) z ≡ true) (sym q) lower)
          (λ q. less_trans (str_of a) (str_of b) x lower (rising_head (str_of b) (strs (once_from b l)) t x q)) j)
          t

  once_rising : (l : List ℕ) → Words most l → Mono l → rising (strs (once l)) ≡ true
  unfolding once rising
  once_rising [] p g = refl
  once_rising (a ∷ l) p g = from_rising l a p g

-- ---- words stay words

root_in : (d : List ℕ) (r : ℕ) → In (root d r) d ⊎ (root d r ≡ r)
unfolding root
root_in [] r = inr refl
root_in (t ∷ d) r = by (ltb t r)
  where
    by : (b : Bool) → In (cond b t r) (t ∷ d) ⊎ (cond b t r ≡ r)
    by true = inl (inl refl)
    by false = inr refl

lift_in : (u c : List ℕ) (y : ℕ) → In y (lift c u) → In y c ⊎ In y u
unfolding lift
lift_in [] c y j = absurd j
lift_in (r ∷ u) c y j =
    ⊎_elim (λ e. ⊎_elim (λ k. inl (seek_in c r y (subst (λ (x : ℕ). In x (seek c r)) (sym e) k))) (λ k. inr (inl (e ∙ k))) (root_in (seek c r) r))
    (λ m. ⊎_elim (λ k. inl (seek_in c r y k)) (λ k. inr (inr k)) (lift_in u (seek c r) y m)) j

pub lifted_words : (most : ℕ) (i u : List ℕ) → all (is_word most) i ≡ true → all (is_word most) u ≡ true → all (is_word most) (lifted i u) ≡ true
unfolding lifted
lifted_words most i u p q =
    each_all (is_word most) (once (lift i u))
    (λ y j. ⊎_elim (λ k. all_each (is_word most) i p y k) (λ k. all_each (is_word most) u q y k) (lift_in u i y (once_in (lift i u) y j)))

-- ---- the update after reduction

module _ (most : ℕ) (hm : most ≤ 58) (x : Stamp) (ok : Proper x) (id u : List ℕ) (words : all (is_word most) id ≡ true) (words2 : all (is_word most) u ≡ true)
    (told : strs id ≡ x.id) (told2 : strs u ≡ x.update) where
  abbrev end : Name
  end = (reduce x).id

  abbrev left : List ℕ
  left = reduced id

  left_is : strs left ≡ end
  left_is = reduced_id most hm x ok id words told

  left_words : Words most left
  left_words = all_each (is_word most) left (reduced_words most hm x ok id words told)

  end_rising : rising end ≡ true
  end_rising = (reduce_proper x ok).id_rising

  u_rising : rising (strs u) ≡ true
  u_rising = subst (λ (n : Name). rising n ≡ true) (sym told2) ok.update_rising

  walk : Lifts end u (lift left u)
  walk =
      lifts most hm end u left (all_each (is_word most) u words2) left_words u_rising (subst (λ (n : Name). rising n ≡ true) (sym left_is) end_rising)
      record {
        within = λ t j. subst (In (str_of t)) left_is (in_strs left t j);
        past = λ t j. inl (subst (In t) (sym left_is) j);
      }

  account : Account x.update (reduce x)
  account = reduce_account x ok

  pub lifted_update : strs (lifted left u) ≡ (reduce x).update
  unfolding lifted
  lifted_update =
      rising_unique (strs (lifted left u)) (reduce x).update
      (once_rising most hm (lift left u) (λ y j. ⊎_elim (left_words y) (all_each (is_word most) u words2 y) (lift_in u left y j)) (lifts_mono end_rising u_rising walk))
      (reduce_proper x ok).update_rising
      (λ y j.
      let w = strs_in_lem (lifted left u) y j in
      let o = origin walk w.one (once_in (lift left u) w.one w.inside) in
      subst (λ (z : Str). In z (reduce x).update) w.is
      (account.to (str_of o.one) (str_of w.one) (subst (In (str_of o.one)) told2 (in_strs u o.one o.inside)) o.is))
      (λ y j.
      let s = account.from y j in
      let r = strs_in_lem u s.one (subst (In s.one) (sym told2) s.inside) in
      let o = outcome walk r.one r.inside in
      let e : str_of o.one ≡ y =
      becomes_one end end_rising s.one (str_of o.one) y (subst (λ (z : Str). Becomes end z (str_of o.one)) r.is o.is) s.is in
      subst (λ (z : Str). In z (strs (lifted left u))) e (in_strs (lifted left u) o.one (in_once (lift left u) o.one o.inside)))
