-- Steps of reduction at a stamp whose id holds s0 and s1: each keeps a proper stamp proper and leaves one string less in the id,
-- and two different steps commute. What was covered stays covered, except s0 and s1. Assumes nothing.
use Rattle.laws.proofs.Library.{◌≡◌, refl, sym, ap, ◌∙◌, subst, Bool, true, false, [], ◌∷◌, drop_last, ◌⊎◌, inl, inr, ⊎_elim, ◌↔◌, ℕ, suc, ◌+◌, ◌≤◌}
use Rattle.laws.proofs.Library.{arith, length}
use Rattle.rules.specs.Strings.{Str, prefix, same, ◌▹◌}
use Rattle.rules.specs.Names.{Name, all, rising, covered, below, insert}
use Rattle.rules.specs.Stamps.{Stamp, update, settle, settled}
use Rattle.laws.proofs.Tests.{clash, decide, not-true, In, in_filled, Some}
use Rattle.laws.proofs.Prefix.{prefix_refl, prefix_trans, prefix_antisym, prefix_grown, prefix_of_grown, prefix_goes_on, grown_not_prefix}
use Rattle.laws.proofs.Prefix.{same_is, not_same}
use Rattle.laws.proofs.Rising.{twins_less, rising_antichain, in_insert, insert_rising}
use Rattle.laws.proofs.Below.{covered_some, some_covered, covered_below, below_each, below_by_covered, below_refl, below_antisym}
use Rattle.laws.proofs.Settle.{Held, Other, holds, lacks, way, settle_in, in_settle, drop_grown}
use Rattle.laws.proofs.Sums.{keep_rising, total, length_total, total_exchange, beyond, beyond_is}

-- both names rising, and u below i: what reduction needs and keeps
pub record Proper (x : Stamp) : Type 0 where
  pub update_rising : rising x.update ≡ true
  pub id_rising : rising x.id ≡ true
  pub below_id : below x.update x.id ≡ true

-- ---- s, s0 and s1

grown_apart : (s : Str) (d : Bool) → s ≡ s ▹ d → ⊥
grown_apart s d e = clash (subst (λ (x : Str). prefix x s ≡ true) e (prefix_refl s)) (grown_not_prefix s d)

pub grown_same : (s t : Str) (d e : Bool) → s ▹ d ≡ t ▹ e → s ≡ t
grown_same s t d e p = sym (drop_grown s d) ∙ ap drop_last p ∙ drop_grown t e

-- what does not come from t is neither t0 nor t1
grown_other : (s t : Str) (d : Bool) → (s ≡ t → ⊥) → Other t (s ▹ d)
grown_other s t d h = (λ p. h (grown_same s t d false p), λ p. h (grown_same s t d true p))

other_cases : (s x : Str) → ((x ≡ s ▹ false) ⊎ (x ≡ s ▹ true)) ⊎ Other s x
other_cases s x = elim (decide (same x (s ▹ false))) [
  | inl p ↦ inl (inl (same_is x (s ▹ false) p))
  | inr p ↦ elim (decide (same x (s ▹ true))) [ inl q ↦ inl (inr (same_is x (s ▹ true) q)) | inr q ↦ inr (not_same p, not_same q) ]
]

other_at : (s x : Str) (d : Bool) → Other s x → x ≡ s ▹ d → ⊥
other_at s x false o e = o.0 e
other_at s x true o e = o.1 e

-- ---- down-sets, in any name

-- nothing new is covered
pub settle_covered : (s : Str) (n : Name) (r : Str) → covered r (settle s n) ≡ true → covered r n ≡ true
settle_covered s n r e =
    let a = covered_some r (settle s n) e in
    ⊎_elim (λ h. some_covered r n a.one h.0 a.passes)
    (λ h. let p : prefix r s ≡ true = subst (λ (x : Str). prefix r x ≡ true) h.0 a.passes in
    let on : (d : Bool) → In (s ▹ d) n → covered r n ≡ true = λ d i. some_covered r n (s ▹ d) i (prefix_trans r s (s ▹ d) p (prefix_grown s d)) in
    ⊎_elim (on false) (on true) h.1)
    (settle_in s n a.one a.inside)

-- and what is neither s0 nor s1 is covered still
pub covered_settle : (s : Str) (n : Name) (r : Str) → covered r n ≡ true → Other s r → covered r (settle s n) ≡ true
covered_settle s n r e o = elim (other_cases s a.one) [
  | inl (inl p) ↦ shrunk false (inl (rw p at a.inside)) (rw p at a.passes)
  | inl (inr p) ↦ shrunk true (inr (rw p at a.inside)) (rw p at a.passes)
  | inr h ↦ some_covered r (settle s n) a.one (in_settle s n a.one (inl (a.inside, h))) a.passes
]
  where
    a : Some (prefix r) n
    a = covered_some r n e

    -- a string of n that prolongs s gives way to s
    shrunk : (d : Bool) → Held s n → prefix r (s ▹ d) ≡ true → covered r (settle s n) ≡ true
    shrunk d h p = ⊎_elim (some_covered r (settle s n) s (in_settle s n s (inr (refl, h)))) (λ q. absurd (other_at s r d o q)) (prefix_of_grown r s d p)

pub settle_nonempty : (s : Str) (n : Name) → 1 ≤ length n → 1 ≤ length (settle s n)
settle_nonempty s n h = elim (way s n) [ holds k e ↦ in_filled s (settle s n) (in_settle s n s (inr (refl, k))) | lacks k e ↦ rw e h ]

-- ---- one step, in a stamp whose id holds s0 and s1

-- what is shown of the update holds of the id: it is the update of this stamp
pub update_proper : (x : Stamp) → Proper x → Proper (update x)
unfolding update
update_proper x ok = record { update_rising = ok.id_rising; id_rising = ok.id_rising; below_id = below_refl x.id }

module _ (s : Str) (x : Stamp) (ok : Proper x) (zero_in : In (s ▹ false) x.id) (one_in : In (s ▹ true) x.id) where
  abbrev n : Name
  n = x.update

  -- a string of n that extends s0 is s0, and so with s1
  extends : (d : Bool) → In (s ▹ d) x.id → (t : Str) → In t n → prefix (s ▹ d) t ≡ true → t ≡ s ▹ d
  extends d j t k p =
      let a = covered_some t x.id (below_each n x.id ok.below_id t k) in
      let e = rising_antichain x.id ok.id_rising (s ▹ d) a.one j a.inside (prefix_trans (s ▹ d) t a.one p a.passes) in
      prefix_antisym t (s ▹ d) (rw e a.passes) p

  -- where n holds s0 or s1, its other strings are apart from s
  apart : Held s n → (t : Str) → In t n → Other s t → (prefix s t ≡ false) × (prefix t s ≡ false)
  apart h t k o = (not-true over, not-true under)
    where
      under : prefix t s ≡ true → ⊥
      under p =
          let on : (d : Bool) → In (s ▹ d) n → ⊥ =
          λ d j. other_at s t d o (rising_antichain n ok.update_rising t (s ▹ d) k j (prefix_trans t s (s ▹ d) p (prefix_grown s d))) in
          ⊎_elim (on false) (on true) h

      over : prefix s t ≡ true → ⊥
      over p =
          ⊎_elim (λ e. under (subst (λ (x : Str). prefix x s ≡ true) e (prefix_refl s)))
          (λ q. ⊎_elim (λ z. o.0 (extends false zero_in t k z)) (λ z. o.1 (extends true one_in t k z)) q)
          (prefix_goes_on s t p)

  settle_rising : rising (settle s n) ≡ true
  settle_rising = elim (way s n) [ holds h e ↦ put _ h e (keep_rising _ n ok.update_rising) | lacks h e ↦ rw e ok.update_rising ]
    where
      put : (m : Name) → Held s n → settle s n ≡ insert s m → rising m ≡ true → rising (settle s n) ≡ true
      put m h e r =
          rw e
          (insert_rising s m
          (λ t k. ⊎_elim (λ l. inr (apart h t l.0 l.1)) (λ l. inl (sym l.0)) (settle_in s n t (rw e (in_insert s m t (inr k)))))
          r)

  -- n covers what it did, except s0 and s1
  pub covered_settle_update : (r : Str) → (covered r (settle s x.update) ≡ true) ↔ ((covered r x.update ≡ true) × Other s r)
  covered_settle_update r = (
    λ e. (settle_covered s n r e, (λ q. gone false zero_in (rw q at e), λ q. gone true one_in (rw q at e))),
    λ h. covered_settle s n r h.0 h.1,
  )
    where
      gone : (d : Bool) → In (s ▹ d) x.id → covered (s ▹ d) (settle s n) ≡ true → ⊥
      gone d j e =
          let a = covered_some (s ▹ d) (settle s n) e in
          ⊎_elim (λ l. other_at s a.one d l.1 (extends d j a.one l.0 a.passes))
          (λ l. clash (rw l.0 at a.passes) (grown_not_prefix s d))
          (settle_in s n a.one a.inside)

module _ (s : Str) (x : Stamp) (ok : Proper x) (zero_in : In (s ▹ false) x.id) (one_in : In (s ▹ true) x.id) where
  settle_id_rising : rising (settle s x.id) ≡ true
  unfolding update
  settle_id_rising = settle_rising s (update x) (update_proper x ok) zero_in one_in

  pub settled_proper : Proper (settled s x)
  unfolding settled
  settled_proper = record {
    update_rising = settle_rising s x ok zero_in one_in;
    id_rising = settle_id_rising;
    below_id = below_by_covered (settle s x.update) (settle s x.id) (λ r e.
        let h = (covered_settle_update s x ok zero_in one_in r).0 e in
        covered_settle s x.id r (covered_below r x.update x.id h.0 ok.below_id) h.1);
  }

  -- ---- what comes and what goes

  s_outside : In s x.id → ⊥
  s_outside i = grown_apart s false (rising_antichain x.id ok.id_rising s (s ▹ false) i zero_in (prefix_grown s false))

  comes : beyond (settle s x.id) x.id ≡ s ∷ []
  unfolding rising all
  comes =
      beyond_is (settle s x.id) x.id (s ∷ []) settle_id_rising refl
      (λ t i h. ⊎_elim (λ l. absurd (h l.0)) (λ l. inl l.0) (settle_in s x.id t i))
      (λ t i. ⊎_elim (λ e. rw e (in_settle s x.id s (inr (refl, inl zero_in)), s_outside)) (λ j. absurd j) i)

  leaves : (d : Bool) → In (s ▹ d) (settle s x.id) → ⊥
  leaves d i = ⊎_elim (λ l. other_at s (s ▹ d) d l.1 refl) (λ l. grown_apart s d (sym l.0)) (settle_in s x.id (s ▹ d) i)

  goes : beyond x.id (settle s x.id) ≡ (s ▹ false) ∷ (s ▹ true) ∷ []
  unfolding rising all
  goes =
      beyond_is x.id (settle s x.id) ((s ▹ false) ∷ (s ▹ true) ∷ []) ok.id_rising (rw (twins_less s))
      (λ t i h. ⊎_elim (λ e. ⊎_elim (λ z. inl z) (λ z. inr (inl z)) e) (λ o. absurd (h (in_settle s x.id t (inl (i, o))))) (other_cases s t))
      (λ t i. ⊎_elim (λ e. rw e (zero_in, leaves false)) (λ j. ⊎_elim (λ e. rw e (one_in, leaves true)) (λ k. absurd k) j) i)

  -- s stands in the place of s0 and s1, and all else stays
  pub total_settle : (f : Str → ℕ) → total f (settle s x.id) + (f (s ▹ false) + f (s ▹ true)) ≡ total f x.id + f s
  unfolding total
  total_settle f =
      let e = total_exchange f (settle s x.id) x.id settle_id_rising ok.id_rising in
      omega (arith, ap (total f) goes, ap (total f) comes)

  pub settled_shorter : suc (length (settled s x).id) ≡ length x.id
  unfolding settled
  settled_shorter = omega (arith, length_total x.id, length_total (settle s x.id), total_settle (λ t. 1))

-- ---- two steps

-- "repeatedly applying the following rewriting rule": in any order, and stopping anywhere
pub data Steps : Stamp → Stamp → Type 0 where
  stop : {x : Stamp} → Steps x x
  step : {x y : Stamp} (s : Str) → In (s ▹ false) x.id → In (s ▹ true) x.id → Steps (settled s x) y → Steps x y

-- settling t takes no string that prolongs s
grown_stays : (s t : Str) (n : Name) (d : Bool) → (s ≡ t → ⊥) → In (s ▹ d) n → In (s ▹ d) (settle t n)
grown_stays s t n d h i = in_settle t n (s ▹ d) (inl (i, grown_other s t d h))

-- the step s is there still after another step t
pub step_stays : (s t : Str) (x : Stamp) (d : Bool) → (s ≡ t → ⊥) → In (s ▹ d) x.id → In (s ▹ d) (settled t x).id
unfolding settled
step_stays s t x d h i = grown_stays s t x.id d h i

module _ (s t : Str) (x : Stamp) (ok : Proper x) (s-zero : In (s ▹ false) x.id) (s-one : In (s ▹ true) x.id)
    (t-zero : In (t ▹ false) x.id) (t-one : In (t ▹ true) x.id) (h : s ≡ t → ⊥) where
  both_rising : rising (settle s (settle t x.update)) ≡ true
  unfolding settled
  both_rising = settle_rising s (settled t x) (settled_proper t x ok t-zero t-one) (step_stays s t x false h s-zero) (step_stays s t x true h s-one)

  -- either way round, what was covered is covered still, except s0, s1, t0 and t1
  below_swapped : below (settle s (settle t x.update)) (settle t (settle s x.update)) ≡ true
  unfolding settled
  below_swapped =
      below_by_covered (settle s (settle t x.update)) (settle t (settle s x.update)) (λ r e.
      let y = settled_proper t x ok t-zero t-one in
      let a = (covered_settle_update s (settled t x) y (step_stays s t x false h s-zero) (step_stays s t x true h s-one) r).0 e in
      let b = (covered_settle_update t x ok t-zero t-one r).0 a.0 in
      covered_settle t (settle s x.update) r (covered_settle s x.update r b.0 a.1) b.1)

-- two different steps commute
module _ (s t : Str) where
  settle_commutes : (x : Stamp) → Proper x → In (s ▹ false) x.id → In (s ▹ true) x.id → In (t ▹ false) x.id → In (t ▹ true) x.id
      → (s ≡ t → ⊥) → settle s (settle t x.update) ≡ settle t (settle s x.update)
  settle_commutes x ok a b c d h =
      let g : t ≡ s → ⊥ = λ e. h (sym e) in
      below_antisym (settle s (settle t x.update)) (settle t (settle s x.update)) (both_rising s t x ok a b c d h) (both_rising t s x ok c d a b g)
      (below_swapped s t x ok a b c d h) (below_swapped t s x ok c d a b g)

  pub steps_commute : (x : Stamp) → Proper x → In (s ▹ false) x.id → In (s ▹ true) x.id → In (t ▹ false) x.id → In (t ▹ true) x.id
      → (s ≡ t → ⊥) → settled s (settled t x) ≡ settled t (settled s x)
  unfolding settled update
  steps_commute x ok a b c d h =
      let u = settle_commutes x ok a b c d h in
      let i = settle_commutes (update x) (update_proper x ok) a b c d h in
      λ j. record { update = u j; id = i j }
