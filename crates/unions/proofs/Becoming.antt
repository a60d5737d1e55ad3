-- What reduction makes of the update, string by string: a string becomes the one of the reduced id that is a prefix of it, or stays where there is none.
-- Every step keeps this, since what u holds is covered by i. Assumes nothing.
use Rattle.laws.proofs.Library.{◌≡◌, refl, sym, subst, ◌∙◌, Bool, true, false, ◌⊎◌, inl, inr, ⊎_elim}
use Rattle.rules.specs.Strings.{Str, prefix, same, less, ◌▹◌}
use Rattle.rules.specs.Names.{Name, any, rising}
use Rattle.rules.specs.Stamps.{Stamp, settle, settled, reduce}
use Rattle.laws.proofs.Tests.{clash, decide, not-true, In, any_some, any_none}
use Rattle.laws.proofs.Prefix.{prefix_refl, prefix_trans, prefix_antisym, prefix_comparable, prefix_grown, prefix_goes_on, grown_not_prefix, same_is, not_same}
use Rattle.laws.proofs.Rising.{less_trans, less_apart, less_irrefl, less_total, rising_antichain}
use Rattle.laws.proofs.Below.{covered_some, below_each}
use Rattle.laws.proofs.Settle.{Held, Other, settle_in, in_settle}
use Rattle.laws.proofs.Steps.{Proper}
use Rattle.laws.proofs.Reduce.{reduce_keeps}

-- beside the id i, r becomes y
abbrev pub Becomes : Name → Str → Str → Type 0
Becomes i r y = (In y i × (prefix y r ≡ true)) ⊎ ((y ≡ r) × ((t : Str) → In t i → prefix t r ≡ false))

-- what r becomes
pub record Became (i : Name) (r : Str) : Type 0 where
  pub what : Str
  pub is : Becomes i r what

became : (i : Name) (r : Str) → Became i r
became i r = by (decide (any (λ t. prefix t r) i))
  where
    by : (any (λ t. prefix t r) i ≡ true) ⊎ (any (λ t. prefix t r) i ≡ false) → Became i r
    by (inl e) = let a = any_some (λ t. prefix t r) i e in record { what = a.one; is = inl (a.inside, a.passes) }
    by (inr e) = record { what = r; is = inr (refl, any_none (λ t. prefix t r) i e) }

becomes_prefix : (i : Name) (r y : Str) → Becomes i r y → prefix y r ≡ true
becomes_prefix i r y b = ⊎_elim (λ h. h.1) (λ h. subst (λ (z : Str). prefix z r ≡ true) (sym h.0) (prefix_refl r)) b

-- one string
pub becomes_one : (i : Name) → rising i ≡ true → (r y z : Str) → Becomes i r y → Becomes i r z → y ≡ z
becomes_one i h r y z (inl a) (inl b) =
    ⊎_elim (λ p. rising_antichain i h y z a.0 b.0 p) (λ p. sym (rising_antichain i h z y b.0 a.0 p)) (prefix_comparable y z r a.1 b.1)
becomes_one i h r y z (inl a) (inr b) = absurd (clash a.1 (b.1 y a.0))
becomes_one i h r y z (inr a) (inl b) = absurd (clash b.1 (a.1 z b.0))
becomes_one i h r y z (inr a) (inr b) = a.0 ∙ sym b.0

-- ---- order

-- what comes before another comes before its extensions
pub less_further : (s t v : Str) → less s t ≡ true → prefix t v ≡ true → less s v ≡ true
less_further s t v l p = ⊎_elim (λ e. e) (λ e. absurd (wrong e)) (decide (less s v))
  where
    apart : prefix s v ≡ false
    apart = not-true (λ q. ⊎_elim (λ k. clash k (less_apart s t l).0) (λ k. clash k (less_apart s t l).1) (prefix_comparable s t v q p))

    apart2 : prefix v s ≡ false
    apart2 = not-true (λ q. clash (prefix_trans t v s p q) (less_apart s t l).1)

    wrong : less s v ≡ false → ⊥
    wrong e = clash p (less_apart v t (less_trans v s t (less_total s v apart apart2 e) l)).1

-- and so do its own extensions
less_longer : (s t u : Str) → less s t ≡ true → prefix s u ≡ true → less u t ≡ true
less_longer s t u l p = ⊎_elim (λ e. e) (λ e. absurd (wrong e)) (decide (less u t))
  where
    apart : prefix u t ≡ false
    apart = not-true (λ q. clash (prefix_trans s u t p q) (less_apart s t l).0)

    apart2 : prefix t u ≡ false
    apart2 = not-true (λ q. ⊎_elim (λ k. clash k (less_apart s t l).0) (λ k. clash k (less_apart s t l).1) (prefix_comparable s t u p q))

    wrong : less u t ≡ false → ⊥
    wrong e = clash p (less_apart s u (less_trans s t u l (less_total u t apart apart2 e))).0

pub becomes_order : (i : Name) → rising i ≡ true → (r s y z : Str) → less r s ≡ true → Becomes i r y → Becomes i s z → (y ≡ z) ⊎ (less y z ≡ true)
becomes_order i h r s y z l a b = by (decide (prefix y z)) (decide (prefix z y)) (decide (less y z))
  where
    under : prefix y z ≡ true → y ≡ z
    under p = go a b
      where
        far : prefix y s ≡ true
        far = prefix_trans y z s p (becomes_prefix i s z b)

        go : Becomes i r y → Becomes i s z → y ≡ z
        go (inl c) (inl d) = rising_antichain i h y z c.0 d.0 p
        go (inl c) (inr d) = absurd (clash far (d.1 y c.0))
        go (inr c) d = absurd (clash (subst (λ (x : Str). prefix x s ≡ true) c.0 far) (less_apart r s l).0)

    over : prefix z y ≡ true → y ≡ z
    over p = go a b
      where
        far : prefix z r ≡ true
        far = prefix_trans z y r p (becomes_prefix i r y a)

        go : Becomes i r y → Becomes i s z → y ≡ z
        go (inl c) (inl d) = sym (rising_antichain i h z y d.0 c.0 p)
        go (inr c) (inl d) = absurd (clash far (c.1 z d.0))
        go c (inr d) = absurd (clash (subst (λ (x : Str). prefix x r ≡ true) d.0 far) (less_apart r s l).1)

    by : (prefix y z ≡ true) ⊎ (prefix y z ≡ false) → (prefix z y ≡ true) ⊎ (prefix z y ≡ false) → (less y z ≡ true) ⊎ (less y z ≡ false)
        → (y ≡ z) ⊎ (less y z ≡ true)
    by (inl p) q k = inl (under p)
    by (inr p) (inl q) k = inl (over q)
    by (inr p) (inr q) (inl k) = inr k
    by (inr p) (inr q) (inr k) =
        let back : less s r ≡ true = less_further s y r (less_longer z y s (less_total y z p q k) (becomes_prefix i s z b)) (becomes_prefix i r y a) in
        absurd (less_irrefl r (less_trans r s r l back))

-- ---- a step keeps it

-- the string of u that became y
pub record Source (u i : Name) (y : Str) : Type 0 where
  pub one : Str
  pub inside : In one u
  pub is : Becomes i one y

-- the update of x holds what the strings of u became, and nothing else
pub record Account (u : Name) (x : Stamp) : Type 0 where
  pub from : (y : Str) → In y x.update → Source u x.id y
  pub to : (r y : Str) → In r u → Becomes x.id r y → In y x.update

-- t is s0 or s1, or neither
data Kin (s t : Str) : Type 0 where
  child : (d : Bool) → t ≡ s ▹ d → Kin s t
  other : Other s t → Kin s t

kin : (s t : Str) → Kin s t
kin s t = by (decide (same t (s ▹ false))) (decide (same t (s ▹ true)))
  where
    by : (same t (s ▹ false) ≡ true) ⊎ (same t (s ▹ false) ≡ false) → (same t (s ▹ true) ≡ true) ⊎ (same t (s ▹ true) ≡ false) → Kin s t
    by (inl p) q = child false (same_is t (s ▹ false) p)
    by (inr p) (inl q) = child true (same_is t (s ▹ true) q)
    by (inr p) (inr q) = other (not_same p, not_same q)

-- what extends s is s, or goes on with a digit
data On (s r : Str) : Type 0 where
  itself : s ≡ r → On s r
  further : (d : Bool) → prefix (s ▹ d) r ≡ true → On s r

on : (s r : Str) → prefix s r ≡ true → On s r
on s r p = ⊎_elim (λ e. itself e) (λ q. ⊎_elim (λ k. further false k) (λ k. further true k) q) (prefix_goes_on s r p)

held : (s : Str) (n : Name) (d : Bool) → In (s ▹ d) n → Held s n
held s n false i = inl i
held s n true i = inr i

at_child : (s : Str) (n : Name) (d : Bool) → In (s ▹ false) n → In (s ▹ true) n → In (s ▹ d) n
at_child s n false i j = i
at_child s n true i j = j

not_child : (s t : Str) (d : Bool) → Other s t → t ≡ s ▹ d → ⊥
not_child s t false o e = o.0 e
not_child s t true o e = o.1 e

module _ (x : Stamp) (ok : Proper x) where
  -- at the start each string is itself
  stays : (r : Str) → In r x.update → Becomes x.id r r
  stays r i = by (became x.id r)
    where
      by : Became x.id r → Becomes x.id r r
      by b = go b.is
        where
          go : Becomes x.id r b.what → Becomes x.id r r
          go (inl h) =
              let a = covered_some r x.id (below_each x.update x.id ok.below_id r i) in
              let e : b.what ≡ a.one = rising_antichain x.id ok.id_rising b.what a.one h.0 a.inside (prefix_trans b.what r a.one h.1 a.passes) in
              let f : r ≡ b.what = prefix_antisym r b.what (subst (λ (z : Str). prefix r z ≡ true) (sym e) a.passes) h.1 in
              inl (subst (λ (z : Str). In z x.id) (sym f) h.0, prefix_refl r)
          go (inr h) = inr (refl, h.1)

  start_account : Account x.update x
  start_account = record {
    from = λ y i. record { one = y; inside = i; is = stays y i };
    to = λ r y i b. subst (λ (z : Str). In z x.update) (becomes_one x.id ok.id_rising r r y (stays r i) b) i;
  }

module _ (u : Name) (s : Str) (x : Stamp) (ok : Proper x) (zero_in : In (s ▹ false) x.id) (one_in : In (s ▹ true) x.id) (acc : Account u x) where
  abbrev next : Name
  next = settle s x.id

  root_in : In s next
  root_in = in_settle s x.id s (inr (refl, inl zero_in))

  child_in : (d : Bool) → In (s ▹ d) x.id
  child_in d = at_child s x.id d zero_in one_in

  -- where s is a prefix of r, r becomes s
  to_root : (r y : Str) → y ≡ s → prefix s r ≡ true → Becomes next r y
  to_root r y e p = inl (subst (λ (z : Str). In z next) (sym e) root_in, subst (λ (z : Str). prefix z r ≡ true) (sym e) p)

  -- and where it is none, nothing changes
  beside : (r : Str) → prefix s r ≡ false → ((t : Str) → In t x.id → prefix t r ≡ false) → (t : Str) → In t next → prefix t r ≡ false
  beside r q f t i = ⊎_elim (λ k. f t k.0) (λ k. subst (λ (z : Str). prefix z r ≡ false) (sym k.0) q) (settle_in s x.id t i)

  step_from : (y : Str) → In y (settle s x.update) → Source u next y
  step_from y i = ⊎_elim (λ k. kept (acc.from y k.0) k.1) (λ k. ⊎_elim (λ j. new false k.0 j) (λ j. new true k.0 j) k.1) (settle_in s x.update y i)
    where
      kept : Source u x.id y → Other s y → Source u next y
      kept c o = record { one = c.one; inside = c.inside; is = go c.is (decide (prefix s c.one)) }
        where
          go : Becomes x.id c.one y → (prefix s c.one ≡ true) ⊎ (prefix s c.one ≡ false) → Becomes next c.one y
          go (inl h) q = inl (in_settle s x.id y (inl (h.0, o)), h.1)
          go (inr h) (inr q) = inr (h.0, beside c.one q h.1)
          go (inr h) (inl q) = to (on s c.one q)
            where
              to : On s c.one → Becomes next c.one y
              to (itself e) = to_root c.one y (h.0 ∙ sym e) q
              to (further d k) = absurd (clash k (h.1 (s ▹ d) (child_in d)))

      new : (d : Bool) → y ≡ s → In (s ▹ d) x.update → Source u next y
      new d e j =
          let c = acc.from (s ▹ d) j in
          let p = becomes_prefix x.id c.one (s ▹ d) c.is in
          record { one = c.one; inside = c.inside; is = to_root c.one y e (prefix_trans s (s ▹ d) c.one (prefix_grown s d) p) }

  -- s itself is no string of the id, nor is a prefix of it
  none_under : (t : Str) → In t x.id → prefix t s ≡ false
  none_under t i =
      not-true (λ p.
      let e = rising_antichain x.id ok.id_rising t (s ▹ false) i zero_in (prefix_trans t s (s ▹ false) p (prefix_grown s false)) in
      clash (subst (λ (z : Str). prefix z s ≡ true) e p) (grown_not_prefix s false))

  self_other : Other s s
  self_other = (λ e. grown_self false e, λ e. grown_self true e)
    where
      grown_self : (d : Bool) → s ≡ s ▹ d → ⊥
      grown_self d e = clash (subst (λ (z : Str). prefix z s ≡ true) e (prefix_refl s)) (grown_not_prefix s d)

  step_to : (r y : Str) → In r u → Becomes next r y → In y (settle s x.update)
  step_to r y i (inl h) = ⊎_elim (λ k. in_settle s x.update y (inl (acc.to r y i (inl (k.0, h.1)), k.1))) (λ k. root k.0) (settle_in s x.id y h.0)
    where
      root : y ≡ s → In y (settle s x.update)
      root e = go (on s r (subst (λ (z : Str). prefix z r ≡ true) e h.1))
        where
          go : On s r → In y (settle s x.update)
          go (itself f) =
              let k = acc.to r r i (inr (refl, λ t j. subst (λ (z : Str). prefix t z ≡ false) f (none_under t j))) in
              subst (λ (z : Str). In z (settle s x.update)) (sym e) (in_settle s x.update s (inl (subst (λ (z : Str). In z x.update) (sym f) k, self_other)))
          go (further d p) = in_settle s x.update y (inr (e, held s x.update d (acc.to r (s ▹ d) i (inl (child_in d, p)))))
  step_to r y i (inr h) = subst (λ (z : Str). In z (settle s x.update)) (sym h.0) (in_settle s x.update r (inl (acc.to r r i (inr (refl, before)), (apart false, apart true))))
    where
      none : prefix s r ≡ false
      none = h.1 s root_in

      apart : (d : Bool) → r ≡ s ▹ d → ⊥
      apart d e = clash (subst (λ (z : Str). prefix s z ≡ true) (sym e) (prefix_grown s d)) none

      before : (t : Str) → In t x.id → prefix t r ≡ false
      before t j = go (kin s t)
        where
          go : Kin s t → prefix t r ≡ false
          go (child d e) = not-true (λ p. clash (prefix_trans s (s ▹ d) r (prefix_grown s d) (subst (λ (z : Str). prefix z r ≡ true) e p)) none)
          go (other o) = h.1 t (in_settle s x.id t (inl (j, o)))

  step_account : Account u (settled s x)
  unfolding settled
  step_account = record { from = step_from; to = step_to }

-- reduction makes of the update what each of its strings becomes
pub reduce_account : (x : Stamp) → Proper x → Account x.update (reduce x)
reduce_account x ok = reduce_keeps (Account x.update) (λ s y p i j a. step_account x.update s y p i j a) x ok (start_account x ok)
