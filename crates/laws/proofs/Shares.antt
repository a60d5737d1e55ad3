-- The share of a string is halved by one digit more. So a fork splits a name's share in two halves, a step of reduction leaves it
-- as it is, and the shares of names that are apart add up in their union. Assumes nothing.
use Rattle.laws.proofs.Library.{◌≡◌, refl, ap, ◌∙◌, Bool, true, false, [], ◌∷◌, ◌++◌, inl, inr, ⊎_elim, ℕ, suc, ◌+◌, ◌-◌, ◌≤◌, ◌<◌, pow-suc, arith}
use Rattle.laws.proofs.Library.{length, length-append}
use Rattle.rules.specs.Strings.{Str, prefix, ◌▹◌, share}
use Rattle.rules.specs.Names.{Name, rising, union}
use Rattle.rules.specs.Stamps.{Stamp, settle, settled, reduce, append, sum_shares}
use Rattle.laws.proofs.Tests.{clash, In, in_left, in_right, in_append}
use Rattle.laws.proofs.Prefix.{prefix_refl}
use Rattle.laws.proofs.Rising.{rising_antichain}
use Rattle.laws.proofs.Union.{union_top, top_union, union_rising}
use Rattle.laws.proofs.Settle.{settle_in}
use Rattle.laws.proofs.Sums.{total, total_exchange, beyond, beyond_is}
use Rattle.laws.proofs.Steps.{Proper, total_settle}
use Rattle.laws.proofs.Reduce.{reduce_keeps}

pub grown_length : (s : Str) (d : Bool) → length (s ▹ d) ≡ suc (length s)
grown_length s d = omega (arith, length-append s (d ∷ []))

pub share_halves : (most : ℕ) (s : Str) (d e : Bool) → length s < most → share most (s ▹ d) + share most (s ▹ e) ≡ share most s
unfolding share
share_halves most s d e h =
    let k : most - length s ≡ suc (most - suc (length s)) = omega arith in
    rw (grown_length s d, grown_length s e, k, pow-suc) (omega arith)

shares_total : (most : ℕ) (n : Name) → sum_shares most n ≡ total (share most) n
unfolding sum_shares total
shares_total most [] = refl
shares_total most (s ∷ n) = ap (λ (k : ℕ). share most s + k) (shares_total most n)

-- a fork halves
pub shares_append : (most : ℕ) (i : Name) → ((s : Str) → In s i → length s < most)
    → sum_shares most (append false i) + sum_shares most (append true i) ≡ sum_shares most i
unfolding append sum_shares
shares_append most [] h = refl
shares_append most (s ∷ i) h = omega (arith, shares_append most i (λ t j. h t (inr j)), share_halves most s false true (h s (inl refl)))

-- a step of reduction keeps
pub shares_settle : (most : ℕ) (s : Str) (x : Stamp) → Proper x → In (s ▹ false) x.id → In (s ▹ true) x.id
    → ((t : Str) → In t x.id → length t ≤ most) → sum_shares most (settle s x.id) ≡ sum_shares most x.id
shares_settle most s x ok a b h =
    let e = share_halves most s false true (omega (arith, h (s ▹ false) a, grown_length s false)) in
    omega (arith, shares_total most (settle s x.id), shares_total most x.id, total_settle s x ok a b (share most))

-- nothing that a step puts in is longer than what it takes out
pub settle_short : (most : ℕ) (s : Str) (n : Name) → ((t : Str) → In t n → length t ≤ most) → (t : Str) → In t (settle s n) → length t ≤ most
settle_short most s n h t i =
    let at : (d : Bool) → In (s ▹ d) n → length s ≤ most = λ d j. omega (arith, h (s ▹ d) j, grown_length s d) in
    ⊎_elim (λ l. h t l.0) (λ l. rw l.0 (⊎_elim (at false) (at true) l.1)) (settle_in s n t i)

pub shares_reduce : (most : ℕ) (x : Stamp) → Proper x → ((t : Str) → In t x.id → length t ≤ most)
    → sum_shares most (reduce x).id ≡ sum_shares most x.id
unfolding settled
shares_reduce most x ok h = (reduce_keeps Same kept x ok (h, refl)).1
  where
    Same : Stamp → Type 0
    Same y = ((t : Str) → In t y.id → length t ≤ most) × (sum_shares most y.id ≡ sum_shares most x.id)

    kept : (s : Str) (y : Stamp) → Proper y → In (s ▹ false) y.id → In (s ▹ true) y.id → Same y → Same (settled s y)
    kept s y ok a b p = (settle_short most s y.id p.0, shares_settle most s y ok a b p.0 ∙ p.1)

-- ---- two names that are apart

-- no string of one is a prefix of a string of the other
abbrev pub Apart : Name → Name → Type 0
Apart m n = (s t : Str) → In s m → In t n → (prefix s t ≡ false) × (prefix t s ≡ false)

module _ (m n : Name) (m-rising : rising m ≡ true) (n-rising : rising n ≡ true) (apart : Apart m n) where
  both_antichain : (s t : Str) → In s (m ++ n) → In t (m ++ n) → prefix s t ≡ true → s ≡ t
  both_antichain s t i j p = elim (in_append s m n i) [
    | inl a ↦ ⊎_elim (λ b. rising_antichain m m-rising s t a b p) (λ b. absurd (clash p (apart s t a b).0)) (in_append t m n j)
    | inr a ↦ ⊎_elim (λ b. absurd (clash p (apart t s b a).1)) (λ b. rising_antichain n n-rising s t a b p) (in_append t m n j)
  ]

  -- the union keeps all strings of both
  pub in_union : (s : Str) → In s (m ++ n) → In s (union m n)
  in_union s i = top_union m n s (record { inside = i; alone = λ t j p. both_antichain s t i j p })

  pub total_union : (f : Str → ℕ) → total f (union m n) ≡ total f m + total f n
  unfolding total rising
  total_union f =
      let none : beyond m (union m n) ≡ [] =
      beyond_is m (union m n) [] m-rising refl (λ s i h. h (in_union s (in_left s m n i))) (λ s i. absurd i) in
      let rest : beyond (union m n) m ≡ n =
      beyond_is (union m n) m n (union_rising m n) n-rising
      (λ s i h. ⊎_elim (λ j. absurd (h j)) (λ j. j) (in_append s m n (union_top m n s i).inside))
      (λ s i. (in_union s (in_right s m n i), λ j. clash (prefix_refl s) (apart s s j i).0)) in
      omega (arith, total_exchange f (union m n) m (union_rising m n) m-rising, ap (total f) none, ap (total f) rest)

-- a union adds up
pub shares_union : (most : ℕ) (m n : Name) → rising m ≡ true → rising n ≡ true → Apart m n
    → sum_shares most (union m n) ≡ sum_shares most m + sum_shares most n
shares_union most m n h k a =
    omega (arith, shares_total most (union m n), shares_total most m, shares_total most n, total_union m n h k a (share most))
