-- One step of reduction: what `settle` leaves in a name, and what `pair` finds. Assumes nothing.
use Rattle.laws.proofs.Library.{◌≡◌, refl, sym, ap, ◌∙◌, subst, Bool, true, false, not, ◌&&◌, ◌||◌, List, [], ◌∷◌, drop_last, ◌⊎◌, inl, inr, ⊎_elim}
use Rattle.laws.proofs.Library.{Option, Option·none-ne-some, Option·some-injective, none, some}
use Rattle.rules.specs.Strings.{Str, same, ◌▹◌}
use Rattle.rules.specs.Names.{Name, keep, member, insert}
use Rattle.rules.specs.Stamps.{pair_among, pair, settle}
use Rattle.laws.proofs.Tests.{clash, and_left, and_right, and_both, or_cases, or_left, or_right, not-true, not_is, is_not, decide, In, keep_in, in_keep}
use Rattle.laws.proofs.Prefix.{same_is, is_same}
use Rattle.laws.proofs.Rising.{insert_in, in_insert}
use Rattle.laws.proofs.Below.{member_in, in_member}

-- n holds s0 or s1
abbrev pub Held : Str → Name → Type 0
Held s n = In (s ▹ false) n ⊎ In (s ▹ true) n

-- x is neither s0 nor s1
abbrev pub Other : Str → Str → Type 0
Other s x = (x ≡ s ▹ false → ⊥) × (x ≡ s ▹ true → ⊥)

-- x was in n and is neither of the two, or is s, where n held one of them
abbrev pub Left : Str → Name → Str → Type 0
Left s n x = (In x n × Other s x) ⊎ ((x ≡ s) × Held s n)

abbrev other : Str → Str → Bool
other s t = not (same (s ▹ false) t || same (s ▹ true) t)

other_is : (s t : Str) → other s t ≡ true → Other s t
other_is s t e =
    let f : (same (s ▹ false) t || same (s ▹ true) t) ≡ false = not_is e in
    (λ p. clash (or_left (same (s ▹ true) t) (is_same (sym p))) f, λ p. clash (or_right (same (s ▹ false) t) (is_same (sym p))) f)

is_other : (s t : Str) → Other s t → other s t ≡ true
is_other s t o =
    is_not
    (not-true (λ e.
    ⊎_elim (λ h. o.0 (sym (same_is (s ▹ false) t h))) (λ h. o.1 (sym (same_is (s ▹ true) t h))) (or_cases (same (s ▹ false) t) (same (s ▹ true) t) e)))

-- the test that `settle` makes
held_test : (s : Str) (n : Name) → (member (s ▹ false) n || member (s ▹ true) n) ≡ true → Held s n
held_test s n e = ⊎_elim (λ h. inl (member_in (s ▹ false) n h)) (λ h. inr (member_in (s ▹ true) n h)) (or_cases (member (s ▹ false) n) (member (s ▹ true) n) e)

test_held : (s : Str) (n : Name) → Held s n → (member (s ▹ false) n || member (s ▹ true) n) ≡ true
test_held s n h = ⊎_elim (λ i. or_left (member (s ▹ true) n) (in_member (s ▹ false) n i)) (λ i. or_right (member (s ▹ false) n) (in_member (s ▹ true) n i)) h

-- the two ways of `settle`
pub data Way (s : Str) (n : Name) : Type 0 where
  holds : Held s n → settle s n ≡ insert s (keep (other s) n) → Way s n
  lacks : (Held s n → ⊥) → settle s n ≡ n → Way s n

pub way : (s : Str) (n : Name) → Way s n
unfolding settle
way s n = elim (decide (member (s ▹ false) n || member (s ▹ true) n)) [
  | inl e ↦ holds (held_test s n e) (simp e)
  | inr e ↦ lacks (λ h. clash (test_held s n h) e) (simp e)
]

pub settle_in : (s : Str) (n : Name) (x : Str) → In x (settle s n) → Left s n x
settle_in s n x i = elim (way s n) [
  | holds h e ↦
      ⊎_elim (λ p. inr (p, h)) (λ k. let q = keep_in (other s) n x k in inl (q.0, other_is s x q.1)) (insert_in s (keep (other s) n) x (rw e at i))
  | lacks h e ↦ let j : In x n = rw e at i in inl (j, (λ p. h (inl (rw p at j)), λ p. h (inr (rw p at j))))
]

pub in_settle : (s : Str) (n : Name) (x : Str) → Left s n x → In x (settle s n)
in_settle s n x l = elim (way s n) [
  | holds h e ↦ rw e (in_insert s (keep (other s) n) x (⊎_elim (λ k. inr (in_keep (other s) n x k.0 (is_other s x k.1))) (λ k. inl k.0) l))
  | lacks h e ↦ rw e (⊎_elim (λ k. k.0) (λ k. absurd (h k.1)) l)
]

-- ---- pairs

-- the last digit taken off again
pub drop_grown : (s : Str) (d : Bool) → drop_last (s ▹ d) ≡ s
drop_grown [] d = refl
drop_grown (a ∷ []) d = refl
drop_grown (a ∷ b ∷ s) d = ap (λ (l : Str). a ∷ l) (drop_grown (b ∷ s) d)

module _ (n : Name) where
  -- n holds s0 and s1
  abbrev pub both : Str → Bool
  both s = member (s ▹ false) n && member (s ▹ true) n

  pub both_in : (s : Str) → both s ≡ true → In (s ▹ false) n × In (s ▹ true) n
  both_in s e = (
    member_in (s ▹ false) n (and_left (member (s ▹ false) n) (member (s ▹ true) n) e),
    member_in (s ▹ true) n (and_right (member (s ▹ false) n) (member (s ▹ true) n) e),
  )

  pub in_both : (s : Str) → In (s ▹ false) n → In (s ▹ true) n → both s ≡ true
  in_both s i j = and_both (in_member (s ▹ false) n i) (in_member (s ▹ true) n j)

  among_in : (l : List Str) (s : Str) → pair_among l n ≡ some s → both s ≡ true
  unfolding pair_among
  among_in [] s e = absurd (Option·none-ne-some s e)
  among_in (t ∷ l) s e = elim (decide (both (drop_last t))) [
    | inl p ↦ rw (Option·some-injective (drop_last t) s (rw p at e)) at p
    | inr p ↦ among_in l s (rw p at e)
  ]

  among_none : (l : List Str) (s : Str) → pair_among l n ≡ none → In (s ▹ false) l → both s ≡ true → ⊥
  unfolding pair_among
  among_none [] s e i h = i
  among_none (t ∷ l) s e i h = elim (decide (both (drop_last t))) [
    | inl p ↦ Option·none-ne-some (drop_last t) (sym (rw p at e))
    | inr p ↦ ⊎_elim (λ k. clash (subst (λ (x : Str). both x ≡ true) (sym (drop_grown s false) ∙ ap drop_last k) h) p) (λ k. among_none l s (rw p at e) k h) i
  ]

  -- what is found is there
  pub pair_in : (s : Str) → pair n ≡ some s → In (s ▹ false) n × In (s ▹ true) n
  unfolding pair
  pair_in s e = both_in s (among_in n s e)

  -- where nothing is found there is none
  pub pair_none : pair n ≡ none → (s : Str) → In (s ▹ false) n → In (s ▹ true) n → ⊥
  unfolding pair
  pair_none e s i j = among_none n s e i (in_both s i j)

  -- and the other way round
  pub none_pair : ((s : Str) → In (s ▹ false) n → In (s ▹ true) n → ⊥) → pair n ≡ none
  none_pair f = by (pair n) refl
    where
      by : (o : Option Str) → pair n ≡ o → pair n ≡ none
      by none e = e
      by (some s) e = absurd (f s (pair_in s e).0 (pair_in s e).1)
