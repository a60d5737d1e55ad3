-- Rising order: an order in which strings, none a prefix of another, have one listing. Assumes nothing.
use Rattle.laws.proofs.Library.{◌≡◌, refl, sym, ap₂, ◌∙◌, subst, true, false, List, [], ◌∷◌, ◌++◌, ◌⊎◌, inl, inr, ⊎_elim}
use Rattle.rules.specs.Strings.{Str, prefix, same, less, ◌▹◌}
use Rattle.rules.specs.Names.{Name, all, rising, insert, sorted}
use Rattle.laws.proofs.Tests.{no, clash, decide, and_left, and_right, and_both, In, all_each, each_all}
use Rattle.laws.proofs.Prefix.{prefix_refl, same_is, not_same}

pub less_trans : (s t u : Str) → less s t ≡ true → less t u ≡ true → less s u ≡ true
unfolding less
less_trans [] t u p q = absurd (no p)
less_trans (a ∷ s) [] u p q = absurd (no p)
less_trans (a ∷ s) (b ∷ t) [] p q = absurd (no q)
less_trans (true ∷ s) (true ∷ t) (true ∷ u) p q = less_trans s t u p q
less_trans (false ∷ s) (false ∷ t) (false ∷ u) p q = less_trans s t u p q
less_trans (false ∷ s) (false ∷ t) (true ∷ u) p q = refl
less_trans (false ∷ s) (true ∷ t) (true ∷ u) p q = refl
less_trans (true ∷ s) (true ∷ t) (false ∷ u) p q = absurd (no q)
less_trans (false ∷ s) (true ∷ t) (false ∷ u) p q = absurd (no q)
less_trans (true ∷ s) (false ∷ t) (c ∷ u) p q = absurd (no p)

-- what comes before another is no prefix of it, nor the other way round
pub less_apart : (s t : Str) → less s t ≡ true → (prefix s t ≡ false) × (prefix t s ≡ false)
unfolding less prefix
less_apart [] t p = absurd (no p)
less_apart (a ∷ s) [] p = absurd (no p)
less_apart (true ∷ s) (true ∷ t) p = less_apart s t p
less_apart (false ∷ s) (false ∷ t) p = less_apart s t p
less_apart (false ∷ s) (true ∷ t) p = (refl, refl)
less_apart (true ∷ s) (false ∷ t) p = absurd (no p)

pub less_irrefl : (s : Str) → less s s ≡ true → ⊥
less_irrefl s p = clash (prefix_refl s) (less_apart s s p).0

-- of two strings that are apart one comes before the other
pub less_total : (s t : Str) → prefix s t ≡ false → prefix t s ≡ false → less s t ≡ false → less t s ≡ true
unfolding less prefix
less_total [] t p q r = absurd (no (sym p))
less_total (a ∷ s) [] p q r = absurd (no (sym q))
less_total (true ∷ s) (true ∷ t) p q r = less_total s t p q r
less_total (false ∷ s) (false ∷ t) p q r = less_total s t p q r
less_total (true ∷ s) (false ∷ t) p q r = refl
less_total (false ∷ s) (true ∷ t) p q r = absurd (no (sym r))

-- what follows makes no difference
pub less_append : (s t x y : Str) → less s t ≡ true → less (s ++ x) (t ++ y) ≡ true
unfolding less
less_append [] t x y p = absurd (no p)
less_append (a ∷ s) [] x y p = absurd (no p)
less_append (true ∷ s) (true ∷ t) x y p = less_append s t x y p
less_append (false ∷ s) (false ∷ t) x y p = less_append s t x y p
less_append (false ∷ s) (true ∷ t) x y p = refl
less_append (true ∷ s) (false ∷ t) x y p = absurd (no p)

-- s0 comes before s1
pub twins_less : (s : Str) → less (s ▹ false) (s ▹ true) ≡ true
unfolding less
twins_less [] = refl
twins_less (true ∷ s) = twins_less s
twins_less (false ∷ s) = twins_less s

-- ---- rising lists

module _ (s : Str) (n : Name) (h : rising (s ∷ n) ≡ true) where
  pub rising_head : (t : Str) → In t n → less s t ≡ true
  unfolding rising
  rising_head t i = all_each (less s) n (and_left (all (less s) n) (rising n) h) t i

  pub rising_tail : rising n ≡ true
  unfolding rising
  rising_tail = and_right (all (less s) n) (rising n) h

pub rising_cons : (s : Str) (n : Name) → ((t : Str) → In t n → less s t ≡ true) → rising n ≡ true → rising (s ∷ n) ≡ true
unfolding rising
rising_cons s n f h = and_both (each_all (less s) n f) h

-- a string before the first of rising ones is before them all
pub rising_before : (s t : Str) (n : Name) → less s t ≡ true → rising (t ∷ n) ≡ true → rising (s ∷ t ∷ n) ≡ true
rising_before s t n p h = rising_cons s (t ∷ n) (λ u i. ⊎_elim (λ k. rw k p) (λ k. less_trans s t u p (rising_head t n h u k)) i) h

-- in a rising list none is a prefix of another
pub rising_antichain : (n : Name) → rising n ≡ true → (s t : Str) → In s n → In t n → prefix s t ≡ true → s ≡ t
rising_antichain [] h s t i j p = absurd i
rising_antichain (u ∷ n) h s t i j p = elim i [
  | inl a ↦ ⊎_elim (λ b. a ∙ sym b) (λ b. absurd (clash p (less_apart s t (rw a (rising_head u n h t b))).0)) j
  | inr a ↦ ⊎_elim (λ b. absurd (clash p (less_apart t s (rw b (rising_head u n h s a))).1)) (λ b. rising_antichain n (rising_tail u n h) s t a b p) j
]

-- the heads of two rising lists with the same strings
rising_heads : (s t : Str) (m n : Name) → rising (s ∷ m) ≡ true → rising (t ∷ n) ≡ true → In s (t ∷ n) → In t (s ∷ m) → s ≡ t
rising_heads s t m n h k i j =
    ⊎_elim (λ a. a)
    (λ a. ⊎_elim (λ b. sym b) (λ b. absurd (less_irrefl s (less_trans s t s (rising_head s m h t b) (rising_head t n k s a)))) j)
    i

-- two rising lists with the same strings are one list
pub rising_unique : (m n : Name) → rising m ≡ true → rising n ≡ true → ((s : Str) → In s m → In s n) → ((s : Str) → In s n → In s m) → m ≡ n
rising_unique [] [] h k f g = refl
rising_unique [] (t ∷ n) h k f g = absurd (g t (inl refl))
rising_unique (s ∷ m) [] h k f g = absurd (f s (inl refl))
rising_unique (s ∷ m) (t ∷ n) h k f g =
    let e : s ≡ t = rising_heads s t m n h k (f s (inl refl)) (g t (inl refl)) in
    ap₂ (λ (x : Str) (l : Name). x ∷ l) e
    (rising_unique m n (rising_tail s m h) (rising_tail t n k)
    (λ x i. ⊎_elim (λ a. absurd (less_irrefl s (subst (λ (z : Str). less s z ≡ true) (a ∙ sym e) (rising_head s m h x i)))) (λ a. a) (f x (inr i)))
    (λ x i. ⊎_elim (λ a. absurd (less_irrefl t (subst (λ (z : Str). less t z ≡ true) (a ∙ e) (rising_head t n k x i)))) (λ a. a) (g x (inr i))))

-- ---- a string put in its place

-- the three ways of `insert`
pub data Place (s t : Str) (n : Name) : Type 0 where
  here : s ≡ t → insert s (t ∷ n) ≡ t ∷ n → Place s t n
  before : less s t ≡ true → insert s (t ∷ n) ≡ s ∷ t ∷ n → Place s t n
  after : (s ≡ t → ⊥) → less s t ≡ false → insert s (t ∷ n) ≡ t ∷ insert s n → Place s t n

pub place : (s t : Str) (n : Name) → Place s t n
unfolding insert
place s t n = elim (decide (same s t)) [
  | inl p ↦ here (same_is s t p) (simp p)
  | inr p ↦ elim (decide (less s t)) [ inl q ↦ before q (simp (p, q)) | inr q ↦ after (not_same p) q (simp (p, q)) ]
]

pub insert_in : (s : Str) (n : Name) (x : Str) → In x (insert s n) → (x ≡ s) ⊎ In x n
unfolding insert
insert_in s [] x i = i
insert_in s (t ∷ n) x i = elim (place s t n) [
  | here p e ↦ inr (subst (In x) e i)
  | before p e ↦ subst (In x) e i
  | after d p e ↦ ⊎_elim (λ h. inr (inl h)) (λ h. ⊎_elim (λ k. inl k) (λ k. inr (inr k)) (insert_in s n x h)) (subst (In x) e i)
]

pub in_insert : (s : Str) (n : Name) (x : Str) → (x ≡ s) ⊎ In x n → In x (insert s n)
unfolding insert
in_insert s [] x i = i
in_insert s (t ∷ n) x i = elim (place s t n) [
  | here p e ↦ subst (In x) (sym e) (⊎_elim (λ h. inl (h ∙ p)) (λ h. h) i)
  | before p e ↦ subst (In x) (sym e) i
  | after d p e ↦
      let on : (x ≡ s) ⊎ In x n → In x (insert s n) = in_insert s n x in
      subst (In x) (sym e) (⊎_elim (λ h. inr (on (inl h))) (λ h. ⊎_elim (λ k. inl k) (λ k. inr (on (inr k))) h) i)
]

-- s is one of n, or apart from each of n
abbrev pub Fits : Str → Name → Type 0
Fits s n = (t : Str) → In t n → (s ≡ t) ⊎ ((prefix s t ≡ false) × (prefix t s ≡ false))

pub insert_rising : (s : Str) (n : Name) → Fits s n → rising n ≡ true → rising (insert s n) ≡ true
unfolding insert
insert_rising s [] f h = rising_cons s [] (λ t i. absurd i) h
insert_rising s (t ∷ n) f h = elim (place s t n) [
  | here p e ↦ subst (λ (l : Name). rising l ≡ true) (sym e) h
  | before p e ↦
      subst (λ (l : Name). rising l ≡ true) (sym e) (rising_before s t n p h)
  | after d p e ↦
      let l : less t s ≡ true = ⊎_elim (λ k. absurd (d k)) (λ k. less_total s t k.0 k.1 p) (f t (inl refl)) in
      subst (λ (l : Name). rising l ≡ true) (sym e)
      (rising_cons t (insert s n) (λ u i. ⊎_elim (λ k. rw k l) (λ k. rising_head t n h u k) (insert_in s n u i))
      (insert_rising s n (λ u i. f u (inr i)) (rising_tail t n h)))
]

-- ---- many strings put in their places

pub sorted_in : (l : List Str) (x : Str) → In x (sorted l) → In x l
unfolding sorted
sorted_in [] x i = i
sorted_in (s ∷ l) x i = ⊎_elim (λ h. inl h) (λ h. inr (sorted_in l x h)) (insert_in s (sorted l) x i)

pub in_sorted : (l : List Str) (x : Str) → In x l → In x (sorted l)
unfolding sorted
in_sorted [] x i = i
in_sorted (s ∷ l) x i = in_insert s (sorted l) x (⊎_elim (λ h. inl h) (λ h. inr (in_sorted l x h)) i)

-- no string is a proper prefix of another
abbrev pub Antichain : List Str → Type 0
Antichain l = (s t : Str) → In s l → In t l → prefix s t ≡ true → s ≡ t

pub sorted_rising : (l : List Str) → Antichain l → rising (sorted l) ≡ true
unfolding sorted rising
sorted_rising [] a = refl
sorted_rising (s ∷ l) a =
    insert_rising s (sorted l)
    (λ t i. elim (decide (prefix s t)) [
      | inl p ↦ inl (a s t (inl refl) (inr (sorted_in l t i)) p)
      | inr p ↦ elim (decide (prefix t s)) [ inl q ↦ inl (sym (a t s (inr (sorted_in l t i)) (inl refl) q)) | inr q ↦ inr (p, q) ]
    ])
    (sorted_rising l (λ x y i j p. a x y (inr i) (inr j) p))
