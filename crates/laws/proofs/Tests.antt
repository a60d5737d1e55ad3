-- Tests and what they say: `any`, `all`, `keep` and `member` as statements about the elements. Assumes nothing.
use Rattle.laws.proofs.Library.{◌≡◌, refl, sym, ◌∙◌, subst, Bool, true, false, not, ◌&&◌, ◌||◌, or-true, List, [], ◌∷◌, ◌++◌, ◌⊎◌, inl, inr, ⊎_elim, ℕ}
use Rattle.laws.proofs.Library.{zero, suc, ◌≤◌, ◌<◌, le_of_suc-le-suc, arith, length, get_or, leb, leb-true, leb-false}
use Rattle.rules.specs.Names.{any, all, keep}

pub no : false ≡ true → ⊥
no e = let z : ◌≡◌ {A = ℕ} 0 1 = cc in omega arith

pub clash : {b : Bool} → b ≡ true → b ≡ false → ⊥
clash p q = no (sym q ∙ p)

pub decide : (b : Bool) → (b ≡ true) ⊎ (b ≡ false)
decide true = inl refl
decide false = inr refl

pub not-true : {b : Bool} → (b ≡ true → ⊥) → b ≡ false
not-true {b} h = elim (decide b) [ inl e ↦ absurd (h e) | inr e ↦ e ]

pub not-false : {b : Bool} → (b ≡ false → ⊥) → b ≡ true
not-false {b} h = elim (decide b) [ inl e ↦ e | inr e ↦ absurd (h e) ]

-- two tests that imply each other are one
pub iff : {a b : Bool} → (a ≡ true → b ≡ true) → (b ≡ true → a ≡ true) → a ≡ b
iff {a} f g = elim (decide a) [ inl e ↦ e ∙ sym (f e) | inr e ↦ e ∙ sym (not-true (λ k. clash (g k) e)) ]

pub and_left : (a b : Bool) → (a && b) ≡ true → a ≡ true
and_left a b e = not-false (λ p. clash e (rw p))

pub and_right : (a b : Bool) → (a && b) ≡ true → b ≡ true
and_right a b e = rw (and_left a b e) at e

pub and_both : {a b : Bool} → a ≡ true → b ≡ true → (a && b) ≡ true
and_both p q = rw (p, q)

pub or_cases : (a b : Bool) → (a || b) ≡ true → (a ≡ true) ⊎ (b ≡ true)
or_cases true b e = inl refl
or_cases false b e = inr e

pub or_left : {a : Bool} (b : Bool) → a ≡ true → (a || b) ≡ true
or_left b p = rw p

pub or_right : (a : Bool) {b : Bool} → b ≡ true → (a || b) ≡ true
or_right a q = rw (q, or-true)

pub not_is : {b : Bool} → not b ≡ true → b ≡ false
not_is e = not-true (λ p. no (rw p at e))

pub is_not : {b : Bool} → b ≡ false → not b ≡ true
is_not p = rw p

-- one number is at most another, or beyond it
pub at_most : (m n : ℕ) → (m ≤ n) ⊎ (n < m)
at_most m n = elim (decide (leb m n)) [ inl e ↦ inl (leb-true m n e) | inr e ↦ inr (leb-false m n e) ]

-- ---- elements

module _ {A : Type 0} where
  -- x is an element of the list
  abbrev pub In : A → List A → Type 0
  In x [] = ⊥
  In x (y ∷ l) = (x ≡ y) ⊎ In x l

  pub in_left : (x : A) (l m : List A) → In x l → In x (l ++ m)
  in_left x [] m i = absurd i
  in_left x (y ∷ l) m i = ⊎_elim (λ h. inl h) (λ h. inr (in_left x l m h)) i

  pub in_right : (x : A) (l m : List A) → In x m → In x (l ++ m)
  in_right x [] m i = i
  in_right x (y ∷ l) m i = inr (in_right x l m i)

  pub in_append : (x : A) (l m : List A) → In x (l ++ m) → In x l ⊎ In x m
  in_append x [] m i = inr i
  in_append x (y ∷ l) m i = ⊎_elim (λ h. inl (inl h)) (λ h. ⊎_elim (λ k. inl (inr k)) (λ k. inr k) (in_append x l m h)) i

  -- a list with an element is not empty
  pub in_filled : (x : A) (l : List A) → In x l → 1 ≤ length l
  in_filled x [] i = absurd i
  in_filled x (y ∷ l) i = omega arith

  -- what stands at a place is an element
  pub in_get_d : (l : List A) (k : ℕ) (d : A) → k < length l → In (get_or l k d) l
  in_get_d [] k d h = absurd (omega arith)
  in_get_d (x ∷ l) zero d h = inl refl
  in_get_d (x ∷ l) (suc k) d h = inr (in_get_d l k d (le_of_suc-le-suc h))

  -- some element passes p
  pub record Some (p : A → Bool) (l : List A) : Type 0 where
    pub one : A
    pub inside : In one l
    pub passes : p one ≡ true

  pub any_some : (p : A → Bool) (l : List A) → any p l ≡ true → Some p l
  unfolding any
  any_some p [] e = absurd (no e)
  any_some p (x ∷ l) e =
      ⊎_elim (λ h. record { one = x; inside = inl refl; passes = h })
      (λ h. let s = any_some p l h in record { one = s.one; inside = inr s.inside; passes = s.passes })
      (or_cases (p x) (any p l) e)

  pub some_any : (p : A → Bool) (l : List A) (x : A) → In x l → p x ≡ true → any p l ≡ true
  unfolding any
  some_any p [] x i e = absurd i
  some_any p (y ∷ l) x i e =
      ⊎_elim (λ h. or_left (any p l) (subst (λ (z : A). p z ≡ true) h e)) (λ h. or_right (p y) (some_any p l x h e)) i

  pub any_none : (p : A → Bool) (l : List A) → any p l ≡ false → (x : A) → In x l → p x ≡ false
  any_none p l e x i = not-true (λ h. clash (some_any p l x i h) e)

  pub none_any : (p : A → Bool) (l : List A) → ((x : A) → In x l → p x ≡ false) → any p l ≡ false
  none_any p l f = not-true (λ h. let s = any_some p l h in clash s.passes (f s.one s.inside))

  pub all_each : (p : A → Bool) (l : List A) → all p l ≡ true → (x : A) → In x l → p x ≡ true
  unfolding all
  all_each p [] e x i = absurd i
  all_each p (y ∷ l) e x i =
      ⊎_elim (λ h. subst (λ (z : A). p z ≡ true) (sym h) (and_left (p y) (all p l) e)) (λ h. all_each p l (and_right (p y) (all p l) e) x h) i

  pub each_all : (p : A → Bool) (l : List A) → ((x : A) → In x l → p x ≡ true) → all p l ≡ true
  unfolding all
  each_all p [] f = refl
  each_all p (y ∷ l) f = and_both (f y (inl refl)) (each_all p l (λ x i. f x (inr i)))

  pub keep_in : (p : A → Bool) (l : List A) (x : A) → In x (keep p l) → In x l × (p x ≡ true)
  unfolding keep
  keep_in p [] x i = absurd i
  keep_in p (y ∷ l) x i =
      let on : In x (keep p l) → In x (y ∷ l) × (p x ≡ true) = λ h. let k = keep_in p l x h in (inr k.0, k.1) in
      elim (decide (p y)) [ inl e ↦ ⊎_elim (λ h. (inl h, rw h e)) on (let j : In x (y ∷ keep p l) = rw e at i in j) | inr e ↦ on (rw e at i) ]

  pub in_keep : (p : A → Bool) (l : List A) (x : A) → In x l → p x ≡ true → In x (keep p l)
  unfolding keep
  in_keep p [] x i e = absurd i
  in_keep p (y ∷ l) x i e = elim (decide (p y)) [
    | inl f ↦ rw f (⊎_elim (λ h. inl h) (λ h. inr (in_keep p l x h e)) i)
    | inr f ↦ rw f (⊎_elim (λ h. absurd (clash (rw h at e) f)) (λ h. in_keep p l x h e) i)
  ]
