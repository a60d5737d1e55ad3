-- The merge of two rising names is the document's union: it rises, it holds nothing else, and what is lost is a prefix of something
-- that stays. Assumes nothing.
use Rattle.laws.proofs.Library.{◌≡◌, refl, sym, subst, ◌∙◌, Bool, true, false, cond, List, [], ◌∷◌, ◌++◌, ◌⊎◌, inl, inr, ⊎_elim, ℕ, ◌≤◌, le_of_lt, ltb-true}
use Rattle.laws.proofs.Library.{ltb-false, ltb}
use Rattle.rules.specs.Strings.{Str, prefix, less, str_of, is_word}
use Rattle.rules.specs.Names.{all, rising, union}
use Rattle.laws.proofs.Tests.{In, in_left, in_right, in_append, Some, all_each, each_all}
use Rattle.laws.proofs.Prefix.{prefix_refl, prefix_trans, prefix_antisym}
use Rattle.laws.proofs.Rising.{less_trans, rising_head, rising_tail, rising_cons, rising_antichain, rising_unique}
use Rattle.laws.proofs.Union.{union_top, top_union, union_rising}
use Rattle.strings.specs.Words.{begins}
use Rattle.strings.proofs.Order.{le_less}
use Rattle.strings.proofs.Fronts.{begins_prefix}
use Rattle.unions.specs.Unions.{merge_from, merge}
use Rattle.unions.proofs.Words.{strs, prefix_w, From, in_strs, strs_in_lem}

-- ---- the ways of a merge

-- l is the merge of m and n
data Merged : List ℕ → List ℕ → List ℕ → Type 0 where
  second : {n : List ℕ} → Merged [] n n
  first : {s : ℕ} {m : List ℕ} → Merged (s ∷ m) [] (s ∷ m)
  skips : {s t : ℕ} {m n l : List ℕ} → prefix_w s t ≡ true → Merged m (t ∷ n) l → Merged (s ∷ m) (t ∷ n) l
  takes : {s t : ℕ} {m n l : List ℕ} → less (str_of s) (str_of t) ≡ true → Merged m (t ∷ n) l → Merged (s ∷ m) (t ∷ n) (s ∷ l)
  skips2 : {s t : ℕ} {m n l : List ℕ} → prefix_w t s ≡ true → Merged (s ∷ m) n l → Merged (s ∷ m) (t ∷ n) l
  takes2 : {s t : ℕ} {m n l : List ℕ} → less (str_of t) (str_of s) ≡ true → Merged (s ∷ m) n l → Merged (s ∷ m) (t ∷ n) (t ∷ l)

-- each word of l is that of a string of at most so many digits
abbrev pub Words : ℕ → List ℕ → Type 0
Words most l = (x : ℕ) → In x l → is_word most x ≡ true

module _ (most : ℕ) (hm : most ≤ 58) where
  -- a word that is not below a: of an extension, or of a string that comes after
  within : (a b : ℕ) → is_word most a ≡ true → is_word most b ≡ true → a ≤ b → begins a b ≡ true → prefix_w a b ≡ true
  within a b v w l e = sym (begins_prefix most hm a b v w l) ∙ e

  beyond : (a b : ℕ) → is_word most a ≡ true → is_word most b ≡ true → a ≤ b → begins a b ≡ false → less (str_of a) (str_of b) ≡ true
  beyond a b v w l e = le_less most hm a b v w l (sym (begins_prefix most hm a b v w l) ∙ e)

  merged : (m n : List ℕ) → Words most m → Words most n → Merged m n (merge m n)
  unfolding merge merge_from
  merged [] n p q = second
  merged (s ∷ m) n p q = from n q (λ l r. merged m l (λ x i. p x (inr i)) r)
    where
      from : (n : List ℕ) → Words most n → ((l : List ℕ) → Words most l → Merged m l (merge m l)) → Merged (s ∷ m) n (merge (s ∷ m) n)
      from [] q ih = first
      from (t ∷ n) q ih = by (ltb s t) refl (begins s t) refl (begins t s) refl (ih (t ∷ n) q) (from n (λ x i. q x (inr i)) ih)
        where
          v : is_word most s ≡ true
          v = p s (inl refl)

          w : is_word most t ≡ true
          w = q t (inl refl)

          by : (a : Bool) → ltb s t ≡ a → (b : Bool) → begins s t ≡ b → (c : Bool) → begins t s ≡ c
              → Merged m (t ∷ n) (merge m (t ∷ n)) → Merged (s ∷ m) n (merge (s ∷ m) n)
              → Merged (s ∷ m) (t ∷ n) (cond a (cond b (merge m (t ∷ n)) (s ∷ merge m (t ∷ n))) (cond c (merge (s ∷ m) n) (t ∷ merge (s ∷ m) n)))
          by true e true f c g x y = skips (within s t v w (le_of_lt (ltb-true s t e)) f) x
          by true e false f c g x y = takes (beyond s t v w (le_of_lt (ltb-true s t e)) f) x
          by false e b f true g x y = skips2 (within t s w v (ltb-false s t e) g) y
          by false e b f false g x y = takes2 (beyond t s w v (ltb-false s t e) g) y

-- nothing else comes in
merged_in : {m n l : List ℕ} → Merged m n l → (x : ℕ) → In x l → In x m ⊎ In x n
merged_in second x i = inr i
merged_in first x i = inl i
merged_in (skips p r) x i = ⊎_elim (λ h. inl (inr h)) (λ h. inr h) (merged_in r x i)
merged_in (takes p r) x i = ⊎_elim (λ e. inl (inl e)) (λ k. ⊎_elim (λ h. inl (inr h)) (λ h. inr h) (merged_in r x k)) i
merged_in (skips2 p r) x i = ⊎_elim (λ h. inl h) (λ h. inr (inr h)) (merged_in r x i)
merged_in (takes2 p r) x i = ⊎_elim (λ e. inr (inl e)) (λ k. ⊎_elim (λ h. inl h) (λ h. inr (inr h)) (merged_in r x k)) i

-- x itself, or a word whose string extends that of x
abbrev Over : ℕ → List ℕ → Type 0
Over x l = Some (prefix_w x) l

self : (x : ℕ) (l : List ℕ) → In x l → Over x l
self x l i = record { one = x; inside = i; passes = prefix_refl (str_of x) }

further : (x t : ℕ) (l : List ℕ) → Over x l → Over x (t ∷ l)
further x t l o = record { one = o.one; inside = inr o.inside; passes = o.passes }

higher : (x y : ℕ) (l : List ℕ) → prefix_w x y ≡ true → Over y l → Over x l
higher x y l p o = record { one = o.one; inside = o.inside; passes = prefix_trans (str_of x) (str_of y) (str_of o.one) p o.passes }

same_higher : (x s t : ℕ) (l : List ℕ) → x ≡ s → prefix_w s t ≡ true → Over t l → Over x l
same_higher x s t l e p o = higher x t l (subst (λ (y : ℕ). prefix_w y t ≡ true) (sym e) p) o

-- nothing is lost
over_merged : {m n l : List ℕ} → Merged m n l → (x : ℕ) → In x m ⊎ In x n → Over x l
over_merged {n = n} second x i = ⊎_elim (λ h. absurd h) (λ h. self x n h) i
over_merged {l = l} first x i = ⊎_elim (λ h. self x l h) (λ h. absurd h) i
over_merged (skips {s} {t} {m} {n} {l} p r) x i =
    ⊎_elim (λ h. ⊎_elim (λ e. same_higher x s t l e p (over_merged r t (inr (inl refl)))) (λ k. over_merged r x (inl k)) h) (λ h. over_merged r x (inr h)) i
over_merged (takes {s} {t} {m} {n} {l} p r) x i =
    ⊎_elim (λ h. ⊎_elim (λ e. self x (s ∷ l) (inl e)) (λ k. further x s l (over_merged r x (inl k))) h) (λ h. further x s l (over_merged r x (inr h))) i
over_merged (skips2 {s} {t} {m} {n} {l} p r) x i =
    ⊎_elim (λ h. over_merged r x (inl h)) (λ h. ⊎_elim (λ e. same_higher x t s l e p (over_merged r s (inl (inl refl)))) (λ k. over_merged r x (inr k)) h) i
over_merged (takes2 {s} {t} {m} {n} {l} p r) x i =
    ⊎_elim (λ h. further x t l (over_merged r x (inl h))) (λ h. ⊎_elim (λ e. self x (t ∷ l) (inl e)) (λ k. further x t l (over_merged r x (inr k))) h) i

-- ---- rising

-- s comes before each of l
Leads : Str → List ℕ → Type 0
Leads s l = (x : ℕ) → In x l → less s (str_of x) ≡ true

leads : (s : ℕ) (l : List ℕ) → rising (strs (s ∷ l)) ≡ true → Leads (str_of s) l
unfolding Leads
leads s l h x i = rising_head (str_of s) (strs l) h (str_of x) (in_strs l x i)

leads_on : (s t : ℕ) (l : List ℕ) → less (str_of s) (str_of t) ≡ true → rising (strs (t ∷ l)) ≡ true → Leads (str_of s) (t ∷ l)
unfolding Leads
leads_on s t l p h x i =
    ⊎_elim (λ e. subst (λ (y : ℕ). less (str_of s) (str_of y) ≡ true) (sym e) p) (λ k. less_trans (str_of s) (str_of t) (str_of x) p (leads t l h x k)) i

rising_on : (s : ℕ) (l : List ℕ) → Leads (str_of s) l → rising (strs l) ≡ true → rising (strs (s ∷ l)) ≡ true
unfolding Leads
rising_on s l f h = rising_cons (str_of s) (strs l) (λ y i. let o = strs_in_lem l y i in subst (λ (z : Str). less (str_of s) z ≡ true) o.is (f o.one o.inside)) h

merged_rising : {m n l : List ℕ} → Merged m n l → rising (strs m) ≡ true → rising (strs n) ≡ true → rising (strs l) ≡ true
unfolding Leads
merged_rising second p q = q
merged_rising first p q = p
merged_rising (skips {s} {t} {m} {n} {l} e r) p q = merged_rising r (rising_tail (str_of s) (strs m) p) q
merged_rising (takes {s} {t} {m} {n} {l} e r) p q =
    rising_on s l (λ x i. ⊎_elim (λ h. leads s m p x h) (λ h. leads_on s t n e q x h) (merged_in r x i)) (merged_rising r (rising_tail (str_of s) (strs m) p) q)
merged_rising (skips2 {s} {t} {m} {n} {l} e r) p q = merged_rising r p (rising_tail (str_of t) (strs n) q)
merged_rising (takes2 {s} {t} {m} {n} {l} e r) p q =
    rising_on t l (λ x i. ⊎_elim (λ h. leads_on t s m e p x h) (λ h. leads t n q x h) (merged_in r x i)) (merged_rising r p (rising_tail (str_of t) (strs n) q))

-- ---- the union

module _ (most : ℕ) (m n : List ℕ) (hm : most ≤ 58) (words : all (is_word most) m ≡ true) (words2 : all (is_word most) n ≡ true) where
  trace : Merged m n (merge m n)
  trace = merged most hm m n (all_each (is_word most) m words) (all_each (is_word most) n words2)

  pub merge_words : all (is_word most) (merge m n) ≡ true
  merge_words =
      each_all (is_word most) (merge m n)
      (λ x i. ⊎_elim (all_each (is_word most) m words x) (all_each (is_word most) n words2 x) (merged_in trace x i))

  -- a string of either, in the merge's words
  either_in : (y : Str) → In y (strs m ++ strs n) → Some (prefix y) (strs (merge m n))
  either_in y i = ⊎_elim (λ h. on (strs_in_lem m y h) (λ j. inl j)) (λ h. on (strs_in_lem n y h) (λ j. inr j)) (in_append y (strs m) (strs n) i)
    where
      on : {l : List ℕ} (f : From l y) → (In f.one l → In f.one m ⊎ In f.one n) → Some (prefix y) (strs (merge m n))
      on f g =
          let o = over_merged trace f.one (g f.inside) in
          record {
            one = str_of o.one;
            inside = in_strs (merge m n) o.one o.inside;
            passes = subst (λ (z : Str). prefix z (str_of o.one) ≡ true) f.is o.passes;
          }

  in_either : (y : Str) → In y (strs (merge m n)) → In y (strs m ++ strs n)
  in_either y i =
      let f = strs_in_lem (merge m n) y i in
      subst (λ (z : Str). In z (strs m ++ strs n)) f.is
      (⊎_elim (λ h. in_left (str_of f.one) (strs m) (strs n) (in_strs m f.one h)) (λ h. in_right (str_of f.one) (strs m) (strs n) (in_strs n f.one h))
      (merged_in trace f.one f.inside))

  pub merge_union : rising (strs m) ≡ true → rising (strs n) ≡ true → strs (merge m n) ≡ union (strs m) (strs n)
  merge_union p q =
      rising_unique (strs (merge m n)) (union (strs m) (strs n)) r (union_rising (strs m) (strs n))
      (λ y i. top_union (strs m) (strs n) y record {
        inside = in_either y i;
        alone = λ t j h.
            let o = either_in t j in
            let e = rising_antichain (strs (merge m n)) r y o.one i o.inside (prefix_trans y t o.one h o.passes) in
            prefix_antisym y t h (subst (λ (z : Str). prefix t z ≡ true) (sym e) o.passes);
      })
      (λ y i.
      let t = union_top (strs m) (strs n) y i in
      let o = either_in y t.inside in
      subst (λ (z : Str). In z (strs (merge m n))) (sym (t.alone o.one (in_either o.one o.inside) o.passes)) o.inside)
    where
      r : rising (strs (merge m n)) ≡ true
      r = merged_rising trace p q
