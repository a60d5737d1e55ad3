-- In rising order x0 and x1 stand side by side: so `pair` finds what a walk over neighbours finds first. Assumes nothing.
use Rattle.laws.proofs.Library.{◌≡◌, refl, sym, ap, ap₂, ◌∙◌, subst, Bool, true, false, cond, [], ◌∷◌, concat-eq-append, eq-nil-or-concat, drop_last}
use Rattle.laws.proofs.Library.{inl, inr, ⊎_elim, Option, none, some, ℕ, suc, ◌≤◌, arith, eqb, eqb·suc-suc, length, eqb-true}
use Rattle.rules.specs.Strings.{Str, prefix, less, common, siblings, ◌▹◌}
use Rattle.rules.specs.Names.{Name, rising}
use Rattle.rules.specs.Stamps.{pair_among, pair}
use Rattle.laws.proofs.Tests.{no, clash, decide, iff, not-true, and_left, and_right, In}
use Rattle.laws.proofs.Rising.{less_trans, less_irrefl, twins_less, rising_head, rising_tail, rising_antichain}
use Rattle.laws.proofs.Settle.{both, both_in, in_both, drop_grown}

-- the first two neighbours that are siblings, less their last digit
unfoldable pub first_twins : Name → Option Str
first_twins [] = none
first_twins (s ∷ []) = none
first_twins (s ∷ t ∷ n) = cond (siblings s t) (some (drop_last s)) (first_twins (t ∷ n))

-- a name of at most one string has none
pub twins_end : (n : Name) → length n ≤ 1 → first_twins n ≡ none
unfolding first_twins
twins_end [] h = refl
twins_end (s ∷ []) h = refl
twins_end (s ∷ t ∷ n) h = absurd (omega arith)

-- ---- two siblings

-- s and t are x0 and x1 for one x
pub record Twins (s t : Str) : Type 0 where
  pub root : Str
  pub left : s ≡ root ▹ false
  pub right : t ≡ root ▹ true

-- one digit in front makes no difference
siblings_cons : (a : Bool) (s t : Str) → siblings (a ∷ s) (a ∷ t) ≡ siblings s t
unfolding siblings common
siblings_cons true s t = simp eqb·suc-suc
siblings_cons false s t = simp eqb·suc-suc

twins_cons : (a : Bool) (s t : Str) → Twins s t → Twins (a ∷ s) (a ∷ t)
twins_cons a s t w = record { root = a ∷ w.root; left = ap (λ (l : Str). a ∷ l) w.left; right = ap (λ (l : Str). a ∷ l) w.right }

pub siblings_twins : (s t : Str) → less s t ≡ true → siblings s t ≡ true → Twins s t
unfolding less siblings common
siblings_twins [] t p q = absurd (no p)
siblings_twins (a ∷ s) [] p q = absurd (no p)
siblings_twins (true ∷ s) (true ∷ t) p q = twins_cons true s t (siblings_twins s t p (sym (siblings_cons true s t) ∙ q))
siblings_twins (false ∷ s) (false ∷ t) p q = twins_cons false s t (siblings_twins s t p (sym (siblings_cons false s t) ∙ q))
siblings_twins (true ∷ s) (false ∷ t) p q = absurd (no p)
siblings_twins (false ∷ []) (true ∷ []) p q = record { root = []; left = refl; right = refl }
siblings_twins (false ∷ []) (true ∷ (b ∷ t)) p q =
    let e : 1 ≡ suc (suc (length t)) = eqb-true 1 (suc (suc (length t))) (and_left (eqb 1 (suc (suc (length t)))) (eqb 1 1) q) in absurd (omega arith)
siblings_twins (false ∷ (a ∷ s)) (true ∷ t) p q =
    let n : ℕ = suc (suc (length s)) in
    let e : 1 ≡ n = eqb-true 1 n (and_right (eqb n (suc (length t))) (eqb 1 n) q) in absurd (omega arith)

pub twins_siblings : (x : Str) → siblings (x ▹ false) (x ▹ true) ≡ true
unfolding siblings common
twins_siblings [] = refl
twins_siblings (a ∷ x) = siblings_cons a (x ▹ false) (x ▹ true) ∙ twins_siblings x

-- nothing comes between x0 and x1
pub none_between : (x t : Str) → less (x ▹ false) t ≡ true → less t (x ▹ true) ≡ true → ⊥
unfolding less
none_between [] [] p q = no p
none_between [] (false ∷ t) p q = no p
none_between [] (true ∷ []) p q = no q
none_between [] (true ∷ (b ∷ t)) p q = no q
none_between (a ∷ x) [] p q = no p
none_between (true ∷ x) (true ∷ t) p q = none_between x t p q
none_between (false ∷ x) (false ∷ t) p q = none_between x t p q
none_between (true ∷ x) (false ∷ t) p q = no p
none_between (false ∷ x) (true ∷ t) p q = no q

-- ---- the walk

module _ (n : Name) (h : rising n ≡ true) where
  -- l is a part of n that has both of x0 and x1 or none
  record Part (l : Name) : Type 0 where
    within : (x : Str) → In x l → In x n
    left : (x : Str) → In (x ▹ true) l → In (x ▹ false) n → In (x ▹ false) l
    right : (x : Str) → In (x ▹ false) l → In (x ▹ true) n → In (x ▹ true) l

  -- x is what the last digit was taken from
  both_root : (s x : Str) (d : Bool) → s ≡ x ▹ d → In (x ▹ false) n → In (x ▹ true) n → both n (drop_last s) ≡ true
  both_root s x d e i j = rw (ap drop_last e ∙ drop_grown x d) (in_both n x i j)

  -- s is x0, and x1 stands behind it
  record Leads (s : Str) (l : Name) : Type 0 where
    root : Str
    is : s ≡ root ▹ false
    twin : In (root ▹ true) l

  -- the head of a part, where n has both: it is the left one
  head_leads : (s : Str) (l : Name) → rising (s ∷ l) ≡ true → Part (s ∷ l) → both n (drop_last s) ≡ true → Leads s l
  unfolding prefix
  head_leads s l k p e = elim (eq-nil-or-concat s) [
    | inl f ↦
        let c = rising_antichain n h s (drop_last s ▹ false) (p.within s (inl refl)) (both_in n (drop_last s) e).0 (rw f) in
        absurd (omega (arith, ap length (rw f at c)))
    | inr g ↦ by g.0 g.1 (g.2 ∙ concat-eq-append g.0 g.1)
  ]
    where
      root_in : (x : Str) (d : Bool) → s ≡ x ▹ d → In (x ▹ false) n × In (x ▹ true) n
      root_in x d f = both_in n x (subst (λ (y : Str). both n y ≡ true) (ap drop_last f ∙ drop_grown x d) e)

      -- its last digit is 0
      by : (x : Str) (d : Bool) → s ≡ x ▹ d → Leads s l
      by x true f =
          absurd
          (⊎_elim (λ g. less_irrefl (x ▹ true) (subst (λ (y : Str). less y (x ▹ true) ≡ true) (g ∙ f) (twins_less x)))
          (λ g. less_irrefl (x ▹ false)
          (less_trans (x ▹ false) (x ▹ true) (x ▹ false) (twins_less x) (subst (λ (y : Str). less y (x ▹ false) ≡ true) f (rising_head s l k (x ▹ false) g))))
          (p.left x (inl (sym f)) (root_in x true f).0))
      by x false f = record {
        root = x;
        is = f;
        twin = ⊎_elim (λ g. absurd (less_irrefl (x ▹ false) (subst (λ (y : Str). less (x ▹ false) y ≡ true) (g ∙ f) (twins_less x)))) (λ g. g)
            (p.right x (inl (sym f)) (root_in x false f).1);
      }

  tail_part : (s : Str) (l : Name) → Part (s ∷ l) → both n (drop_last s) ≡ false → Part l
  tail_part s l p e = record {
    within = λ x i. p.within x (inr i);
    left = λ x i j. ⊎_elim (λ g. absurd (clash (both_root s x false (sym g) j (p.within (x ▹ true) (inr i))) e)) (λ g. g) (p.left x (inr i) j);
    right = λ x i j. ⊎_elim (λ g. absurd (clash (both_root s x true (sym g) (p.within (x ▹ false) (inr i)) j) e)) (λ g. g) (p.right x (inr i) j);
  }

  -- at two neighbours the two walks ask the same
  next_test : (s t : Str) (l : Name) → rising (s ∷ t ∷ l) ≡ true → Part (s ∷ t ∷ l) → both n (drop_last s) ≡ siblings s t
  next_test s t l k p =
      iff
      (λ e. let w = head_leads s (t ∷ l) k p e in
      let before : less (w.root ▹ false) t ≡ true = subst (λ (y : Str). less y t ≡ true) w.is (rising_head s (t ∷ l) k t (inl refl)) in
      ⊎_elim (λ g. ap₂ siblings w.is (sym g) ∙ twins_siblings w.root)
      (λ g. absurd (none_between w.root t before (rising_head t l (rising_tail s (t ∷ l) k) (w.root ▹ true) g)))
      w.twin)
      (λ e. let w = siblings_twins s t (rising_head s (t ∷ l) k t (inl refl)) e in
      both_root s w.root false w.left (p.within (w.root ▹ false) (inl (sym w.left))) (p.within (w.root ▹ true) (inr (inl (sym w.right)))))

  walk : (l : Name) → rising l ≡ true → Part l → pair_among l n ≡ first_twins l
  unfolding pair_among first_twins
  walk [] k p = refl
  walk (s ∷ []) k p = ap (λ (b : Bool). cond b (some (drop_last s)) none) (not-true (λ e. (head_leads s [] k p e).twin))
  walk (s ∷ t ∷ l) k p =
      let same = sym (next_test s t l k p) in
      elim (decide (both n (drop_last s))) [
        | inl e ↦ rw (e, same ∙ e)
        | inr e ↦ rw (e, same ∙ e) (walk (t ∷ l) (rising_tail s (t ∷ l) k) (tail_part s (t ∷ l) p e))
      ]

  -- in rising order: what `pair` finds is the first two neighbours that are siblings
  pub neighbour_pair : pair n ≡ first_twins n
  unfolding pair
  neighbour_pair = walk n h (record { within = λ x i. i; left = λ x i j. j; right = λ x i j. j })
