-- The stack leaves what reduction leaves of the id: each time two siblings give way to what they share, that is a step of reduction, and at the end
-- no two neighbours are siblings, so no step is left. Assumes nothing.
use Rattle.laws.proofs.Library.{◌≡◌, refl, sym, ap, ap₂, ◌∙◌, subst, Bool, true, false, cond, List, [], ◌∷◌, ◌++◌, reverse_aux, ◌⊎◌, inl, inr, ⊎_elim, none}
use Rattle.laws.proofs.Library.{ℕ, ◌+◌, ◌-◌, ◌≤◌, arith, length, append_snoc}
use Rattle.rules.specs.Strings.{Str, less, siblings, ◌▹◌, word_of, str_of, is_word}
use Rattle.rules.specs.Names.{Name, all, rising}
use Rattle.rules.specs.Stamps.{Stamp, pair, settle, settled, reduce}
use Rattle.laws.proofs.Tests.{no, In, in_left, in_right, in_append, all_each, each_all}
use Rattle.laws.proofs.Rising.{less_irrefl, rising_head, rising_tail, rising_cons, rising_unique}
use Rattle.laws.proofs.Settle.{settle_in, in_settle}
use Rattle.laws.proofs.Steps.{Proper, Steps, stop, step, settled_proper}
use Rattle.laws.proofs.Reduce.{steps_proper, reduce_unique}
use Rattle.laws.proofs.Pairs.{first_twins, Twins, siblings_twins, neighbour_pair}
use Rattle.laws.proofs.Words.{str_word, word_grown}
use Rattle.laws.proofs.Shares.{grown_length}
use Rattle.strings.proofs.Order.{word_is}
use Rattle.unions.specs.Unions.{push, push_all, reduced}
use Rattle.unions.proofs.Words.{strs, word_within, of_string}
use Rattle.unions.proofs.Merging.{Words}

-- ---- s0 and s1 side by side

-- what comes before s0 comes before s
before_root : (s t : Str) → less t (s ▹ false) ≡ true → less t s ≡ true
unfolding less
before_root [] [] p = absurd (no p)
before_root [] (true ∷ t) p = absurd (no p)
before_root [] (false ∷ []) p = absurd (no p)
before_root [] (false ∷ (b ∷ t)) p = absurd (no p)
before_root (a ∷ s) [] p = absurd (no p)
before_root (true ∷ s) (true ∷ t) p = before_root s t p
before_root (false ∷ s) (false ∷ t) p = before_root s t p
before_root (true ∷ s) (false ∷ t) p = refl
before_root (false ∷ s) (true ∷ t) p = absurd (no p)

-- what comes behind s1 comes behind s
behind_root : (s t : Str) → less (s ▹ true) t ≡ true → less s t ≡ true
unfolding less
behind_root [] [] p = absurd (no p)
behind_root [] (true ∷ t) p = absurd (no p)
behind_root [] (false ∷ t) p = absurd (no p)
behind_root (a ∷ s) [] p = absurd (no p)
behind_root (true ∷ s) (true ∷ t) p = behind_root s t p
behind_root (false ∷ s) (false ∷ t) p = behind_root s t p
behind_root (true ∷ s) (false ∷ t) p = absurd (no p)
behind_root (false ∷ s) (true ∷ t) p = refl

rising_right : (a b : Name) → rising (a ++ b) ≡ true → rising b ≡ true
rising_right [] b h = h
rising_right (s ∷ a) b h = rising_right a b (rising_tail s (a ++ b) h)

rising_across : (a b : Name) → rising (a ++ b) ≡ true → (s t : Str) → In s a → In t b → less s t ≡ true
rising_across [] b h s t i j = absurd i
rising_across (u ∷ a) b h s t i j =
    ⊎_elim (λ e. subst (λ (z : Str). less z t ≡ true) (sym e) (rising_head u (a ++ b) h t (in_right t a b j)))
    (λ k. rising_across a b (rising_tail u (a ++ b) h) s t k j) i

module _ (s : Str) (b : Name) where
  abbrev twins : Name
  twins = (s ▹ false) ∷ (s ▹ true) ∷ b

  -- s in their place
  root_rising : (a : Name) → rising (a ++ twins) ≡ true → rising (a ++ (s ∷ b)) ≡ true
  root_rising [] h =
      let k = rising_tail (s ▹ false) ((s ▹ true) ∷ b) h in
      rising_cons s b (λ t i. behind_root s t (rising_head (s ▹ true) b k t i)) (rising_tail (s ▹ true) b k)
  root_rising (u ∷ a) h =
      let lead = rising_head u (a ++ twins) h in
      rising_cons u (a ++ (s ∷ b))
      (λ t i. ⊎_elim (λ j. lead t (in_left t a twins j))
      (λ j. ⊎_elim (λ e. subst (λ (z : Str). less u z ≡ true) (sym e) (before_root s u (lead (s ▹ false) (in_right (s ▹ false) a twins (inl refl)))))
      (λ k. lead t (in_right t a twins (inr (inr k)))) j) (in_append t a (s ∷ b) i))
      (root_rising a (rising_tail u (a ++ twins) h))

  module _ (a : Name) (h : rising (a ++ twins) ≡ true) where
    ends : rising twins ≡ true
    ends = rising_right a twins h

    -- a string beside the two is neither of them
    beside : (t : Str) (d : Bool) → In t a ⊎ In t b → t ≡ s ▹ d → ⊥
    beside t d i e =
        ⊎_elim (λ j. less_irrefl t (subst (λ (z : Str). less t z ≡ true) (sym e) (rising_across a twins h t (s ▹ d) j (mid d))))
        (λ j. less_irrefl t (subst (λ (z : Str). less z t ≡ true) (sym e) (behind d t j))) i
      where
        mid : (d : Bool) → In (s ▹ d) twins
        mid false = inl refl
        mid true = inr (inl refl)

        behind : (d : Bool) → (t : Str) → In t b → less (s ▹ d) t ≡ true
        behind false t j = rising_head (s ▹ false) ((s ▹ true) ∷ b) ends t (inr j)
        behind true t j = rising_head (s ▹ true) b (rising_tail (s ▹ false) ((s ▹ true) ∷ b) ends) t j

    pub settle_twins : (r : rising (settle s (a ++ twins)) ≡ true) → settle s (a ++ twins) ≡ a ++ (s ∷ b)
    settle_twins r =
        rising_unique (settle s (a ++ twins)) (a ++ (s ∷ b)) r (root_rising a h)
        (λ t i. ⊎_elim (λ k. kept t k.0 k.1.0 k.1.1) (λ k. in_right t a (s ∷ b) (inl k.0)) (settle_in s (a ++ twins) t i))
        (λ t i. ⊎_elim (λ j. stays t (inl j) (in_left t a twins j))
        (λ j. ⊎_elim (λ e. in_settle s (a ++ twins) t (inr (e, inl (in_right (s ▹ false) a twins (inl refl)))))
        (λ k. stays t (inr k) (in_right t a twins (inr (inr k)))) j) (in_append t a (s ∷ b) i))
      where
        stays : (t : Str) → In t a ⊎ In t b → In t (a ++ twins) → In t (settle s (a ++ twins))
        stays t k i = in_settle s (a ++ twins) t (inl (i, (beside t false k, beside t true k)))

        kept : (t : Str) → In t (a ++ twins) → (t ≡ s ▹ false → ⊥) → (t ≡ s ▹ true → ⊥) → In t (a ++ (s ∷ b))
        kept t i p q =
            ⊎_elim (λ j. in_left t a (s ∷ b) j)
            (λ j. ⊎_elim (λ e. absurd (p e)) (λ k. ⊎_elim (λ e. absurd (q e)) (λ m. in_right t a (s ∷ b) (inr m)) k) j) (in_append t a twins i)

-- a step at such a place
record OneStep (y : Stamp) (s : Str) (l : Name) : Type 0 where
  left : In (s ▹ false) y.id
  right : In (s ▹ true) y.id
  is : (settled s y).id ≡ l

one_step : (y : Stamp) (s : Str) (a b : Name) → Proper y → y.id ≡ a ++ twins s b → OneStep y s (a ++ (s ∷ b))
unfolding settled
one_step y s a b p at = record {
  left = l;
  right = r;
  is = ap (settle s) at ∙ settle_twins s b a (subst up at p.id_rising) (subst (λ (n : Name). up (settle s n)) at (settled_proper s y p l r).id_rising);
}
  where
    up : Name → Type 0
    up n = rising n ≡ true

    l : In (s ▹ false) y.id
    l = subst (In (s ▹ false)) (sym at) (in_right (s ▹ false) a (twins s b) (inl refl))

    r : In (s ▹ true) y.id
    r = subst (In (s ▹ true)) (sym at) (in_right (s ▹ true) a (twins s b) (inr (inl refl)))

-- ---- the stack

-- no two neighbours of the stack are siblings
data Apart : List ℕ → Type 0 where
  empty : Apart []
  single : {s : ℕ} → Apart (s ∷ [])
  more : {s t : ℕ} {n : List ℕ} → siblings (str_of t) (str_of s) ≡ false → Apart (t ∷ n) → Apart (s ∷ t ∷ n)

apart_tail : {s : ℕ} {n : List ℕ} → Apart (s ∷ n) → Apart n
apart_tail single = empty
apart_tail (more e a) = a

turned : (n r : List ℕ) → strs (reverse_aux n r) ≡ strs (reverse_aux n []) ++ strs r
turned [] r = refl
turned (x ∷ n) r =
    turned n (x ∷ r) ∙ sym (append_snoc (strs (reverse_aux n [])) (str_of x) (strs r)) ∙ ap (λ (l : Name). l ++ strs r) (sym (turned n (x ∷ [])))

twins_none : (n : List ℕ) (s : ℕ) (r : List ℕ) → Apart (s ∷ n) → first_twins (strs (s ∷ r)) ≡ none → first_twins (strs (reverse_aux n (s ∷ r))) ≡ none
unfolding first_twins
twins_none [] s r a e = e
twins_none (t ∷ n) s r (more f a) e = twins_none n t (s ∷ r) a (simp f e)

apart_none : (n : List ℕ) → Apart n → first_twins (strs (reverse_aux n [])) ≡ none
unfolding first_twins
apart_none [] a = refl
apart_none (s ∷ n) a = twins_none n s [] a refl

steps_then : {x y z : Stamp} → Steps x y → Steps y z → Steps x z
steps_then stop r = r
steps_then (step s a b q) r = step s a b (steps_then q r)

module _ (most : ℕ) (hm : most ≤ 58) where
  -- steps of x lead to the id that the stack and the words to come tell
  record Reached (x : Stamp) (n r : List ℕ) : Type 0 where
    end : Stamp
    steps : Steps x end
    is : end.id ≡ strs (reverse_aux n r)
    stacked : Words most n
    coming : Words most r
    apart : Apart n

  -- the word of what s0 and s1 share: that of s0 less one
  root_word : (s : Str) (w : ℕ) → is_word most w ≡ true → str_of w ≡ s ▹ false → (is_word most (w - 1) ≡ true) × (str_of (w - 1) ≡ s)
  root_word s w h e =
      let short : length s + 1 ≤ most = omega (arith, word_within most hm w h, ap length e, grown_length s false) in
      let is : w - 1 ≡ word_of s = omega (arith, word_is most hm w h, ap word_of e, word_grown s false (omega arith)) in
      rw is (of_string most hm s (omega arith), str_word s (omega arith))

  module _ (x : Stamp) (ok : Proper x) where
    -- the sibling on top: one step
    steps_on : (s t : ℕ) (n r : List ℕ) → siblings (str_of t) (str_of s) ≡ true → Reached x (t ∷ n) (s ∷ r) → Reached x n ((t - 1) ∷ r)
    steps_on s t n r e g = by (siblings_twins (str_of t) (str_of s) lower e)
      where
        before : Name
        before = strs (reverse_aux n [])

        held : g.end.id ≡ before ++ (str_of t ∷ str_of s ∷ strs r)
        held = g.is ∙ turned n (t ∷ s ∷ r)

        proper : Proper g.end
        proper = steps_proper ok g.steps

        lower : less (str_of t) (str_of s) ≡ true
        lower =
            rising_head (str_of t) (str_of s ∷ strs r)
            (rising_right before (str_of t ∷ str_of s ∷ strs r) (subst (λ (l : Name). rising l ≡ true) held proper.id_rising)) (str_of s) (inl refl)

        by : Twins (str_of t) (str_of s) → Reached x n ((t - 1) ∷ r)
        by w =
            let root = w.root in
            let one = one_step g.end root before (strs r) proper (held ∙ ap₂ (λ (y z : Str). before ++ (y ∷ z ∷ strs r)) w.left w.right) in
            let word = root_word root t (g.stacked t (inl refl)) w.left in
            record {
              end = settled root g.end;
              steps = steps_then g.steps (step root one.left one.right stop);
              is = one.is ∙ ap (λ (y : Str). before ++ (y ∷ strs r)) (sym word.1) ∙ sym (turned n ((t - 1) ∷ r));
              stacked = λ y i. g.stacked y (inr i);
              coming = λ y i. ⊎_elim (λ q. subst (λ (z : ℕ). is_word most z ≡ true) (sym q) word.0) (λ k. g.coming y (inr k)) i;
              apart = apart_tail g.apart;
            }

    push_reaches : (n : List ℕ) (s : ℕ) (r : List ℕ) → Reached x n (s ∷ r) → Reached x (push s n) r
    unfolding push
    push_reaches [] s r g =
        record {
          end = g.end;
          steps = g.steps;
          is = g.is;
          stacked = λ y i. g.coming y (⊎_elim (λ e. inl e) (λ j. absurd j) i);
          coming = λ y i. g.coming y (inr i);
          apart = single;
        }
    push_reaches (t ∷ n) s r g = by (siblings (str_of t) (str_of s)) refl (λ h. push_reaches n (t - 1) r h)
      where
        by : (b : Bool) → siblings (str_of t) (str_of s) ≡ b → (Reached x n ((t - 1) ∷ r) → Reached x (push (t - 1) n) r) → Reached x (cond b (push (t - 1) n) (s ∷ t ∷ n)) r
        by true e ih = ih (steps_on s t n r e g)
        by false e ih =
            record {
              end = g.end;
              steps = g.steps;
              is = g.is;
              stacked = λ y i. ⊎_elim (λ q. g.coming y (inl q)) (λ k. g.stacked y k) i;
              coming = λ y i. g.coming y (inr i);
              apart = more e g.apart;
            }

    all_reaches : (r n : List ℕ) → Reached x n r → Reached x (push_all n r) []
    unfolding push_all
    all_reaches [] n g = g
    all_reaches (s ∷ r) n g = all_reaches r (push s n) (push_reaches n s r g)

    module _ (id : List ℕ) (words : all (is_word most) id ≡ true) (told : strs id ≡ x.id) where
      reached : Reached x (push_all [] id) []
      reached =
          all_reaches id []
          record { end = x; steps = stop; is = sym told; stacked = λ y i. absurd i; coming = all_each (is_word most) id words; apart = empty }

      normal : pair reached.end.id ≡ none
      normal =
          neighbour_pair reached.end.id (steps_proper ok reached.steps).id_rising
          ∙ ap first_twins reached.is ∙ apart_none (push_all [] id) reached.apart

      -- the id after reduction
      pub reduced_id : strs (reduced id) ≡ (reduce x).id
      unfolding reduced
      reduced_id = sym reached.is ∙ ap (λ (y : Stamp). y.id) (reduce_unique ok reached.steps normal)

      in_turned : (n r : List ℕ) (y : ℕ) → In y (reverse_aux n r) → In y n ⊎ In y r
      in_turned [] r y i = inr i
      in_turned (s ∷ n) r y i = ⊎_elim (λ j. inl (inr j)) (λ j. ⊎_elim (λ e. inl (inl e)) (λ k. inr k) j) (in_turned n (s ∷ r) y i)

      pub reduced_words : all (is_word most) (reduced id) ≡ true
      unfolding reduced
      reduced_words =
          each_all (is_word most) (reduced id) (λ y i. ⊎_elim (λ j. reached.stacked y j) (λ j. absurd j) (in_turned (push_all [] id) [] y i))
