-- The stored shape of a name, over any limits: a record has it exactly when it passes tests of its words, one shape tells one name and each name has one.
-- The first words are those of their strings, the others are 0, and strings rise when each comes before the next. Assumes nothing.
use Rattle.laws.proofs.Library.{◌≡◌, refl, sym, ap, ap₂, ◌∙◌, subst, Bool, true, false, ◌&&◌, and-false, and_assoc, List, [], ◌∷◌, ◌++◌, map, inl, ⊎_elim}
use Rattle.laws.proofs.Library.{ℕ, zero, suc, ◌+◌, ◌-◌, ◌≤◌, ◌<◌, arith, leb-true, leb-false, le-leb, lt-leb, eq-eqb, ne_eqb, add-one, eqb, leb, eqb·zero-suc, eqb·suc-zero}
use Rattle.laws.proofs.Library.{length, replicate, length-append, length-map, length-drop, length-replicate, take-append-drop, get_or, drop, drop-cons, drop_of_length-le}
use Rattle.rules.specs.Limits.{Limits}
use Rattle.rules.specs.Strings.{Str, less, word_of, str_of, is_word}
use Rattle.rules.specs.Names.{Name, all, rising, is_name}
use Rattle.rules.specs.Stored.{words_of, strs_in, same_numbers, same_words, is_stored_name}
use Rattle.rules.specs.declared.Words.{Words}
use Rattle.names.proofs.Laws.{front, behind, front_length, strs_length}
use Rattle.laws.proofs.Tests.{iff, and_left, and_right, and_both}
use Rattle.laws.proofs.Lawful.{name_parts}
use Rattle.laws.proofs.Stored.{stored_name, stored_name_is}
use Rattle.laws.proofs.Rising.{less_trans, rising_head, rising_tail, rising_cons}

-- the words lent, as those of a record that counts c strings
abbrev pub lent : ℕ → List ℕ → Words
lent c w = record { count = c; words = w }

-- ---- rising, from neighbours

rising_step : (s t : Str) (l : Name) → (less s t && rising (t ∷ l)) ≡ rising (s ∷ t ∷ l)
rising_step s t l =
    iff
    (λ h.
    let p = and_left (less s t) (rising (t ∷ l)) h in
    let q = and_right (less s t) (rising (t ∷ l)) h in
    rising_cons s (t ∷ l) (λ u i. ⊎_elim (λ k. subst (λ (z : Str). less s z ≡ true) (sym k) p) (λ k. less_trans s t u p (rising_head t l q u k)) i) q)
    (λ h. and_both (rising_head s (t ∷ l) h t (inl refl)) (rising_tail s (t ∷ l) h))

and_swap : (a b c d : Bool) → ((a && b) && (c && d)) ≡ ((a && c) && (b && d))
and_swap true b true d = refl
and_swap true true false d = refl
and_swap true false false d = refl
and_swap false b c d = refl

module _ (most : ℕ) where
  -- the words behind the word p: each is that of a string, and each string comes before the next
  unfoldable pub rise_from : ℕ → List ℕ → Bool
  rise_from p [] = true
  rise_from p (w ∷ l) = (is_word most w && less (str_of p) (str_of w)) && rise_from w l

  -- neighbours decide
  rise_from_is : (p : ℕ) (l : List ℕ) → rise_from p l ≡ (all (is_word most) l && rising (str_of p ∷ map str_of l))
  unfolding rise_from rising all
  rise_from_is p [] = refl
  rise_from_is p (w ∷ l) =
      let here = is_word most w in
      let next = less (str_of p) (str_of w) in
      ap (λ (b : Bool). (here && next) && b) (rise_from_is w l)
      ∙ and_swap here next (all (is_word most) l) (rising (str_of w ∷ map str_of l))
      ∙ ap (λ (b : Bool). (here && all (is_word most) l) && b) (rising_step (str_of p) (str_of w) (map str_of l))

  -- words of strings that rise, and at least one of them
  abbrev pub rise : List ℕ → Bool
  rise w = leb 1 (length w) && all (is_word most) w && rising (map str_of w)

  pub rise_first : {p : ℕ} {w l : List ℕ} → w ≡ p ∷ l → rise w ≡ (is_word most p && rise_from p l)
  unfolding all
  rise_first {p} {w} {l} e =
      ap rise e
      ∙ rw (le-leb 1 (length (p ∷ l)) (omega arith)) (and_assoc (is_word most p) (all (is_word most) l) (rising (str_of p ∷ map str_of l)))
      ∙ ap (λ (b : Bool). is_word most p && b) (sym (rise_from_is p l))

  -- the words from i on, as a loop wants it
  pub rise_turn : (p i : ℕ) (l : List ℕ) → i < length l → (let w : ℕ = get_or l i 0 in
      rise_from p (drop i l) ≡ ((is_word most w && less (str_of p) (str_of w)) && rise_from w (drop (i + 1) l)))
  unfolding rise_from
  rise_turn p i l h = ap (rise_from p) (let e : drop i l ≡ get_or l i 0 ∷ drop (i + 1) l = rw add-one (drop-cons l i 0 h) in e)

  pub rise_end : (p i : ℕ) (l : List ℕ) → length l ≤ i → rise_from p (drop i l) ≡ true
  unfolding rise_from
  rise_end p i l h = ap (rise_from p) (drop_of_length-le l {i = i} h)

-- ---- what the tests of words ask

-- words of short strings: the strings are short, and give the words back
words_test : (most : ℕ) (l : List ℕ)
    → all (is_word most) l ≡ (all (λ s. leb (length s) most) (map str_of l) && same_numbers l (map word_of (map str_of l)))
unfolding all is_word same_numbers
words_test most [] = refl
words_test most (w ∷ l) =
    ap (λ (b : Bool). (leb (length (str_of w)) most && eqb w (word_of (str_of w))) && b) (words_test most l)
    ∙ and_swap (leb (length (str_of w)) most) (eqb w (word_of (str_of w)))
    (all (λ s. leb (length s) most) (map str_of l)) (same_numbers l (map word_of (map str_of l)))

zero_either : (n : ℕ) → eqb 0 n ≡ eqb n 0
zero_either zero = refl
zero_either (suc n) = eqb·zero-suc n ∙ sym (eqb·suc-zero n)

zeros_test : (l : List ℕ) → all (eqb 0) l ≡ same_numbers l (replicate (length l) 0)
unfolding all same_numbers
zeros_test [] = refl
zeros_test (w ∷ l) = ap₂ ◌&&◌ (zero_either w) (zeros_test l)

same_append : (a b c d : List ℕ) → length a ≡ length c → same_numbers (a ++ b) (c ++ d) ≡ (same_numbers a c && same_numbers b d)
unfolding same_numbers
same_append [] b [] d h = refl
same_append [] b (y ∷ c) d h = absurd (omega arith)
same_append (x ∷ a) b [] d h = absurd (omega arith)
same_append (x ∷ a) b (y ∷ c) d h =
    ap (λ (z : Bool). eqb x y && z) (same_append a b c d (omega arith)) ∙ sym (and_assoc (eqb x y) (same_numbers a c) (same_numbers b d))

-- ---- the stored shape

gather : (p q a b r z : Bool) → ((p && q && a && r) && (b && z)) ≡ ((q && (p && (a && b) && r)) && z)
gather true true true true r z = refl
gather true true true false true z = refl
gather true true true false false z = refl
gather true true false b r z = refl
gather true false a b r z = refl
gather false true a b r z = refl
gather false false a b r z = refl

-- what both sides ask where the count is within the limit: as many strings as it says
within : (c most k j : ℕ) (a b r z : Bool) {x : Bool} → k ≡ c → j ≡ c → x ≡ (b && z)
    → ((leb 1 k && leb k most && a && r) && (eqb c k && x)) ≡ ((leb c most && (leb 1 j && (a && b) && r)) && z)
within c most k j a b r z e f g = rw (e, f, g, eq-eqb c c refl) (gather (leb 1 c) (leb c most) a b r z)

-- and where it is not: neither side passes
beyond : (c most k : ℕ) (p x y z : Bool) → k < c → most < c → (p && (eqb c k && x)) ≡ ((leb c most && y) && z)
beyond c most k p x y z h e = simp (ne_eqb c k (λ f. omega arith), lt-leb c most e, and-false)

-- what is asked of a record, in this order: its count, the words that count, the words behind
abbrev pub asked : Limits → Words → Bool
asked L n = leb n.count L.strings && rise L.digits (front n) && all (eqb 0) (behind n)

module _ (L : Limits) (n : Words) (full : length n.words ≡ L.strings) where
  -- all the words: those of the strings, and zeros
  same_parts : n.count ≤ L.strings
      → same_numbers n.words (words_of L (strs_in n)).words ≡ (same_numbers (front n) (map word_of (strs_in n)) && all (eqb 0) (behind n))
  unfolding words_of
  same_parts h =
      let zeros : List ℕ = replicate (L.strings - length (strs_in n)) 0 in
      let s = strs_length n L.strings full in
      let k : L.strings - length (strs_in n) ≡ length (behind n) = omega (arith, length-drop n.count n.words) in
      ap (λ (l : List ℕ). same_numbers l (map word_of (strs_in n) ++ zeros)) (sym (take-append-drop n.count n.words))
      ∙ same_append (front n) (behind n) (map word_of (strs_in n)) zeros (front_length n L.strings full ∙ sym s ∙ sym (length-map (strs_in n) word_of))
      ∙ ap (λ (b : Bool). same_numbers (front n) (map word_of (strs_in n)) && b)
      (ap (λ (m : ℕ). same_numbers (behind n) (replicate m 0)) k ∙ sym (zeros_test (behind n)))

  -- the record is the stored shape of a name exactly when it passes
  pub stored_test : is_stored_name L n ≡ asked L n
  unfolding is_stored_name is_name same_words words_of strs_in
  stored_test = by (leb n.count L.strings) refl
    where
      by : (b : Bool) → leb n.count L.strings ≡ b → is_stored_name L n ≡ asked L n
      by true e =
          let h = leb-true n.count L.strings e in
          within n.count L.strings (length (strs_in n)) (length (front n)) (all (λ s. leb (length s) L.digits) (strs_in n))
          (same_numbers (front n) (map word_of (strs_in n))) (rising (strs_in n)) (all (eqb 0) (behind n))
          (omega (arith, strs_length n L.strings full)) (omega (arith, front_length n L.strings full)) (same_parts h)
          ∙ ap (λ (b : Bool). (leb n.count L.strings && (leb 1 (length (front n)) && b && rising (strs_in n))) && all (eqb 0) (behind n))
          (sym (words_test L.digits (front n)))
      by false e =
          let h = leb-false n.count L.strings e in
          beyond n.count L.strings (length (strs_in n)) (is_name L (strs_in n)) (same_numbers n.words (words_of L (strs_in n)).words)
          (rise L.digits (front n)) (all (eqb 0) (behind n)) (omega (arith, strs_length n L.strings full)) h

-- ---- what a stored name's words are

module _ (L : Limits) (n : Words) (h : is_stored_name L n ≡ true) where
  -- a record has as many words as a name may have strings
  pub stored_full : length n.words ≡ L.strings
  unfolding words_of
  stored_full =
      let m = strs_in n in
      let k = L.strings - length m in
      omega (
        arith,
        ap (λ (w : Words). length w.words) (stored_name_is L n h),
        length-append (map word_of m) (replicate k 0),
        length-map m word_of,
        length-replicate {A = ℕ} k 0,
        (name_parts L m (stored_name L n h)).few,
      )

  -- the words that it counts are words of strings
  pub stored_words : all (is_word L.digits) (front n) ≡ true
  stored_words =
      let words = all (is_word L.digits) (front n) in
      let some = leb 1 (length (front n)) in
      let rises = rising (map str_of (front n)) in
      let e = and_left (leb n.count L.strings && (some && words && rises)) (all (eqb 0) (behind n)) (sym (stored_test L n stored_full) ∙ h) in
      and_right some words (and_left (some && words) rises (and_right (leb n.count L.strings) (some && words && rises) e))

  -- these rise
  pub stored_rising : rising (strs_in n) ≡ true
  stored_rising = (name_parts L (strs_in n) (stored_name L n h)).rises
