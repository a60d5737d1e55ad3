-- The stored shape: a record that has it tells its stamp, each lawful stamp has one, and none of them is all zeros.
-- A word tells its string, and a record is the same as another when its numbers are. Assumes nothing.
use Rattle.laws.proofs.Library.{◌≡◌, refl, ap, ap₂, ◌∙◌, true, false, not, List, [], ◌∷◌, map, inl, inr, ℕ, ◌-◌, ◌≤◌, arith}
use Rattle.laws.proofs.Library.{eqb, eqb-true, eq-eqb, length, replicate, length-map, take_at}
use Rattle.rules.specs.Limits.{Limits}
use Rattle.rules.specs.Strings.{Str, word_of, str_of}
use Rattle.rules.specs.Names.{Name, is_name}
use Rattle.rules.specs.Stamps.{Stamp, lawful}
use Rattle.rules.specs.Stored.{words_of, stored, strs_in, held, same_numbers, same_words, same_record, is_stored_name, is_stored, unlawful, blank, absent}
use Rattle.rules.specs.declared.Words.{Words}
use Rattle.rules.specs.declared.Record.{Record}
use Rattle.laws.proofs.Tests.{no, clash, is_not, not-false, not-true, and_left, and_right, and_both, In}
use Rattle.laws.proofs.Words.{str_word}
use Rattle.laws.proofs.Lawful.{Short, lawful_parts}

-- ---- records are the same when their numbers are

pub numbers_are : (a b : List ℕ) → same_numbers a b ≡ true → a ≡ b
unfolding same_numbers
numbers_are [] [] e = refl
numbers_are [] (y ∷ b) e = absurd (no e)
numbers_are (x ∷ a) [] e = absurd (no e)
numbers_are (x ∷ a) (y ∷ b) e =
    ap₂ (λ (z : ℕ) (l : List ℕ). z ∷ l) (eqb-true x y (and_left (eqb x y) (same_numbers a b) e)) (numbers_are a b (and_right (eqb x y) (same_numbers a b) e))

pub numbers_refl : (a : List ℕ) → same_numbers a a ≡ true
unfolding same_numbers
numbers_refl [] = refl
numbers_refl (x ∷ a) = and_both (eq-eqb x x refl) (numbers_refl a)

pub words_are : (a b : Words) → same_words a b ≡ true → a ≡ b
unfolding same_words
words_are a b e =
    let p = eqb-true a.count b.count (and_left (eqb a.count b.count) (same_numbers a.words b.words) e) in
    let q = numbers_are a.words b.words (and_right (eqb a.count b.count) (same_numbers a.words b.words) e) in
    λ i. record { count = p i; words = q i }

pub words_refl : (a : Words) → same_words a a ≡ true
unfolding same_words
words_refl a = and_both (eq-eqb a.count a.count refl) (numbers_refl a.words)

pub records_are : (a b : Record) → same_record a b ≡ true → a ≡ b
unfolding same_record
records_are a b e =
    let p = words_are a.update b.update (and_left (same_words a.update b.update) (same_words a.id b.id) e) in
    let q = words_are a.id b.id (and_right (same_words a.update b.update) (same_words a.id b.id) e) in
    λ i. record { update = p i; id = q i }

pub records_refl : (a : Record) → same_record a a ≡ true
unfolding same_record
records_refl a = and_both (words_refl a.update) (words_refl a.id)

-- ---- a name's record

strs_words : (most : ℕ) → most ≤ 58 → (n : Name) → ((s : Str) → In s n → length s ≤ most) → map str_of (map word_of n) ≡ n
strs_words most room [] h = refl
strs_words most room (s ∷ n) h =
    ap₂ (λ (t : Str) (l : Name). t ∷ l) (str_word s (omega (arith, h s (inl refl)))) (strs_words most room n (λ t i. h t (inr i)))

module _ (L : Limits) (room : L.digits ≤ 58) where
  -- it tells the name
  pub strs_of_words : (n : Name) → Short L.digits n → strs_in (words_of L n) ≡ n
  unfolding strs_in words_of
  strs_of_words n h =
      ap (map str_of) (take_at (map word_of n) (replicate (L.strings - length n) 0) (length n) (length-map n word_of)) ∙ strs_words L.digits room n h

  -- a stamp's record tells the stamp
  pub held_stored : (x : Stamp) → lawful L x ≡ true → held (stored L x) ≡ x
  unfolding held stored
  held_stored x h =
      let p = lawful_parts L x h in
      let u = strs_of_words x.update p.update_named.short in
      let v = strs_of_words x.id p.id_named.short in
      λ i. record { update = u i; id = v i }

  pub is_stored_lem : (x : Stamp) → lawful L x ≡ true → is_stored L (stored L x) ≡ true
  unfolding is_stored
  is_stored_lem x h = rw (held_stored x h) (and_both h (records_refl (stored L x)))

module _ (L : Limits) (w : Words) (h : is_stored_name L w ≡ true) where
  pub stored_name : is_name L (strs_in w) ≡ true
  unfolding is_stored_name
  stored_name = and_left (is_name L (strs_in w)) (same_words w (words_of L (strs_in w))) h

  pub stored_name_is : w ≡ words_of L (strs_in w)
  unfolding is_stored_name
  stored_name_is = words_are w (words_of L (strs_in w)) (and_right (is_name L (strs_in w)) (same_words w (words_of L (strs_in w))) h)

-- ---- a stamp's record

module _ (L : Limits) (r : Record) (h : is_stored L r ≡ true) where
  pub stored_lawful : lawful L (held r) ≡ true
  unfolding is_stored
  stored_lawful = and_left (lawful L (held r)) (same_record r (stored L (held r))) h

  pub stored_is : r ≡ stored L (held r)
  unfolding is_stored
  stored_is = records_are r (stored L (held r)) (and_right (lawful L (held r)) (same_record r (stored L (held r))) h)

pub lawful_stored : (L : Limits) (r : Record) → unlawful L r ≡ false → is_stored L r ≡ true
unfolding unlawful
lawful_stored L r e = not-false (λ p. clash (is_not p) e)

pub stored_not_unlawful : (L : Limits) (r : Record) → is_stored L r ≡ true → unlawful L r ≡ false
unfolding unlawful
stored_not_unlawful L r e = ap not e

-- ---- absent

pub absent_is : (L : Limits) (r : Record) → absent L r ≡ true → r ≡ blank L
unfolding absent
absent_is L r e = records_are r (blank L) e

pub blank_absent : (L : Limits) → absent L (blank L) ≡ true
unfolding absent
blank_absent L = records_refl (blank L)

-- a lawful stamp's record counts at least one string, so it is not all zeros
pub stored_present : (L : Limits) (x : Stamp) → lawful L x ≡ true → absent L (stored L x) ≡ false
unfolding absent blank stored words_of
stored_present L x h =
    not-true (λ e.
    let c : length x.id ≡ 0 = ap (λ (r : Record). r.id.count) (records_are (stored L x) (blank L) e) in
    let f = (lawful_parts L x h).id_named.filled in
    omega arith)
