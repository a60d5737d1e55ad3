-- The join of two lawful stamps in words: both names merged are the unions, and reduced and lifted they are the join's. A buffer for the strings of two
-- names has room for all of it. Assumes nothing.
use Rattle.std.specs.declared.option.Option.{Option}
use Rattle.std.specs.declared.option.Option.TheVariants.{None, Some}
use Rattle.laws.proofs.Library.{◌≡◌, refl, sym, ap, ap₂, ◌∙◌, subst, true, List, [], ◌∷◌, map, inl, inr, ℕ, ◌+◌, ◌*◌, ◌-◌, ◌≤◌, arith, le-leb, length, take}
use Rattle.laws.proofs.Library.{replicate, length-map, length-replicate, take_at}
use Rattle.rules.specs.Limits.{narrow}
use Rattle.rules.specs.Strings.{word_of, str_of, is_word}
use Rattle.rules.specs.Names.{Name, all, rising, union}
use Rattle.rules.specs.Stamps.{Stamp, lawful, unite, join}
use Rattle.rules.specs.Stored.{words_of, stored, strs_in, held, is_stored}
use Rattle.rules.specs.declared.Words.{Words}
use Rattle.rules.specs.declared.Record.{Record}
use Rattle.laws.proofs.Tests.{and_both}
use Rattle.laws.proofs.Steps.{Proper}
use Rattle.laws.proofs.Reduce.{reduce_proper}
use Rattle.laws.proofs.Counts.{count_below}
use Rattle.laws.proofs.Lawful.{Named, Lawful, Short, lawful_parts, lawful_proper, unite_proper}
use Rattle.laws.proofs.Stored.{strs_of_words, stored_lawful, stored_is}
use Rattle.rules.specs.declared.Counts.{Counts}
use Rattle.unions.specs.Unions.{cleared, merge, reduced, lifted, joined_id, joined_update, can_join, joined_counts, joined_update_in, joined_id_in}
use Rattle.unions.proofs.Words.{strs, of_string}
use Rattle.unions.proofs.Merging.{merge_words, merge_union}
use Rattle.unions.proofs.Reducing.{reduced_id, reduced_words}
use Rattle.unions.proofs.Lifting.{lifted_update, lifted_words}
use Rattle.unions.proofs.Counts.{merge_few, reduced_few, lifted_few}
use Rattle.unions.proofs.Buffers.{cleared_length, cleared_over}

-- the strings of two names
abbrev pub room : ℕ
room = 2 * narrow.strings

-- the words at the front of both buffers are those of the stamp
pub record Told (x : Stamp) (r : Counts) (us is : List ℕ) : Type 0 where
  pub update : map str_of (take r.update us) ≡ x.update
  pub id : map str_of (take r.id is) ≡ x.id
  pub update_words : all (is_word narrow.digits) (take r.update us) ≡ true
  pub id_words : all (is_word narrow.digits) (take r.id is) ≡ true
  -- "u never has more strings than i"
  pub counts : r.update ≤ r.id
  pub fits : r.id ≤ room
  pub update_room : length us ≡ room
  pub id_room : length is ≡ room

-- a join has room in such buffers, and tells of the stamp
abbrev pub Answered : Stamp → Option Counts → List ℕ → List ℕ → Type 0
Answered x (Some r) us is = Told x r us is
Answered x None us is = ⊥

-- a string's digits leave room for its length
short : narrow.digits ≤ 58
short = omega arith

-- ---- a name in words

words_all : (n : Name) → Short narrow.digits n → all (is_word narrow.digits) (map word_of n) ≡ true
unfolding all
words_all [] h = refl
words_all (s ∷ n) h = and_both (of_string narrow.digits short s (h s (inl refl))) (words_all n (λ t i. h t (inr i)))

-- the words of a name's record
abbrev pub front : Words → List ℕ
front w = take w.count w.words

front_is : (n : Name) → front (words_of narrow n) ≡ map word_of n
unfolding words_of
front_is n = take_at (map word_of n) (replicate (narrow.strings - length n) 0) (length n) (length-map n word_of)

words_strs : (n : Name) → Short narrow.digits n → strs (map word_of n) ≡ n
unfolding strs_in
words_strs n h = ap strs (sym (front_is n)) ∙ strs_of_words narrow short n h

-- ---- two names

module _ (m n : Name) (hm : Named narrow m) (hn : Named narrow n) where
  abbrev both : List ℕ
  both = merge (map word_of m) (map word_of n)

  both_few : length (map word_of m) + length (map word_of n) ≤ room
  both_few = omega (arith, length-map m word_of, length-map n word_of, hm.few, hn.few)

  both_words : all (is_word narrow.digits) both ≡ true
  both_words = merge_words narrow.digits (map word_of m) (map word_of n) short (words_all m hm.short) (words_all n hn.short)

  both_strs : strs both ≡ union m n
  both_strs =
      merge_union narrow.digits (map word_of m) (map word_of n) short (words_all m hm.short) (words_all n hn.short)
      (rises m hm) (rises n hn)
      ∙ ap₂ union (words_strs m hm.short) (words_strs n hn.short)
    where
      rises : (n : Name) → Named narrow n → rising (strs (map word_of n)) ≡ true
      rises n h = subst (λ (l : Name). rising l ≡ true) (sym (words_strs n h.short)) h.rises

  few : length both ≤ room
  few = omega (arith, merge_few (map word_of m) (map word_of n), both_few)

-- the words at the front of what is cleared
at_front : (k : ℕ) (out w : List ℕ) → k ≡ length w → out ≡ cleared room w → take k out ≡ w
at_front k out w e f = ap₂ take e f ∙ take_at w (replicate (room - length w) 0) (length w) refl

-- ---- two lawful stamps

module _ (a b : Stamp) (ha : lawful narrow a ≡ true) (hb : lawful narrow b ≡ true) where
  abbrev x : Stamp
  x = unite a b

  abbrev j : Stamp
  j = join a b

  pa : Lawful narrow a
  pa = lawful_parts narrow a ha

  pb : Lawful narrow b
  pb = lawful_parts narrow b hb

  proper : Proper x
  proper = unite_proper a b (lawful_proper narrow a ha) (lawful_proper narrow b hb)

  -- the merged words, and what reduction makes of them
  abbrev ids : List ℕ
  ids = merge (map word_of a.id) (map word_of b.id)

  abbrev updates : List ℕ
  updates = merge (map word_of a.update) (map word_of b.update)

  abbrev id_words : List ℕ
  id_words = reduced ids

  abbrev update_words : List ℕ
  update_words = lifted id_words updates

  ids_words : all (is_word narrow.digits) ids ≡ true
  ids_words = both_words a.id b.id pa.id_named pb.id_named

  ids_strs : strs ids ≡ x.id
  unfolding unite
  ids_strs = both_strs a.id b.id pa.id_named pb.id_named

  updates_words : all (is_word narrow.digits) updates ≡ true
  updates_words = both_words a.update b.update pa.update_named pb.update_named

  updates_strs : strs updates ≡ x.update
  unfolding unite
  updates_strs = both_strs a.update b.update pa.update_named pb.update_named

  id_strs : strs id_words ≡ j.id
  unfolding join
  id_strs = reduced_id narrow.digits short x proper ids ids_words ids_strs

  update_strs : strs update_words ≡ j.update
  unfolding join
  update_strs = lifted_update narrow.digits short x proper ids updates ids_words updates_words ids_strs updates_strs

  id_words_lem : all (is_word narrow.digits) id_words ≡ true
  id_words_lem = reduced_words narrow.digits short x proper ids ids_words ids_strs

  update_words_lem : all (is_word narrow.digits) update_words ≡ true
  update_words_lem = lifted_words narrow.digits id_words updates id_words_lem updates_words

  update_few_lem : length update_words ≤ length id_words
  unfolding join
  update_few_lem =
      let p = reduce_proper x proper in
      omega (
        arith,
        length-map update_words str_of,
        ap length update_strs,
        length-map id_words str_of,
        ap length id_strs,
        count_below j.update j.id p.update_rising p.below_id,
      )

  -- in two buffers of zeros
  abbrev zeros : List ℕ
  zeros = replicate room 0

  can : can_join (map word_of a.update) (map word_of a.id) (map word_of b.update) (map word_of b.id) zeros zeros ≡ true
  can = and_both (le-leb _ (length zeros) (fits a.update b.update pa.update_named pb.update_named)) (le-leb _ (length zeros) (fits a.id b.id pa.id_named pb.id_named))
    where
      fits : (m n : Name) → Named narrow m → Named narrow n → length (map word_of m) + length (map word_of n) ≤ length zeros
      fits m n hm hn = omega (arith, both_few m n hm hn, length-replicate {A = ℕ} room 0)

  module _ (us is : List ℕ)
      (updateTold : us ≡ joined_update_in (map word_of a.update) (map word_of a.id) (map word_of b.update) (map word_of b.id) zeros zeros)
      (idTold : is ≡ joined_id_in (map word_of a.update) (map word_of a.id) (map word_of b.update) (map word_of b.id) zeros zeros) where
    update_is : us ≡ cleared room update_words
    unfolding joined_update_in joined_update joined_id
    update_is = updateTold ∙ rw can (cleared_over room (length updates) update_words (lifted_few id_words updates) (few a.update b.update pa.update_named pb.update_named))

    id_is : is ≡ cleared room id_words
    unfolding joined_id_in joined_id
    id_is = idTold ∙ rw can (cleared_over room (length ids) id_words (reduced_few ids) (few a.id b.id pa.id_named pb.id_named))

    told : Told j (record { update = length update_words; id = length id_words }) us is
    told =
        let f = at_front (length id_words) is id_words refl id_is in
        let g = at_front (length update_words) us update_words refl update_is in
        let k : length id_words ≤ room = omega (arith, reduced_few ids, few a.id b.id pa.id_named pb.id_named) in
        record {
          update = ap strs g ∙ update_strs;
          id = ap strs f ∙ id_strs;
          update_words = rw g update_words_lem;
          id_words = rw f id_words_lem;
          counts = update_few_lem;
          fits = k;
          update_room = ap length update_is ∙ cleared_length room update_words (omega (arith, update_few_lem, k));
          id_room = ap length id_is ∙ cleared_length room id_words k;
        }

    stamps_joined : (r : Option Counts)
        → r ≡ joined_counts (map word_of a.update) (map word_of a.id) (map word_of b.update) (map word_of b.id) zeros zeros
        → Answered j r us is
    unfolding joined_counts joined_update joined_id
    stamps_joined r e =
        let f : r ≡ Some (record { update = length update_words; id = length id_words }) = e ∙ rw can in
        subst (λ (o : Option Counts). Answered j o us is) (sym f) told

-- ---- two stored records

module _ (r : Record) (h : is_stored narrow r ≡ true) where
  update_front : front r.update ≡ map word_of (held r).update
  unfolding stored
  update_front = ap (λ (s : Record). front s.update) (stored_is narrow r h) ∙ front_is (held r).update

  id_front_is : front r.id ≡ map word_of (held r).id
  unfolding stored
  id_front_is = ap (λ (s : Record). front s.id) (stored_is narrow r h) ∙ front_is (held r).id

pub records_joined : (a b : Record) → is_stored narrow a ≡ true → is_stored narrow b ≡ true → (r : Option Counts) (us is : List ℕ)
    → r ≡ joined_counts (front a.update) (front a.id) (front b.update) (front b.id) (replicate room 0) (replicate room 0)
    → us ≡ joined_update_in (front a.update) (front a.id) (front b.update) (front b.id) (replicate room 0) (replicate room 0)
    → is ≡ joined_id_in (front a.update) (front a.id) (front b.update) (front b.id) (replicate room 0) (replicate room 0)
    → Answered (join (held a) (held b)) r us is
records_joined a b ha hb r us is p q s =
    stamps_joined (held a) (held b) (stored_lawful narrow a ha) (stored_lawful narrow b hb) us is
    (rw (update_front a ha, id_front_is a ha, update_front b hb, id_front_is b hb) at q)
    (rw (update_front a ha, id_front_is a ha, update_front b hb, id_front_is b hb) at s)
    r
    (rw (update_front a ha, id_front_is a ha, update_front b hb, id_front_is b hb) at p)
