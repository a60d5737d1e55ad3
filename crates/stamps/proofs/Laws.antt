-- A stored record in the parts that the code asks for, one after the other; what the walks tell of the words that a stored name counts; and what
-- two stamps are refused for, test after test. Assumes nothing.
use Rattle.laws.proofs.Library.{◌≡◌, refl, sym, ap, ◌∙◌, Bool, true, false, cond, not, ◌&&◌, List, [], ◌∷◌, ◌++◌, ℕ, ◌≤◌, arith, eqb, length, take}
use Rattle.laws.proofs.Library.{length-take-le, Result, Ok, Err}
use Rattle.std.specs.Prelude.{⊤}
use Rattle.rules.specs.Limits.{Limits, narrow}
use Rattle.rules.specs.Names.{any, rising, is_name, below}
use Rattle.rules.specs.Stamps.{Stamp, pair, is_none, lawful, append, update, fork, join}
use Rattle.rules.specs.Stored.{words_of, stored, strs_in, held, same_words, same_record, is_stored_name, is_stored, unlawful}
use Rattle.rules.specs.Refusals.{Answer, first, and_then, many, long as too_long}
use Rattle.rules.specs.Values.{given, updated, forked, joined, meeting}
use Rattle.rules.specs.declared.Words.{Words}
use Rattle.rules.specs.declared.Record.{Record}
use Rattle.rules.specs.declared.Refusal.{Refusal}
use Rattle.rules.specs.declared.Refusal.TheVariants.{Unlawful, Many}
use Rattle.laws.proofs.Tests.{not-false, and_left, and_right}
use Rattle.laws.proofs.Lawful.{Named, name_parts}
use Rattle.laws.proofs.Stored.{stored_is, stored_name, stored_name_is}
use Rattle.walks.specs.Walks.{strs, below_walk, has_twins, is_long}
use Rattle.walks.proofs.Tells.{below_walk_lem, twins, long}
use Rattle.names.proofs.Shape.{stored_full, stored_words, stored_rising}

-- ---- a stored record

turn : (c d x : Bool) → (c && d && x) ≡ (x && c && d)
turn true true true = refl
turn true true false = refl
turn true false true = refl
turn true false false = refl
turn false d true = refl
turn false d false = refl

regroup : (a b c d e f : Bool) → (a && b && c && d && (e && f)) ≡ (a && e && (b && f) && c && d)
regroup true true c d true f = turn c d f
regroup true true c d false f = turn c d false
regroup true false c d true f = refl
regroup true false c d false f = refl
regroup false b c d e f = refl

module _ (L : Limits) (r : Record) where
  -- both names are stored, u is below i, and i has no pair
  pub stored_parts : is_stored L r
      ≡ (is_stored_name L r.update && is_stored_name L r.id && below (strs_in r.update) (strs_in r.id) && is_none (pair (strs_in r.id)))
  unfolding is_stored lawful held stored same_record is_stored_name
  stored_parts =
      let u = strs_in r.update in
      let i = strs_in r.id in
      regroup (is_name L u) (is_name L i) (below u i) (is_none (pair i)) (same_words r.update (words_of L u)) (same_words r.id (words_of L i))

  pub stored_names : is_stored L r ≡ true → (is_stored_name L r.update ≡ true) × (is_stored_name L r.id ≡ true)
  stored_names e =
      let b = below (strs_in r.update) (strs_in r.id) in
      let names = is_stored_name L r.update && is_stored_name L r.id in
      let both = and_left names b (and_left (names && b) (is_none (pair (strs_in r.id))) (sym stored_parts ∙ e)) in
      (and_left (is_stored_name L r.update) (is_stored_name L r.id) both, and_right (is_stored_name L r.update) (is_stored_name L r.id) both)

-- what an edit makes of a stored record: the id twice
pub updated_is : (L : Limits) (r : Record) → is_stored L r ≡ true → Ok (record { update = r.id; id = r.id }) ≡ updated L r
unfolding updated first unlawful update held stored
updated_is L r e = rw e (ap (λ (x : Record). Ok (record { update = x.id; id = x.id })) (stored_is L r e))

-- what a fork makes of a stored record whose id can grow: the update twice, beside the id grown by 0 and by 1
pub forked_is : (L : Limits) (r : Record) (i0 i1 : Words) → is_stored L r ≡ true → any (λ t. eqb (length t) L.digits) (strs_in r.id) ≡ false
    → i0 ≡ words_of L (append false (strs_in r.id)) → i1 ≡ words_of L (append true (strs_in r.id))
    → Ok (record { zero = record { update = r.update; id = i0 }; one = record { update = r.update; id = i1 } }) ≡ forked L r
unfolding forked first unlawful too_long held fork stored
forked_is L r i0 i1 e l p q =
    let u = ap (λ (x : Record). x.update) (stored_is L r e) in
    rw (e, l) (λ i. Ok (record { zero = record { update = u i; id = p i }; one = record { update = u i; id = q i } }))

-- ---- a stored name

module _ (L : Limits) (n : Words) (h : is_stored_name L n ≡ true) where
  named : Named L (strs_in n)
  named = name_parts L (strs_in n) (stored_name L n h)

  stored_count : n.count ≡ length (strs_in n)
  unfolding words_of
  stored_count = ap (λ (w : Words). w.count) (stored_name_is L n h)

  stored_few : n.count ≤ L.strings
  stored_few = omega (arith, stored_count, named.few)

-- ---- the walks over the words that are counted

-- no more words are counted than there are, and so many are taken
pub record Counted (n : Words) : Type 0 where
  pub few : n.count ≤ narrow.strings
  pub full : length n.words ≡ narrow.strings
  pub inside : n.count ≤ length n.words
  pub taken : n.count ≡ length (take n.count n.words)

stored_counted : (n : Words) → is_stored_name narrow n ≡ true → Counted n
stored_counted n h =
    let few = stored_few narrow n h in
    let full = stored_full narrow n h in
    let inside : n.count ≤ length n.words = omega (arith, few, full) in
    record { few = few; full = full; inside = inside; taken = sym (length-take-le _ _ inside) }

-- of both names of a stored record
pub both_counted : (r : Record) → is_stored narrow r ≡ true → Counted r.update × Counted r.id
both_counted r h =
    let n = stored_names narrow r h in
    (stored_counted r.update n.0, stored_counted r.id n.1)

module _ (n : Words) where
  abbrev counted : List ℕ
  counted = take n.count n.words

  lent_rising : is_stored_name narrow n ≡ true → rising (strs counted) ≡ true
  unfolding strs_in
  lent_rising h = stored_rising narrow n h

  pub lent_twins : is_stored_name narrow n ≡ true → has_twins counted ≡ not (is_none (pair (strs_in n)))
  unfolding strs_in
  lent_twins h = twins counted (lent_rising h)

  pub lent_long : is_long counted ≡ any (λ t. eqb (length t) narrow.digits) (strs_in n)
  unfolding strs_in
  lent_long = long counted

pub lent_below : (m n : Words) → is_stored_name narrow m ≡ true → is_stored_name narrow n ≡ true → below_walk (counted m) (counted n) ≡ below (strs_in m) (strs_in n)
unfolding strs_in
lent_below m n h k =
    below_walk_lem narrow.digits (omega arith) (counted m) (counted n) (stored_words narrow m h) (stored_words narrow n k) (lent_rising m h) (lent_rising n k)

-- ---- tests one after the other

-- a refusal is no result
pub refusal_not_done : {A : Type 0} {r : Refusal} {x : A} → ◌≡◌ {A = Result A Refusal} (Err r) (Ok x) → ⊥
refusal_not_done e = cc

-- tests, and then more tests
pub first_then : (ts us : List (Bool × Refusal)) → first (ts ++ us) ≡ and_then (first ts) (λ x. first us)
unfolding first
first_then [] us = refl
first_then (t ∷ ts) us = by t.0 (first_then ts us)
  where
    by : (b : Bool) → first (ts ++ us) ≡ and_then (first ts) (λ x. first us)
        → cond b (Err t.1) (first (ts ++ us)) ≡ and_then (cond b (Err t.1) (first ts)) (λ x. first us)
    by true h = refl
    by false h = h

-- ---- two stamps

module _ (L : Limits) where
  -- what a record is refused for by itself
  abbrev pub alone : Record → Answer
  alone r = first ((unlawful L r, Unlawful) ∷ [])

  pub alone_stored : (r : Record) {x : ⊤} → alone r ≡ Ok x → is_stored L r ≡ true
  unfolding first unlawful
  alone_stored r e = not-false (λ h. refusal_not_done (rw h at e))

  -- where one is refused by itself, that is what the two are
  pub first_alone : (a b : Record) (more : List (Bool × Refusal)) {r : Refusal} → alone a ≡ Err r → first (meeting L a b more) ≡ Err r
  first_alone a b more e = first_then ((unlawful L a, Unlawful) ∷ []) _ ∙ rw e

  pub second_alone : (a b : Record) (more : List (Bool × Refusal)) {x : ⊤} {r : Refusal} → alone a ≡ Ok x → alone b ≡ Err r → first (meeting L a b more) ≡ Err r
  second_alone a b more e f =
      first_then ((unlawful L a, Unlawful) ∷ []) _ ∙ rw e (first_then ((unlawful L b, Unlawful) ∷ []) _ ∙ rw f)

-- of a join, what two that meet are refused for comes first
pub joined_then : (L : Limits) (a b : Record)
    → (let j : Stamp = join (held a) (held b) in joined L a b ≡ given L (and_then (first (meeting L a b [])) (λ x. first ((many L j, Many) ∷ []))) j)
unfolding joined
joined_then L a b =
    let j : Stamp = join (held a) (held b) in
    ap (λ (x : Answer). given L x j) (first_then (meeting L a b []) ((many L j, Many) ∷ []))
