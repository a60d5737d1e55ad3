-- The words of the join of two lawful stamps as its record: refused where the id has more strings than a name has, and else its stored shape.
-- Assumes nothing.
use Rattle.laws.proofs.Library.{◌≡◌, refl, sym, ap, ap₂, ◌∙◌, subst, true, List, [], ◌∷◌, ◌++◌, map, inl, inr, ℕ, ◌-◌, ◌≤◌, ◌<◌, arith, lt-ltb, le-ltb}
use Rattle.laws.proofs.Library.{length, take, replicate, length-map, length-take-le, Ok, Err}
use Rattle.std.specs.Prelude.{Option, None, Some}
use Rattle.std.specs.Option.{IsSome}
use Rattle.rules.specs.Limits.{narrow}
use Rattle.rules.specs.Strings.{word_of, str_of, is_word}
use Rattle.rules.specs.Names.{Name, all}
use Rattle.rules.specs.Stamps.{Stamp, join}
use Rattle.rules.specs.Stored.{words_of, stored, held, is_stored}
use Rattle.rules.specs.Refusals.{first, many}
use Rattle.rules.specs.Values.{given}
use Rattle.rules.specs.declared.Words.{Words}
use Rattle.rules.specs.declared.Record.{Record}
use Rattle.rules.specs.declared.Refusal.TheVariants.{Many}
use Rattle.laws.proofs.Tests.{In, all_each}
use Rattle.strings.proofs.Order.{word_is}
use Rattle.rules.specs.declared.Counts.{Counts}
use Rattle.unions.specs.Unions.{joined_counts, joined_update_in, joined_id_in}
use Rattle.unions.proofs.Words.{strs}
use Rattle.unions.proofs.Joining.{room, front, Told, Answered, records_joined}
use Rattle.joins.specs.Buffers.{words}

words_strs : (l : List ℕ) → ((w : ℕ) → In w l → is_word narrow.digits w ≡ true) → l ≡ map word_of (strs l)
words_strs [] h = refl
words_strs (w ∷ l) h =
    ap₂ (λ (x : ℕ) (y : List ℕ). x ∷ y) (word_is narrow.digits (omega arith) w (h w (inl refl))) (words_strs l (λ t i. h t (inr i)))

-- words of the strings of a name are what its record holds
words_stored : (l : List ℕ) (n : Name) → all (is_word narrow.digits) l ≡ true → strs l ≡ n → words l ≡ words_of narrow n
unfolding words words_of
words_stored l n h e =
    let f : l ≡ map word_of n = words_strs l (all_each (is_word narrow.digits) l h) ∙ ap (map word_of) e in
    let k : length l ≡ length n = ap length f ∙ length-map n word_of in
    λ i. record { count = k i; words = f i ++ replicate (narrow.strings - k i) 0 }

-- the join of two stored records, of whose names the words that count are lent, in two buffers of zeros
module _ (a b : Record) (stored : (is_stored narrow a ≡ true) × (is_stored narrow b ≡ true)) (r : Option Counts) {u i v j us is : List ℕ}
    (ours : (u ≡ front a.update) × (i ≡ front a.id)) (theirs : (v ≡ front b.update) × (j ≡ front b.id))
    (made : (r ≡ joined_counts u i v j (replicate room 0) (replicate room 0))
    × (us ≡ joined_update_in u i v j (replicate room 0) (replicate room 0))
    × (is ≡ joined_id_in u i v j (replicate room 0) (replicate room 0))) where
  answered : Answered (join (held a) (held b)) r us is
  answered =
      records_joined a b stored.0 stored.1 r us is
      (rw (ours.0, ours.1, theirs.0, theirs.1) at made.0) (rw (ours.0, ours.1, theirs.0, theirs.1) at made.1) (rw (ours.0, ours.1, theirs.0, theirs.1) at made.2)

  -- there is room for it
  pub has_room : IsSome r
  has_room = by r answered
    where
      by : (r : Option Counts) → Answered (join (held a) (held b)) r us is → IsSome r
      by (Some s) t = refl
      by None t = absurd t

  pub told : {s : Counts} → r ≡ Some s → Told (join (held a) (held b)) s us is
  told e = subst (λ (o : Option Counts). Answered (join (held a) (held b)) o us is) e answered

  -- where the id fits a name, so does the update
  pub few : {s : Counts} → r ≡ Some s → s.id ≤ narrow.strings → s.update ≤ narrow.strings
  few e h = omega (arith, (told e).counts)

module _ (j : Stamp) (r : Counts) (us is : List ℕ) (t : Told j r us is) where
  id_count : r.id ≡ length j.id
  id_count =
      sym (length-take-le r.id is (omega (arith, t.fits, t.id_room))) ∙ sym (length-map (take r.id is) str_of) ∙ ap length t.id

  pub too_many : narrow.strings < r.id → Err Many ≡ given narrow (first ((many narrow j, Many) ∷ [])) j
  unfolding first many
  too_many h = rw (lt-ltb narrow.strings (length j.id) (omega (arith, id_count)))

  pub few_enough : (u i : Words) → r.id ≤ narrow.strings → u ≡ words (take r.update us) → i ≡ words (take r.id is)
      → Ok (record { update = u; id = i }) ≡ given narrow (first ((many narrow j, Many) ∷ [])) j
  unfolding first many stored
  few_enough u i h p q =
      let v = p ∙ words_stored (take r.update us) j.update t.update_words t.update in
      let w = q ∙ words_stored (take r.id is) j.id t.id_words t.id in
      rw (le-ltb narrow.strings (length j.id) (omega (arith, id_count))) (λ k. Ok (record { update = v k; id = w k }))
