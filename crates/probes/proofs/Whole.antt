-- Words stored over as many words are all that there is, as are two runs of 17 behind each other in 34. Assumes nothing.
use Rattle.laws.proofs.Library.{◌≡◌, sym, ap, ap₂, ◌∙◌, List, ◌∷◌, ◌++◌, append-nil, append_assoc, ℕ, ◌+◌, ◌≤◌, arith, length, set, take, drop}
use Rattle.laws.proofs.Library.{length-append, length-set, drop_of_length-le, drop-drop, sets, sets-eq}
use lib.Seq.{length-sets}
use borrow.Rule.Slice.PartMut.{put_mid}
use Rattle.rules.specs.declared.Record.{Record}
use Rattle.unions.proofs.Stores.{sets_append, sets_front}
use Rattle.probes.specs.Handed.{record_words}

whole : (vs l : List ℕ) → length vs ≡ length l → sets l 0 vs ≡ vs
whole vs l e =
    sets_front vs l (omega arith) ∙ ap (λ (z : List ℕ). vs ++ z) (drop_of_length-le l {i = length vs} (omega arith)) ∙ append-nil vs

two : (u v l : List ℕ) → length u ≡ 17 → length v ≡ 17 → length l ≡ 34 → sets (sets l 0 u) 17 v ≡ u ++ v
two u v l h k m =
    ap (λ (n : ℕ). sets (sets l 0 u) n v) (let e : 17 ≡ 0 + length u = omega arith in e) ∙ sym (sets_append u v l 0)
    ∙ whole (u ++ v) l (omega (arith, length-append u v))

-- n words stored over a part
put_is : (a n : ℕ) (xs ys : List ℕ) → n ≡ length ys → a + n ≤ length xs → put_mid a n xs ys ≡ sets xs a ys
put_is a n xs ys e h = rw (e, drop-drop (length ys) a xs) (sym (sets-eq ys xs a (omega arith) ∙ append_assoc (take a xs) ys (drop (a + length ys) xs)))

-- a record's 34
module _ (r : Record) (l : List ℕ) (h : length r.update.words ≡ 16) (k : length r.id.words ≡ 16) (m : length l ≡ 34) where
  abbrev first : List ℕ
  first = set l 0 r.update.count

  first_long : length first ≡ 34
  first_long = length-set l 0 r.update.count ∙ m

  half : put_mid 1 16 first r.update.words ≡ sets first 1 r.update.words
  half = put_is 1 16 first r.update.words (sym h) (omega (arith, first_long))

  half_long : length (set (put_mid 1 16 first r.update.words) 17 r.id.count) ≡ 34
  half_long = length-set _ 17 r.id.count ∙ ap length half ∙ length-sets first 1 r.update.words ∙ first_long

  pub put : (us is : List ℕ) → us ≡ r.update.words → is ≡ r.id.words
      → put_mid 18 16 (set (put_mid 1 16 first us) 17 r.id.count) is ≡ record_words r
  unfolding record_words
  put us is d e =
      ap₂ (λ (u i : List ℕ). put_mid 18 16 (set (put_mid 1 16 first u) 17 r.id.count) i) d e ∙
      put_is 18 16 _ r.id.words (sym k) (omega (arith, half_long)) ∙ ap (λ (p : List ℕ). sets (set p 17 r.id.count) 18 r.id.words) half
      ∙ two (r.update.count ∷ r.update.words) (r.id.count ∷ r.id.words) l (omega arith) (omega arith) m
