-- What the walks tell of stored stamps, over any limits: the words that a lawful stamp's record counts are words of strings in rising order, so
-- what the walks answer is what the rules do. Assumes nothing.
use Rattle.laws.proofs.Library.{◌≡◌, refl, sym, ap, ap₂, ◌∙◌, Bool, true, false, cond, ◌||◌, List, [], ◌∷◌, map, inl, inr, ℕ, zero, suc, ◌-◌, ◌≤◌, arith, le-leb, leb}
use Rattle.laws.proofs.Library.{eq-eqb, length, get_or, replicate, Result, Ok, Err}
use Rattle.laws.proofs.Library.{length-map, take_at}
use Rattle.std.specs.Prelude.{Option, None, Some}
use Rattle.rules.specs.Limits.{Limits}
use Rattle.rules.specs.Strings.{Str, value_from, aligned, word_of, str_of, is_word}
use Rattle.rules.specs.Names.{Name, all, rising, below, uncovered, lacked}
use Rattle.rules.specs.Stamps.{verdict, compare}
use Rattle.rules.specs.Stored.{words_of, stored, strs_in, held, is_stored}
use Rattle.rules.specs.Refusals.{Answer, and_then, first, overlap, unseen}
use Rattle.rules.specs.Values.{told, meeting, compared, beyond, placed, stands_as, standing}
use Rattle.rules.specs.declared.Words.{Words}
use Rattle.rules.specs.declared.Record.{Record}
use Rattle.rules.specs.declared.Refusal.TheVariants.{Overlap, Unseen}
use Rattle.rules.specs.declared.Refusal.{Refusal}
use Rattle.rules.specs.declared.Uncovered.{Uncovered}
use Rattle.rules.specs.declared.Standing.{Standing}
use Rattle.laws.proofs.Tests.{and_both}
use Rattle.laws.proofs.Words.{str_word}
use Rattle.laws.proofs.Lawful.{Short, lawful_parts}
use Rattle.laws.proofs.Stored.{stored_lawful, stored_is, stored_not_unlawful}
use Rattle.walks.specs.Walks.{front, strs, uncovered_walk, string_at, uncovered_in, overlap_walk, unknown_in, meet_walk, judged_by, compare_walk}
use Rattle.walks.proofs.Steps.{below_least}
use Rattle.walks.proofs.Tells.{below_walk_lem, uncovered_walk_lem, overlap_walk_lem, unknown_in_lem}

module _ (L : Limits) (small : L.digits ≤ 58) where
  -- ---- a name in its stored shape

  word_of_lem : (s : Str) → length s ≤ L.digits → is_word L.digits (word_of s) ≡ true
  unfolding is_word
  word_of_lem s h =
      let e : str_of (word_of s) ≡ s = str_word s (omega arith) in
      rw e (and_both (le-leb (length s) L.digits h) (eq-eqb (word_of s) (word_of s) refl))

  words_of_lem : (n : Name) → Short L.digits n → all (is_word L.digits) (map word_of n) ≡ true
  unfolding all
  words_of_lem [] h = refl
  words_of_lem (s ∷ n) h = and_both (word_of_lem s (h s (inl refl))) (words_of_lem n (λ t i. h t (inr i)))

  -- the word of a name's string at a place; behind the last it is that of e
  word_at : (n : Name) (p : ℕ) → get_or (map word_of n) p 0 ≡ word_of (get_or n p [])
  unfolding word_of aligned value_from
  word_at [] p = refl
  word_at (s ∷ n) zero = refl
  word_at (s ∷ n) (suc p) = word_at n p

  -- what is asked of the words that a name's record counts: they are those of its strings
  record Counted (w : Words) : Type 0 where
    are : front w ≡ map word_of (strs_in w)
    words : all (is_word L.digits) (front w) ≡ true
    rises : rising (strs (front w)) ≡ true

  counted : (w : Words) → w ≡ words_of L (strs_in w) → Rattle.laws.proofs.Lawful.Named L (strs_in w) → Counted w
  unfolding strs_in words_of
  counted w is named =
      let n = strs_in w in
      let e : front w ≡ map word_of n =
      ap front is ∙ take_at (map word_of n) (replicate (L.strings - length n) 0) (length n) (length-map n word_of) in
      record { are = e; words = ap (all (is_word L.digits)) e ∙ words_of_lem n named.short; rises = named.rises }

  module _ (r : Record) (h : is_stored L r ≡ true) where
    update_counted : Counted r.update
    unfolding stored held
    update_counted =
        counted r.update (ap (λ (x : Record). x.update) (stored_is L r h)) (lawful_parts L (held r) (stored_lawful L r h)).update_named

    id_counted : Counted r.id
    unfolding stored held
    id_counted = counted r.id (ap (λ (x : Record). x.id) (stored_is L r h)) (lawful_parts L (held r) (stored_lawful L r h)).id_named

  -- ---- two stamps that meet

  module _ (m n : Words) (c : Counted m) (d : Counted n) where
    uncovered_fronts : uncovered_walk (front m) (front n) ≡ uncovered (strs_in m) (strs_in n)
    unfolding strs_in
    uncovered_fronts = uncovered_walk_lem L.digits small (front m) (front n) c.words d.words c.rises d.rises

    -- the word at the place is that of the string; behind the last it is 0, that of e
    beyond_fronts : string_at (front m) (uncovered_walk (front m) (front n)) ≡ beyond (strs_in m) (strs_in n)
    unfolding lacked
    beyond_fronts =
        ap (string_at (front m)) uncovered_fronts
        ∙ ap (λ (w : ℕ). record { place = uncovered (strs_in m) (strs_in n); word = w })
        (ap (λ (l : List ℕ). get_or l (uncovered (strs_in m) (strs_in n)) 0) c.are ∙ word_at (strs_in m) (uncovered (strs_in m) (strs_in n)))

    below_fronts : leb (length (front m)) (uncovered_walk (front m) (front n)) ≡ below (strs_in m) (strs_in n)
    unfolding strs_in
    below_fronts =
        sym (below_least (front m) (front n)) ∙ below_walk_lem L.digits small (front m) (front n) c.words d.words c.rises d.rises

    found_fronts : uncovered_in (front m) (front n) ≡ cond (below (strs_in m) (strs_in n)) None (Some (beyond (strs_in m) (strs_in n)))
    unfolding uncovered_in
    found_fronts = ap₂ (λ (b : Bool) (x : Uncovered). cond b None (Some x)) below_fronts beyond_fronts

  module _ (a b : Record) (h : is_stored L a ≡ true) (k : is_stored L b ≡ true) where
    overlap_fronts : overlap_walk (front a.id) (front b.id) ≡ overlap (held a) (held b)
    unfolding overlap held strs_in
    overlap_fronts =
        let c = id_counted a h in
        let d = id_counted b k in
        overlap_walk_lem L.digits small (front a.id) (front b.id) c.words d.words c.rises d.rises

    unseen_fronts : (unknown_in (front a.update) (front b.id) (front b.update) || unknown_in (front b.update) (front a.id) (front a.update))
        ≡ unseen (held a) (held b)
    unfolding unseen held strs_in
    unseen_fronts =
        let u = update_counted a h in
        let i = id_counted a h in
        let v = update_counted b k in
        let j = id_counted b k in
        ap₂ ◌||◌
        (unknown_in_lem L.digits small (front a.update) (front b.id) (front b.update) u.words j.words v.words u.rises j.rises v.rises)
        (unknown_in_lem L.digits small (front b.update) (front a.id) (front a.update) v.words i.words u.words v.rises i.rises u.rises)

    pub meet_walk_lem : meet_walk (front a.update) (front a.id) (front b.update) (front b.id) ≡ first (meeting L a b [])
    unfolding meet_walk first
    meet_walk_lem =
        ap₂ (λ (x y : Bool). first ((x, Overlap) ∷ (y, Unseen) ∷ [])) overlap_fronts unseen_fronts
        ∙ sym (rw (stored_not_unlawful L a h, stored_not_unlawful L b k))

    judged_fronts : Ok (judged_by (uncovered_in (front a.update) (front b.update)) (uncovered_in (front b.update) (front a.update)))
        ≡ stands_as (Ok (compare (held a) (held b))) (held a).update (held b).update
    unfolding compare held
    judged_fronts =
        let u = update_counted a h in
        let v = update_counted b k in
        ap₂ (λ (x y : Option Uncovered). Ok (judged_by x y)) (found_fronts a.update b.update u v) (found_fronts b.update a.update v u)
        ∙ by (below (strs_in a.update) (strs_in b.update)) (below (strs_in b.update) (strs_in a.update))
      where
        by : (x y : Bool) → Ok (judged_by (cond x None (Some (beyond (strs_in a.update) (strs_in b.update)))) (cond y None (Some (beyond (strs_in b.update) (strs_in a.update)))))
            ≡ placed (Ok (verdict x y)) (beyond (strs_in a.update) (strs_in b.update)) (beyond (strs_in b.update) (strs_in a.update))
        by true true = refl
        by true false = refl
        by false true = refl
        by false false = refl

    pub compare_walk_lem : compare_walk (front a.update) (front a.id) (front b.update) (front b.id) ≡ standing L a b
    unfolding compare_walk compared standing
    compare_walk_lem = ap₂ (λ (x : Answer) (s : Result Standing Refusal). and_then x (λ y. s)) meet_walk_lem judged_fronts ∙ after (first (meeting L a b []))
      where
        after : (x : Answer) → and_then x (λ y. stands_as (Ok (compare (held a) (held b))) (held a).update (held b).update)
            ≡ stands_as (told x (compare (held a) (held b))) (held a).update (held b).update
        after (Ok x) = refl
        after (Err r) = refl
