-- Every call keeps the invariant: one that is refused changes nothing, and one that is accepted does to the table what its step does to
-- the configuration, since the stored shape of a lawful stamp tells that stamp. Assumes nothing.
use Rattle.laws.proofs.Library.{◌≡◌, refl, sym, ap, ◌∙◌, Bool, true, false, cond, [], ◌∷◌, ◌++◌, ⊎_elim, ℕ, suc, ◌+◌, ◌≤◌, ◌<◌, arith, eqb, length, set}
use Rattle.laws.proofs.Library.{length-set, get_or-set_other, eqb-false, eq-eqb}
use Rattle.rules.specs.Limits.{Limits}
use Rattle.rules.specs.Stamps.{Stamp, lawful, update, fork, unite, join, sum_shares}
use Rattle.rules.specs.Stored.{stored, held, blank, absent}
use Rattle.rules.specs.Refusals.{long, many}
use Rattle.rules.specs.Tables.{Table, outside, at, stamp_at, present, lowest, full, stepped, one_slot, update_at, fork_at, join_at}
use Rattle.rules.specs.Histories.{Call, update as updates, fork as forks, join as joins, compare as compares, World, Events, events_at}
use Rattle.rules.specs.Histories.{after_update, after_fork, after_join, after, sum_table}
use Rattle.laws.proofs.Tests.{clash, not-true, is_not, in_append, any_none}
use Rattle.laws.proofs.Union.{union_top}
use Rattle.laws.proofs.Lawful.{lawful_parts, lawful_proper, lawful_update, lawful_fork, lawful_join, unite_proper}
use Rattle.laws.proofs.Shares.{shares_append, shares_union, shares_reduce}
use Rattle.laws.proofs.Stored.{stored_lawful, absent_is}
use Rattle.histories.specs.Configurations.{Config, forked, joined, put, updated}
use Rattle.histories.proofs.Config.{sound_same}
use Rattle.histories.proofs.Update.{update_sound}
use Rattle.histories.proofs.Fork.{fork_sound}
use Rattle.histories.proofs.Join.{join_sound}
use Rattle.histories.proofs.Tables.{fork_tests, join_tests, answered, get_d_put, put_self, present_size, present_there, present_blank, present_stored}
use Rattle.histories.proofs.Tables.{stamp_stored, lowest_absent, lowest_size, share_of, sum_set, sum_stored, share_blank}
use Rattle.histories.proofs.Good.{config_of, Good, shaped_stored, shaped_blank}

-- a slot that is there is not the one that was emptied
not_emptied : (b : ℕ) (f : ℕ → Bool) (x : ℕ) → put b false f x ≡ true → x ≡ b → ⊥
not_emptied b f x p e = clash p (rw (eq-eqb x b e))

module _ (L : Limits) (room : L.digits ≤ 58) (n : ℕ) (w : World) (g : Good L n w) where
  abbrev t : Table
  t = w.table

  abbrev C : Config
  C = config_of L w

  abbrev most : ℕ
  most = L.digits

  lawful_at : (a : ℕ) → present L t a ≡ true → lawful L (stamp_at t a) ≡ true
  lawful_at a p = stored_lawful L (at t a) (g.shapes a p)

  in_events : (a : ℕ) → a < length t → a < length w.events
  in_events a h = omega (arith, g.size, g.events_size)

  module _ (a : ℕ) (pa : present L t a ≡ true) where
    abbrev s : Stamp
    s = stamp_at t a

    legal : lawful L s ≡ true
    legal = lawful_at a pa

    inside : a < length t
    inside = present_size L t a pa

    -- a stamp stored in slot a leaves it present
    module _ (x : Stamp) (l : lawful L x ≡ true) where
      still_present : (y : ℕ) → present L (set t a (stored L x)) y ≡ present L t y
      still_present y = present_stored L t a inside x l y ∙ put_self a true (present L t) y pa

      stamp_after : (y : ℕ) → stamp_at (set t a (stored L x)) y ≡ put a x (stamp_at t) y
      stamp_after y = stamp_stored L t a inside x l y room

      sum_after : sum_table most (set t a (stored L x)) + sum_shares most s.id ≡ sum_table most t + sum_shares most x.id
      sum_after = sum_stored L room most t a x inside l

    -- ---- update

    abbrev updated_world : World
    updated_world = record { table = set t a (stored L (update s)); events = set w.events a (w.next ∷ events_at w a); next = suc w.next }

    updated_good : Good L n updated_world
    unfolding update
    updated_good = record {
      size = length-set t a (stored L (update s)) ∙ g.size;
      events_size = length-set w.events a (w.next ∷ events_at w a) ∙ g.events_size;
      sound =
          sound_same (updated a C) (config_of L updated_world) (still_present (update s) l) (λ x p. stamp_after (update s) l x)
          (λ x p. get_d_put w.events a (w.next ∷ events_at w a) [] x (in_events a inside)) refl (update_sound C g.sound a pa);
      shapes = shaped_stored L room t a (update s) inside l g.shapes;
      sum = omega (arith, sum_after (update s) l, g.sum);
    }
      where
        l : lawful L (update s) ≡ true
        l = lawful_update L s legal

    -- ---- fork: the 1 branch goes into the absent slot b

    module _ (b : ℕ) (b-in : b < length t) (free : absent L (at t b) ≡ true) (short : long L s ≡ false) where
      abbrev t0 : Table
      t0 = set t a (stored L (fork false s))

      abbrev forked_world : World
      forked_world = record { table = set t0 b (stored L (fork true s)); events = set w.events b (events_at w a); next = w.next }

      branch : (d : Bool) → lawful L (fork d s) ≡ true
      branch d = lawful_fork L d s legal short

      b_in0 : b < length t0
      b_in0 = rw (length-set t a (stored L (fork false s))) b-in

      b_shareless : share_of most (at t0 b) ≡ 0
      b_shareless =
          let two : b ≡ a → ⊥ = λ e. clash (rw e at free) (present_there L t a pa) in
          ap (share_of most) (get_or-set_other t a b (stored L (fork false s)) outside two ∙ absent_is L (at t b) free) ∙ share_blank L most

      halves : sum_shares most (fork false s).id + sum_shares most (fork true s).id ≡ sum_shares most s.id
      unfolding fork long
      halves =
          shares_append most s.id
          (λ x i. let l = (lawful_parts L s legal).id_named.short x i in
          let d = eqb-false (length x) most (any_none (λ y. eqb (length y) most) s.id short x i) in
          omega arith)

      forked_good : Good L n forked_world
      forked_good = record {
        size = length-set t0 b (stored L (fork true s)) ∙ length-set t a (stored L (fork false s)) ∙ g.size;
        events_size = length-set w.events b (events_at w a) ∙ g.events_size;
        sound =
            sound_same (forked a b C) (config_of L forked_world)
            (λ x. present_stored L t0 b b_in0 (fork true s) (branch true) x ∙ ap (cond (eqb x b) true) (still_present (fork false s) (branch false) x))
            (λ x p. stamp_stored L t0 b b_in0 (fork true s) (branch true) x room
            ∙ ap (cond (eqb x b) (fork true s)) (stamp_after (fork false s) (branch false) x))
            (λ x p. get_d_put w.events b (events_at w a) [] x (in_events b b-in)) refl (fork_sound C g.sound a b pa);
        shapes = shaped_stored L room t0 b (fork true s) b_in0 (branch true) (shaped_stored L room t a (fork false s) inside (branch false) g.shapes);
        sum =
            let put_one = sum_stored L room most t0 b (fork true s) b_in0 (branch true) in
            omega (arith, put_one, b_shareless, sum_after (fork false s) (branch false), halves, g.sum);
      }

    -- ---- join: slot b is emptied

    module _ (b : ℕ) (pb : present L t b ≡ true) (two : a ≡ b → ⊥) (few : many L (join s (stamp_at t b)) ≡ false) where
      abbrev r : Stamp
      r = stamp_at t b

      abbrev tj : Table
      tj = set t a (stored L (join s r))

      abbrev all : Events
      all = events_at w a ++ events_at w b

      abbrev joined_world : World
      joined_world = record { table = set tj b (blank L); events = set (set w.events a all) b []; next = w.next }

      legal_b : lawful L r ≡ true
      legal_b = lawful_at b pb

      l : lawful L (join s r) ≡ true
      l = lawful_join L s r legal legal_b few

      b_inside : b < length tj
      b_inside = rw (length-set t a (stored L (join s r))) (present_size L t b pb)

      b_share : share_of most (at tj b) ≡ sum_shares most r.id
      b_share = ap (share_of most) (get_or-set_other t a b (stored L (join s r)) outside (λ e. two (sym e)))

      -- the ids are apart, so their shares add up
      both : sum_shares most (join s r).id ≡ sum_shares most s.id + sum_shares most r.id
      unfolding join unite
      both =
          let p = (lawful_parts L s legal).id_named in
          let q = (lawful_parts L r legal_b).id_named in
          shares_reduce most (unite s r) (unite_proper s r (lawful_proper L s legal) (lawful_proper L r legal_b))
          (λ x i. ⊎_elim (p.short x) (q.short x) (in_append x s.id r.id (union_top s.id r.id x i).inside))
          ∙ shares_union most s.id r.id p.rises q.rises
          (λ x y i k. (not-true (λ e. two (g.sound.apart a b x y pa pb i k e).0), not-true (λ e. two (sym (g.sound.apart b a y x pb pa k i e).0))))

      joined_good : Good L n joined_world
      joined_good = record {
        size = length-set tj b (blank L) ∙ length-set t a (stored L (join s r)) ∙ g.size;
        events_size = length-set (set w.events a all) b [] ∙ length-set w.events a all ∙ g.events_size;
        sound =
            sound_same (joined a b C) (config_of L joined_world)
            (λ x. present_blank L tj b b_inside x ∙ ap (cond (eqb x b) false) (still_present (join s r) l x))
            (λ x p. ap held (get_or-set_other tj b x (blank L) outside (not_emptied b (present L t) x p)) ∙ stamp_after (join s r) l x)
            (λ x p. get_or-set_other (set w.events a all) b x [] [] (not_emptied b (present L t) x p) ∙ get_d_put w.events a all [] x (in_events a inside))
            refl (join_sound C g.sound a b pa pb two);
        shapes = shaped_blank L tj b b_inside (shaped_stored L room t a (join s r) inside l g.shapes);
        sum = omega (arith, sum_set most tj b (blank L) b_inside, share_blank L most, b_share, sum_after (join s r) l, both, g.sum);
      }

  -- ---- the calls

  good_update : (a : ℕ) → Good L n (after L w (updates a))
  unfolding after update_at
  good_update a =
      answered (one_slot L t a [])
      (λ x. let r = stepped x a t (set t a (stored L (update (stamp_at t a)))) in Good L n (after_update w a r r.answer))
      (λ p. updated_good a (is_not p.1.0)) (λ r. g)

  good_fork : (a : ℕ) → Good L n (after L w (forks a))
  unfolding after fork_at full
  good_fork a =
      let b = lowest L t in
      let both = set (set t a (stored L (fork false (stamp_at t a)))) b (stored L (fork true (stamp_at t a))) in
      answered (fork_tests L t a) (λ x. let r = stepped x b t both in Good L n (after_fork w a r r.answer))
      (λ p. let h : b < length t = omega (arith, lowest_size L t, eqb-false b (length t) p.1.1.1.0) in
      forked_good a (is_not p.1.0) b h (lowest_absent L t h) p.1.1.1.1.0) (λ r. g)

  good_join : (a b : ℕ) → Good L n (after L w (joins a b))
  unfolding after join_at
  good_join a b =
      let one = set (set t a (stored L (join (stamp_at t a) (stamp_at t b)))) b (blank L) in
      answered (join_tests L t a b) (λ x. let r = stepped x a t one in Good L n (after_join w a b r r.answer))
      (λ p. joined_good a (is_not p.1.0) b (is_not p.1.1.0) (eqb-false a b p.1.1.1.0) p.1.1.1.1.1.1.1.1.0) (λ r. g)

  pub good_after : (c : Call) → Good L n (after L w c)
  unfolding after
  good_after (updates a) = good_update a
  good_after (forks a) = good_fork a
  good_after (joins a b) = good_join a b
  good_after (compares a b) = g
