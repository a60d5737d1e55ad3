-- A table that keeps the invariant is right: events and update names agree by Proposition 5.1, ids that are apart never overlap, what an
-- id covers its update has seen, and stored shapes are lawful; so refusals 8, 9 and 12 have no cause. Assumes nothing.
use Rattle.laws.proofs.Library.{◌≡◌, Ok, Err, refl, sym, ap, ap₂, ◌∙◌, subst, Bool, true, false, cond, and-false, inr, not, ◌&&◌, ◌||◌, List, [], ◌∷◌, ◌++◌, map, inl}
use Rattle.laws.proofs.Library.{◌↔◌, ℕ, zero, suc, ◌+◌, ◌≤◌, ◌<◌, zero-add, arith, eqb, length, drop, drop_of_length-le, drop-cons, eqb-true, eqb-false}
use Rattle.laws.proofs.Library.{eq-eqb, ne_eqb, le-ltb}
use Rattle.rules.specs.Limits.{Limits, records}
use Rattle.rules.specs.Strings.{Str}
use Rattle.rules.specs.Names.{Name, any, covered, below, unions}
use Rattle.rules.specs.Stamps.{verdict, compare}
use Rattle.rules.specs.Stored.{unlawful, absent}
use Rattle.rules.specs.Refusals.{Answer, first, long, touches, overlap, unknown_to, unseen}
use Rattle.rules.specs.Values.{told}
use Rattle.rules.specs.Tables.{Table, Sparing, outside, at, stamp_at, bad_size, no_slot, present, full, stepped, one_slot, update_at, fork_at, join_at, compare_at, or_next}
use Rattle.rules.specs.Tables.{spared_after, spare_from, spare_at}
use Rattle.rules.specs.Histories.{World, Events, events_at, within, event_verdict, is_obsolete, slots_from, is_behind, events_of}
use Rattle.rules.specs.Promises.{Usual, UsualSlot, UsualCompared, UsualSpared, Right}
use Rattle.rules.specs.declared.Verdict.{Verdict}
use Rattle.rules.specs.declared.Verdict.TheVariants.{Equal, Obsolete, Newer, Conflict}
use Rattle.rules.specs.declared.Refusal.{Refusal}
use Rattle.rules.specs.declared.Refusal.TheVariants.{NoSlot, Full, Long, Overlap, Unseen, Unfit}
use Rattle.rules.specs.declared.Spared.TheVariants.{Spare, Kept}
use Rattle.laws.proofs.Tests.{decide, none_any, not-true, iff, is_not, not_is, In, any_some, some_any, all_each, each_all}
use Rattle.laws.proofs.Below.{member_in, covered_some, below_each, each_below}
use Rattle.laws.proofs.Union.{covered_unions}
use Rattle.laws.proofs.Stored.{stored_not_unlawful}
use Rattle.histories.specs.Configurations.{AllPresent, Among, Config, Covers, Seen}
use Rattle.histories.proofs.Config.{in_one, gather, in_gather, gather_in}
use Rattle.histories.proofs.Tables.{fork_tests, join_tests, compare_tests, passed_done, answered, Usuals, end, never, gives, UsualAnswer, first_usual}
use Rattle.histories.proofs.Tables.{present_by}
use Rattle.histories.proofs.Good.{config_of, Good}

-- ---- events and names of some slots

-- some slot of one is that one
among_one : (P : ℕ → Type 0) (b : ℕ) → P b ↔ Among (b ∷ []) P
among_one P b = (λ p. record { slot = b; inside = inl refl; holds = p }, λ s. subst P (in_one b s.slot s.inside) s.holds)

-- the events of slots stand one slot after the other
events_gather : (w : World) (S : List ℕ) → events_of w S ≡ gather (events_at w) S
unfolding events_of gather
events_gather w [] = refl
events_gather w (a ∷ S) = ap (λ (l : Events). events_at w a ++ l) (events_gather w S)

-- an event of the slots taken together is one that some slot has seen
events_among : (w : World) (S : List ℕ) (e : ℕ) → In e (events_of w S) ↔ Among S (λ b. In e (events_at w b))
events_among w S e = (
  λ i. gather_in (events_at w) S e (rw (events_gather w S) at i),
  λ a. rw (events_gather w S) (in_gather (events_at w) S a.slot e a.inside a.holds),
)

-- what the union of the slots' names covers, some slot's name covers
names_among : (f : ℕ → Name) (S : List ℕ) (r : Str) → (covered r (unions (map f S)) ≡ true) ↔ Among S (λ b. covered r (f b) ≡ true)
names_among f S r =
    let e = covered_unions f r S in (
      λ c. let x = any_some (λ (b : ℕ). covered r (f b)) S (sym e ∙ c) in record { slot = x.one; inside = x.inside; holds = x.passes },
      λ a. e ∙ some_any (λ (b : ℕ). covered r (f b)) S a.slot a.inside a.holds,
    )

in_any : (e : ℕ) (Y : Events) → In e Y → any (eqb e) Y ≡ true
in_any e Y i = some_any (eqb e) Y e i (eq-eqb e e refl)

any_in : (e : ℕ) (Y : Events) → any (eqb e) Y ≡ true → In e Y
any_in e Y c = let x = any_some (eqb e) Y c in rw (eqb-true e x.one x.passes) x.inside

-- ---- numbers that such a table gives

step_usual : (x : Answer) (a : ℕ) (old new : Table) → UsualAnswer x → UsualSlot (stepped x a old new).answer
step_usual (Ok x) a old new u = tt
step_usual (Err r) a old new u = u

told_usual : (x : Answer) (v : Verdict) → UsualAnswer x → UsualCompared (told x v)
told_usual (Ok x) v u = tt
told_usual (Err r) v u = u

kept_usual : (b : Bool) → UsualSpared (cond b (Ok Spare) (Ok Kept))
kept_usual true = tt
kept_usual false = tt

-- ---- one pair of a spare call

-- "the first obsolete verdict gives yes"
or_next_lem : (v : Verdict) (next : Sparing) → or_next (Ok tt) v next ≡ cond (is_obsolete v) (Ok Spare) next
or_next_lem Equal next = refl
or_next_lem Obsolete next = refl
or_next_lem Newer next = refl
or_next_lem Conflict next = refl

-- a pair with itself, or with an absent slot, is passed over
one_turn : (self gone ahead more : Bool) (next verd : Sparing) → next ≡ cond more (Ok Spare) (Ok Kept)
    → (self ≡ false → gone ≡ false → verd ≡ cond ahead (Ok Spare) next)
    → cond (self || gone) next verd ≡ cond (not gone && not self && ahead || more) (Ok Spare) (Ok Kept)
one_turn true true ahead more next verd e f = e
one_turn true false ahead more next verd e f = e
one_turn false true ahead more next verd e f = e
one_turn false false true more next verd e f = f refl refl
one_turn false false false more next verd e f = f refl refl ∙ e

module _ (L : Limits) (n : ℕ) (some : 1 ≤ n) (few : n ≤ records) (w : World) (g : Good L n w) where
  abbrev t : Table
  t = w.table

  abbrev C : Config
  C = config_of L w

  abbrev Here : ℕ → Type 0
  Here a = present L t a ≡ true

  size_fits : bad_size t ≡ false
  unfolding bad_size
  size_fits = rw (ne_eqb (length t) 0 (λ e. omega (arith, g.size)), le-ltb records (length t) (omega (arith, g.size)))

  fits : (a : ℕ) → Here a → unlawful L (at t a) ≡ false
  fits a p = stored_not_unlawful L (at t a) (g.shapes a p)

  -- ---- 8 and 9 have no cause

  touches_none : (a b : ℕ) → Here a → Here b → (a ≡ b → ⊥) → touches (stamp_at t a).id (stamp_at t b).id ≡ false
  unfolding touches
  touches_none a b p q two =
      none_any (λ (s : Str). covered s (stamp_at t b).id) (stamp_at t a).id (λ s i.
      not-true (λ e. let y = covered_some s (stamp_at t b).id e in two (g.sound.apart a b s y.one p q i y.inside y.passes).0))

  overlap_none : (a b : ℕ) → Here a → Here b → (a ≡ b → ⊥) → overlap (stamp_at t a) (stamp_at t b) ≡ false
  unfolding overlap
  overlap_none a b p q two = rw (touches_none a b p q two, touches_none b a q p (λ e. two (sym e)))

  known_all : (a b : ℕ) → Here a → Here b → unknown_to (stamp_at t a).update (stamp_at t b).id (stamp_at t b).update ≡ false
  unfolding unknown_to
  known_all a b p q =
      let i = (stamp_at t b).id in
      none_any (λ (r : Str). covered r i && not (covered r (stamp_at t b).update)) (stamp_at t a).update (λ r j.
      elim (decide (covered r i)) [ inl e ↦ rw (e, g.sound.seen a b r p q j e) | inr e ↦ rw e ])

  unseen_none : (a b : ℕ) → Here a → Here b → unseen (stamp_at t a) (stamp_at t b) ≡ false
  unfolding unseen
  unseen_none a b p q = rw (known_all a b p q, known_all b a q p)

  -- ---- Proposition 5.1

  -- Y holds the events of S, and m covers what the names of S cover
  known_below : (a : ℕ) (S : List ℕ) (Y : Events) (m : Name) → Here a → AllPresent C S → 1 ≤ length S → ((e : ℕ) → In e Y ↔ Seen C S e)
      → ((r : Str) → (covered r m ≡ true) ↔ Covers C S r) → within (events_at w a) Y ≡ below (stamp_at t a).update m
  unfolding within
  known_below a S Y m p ps h f c =
      let X = events_at w a in
      let u = (stamp_at t a).update in
      iff
      (λ k. each_below u m (λ r i. (c r).1 (g.sound.known a S p ps h (λ e j. (f e).0 (any_in e Y (all_each (λ (x : ℕ). any (eqb x) Y) X k e j))) r i)))
      (λ k. each_all (λ (x : ℕ). any (eqb x) Y) X (λ e j. in_any e Y ((f e).1 (g.sound.shown a S p ps h (λ r i. (c r).0 (below_each u m k r i)) e j))))

  below_one : (a b : ℕ) → Here a → Here b → within (events_at w a) (events_at w b) ≡ below (stamp_at t a).update (stamp_at t b).update
  below_one a b p q =
      known_below a (b ∷ []) (events_at w b) (stamp_at t b).update p (λ c i. rw (in_one b c i) q) (omega arith)
      (λ e. among_one (λ c. In e (events_at w c)) b) (λ r. among_one (λ c. covered r (stamp_at t c).update ≡ true) b)

  verdict_is : (a b : ℕ) → Here a → Here b → compare (stamp_at t a) (stamp_at t b) ≡ event_verdict (events_at w a) (events_at w b)
  unfolding compare
  verdict_is a b p q = sym (ap₂ verdict (below_one a b p q) (below_one b a q p))

  -- ---- what compare answers

  overlap_tested : (a b : ℕ) → Here a → Here b → (not (eqb a b) && overlap (stamp_at t a) (stamp_at t b)) ≡ false
  overlap_tested a b p q = elim (decide (eqb a b)) [ inl e ↦ rw e | inr e ↦ rw (e, overlap_none a b p q (eqb-false a b e)) ]

  unseen_tested : (a b : ℕ) → Here a → Here b → (not (eqb a b) && unseen (stamp_at t a) (stamp_at t b)) ≡ false
  unseen_tested a b p q = rw (unseen_none a b p q, and-false)

  verdicts : (a b : ℕ) → Here a → Here b → compare_at L t a b ≡ Ok (event_verdict (events_at w a) (events_at w b))
  unfolding compare_at
  verdicts a b p q =
      rw (passed_done (compare_tests L t a b)
      (size_fits, (not_is p, (not_is q, (fits a p, (fits b q, (overlap_tested a b p q, (unseen_tested a b p q, tt)))))))) (ap Ok (verdict_is a b p q))

  -- ---- what spare answers

  module _ (a : ℕ) (pa : Here a) where
    -- b has all of a's events and more
    abbrev ahead : ℕ → Bool
    ahead b = present L t b && not (eqb a b) && is_obsolete (event_verdict (events_at w a) (events_at w b))

    -- the records from slot b on, of which there are k
    spare_from_lem : (k b : ℕ) → b + k ≡ length t → spare_from L (stamp_at t a) a b (drop b t) ≡ cond (any ahead (slots_from b k)) (Ok Spare) (Ok Kept)
    unfolding spare_from slots_from any
    spare_from_lem zero b e = rw (drop_of_length-le t {i = b} (omega arith))
    spare_from_lem (suc k) b e =
        let h : b < length t = omega arith in
        let s = stamp_at t a in
        let v = event_verdict (events_at w a) (events_at w b) in
        let next = spare_from L s a (suc b) (drop (suc b) t) in
        let tests : List (Bool × Refusal) = (unlawful L (at t b), Unfit) ∷ (overlap s (stamp_at t b), Overlap) ∷ (unseen s (stamp_at t b), Unseen) ∷ [] in
        rw (drop-cons t b outside h, present_by L t b h)
        (one_turn (eqb a b) (absent L (at t b)) (is_obsolete v) (any ahead (slots_from (suc b) k)) next (or_next (first tests) (compare s (stamp_at t b)) next)
        (spare_from_lem k (suc b) (omega arith)) (λ p q.
        let pb : Here b = present_by L t b h ∙ is_not q in
        rw (passed_done tests (fits b pb, (overlap_none a b pa pb (eqb-false a b p), (unseen_none a b pa pb, tt))), verdict_is a b pa pb) (or_next_lem v next)))

  spares : (a : ℕ) → Here a → spare_at L t a ≡ cond (is_behind L w a) (Ok Spare) (Ok Kept)
  unfolding spare_at is_behind
  spares a p = rw (passed_done (one_slot L t a []) (size_fits, (not_is p, (fits a p, tt)))) (spare_from_lem a p (length t) 0 (zero-add (length t)))

  -- ---- 8, 9 and 12 never occur

  no_slot_lem : Usual NoSlot
  no_slot_lem = omega arith

  one_slot_usual : (a : ℕ) (more : List (Bool × Refusal)) → (Here a → Usuals more) → Usuals (one_slot L t a more)
  one_slot_usual a more f = never size_fits (gives no_slot_lem λ p. never (fits a (is_not p)) (f (is_not p)))

  two_slots_usual : (a b : ℕ) (more : List (Bool × Refusal)) → (Here a → Here b → Usuals more)
      → Usuals ((bad_size t, Unfit) ∷ (no_slot L t a, NoSlot) ∷ (no_slot L t b, NoSlot) ∷ more)
  two_slots_usual a b more f = never size_fits (gives no_slot_lem λ p. gives no_slot_lem λ q. f (is_not p) (is_not q))

  usual_update_lem : (a : ℕ) → UsualSlot (update_at L t a).answer
  unfolding update_at
  usual_update_lem a = step_usual (first (one_slot L t a [])) a t _ (first_usual (one_slot_usual a [] (λ _. end)))

  usual_fork_lem : (a : ℕ) → UsualSlot (fork_at L t a).answer
  unfolding fork_at
  usual_fork_lem a =
      step_usual (first (fork_tests L t a)) _ t _
      (first_usual
      (one_slot_usual a ((full L t, Full) ∷ (long L (stamp_at t a), Long) ∷ [])
      (λ _. gives (omega arith) λ _. gives (omega arith) λ _. end)))

  usual_join_lem : (a b : ℕ) → UsualSlot (join_at L t a b).answer
  unfolding join_at
  usual_join_lem a b =
      step_usual (first (join_tests L t a b)) a t _
      (first_usual
      (two_slots_usual a b _ (λ p q. gives (omega arith) λ e. never (fits a p) (never (fits b q)
      (never (overlap_none a b p q (eqb-false a b e)) (never (unseen_none a b p q) (gives (omega arith) λ _. end)))))))

  usual_compare_lem : (a b : ℕ) → UsualCompared (compare_at L t a b)
  unfolding compare_at
  usual_compare_lem a b =
      told_usual (first (compare_tests L t a b)) (compare (stamp_at t a) (stamp_at t b))
      (first_usual
      (two_slots_usual a b _ (λ p q. never (fits a p) (never (fits b q) (never (overlap_tested a b p q) (never (unseen_tested a b p q) end))))))

  usual_spare_lem : (a : ℕ) → UsualSpared (spare_at L t a)
  unfolding spare_at is_behind
  usual_spare_lem a =
      answered (one_slot L t a []) (λ x. UsualAnswer x → UsualSpared (spared_after x (spare_from L (stamp_at t a) a 0 t)))
      (λ p _. subst UsualSpared (sym (spare_from_lem a (is_not p.1.0) (length t) 0 (zero-add (length t)))) (kept_usual (is_behind L w a))) (λ r u. u)
      (first_usual (one_slot_usual a [] (λ _. end)))

  pub good_right : Right L w
  good_right = record {
    verdicts = verdicts;
    spares = spares;
    unions_too = λ a S p ps h.
        known_below a S (events_of w S) (unions (map (λ b. (stamp_at t b).update) S)) p (all_each (present L t) S ps) h (events_among w S)
        (names_among (λ b. (stamp_at t b).update) S);
    apart = λ a b s r p q i j.
        g.sound.apart a b s r p q (member_in s (stamp_at t a).id i) (member_in r (stamp_at t b).id j);
    shares = g.sum;
    shapes = g.shapes;
    usual_update = usual_update_lem;
    usual_fork = usual_fork_lem;
    usual_join = usual_join_lem;
    usual_compare = usual_compare_lem;
    usual_spare = usual_spare_lem;
  }
