-- One step of reduction keeps a configuration sound: s0 and s1 give way to s in one copy, and no other copy's id covers any of the three
-- (Invariant 4.5), so nothing that another copy's name is asked changes (section 6 of the paper). Assumes nothing.
use Rattle.laws.proofs.Library.{◌≡◌, refl, sym, ◌∙◌, subst, Bool, true, false, List, [], inr, ⊎_elim, ℕ, ◌≤◌, length}
use Rattle.rules.specs.Strings.{Str, prefix, ◌▹◌}
use Rattle.rules.specs.Names.{covered}
use Rattle.rules.specs.Stamps.{settle, settled}
use Rattle.laws.proofs.Tests.{clash, decide, In}
use Rattle.laws.proofs.Prefix.{prefix_grown, prefix_goes_on, grown_not_prefix}
use Rattle.laws.proofs.Rising.{rising_antichain}
use Rattle.laws.proofs.Below.{covered_some, some_covered, in_covered, covered_down, covered_below}
use Rattle.laws.proofs.Settle.{Other, holds, lacks, way, settle_in, in_settle}
use Rattle.laws.proofs.Steps.{Proper, settle_covered, covered_settle, covered_settle_update, settled_proper}
use Rattle.histories.specs.Configurations.{AllPresent, Config, Covers, Sound, Under, Within, settled_at}
use Rattle.histories.proofs.Config.{Where, here, there, is_where, among, under_covered, ApartIn, SeenIn}

module _ (C : Config) (q : Sound C) (c : ℕ) (pc : C.present c ≡ true) (s : Str) (zero_in : In (s ▹ false) (C.stamp c).id)
    (one_in : In (s ▹ true) (C.stamp c).id) where
  abbrev D : Config
  D = settled_at c s C

  -- no other id covers s
  away : (y : ℕ) → C.present y ≡ true → (y ≡ c → ⊥) → covered s (C.stamp y).id ≡ true → ⊥
  away y py n h =
      let t = covered_some s (C.stamp y).id h in
      let on : (d : Bool) → In (s ▹ d) (C.stamp c).id → prefix (s ▹ d) t.one ≡ true → ⊥ =
      λ d i p. n (sym (q.apart c y (s ▹ d) t.one pc py i t.inside p).0) in
      let alike : s ≡ t.one → ⊥ =
      λ e. n (q.apart y c s (s ▹ false) py pc (subst (λ (x : Str). In x (C.stamp y).id) (sym e) t.inside) zero_in (prefix_grown s false)).0 in
      ⊎_elim alike (λ k. ⊎_elim (on false zero_in) (on true one_in) k) (prefix_goes_on s t.one t.passes)

  -- so none covers s0 or s1
  other_covered : (y : ℕ) (r : Str) → C.present y ≡ true → (y ≡ c → ⊥) → covered r (C.stamp y).id ≡ true → Other s r
  other_covered y r py n h = (on false, on true)
    where
      on : (d : Bool) → r ≡ s ▹ d → ⊥
      on d e = away y py n (covered_down s r (C.stamp y).id (rw e (prefix_grown s d)) h)

  under_id : (y : ℕ) (r : Str) → C.present y ≡ true → covered r (C.stamp y).update ≡ true → covered r (C.stamp y).id ≡ true
  under_id y r py h = covered_below r (C.stamp y).update (C.stamp y).id h (q.proper y py).below_id

  -- update names cover nothing new
  back : (y : ℕ) (r : Str) → covered r (D.stamp y).update ≡ true → covered r (C.stamp y).update ≡ true
  unfolding settled
  back y r h = elim (is_where c y) [ here p e ↦ rw p (settle_covered s (C.stamp c).update r (rw e at h)) | there n e ↦ rw e at h ]

  back_id : (y : ℕ) (r : Str) → covered r (D.stamp y).id ≡ true → covered r (C.stamp y).id ≡ true
  unfolding settled
  back_id y r h = elim (is_where c y) [ here p e ↦ rw p (settle_covered s (C.stamp c).id r (rw e at h)) | there n e ↦ rw e at h ]

  -- and lose s0 and s1 alone
  still : (y : ℕ) (r : Str) → Other s r → covered r (C.stamp y).update ≡ true → covered r (D.stamp y).update ≡ true
  unfolding settled
  still y r o h = elim (is_where c y) [ here p e ↦ rw e (covered_settle s (C.stamp c).update r (rw p at h) o) | there n e ↦ rw e h ]

  others : (y : ℕ) (r : Str) → C.present y ≡ true → covered r (D.stamp y).update ≡ true → Other s r
  unfolding settled
  others y r py h = elim (is_where c y) [
    | here p e ↦ ((covered_settle_update s (C.stamp c) (q.proper c pc) zero_in one_in r).0 (rw e at h)).1
    | there n e ↦ other_covered y r py n (under_id y r py (rw e at h))
  ]

  settled_here : Proper (settled s (C.stamp c))
  settled_here = settled_proper s (C.stamp c) (q.proper c pc) zero_in one_in

  proper_after : (x : ℕ) → C.present x ≡ true → Proper (D.stamp x)
  proper_after x px = elim (is_where c x) [ here p e ↦ rw e settled_here | there n e ↦ rw e (q.proper x px) ]

  nonempty_after : (x : ℕ) → C.present x ≡ true → (t : Str) × In t (D.stamp x).update
  unfolding prefix
  nonempty_after x px =
      let t = q.nonempty x px in
      let e = covered_down [] t.0 (C.stamp x).update refl (in_covered t.0 (C.stamp x).update t.1) in
      let u = covered_some [] (D.stamp x).update (still x [] (on false, on true) e) in
      (u.one, u.inside)
    where
      on : (d : Bool) → [] ≡ s ▹ d → ⊥
      on d e = clash (subst (λ (x : Str). prefix x s ≡ true) e refl) (grown_not_prefix s d)

  -- the settled id is apart from every other
  from_c : (y : ℕ) (r t : Str) → C.present y ≡ true → (y ≡ c → ⊥) → In r (settle s (C.stamp c).id) → In t (C.stamp y).id → prefix r t ≡ true → ⊥
  from_c y r t py n i j h =
      ⊎_elim (λ l. n (sym (q.apart c y r t pc py l.0 j h).0)) (λ l. away y py n (some_covered s (C.stamp y).id t j (rw l.0 at h)))
      (settle_in s (C.stamp c).id r i)

  to_c : (x : ℕ) (r t : Str) → C.present x ≡ true → (x ≡ c → ⊥) → In r (C.stamp x).id → In t (settle s (C.stamp c).id) → prefix r t ≡ true → ⊥
  to_c x r t px n i j h =
      let e = settle_covered s (C.stamp c).id r (some_covered r (settle s (C.stamp c).id) t j h) in
      let u = covered_some r (C.stamp c).id e in
      n (q.apart x c r u.one px pc i u.inside u.passes).0

  apart_after : ApartIn D
  unfolding settled
  apart_after x y r t px py i j h = by (is_where c x) (is_where c y)
    where
      by : Where c x → Where c y → (x ≡ y) × (r ≡ t)
      by (here p e) (here o f) = (p ∙ sym o, rising_antichain (settle s (C.stamp c).id) settled_here.id_rising r t (rw e at i) (rw f at j) h)
      by (there n e) (there m f) = q.apart x y r t px py (rw e at i) (rw f at j) h
      by (here p e) (there m f) = absurd (from_c y r t py m (rw e at i) (rw f at j) h)
      by (there n e) (here o f) = absurd (to_c x r t px n (rw e at i) (rw f at j) h)

  seen_after : SeenIn D
  unfolding settled
  seen_after x y r px py i h =
      let o = others x r px (in_covered r (D.stamp x).update i) in
      let old = back_id y r h in
      elim (is_where c x) [
        | there n e ↦ still y r o (q.seen x y r px py (rw e at i) old)
        | here p e ↦ elim (is_where c y) [
          | here k f ↦ rw f (in_covered r (settle s (C.stamp c).update) (rw e at i))
          | there m f ↦
              ⊎_elim (λ l. still y r o (q.seen c y r pc py l.0 old)) (λ l. absurd (away y py m (rw l.0 at old)))
              (settle_in s (C.stamp c).update r (rw e at i))
        ]
      ]

  module _ (x : ℕ) (S : List ℕ) (px : C.present x ≡ true) (g : AllPresent C S) (some : 1 ≤ length S) where
    known_after : Within D x S → Under D x S
    known_after w r i =
        let h = in_covered r (D.stamp x).update i in
        among (λ b j k. still b r (others x r px h) k) (under_covered C x S (q.known x S px g some w) r (back x r h))

    -- a string that is covered no longer was s0 or s1 in c: there s is asked for it, and only c covers s
    lost : Under D x S → (r : Str) → In r (C.stamp x).update → covered r (D.stamp x).update ≡ false → Covers C S r
    unfolding settled
    lost u r i h =
        let here-still = in_covered r (C.stamp x).update i in
        elim (is_where c x) [
          | there n f ↦ absurd (clash here-still (rw f at h))
          | here p f ↦ elim (way s (C.stamp c).update) [
            | lacks k e ↦ absurd (clash (rw p at here-still) (rw (f, e) at h))
            | holds k e ↦
                among
                (λ y j l. elim (is_where c y) [
                  | here o z ↦ rw (o ∙ sym p) here-still
                  | there n z ↦ absurd (away y (g y j) n (under_id y s (g y j) (rw z at l)))
                ])
                (u s (rw f (in_settle s (C.stamp c).update s (inr (refl, k)))))
          ]
        ]

    -- one that is covered still is asked as before
    shown_after : Under D x S → Within D x S
    shown_after u =
        q.shown x S px g some
        (λ r i. ⊎_elim (λ h. among (λ b j k. back b r k) (under_covered D x S u r h)) (lost u r i) (decide (covered r (D.stamp x).update)))

  pub settle_sound : Sound (settled_at c s C)
  settle_sound = record {
    proper = proper_after;
    nonempty = nonempty_after;
    apart = apart_after;
    seen = seen_after;
    fresh = q.fresh;
    known = known_after;
    shown = shown_after;
  }
