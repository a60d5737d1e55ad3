-- An update keeps a configuration sound: the new event is in no other copy, no other copy covers a string of the updated copy's id,
-- and what its id covers of another's update name it had seen before (Invariant 4.6). Assumes nothing.
use Rattle.laws.proofs.Library.{◌≡◌, refl, sym, ◌∙◌, subst, true, List, ◌∷◌, ◌⊎◌, inl, inr, ⊎_elim, ℕ, ◌≤◌, ◌<◌, arith, length}
use Rattle.rules.specs.Strings.{Str}
use Rattle.rules.specs.Names.{covered}
use Rattle.rules.specs.Stamps.{update}
use Rattle.laws.proofs.Tests.{In}
use Rattle.laws.proofs.Below.{covered_some, in_covered, covered_below, below_each}
use Rattle.laws.proofs.Steps.{Proper, update_proper}
use Rattle.histories.specs.Configurations.{AllPresent, Config, Sound, Under, Within, updated}
use Rattle.histories.proofs.Config.{here, there, is_where, among, SeenIn}

module _ (C : Config) (q : Sound C) (a : ℕ) (pa : C.present a ≡ true) where
  abbrev D : Config
  D = updated a C

  same_id : (x : ℕ) → (D.stamp x).id ≡ (C.stamp x).id
  unfolding update
  same_id x = elim (is_where a x) [ here p e ↦ rw (e, p) | there n e ↦ rw e ]

  -- the update name covers no less
  wider : (x : ℕ) (r : Str) → covered r (C.stamp x).update ≡ true → covered r (D.stamp x).update ≡ true
  unfolding update
  wider x r h = elim (is_where a x) [
    | here p e ↦ rw e (covered_below r (C.stamp a).update (C.stamp a).id (rw p at h) (q.proper a pa).below_id)
    | there n e ↦ rw e h
  ]

  -- and of another copy's strings no more
  narrower : (x y : ℕ) (r : Str) → C.present x ≡ true → In r (C.stamp x).update → covered r (D.stamp y).update ≡ true
      → covered r (C.stamp y).update ≡ true
  unfolding update
  narrower x y r px i h = elim (is_where a y) [ here p e ↦ rw p (q.seen x a r px pa i (rw e at h)) | there n e ↦ rw e at h ]

  more : (x e : ℕ) → In e (C.events x) → In e (D.events x)
  more x e i = elim (is_where a x) [ here p c ↦ rw c (inr (rw p at i)) | there n c ↦ rw c i ]

  -- a copy has the new event or what it had
  event : (y e : ℕ) → In e (D.events y) → ((y ≡ a) × (e ≡ C.next)) ⊎ In e (C.events y)
  event y e j = elim (is_where a y) [
    | here p c ↦ ⊎_elim (λ h. inl (p, h)) (λ h. inr (rw p h)) (let k : In e (C.next ∷ C.events a) = rw c at j in k)
    | there n c ↦ inr (rw c at j)
  ]

  -- an event of before, that a copy has now, it had before
  less : (x y e : ℕ) → C.present x ≡ true → In e (C.events x) → In e (D.events y) → In e (C.events y)
  less x y e px i j = ⊎_elim (λ h. absurd (let l = q.fresh x e px i in omega arith)) (λ h. h) (event y e j)

  -- only a has seen the new event
  newest : (y : ℕ) → C.present y ≡ true → In C.next (D.events y) → y ≡ a
  newest y py i = ⊎_elim (λ h. h.0) (λ h. absurd (let l = q.fresh y C.next py h in omega arith)) (event y C.next i)

  -- only a itself covers a string of a's id
  own : (y : ℕ) (r : Str) → C.present y ≡ true → In r (C.stamp a).id → covered r (C.stamp y).id ≡ true → y ≡ a
  own y r py i h = let t = covered_some r (C.stamp y).id h in sym (q.apart a y r t.one pa py i t.inside t.passes).0

  own_update : (y : ℕ) (r : Str) → C.present y ≡ true → In r (C.stamp a).id → covered r (D.stamp y).update ≡ true → y ≡ a
  own_update y r py i h = elim (is_where a y) [
    | here p e ↦ p
    | there n e ↦ own y r py i (covered_below r (C.stamp y).update (C.stamp y).id (rw e at h) (q.proper y py).below_id)
  ]

  -- a covers each string of its id
  a_covers : (y : ℕ) (r : Str) → y ≡ a → In r (C.stamp a).id → covered r (D.stamp y).update ≡ true
  unfolding update
  a_covers y r p i = elim (is_where a y) [ here _ e ↦ rw e (in_covered r (C.stamp a).id i) | there n e ↦ absurd (n p) ]

  proper_after : (x : ℕ) → C.present x ≡ true → Proper (D.stamp x)
  proper_after x px = elim (is_where a x) [ here p e ↦ rw e (update_proper (C.stamp a) (q.proper a pa)) | there n e ↦ rw e (q.proper x px) ]

  seen_after : SeenIn D
  unfolding update
  seen_after x y r px py i h =
      let old : covered r (C.stamp y).id ≡ true = rw (same_id y) at h in
      elim (is_where a x) [
        | here p e ↦ let j : In r (C.stamp a).id = rw e at i in a_covers y r (own y r py j old) j
        | there n e ↦ wider y r (q.seen x y r px py (rw e at i) old)
      ]

  fresh_after : (x e : ℕ) → C.present x ≡ true → In e (D.events x) → e < D.next
  fresh_after x e px i = ⊎_elim (λ h. omega arith) (λ h. let l = q.fresh x e px h in omega arith) (event x e i)

  module _ (x : ℕ) (S : List ℕ) (px : C.present x ≡ true) (g : AllPresent C S) (some : 1 ≤ length S) where
    known_after : Within D x S → Under D x S
    unfolding update
    known_after w r i = elim (is_where a x) [
      | here p c ↦ among (λ b j h. a_covers b r (newest b (g b j) h) (rw c at i)) (w C.next (rw c (inl refl)))
      | there n c ↦
          let old : Within C x S = λ e j. among (λ b k h. less x b e px j h) (w e (more x e j)) in
          among (λ b k h. wider b r h) (q.known x S px g some old r (rw c at i))
    ]

    shown_after : Under D x S → Within D x S
    unfolding update
    shown_after u e i = elim (is_where a x) [
      | here p c ↦
          let s = q.nonempty a pa in
          let t = covered_some s.0 (C.stamp a).id (below_each (C.stamp a).update (C.stamp a).id (q.proper a pa).below_id s.0 s.1) in
          among (λ b k h. subst (λ (z : ℕ). In e (D.events z)) (p ∙ sym (own_update b t.one (g b k) t.inside h)) i) (u t.one (rw c t.inside))
      | there n c ↦
          let old : Under C x S = λ r j. among (λ b k h. narrower x b r px j h) (u r (rw c j)) in
          among (λ b k h. more b e h) (q.shown x S px g some old e (rw c at i))
    ]

  pub update_sound : Sound (updated a C)
  update_sound = record {
    proper = proper_after;
    nonempty = λ x p.
        let s = q.nonempty x p in
        let t = covered_some s.0 (D.stamp x).update (wider x s.0 (in_covered s.0 (C.stamp x).update s.1)) in
        (t.one, t.inside);
    apart = λ x y s t p o i j. q.apart x y s t p o (rw (same_id x) at i) (rw (same_id y) at j);
    seen = seen_after;
    fresh = fresh_after;
    known = known_after;
    shown = shown_after;
  }
