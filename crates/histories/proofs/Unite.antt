-- The unreduced join of two copies keeps a configuration sound: events and what names cover both become unions, so the slot that is left
-- reads as the two slots of before. Assumes nothing.
use Rattle.laws.proofs.Library.{◌≡◌, refl, sym, ap, ◌∙◌, true, false, List, [], ◌∷◌, ◌⊎◌, inl, inr, ⊎_elim, ℕ, eqb}
use Rattle.rules.specs.Strings.{Str}
use Rattle.rules.specs.Names.{Name, below, union}
use Rattle.rules.specs.Stamps.{Stamp, unite}
use Rattle.laws.proofs.Tests.{no, In, in_left, in_right, in_append}
use Rattle.laws.proofs.Below.{covered_some, some_covered, covered_below, below_refl}
use Rattle.laws.proofs.Union.{union_top, below_union_left, below_union_right}
use Rattle.laws.proofs.Steps.{Proper}
use Rattle.laws.proofs.Lawful.{unite_proper}
use Rattle.histories.specs.Configurations.{Among, Config, Sound, put, united}
use Rattle.histories.proofs.Config.{Where, here, there, is_where, ApartIn, SeenIn, Reads, in_one, reads_sound}

in_two : {A : Type 0} (x y z : A) → In z (x ∷ y ∷ []) → (z ≡ x) ⊎ (z ≡ y)
in_two x y z i = ⊎_elim (λ e. inl e) (λ h. inr (in_one y z h)) i

module _ (C : Config) (q : Sound C) (a b : ℕ) (pa : C.present a ≡ true) (pb : C.present b ≡ true) where
  abbrev D : Config
  D = united a b C

  -- whose names and events a slot has
  abbrev old : ℕ → List ℕ
  old = put a (a ∷ b ∷ []) (λ x. x ∷ [])

  -- and where those of a slot went
  abbrev new : ℕ → ℕ
  new = put b a (λ x. x)

  -- a slot holds the two united, or what it held
  data Place (x : ℕ) : Type 0 where
    both : x ≡ a → eqb x a ≡ true → Place x
    other : C.present x ≡ true → eqb x a ≡ false → eqb x b ≡ false → Place x

  place : (x : ℕ) → D.present x ≡ true → Place x
  place x p = elim (is_where a x) [
    | here e c ↦ both e c
    | there n c ↦ elim (is_where b x) [ here e k ↦ absurd (no (rw k at p)) | there m k ↦ other (rw k at p) c k ]
  ]

  slots : (x y : ℕ) → D.present x ≡ true → In y (old x) → C.present y ≡ true
  slots x y p i = elim (place x p) [
    | both e c ↦ ⊎_elim (λ h. rw h pa) (λ h. rw h pb) (in_two a b y (rw c at i))
    | other o c k ↦ rw (in_one x y (rw c at i)) o
  ]

  owner : (x y : ℕ) → D.present x ≡ true → In y (old x) → new y ≡ x
  owner x y p i = by (place x p) (is_where b y)
    where
      by : Place x → Where b y → new y ≡ x
      by (both e c) (here f k) = rw k (sym e)
      by (both e c) (there n k) = rw k (⊎_elim (λ h. h ∙ sym e) (λ h. absurd (n h)) (in_two a b y (rw c at i)))
      by (other o c k) w = let h = in_one x y (rw c at i) in rw h (rw k)

  -- some of the two
  of_two : (P : ℕ → Type 0) → P a ⊎ P b → Among (a ∷ b ∷ []) P
  of_two P = ⊎_elim (λ h. record { slot = a; inside = inl refl; holds = h }) (λ h. record { slot = b; inside = inr (inl refl); holds = h })

  -- a name of the slot: that of two is their union
  module _ (name : Stamp → Name) (law : (x y : Stamp) → name (unite x y) ≡ union (name x) (name y)) where
    strings_back : (x : ℕ) (r : Str) → D.present x ≡ true → In r (name (D.stamp x)) → Among (old x) (λ y. In r (name (C.stamp y)))
    strings_back x r p i = elim (place x p) [
      | both e c ↦
          let m = name (C.stamp a) in
          let n = name (C.stamp b) in
          rw c (of_two (λ y. In r (name (C.stamp y))) (in_append r m n (union_top m n r (rw (law (C.stamp a) (C.stamp b)) at (rw c at i))).inside))
      | other o c k ↦ rw c (record { slot = x; inside = inl refl; holds = rw c at i })
    ]

  updates_on : (x y : ℕ) → D.present x ≡ true → In y (old x) → below (C.stamp y).update (D.stamp x).update ≡ true
  unfolding unite
  updates_on x y p i = elim (place x p) [
    | both e c ↦
        let m = (C.stamp a).update in
        let n = (C.stamp b).update in
        rw c (⊎_elim (λ h. rw h (below_union_left m n)) (λ h. rw h (below_union_right m n)) (in_two a b y (rw c at i)))
    | other o c k ↦ rw (c, in_one x y (rw c at i)) (below_refl (C.stamp x).update)
  ]

  events_back_lem : (x e : ℕ) → D.present x ≡ true → In e (D.events x) → Among (old x) (λ y. In e (C.events y))
  events_back_lem x e p i = elim (place x p) [
    | both h c ↦ rw c (of_two (λ y. In e (C.events y)) (in_append e (C.events a) (C.events b) (rw c at i)))
    | other o c k ↦ rw c (record { slot = x; inside = inl refl; holds = rw c at i })
  ]

  events_on_lem : (x y e : ℕ) → D.present x ≡ true → In y (old x) → In e (C.events y) → In e (D.events x)
  events_on_lem x y e p i j = elim (place x p) [
    | both h c ↦
        rw c
        (⊎_elim (λ k. in_left e (C.events a) (C.events b) (rw k at j)) (λ k. in_right e (C.events a) (C.events b) (rw k at j)) (in_two a b y (rw c at i)))
    | other o c k ↦ rw c (rw (in_one x y (rw c at i)) at j)
  ]

  first_old : (x : ℕ) → D.present x ≡ true → (y : ℕ) × In y (old x)
  first_old x p = elim (place x p) [ both e c ↦ (a, rw c (inl refl)) | other o c k ↦ (x, rw c (inl refl)) ]

  ids_back : (x : ℕ) (s : Str) → D.present x ≡ true → In s (D.stamp x).id → Among (old x) (λ y. In s (C.stamp y).id)
  unfolding unite
  ids_back = strings_back (λ z. z.id) (λ x y. refl)

  reads : Reads C D old
  unfolding unite
  reads = record {
    slots = slots;
    one = first_old;
    events_back = events_back_lem;
    events_on = events_on_lem;
    update_back = strings_back (λ z. z.update) (λ x y. refl);
    update_on = updates_on;
    next = refl;
  }

  proper_after : (x : ℕ) → D.present x ≡ true → Proper (D.stamp x)
  proper_after x p = elim (place x p) [
    | both e c ↦ rw c (unite_proper (C.stamp a) (C.stamp b) (q.proper a pa) (q.proper b pb))
    | other o c k ↦ rw c (q.proper x o)
  ]

  apart_after : ApartIn D
  apart_after x y s t px py i j e =
      let f = ids_back x s px i in
      let g = ids_back y t py j in
      let z = q.apart f.slot g.slot s t (slots x f.slot px f.inside) (slots y g.slot py g.inside) f.holds g.holds e in
      (sym (owner x f.slot px f.inside) ∙ ap new z.0 ∙ owner y g.slot py g.inside, z.1)

  seen_after : SeenIn D
  seen_after x y r px py i h =
      let f = reads.update_back x r px i in
      let t = covered_some r (D.stamp y).id h in
      let g = ids_back y t.one py t.inside in
      covered_below r (C.stamp g.slot).update (D.stamp y).update
      (q.seen f.slot g.slot r (slots x f.slot px f.inside) (slots y g.slot py g.inside) f.holds
      (some_covered r (C.stamp g.slot).id t.one g.holds t.passes)) (updates_on y g.slot py g.inside)

  pub unite_sound : Sound (united a b C)
  unite_sound = reads_sound C D old reads q proper_after apart_after seen_after
