-- Configurations: what each slot holds, with no limits, and what every history keeps of it (Invariants 4.4 to 4.6 and Proposition 5.1
-- of the paper). It survives forgetting slots, and a step that moves copies without changing what they know. Assumes nothing.
use Rattle.laws.proofs.Library.{◌≡◌, refl, sym, ap, ◌∙◌, subst, Bool, true, false, List, [], ◌∷◌, ◌++◌, inl, inr, ⊎_elim, ℕ, ◌≤◌, ◌<◌, arith, eqb, length}
use Rattle.laws.proofs.Library.{eqb-true, eqb-false}
use Rattle.rules.specs.Strings.{Str, prefix}
use Rattle.rules.specs.Names.{all, rising, covered, below}
use Rattle.rules.specs.Stamps.{Stamp}
use Rattle.laws.proofs.Tests.{decide, In, in_filled, in_left, in_right, in_append}
use Rattle.laws.proofs.Below.{below_each, covered_below, covered_some, some_covered, in_covered, covered_down, below_refl}
use Rattle.laws.proofs.Steps.{Proper}
use Rattle.histories.specs.Configurations.{AllPresent, Among, Config, Covers, Seen, Sound, Under, Within, initial, restricted}

-- slot x is slot a, or another
pub data Where (a x : ℕ) : Type 0 where
  here : x ≡ a → eqb x a ≡ true → Where a x
  there : (x ≡ a → ⊥) → eqb x a ≡ false → Where a x

pub is_where : (a x : ℕ) → Where a x
is_where a x = elim (decide (eqb x a)) [ inl e ↦ here (eqb-true x a e) e | inr e ↦ there (eqb-false x a e) e ]

-- and what passes one test there passes another
pub among : {S : List ℕ} {P Q : ℕ → Type 0} → ((b : ℕ) → In b S → P b → Q b) → Among S P → Among S Q
among f a = record { slot = a.slot; inside = a.inside; holds = f a.slot a.inside a.holds }

-- a string that x's update name covers is below that of S too
pub under_covered : (C : Config) (x : ℕ) (S : List ℕ) → Under C x S → (r : Str) → covered r (C.stamp x).update ≡ true → Covers C S r
under_covered C x S u r h =
    let t = covered_some r (C.stamp x).update h in
    among (λ b i k. covered_down r t.one (C.stamp b).update t.passes k) (u t.one t.inside)

-- Invariants 4.5 and 4.6
abbrev pub ApartIn : Config → Type 0
ApartIn C = (a b : ℕ) (s t : Str) → C.present a ≡ true → C.present b ≡ true → In s (C.stamp a).id → In t (C.stamp b).id → prefix s t ≡ true
    → (a ≡ b) × (s ≡ t)

abbrev pub SeenIn : Config → Type 0
SeenIn C = (a b : ℕ) (r : Str) → C.present a ≡ true → C.present b ≡ true → In r (C.stamp a).update → covered r (C.stamp b).id ≡ true
    → covered r (C.stamp b).update ≡ true

-- ---- copies that moved: each slot of D holds what some slots of C held, taken together

pub record Reads (C D : Config) (old : ℕ → List ℕ) : Type 0 where
  pub slots : (x y : ℕ) → D.present x ≡ true → In y (old x) → C.present y ≡ true
  pub one : (x : ℕ) → D.present x ≡ true → (y : ℕ) × In y (old x)
  pub events_back : (x e : ℕ) → D.present x ≡ true → In e (D.events x) → Seen C (old x) e
  pub events_on : (x y e : ℕ) → D.present x ≡ true → In y (old x) → In e (C.events y) → In e (D.events x)
  pub update_back : (x : ℕ) (r : Str) → D.present x ≡ true → In r (D.stamp x).update → Among (old x) (λ y. In r (C.stamp y).update)
  pub update_on : (x y : ℕ) → D.present x ≡ true → In y (old x) → below (C.stamp y).update (D.stamp x).update ≡ true
  pub next : D.next ≡ C.next

pub in_one : {A : Type 0} (x y : A) → In y (x ∷ []) → y ≡ x
in_one x y i = ⊎_elim (λ e. e) (λ h. absurd h) i

-- the lists of some slots, one after the other: of old slots, or of events
unfoldable pub gather : (ℕ → List ℕ) → List ℕ → List ℕ
gather old [] = []
gather old (x ∷ S) = old x ++ gather old S

pub in_gather : (old : ℕ → List ℕ) (S : List ℕ) (x y : ℕ) → In x S → In y (old x) → In y (gather old S)
unfolding gather
in_gather old [] x y i j = absurd i
in_gather old (z ∷ S) x y i j =
    ⊎_elim (λ e. in_left y (old z) (gather old S) (subst (λ (w : ℕ). In y (old w)) e j)) (λ h. in_right y (old z) (gather old S) (in_gather old S x y h j)) i

pub gather_in : (old : ℕ → List ℕ) (S : List ℕ) (y : ℕ) → In y (gather old S) → Among S (λ x. In y (old x))
unfolding gather
gather_in old [] y i = absurd i
gather_in old (z ∷ S) y i =
    ⊎_elim (λ h. record { slot = z; inside = inl refl; holds = h })
    (λ h. let a = gather_in old S y h in record { slot = a.slot; inside = inr a.inside; holds = a.holds })
    (in_append y (old z) (gather old S) i)

first_of : (S : List ℕ) → 1 ≤ length S → (b : ℕ) × In b S
first_of [] h = absurd (omega arith)
first_of (b ∷ S) h = (b, inl refl)

module _ (C D : Config) (old : ℕ → List ℕ) (m : Reads C D old) (q : Sound C) where
  -- what D's name covers, one of the old names covers
  covered_back : (x : ℕ) (r : Str) → D.present x ≡ true → covered r (D.stamp x).update ≡ true → Covers C (old x) r
  covered_back x r p e =
      let t = covered_some r (D.stamp x).update e in
      among (λ y i h. some_covered r (C.stamp y).update t.one h t.passes) (m.update_back x t.one p t.inside)

  module _ (S : List ℕ) (g : AllPresent D S) where
    all_back : AllPresent C (gather old S)
    all_back y i = let a = gather_in old S y i in m.slots a.slot y (g a.slot a.inside) a.holds

    some_back : 1 ≤ length S → 1 ≤ length (gather old S)
    some_back h =
        let b = first_of S h in
        let y = m.one b.0 (g b.0 b.1) in
        in_filled y.0 (gather old S) (in_gather old S b.0 y.0 b.1 y.1)

    -- what a slot of S passes by what its old slots pass, one of all these passes
    back : {P Q : ℕ → Type 0} → ((x : ℕ) → D.present x ≡ true → Q x → Among (old x) P) → Among S Q → Among (gather old S) P
    back f a =
        let b = f a.slot (g a.slot a.inside) a.holds in
        record { slot = b.slot; inside = in_gather old S a.slot b.slot a.inside b.inside; holds = b.holds }

    on : {P Q : ℕ → Type 0} → ((x y : ℕ) → D.present x ≡ true → In y (old x) → P y → Q x) → Among (gather old S) P → Among S Q
    on f a =
        let b = gather_in old S a.slot a.inside in
        record { slot = b.slot; inside = b.inside; holds = f b.slot a.slot (g b.slot b.inside) b.holds a.holds }

  reads_nonempty : (x : ℕ) → D.present x ≡ true → (s : Str) × In s (D.stamp x).update
  reads_nonempty x p =
      let y = m.one x p in
      let s = q.nonempty y.0 (m.slots x y.0 p y.1) in
      let e = below_each (C.stamp y.0).update (D.stamp x).update (m.update_on x y.0 p y.1) s.0 s.1 in
      let t = covered_some s.0 (D.stamp x).update e in
      (t.one, t.inside)

  reads_fresh : (x e : ℕ) → D.present x ≡ true → In e (D.events x) → e < D.next
  reads_fresh x e p i =
      let a = m.events_back x e p i in
      subst (λ (n : ℕ). e < n) (sym m.next) (q.fresh a.slot e (m.slots x a.slot p a.inside) a.holds)

  -- one more event that S has seen is one more of each old slot, and so with the strings
  reads_known : (x : ℕ) (S : List ℕ) → D.present x ≡ true → AllPresent D S → 1 ≤ length S → Within D x S → Under D x S
  reads_known x S p g h w r i =
      let a = m.update_back x r p i in
      on S g (λ y z o j k. covered_below r (C.stamp z).update (D.stamp y).update k (m.update_on y z o j))
      (q.known a.slot (gather old S) (m.slots x a.slot p a.inside) (all_back S g) (some_back S g h)
      (λ e j. back S g (λ y o k. m.events_back y e o k) (w e (m.events_on x a.slot e p a.inside j))) r a.holds)

  reads_shown : (x : ℕ) (S : List ℕ) → D.present x ≡ true → AllPresent D S → 1 ≤ length S → Under D x S → Within D x S
  reads_shown x S p g h u e i =
      let a = m.events_back x e p i in
      on S g (λ y z o j k. m.events_on y z e o j k)
      (q.shown a.slot (gather old S) (m.slots x a.slot p a.inside) (all_back S g) (some_back S g h)
      (λ r j. back S g (λ y o k. covered_back y r o k) (under_covered D x S u r
      (below_each (C.stamp a.slot).update (D.stamp x).update (m.update_on x a.slot p a.inside) r j))) e a.holds)

  -- the rest of what a sound configuration has
  pub reads_sound : ((a : ℕ) → D.present a ≡ true → Proper (D.stamp a)) → ApartIn D → SeenIn D → Sound D
  reads_sound proper apart seen = record {
    proper = proper;
    nonempty = reads_nonempty;
    apart = apart;
    seen = seen;
    fresh = reads_fresh;
    known = reads_known;
    shown = reads_shown;
  }

-- ---- each slot of D holds what one slot of C held

pub record Moved (C D : Config) (old : ℕ → ℕ) : Type 0 where
  pub slots : (x : ℕ) → D.present x ≡ true → C.present (old x) ≡ true
  pub updates : (x : ℕ) → D.present x ≡ true → (D.stamp x).update ≡ (C.stamp (old x)).update
  pub sets : (x : ℕ) → D.present x ≡ true → D.events x ≡ C.events (old x)
  pub next : D.next ≡ C.next

pub moved_reads : (C D : Config) (old : ℕ → ℕ) → Moved C D old → Reads C D (λ x. old x ∷ [])
moved_reads C D old m = record {
  slots = λ x y p i. rw (in_one (old x) y i) (m.slots x p);
  one = λ x p. (old x, inl refl);
  events_back = λ x e p i. record { slot = old x; inside = inl refl; holds = rw (m.sets x p) at i };
  events_on = λ x y e p i j. rw (m.sets x p) (rw (in_one (old x) y i) at j);
  update_back = λ x r p i. record { slot = old x; inside = inl refl; holds = rw (m.updates x p) at i };
  update_on = λ x y p i. rw (m.updates x p, in_one (old x) y i) (below_refl (C.stamp (old x)).update);
  next = m.next;
}

-- ---- forgetting slots

-- D has slots of C only, and there what C has
pub record Part (C D : Config) : Type 0 where
  pub slots : (x : ℕ) → D.present x ≡ true → C.present x ≡ true
  pub stamps : (x : ℕ) → D.present x ≡ true → D.stamp x ≡ C.stamp x
  pub sets : (x : ℕ) → D.present x ≡ true → D.events x ≡ C.events x
  pub next : D.next ≡ C.next

pub sound_part : (C D : Config) → Part C D → Sound C → Sound D
sound_part C D m q =
    reads_sound C D (λ x. x ∷ [])
    (moved_reads C D (λ x. x)
    (record { slots = m.slots; updates = λ x p. ap (λ (z : Stamp). z.update) (m.stamps x p); sets = m.sets; next = m.next })) q
    (λ a p. rw (m.stamps a p) (q.proper a (m.slots a p)))
    (λ a b s t p o i j. q.apart a b s t (m.slots a p) (m.slots b o) (rw (m.stamps a p) at i) (rw (m.stamps b o) at j))
    (λ a b r p o i e. rw (m.stamps b o) (q.seen a b r (m.slots a p) (m.slots b o) (rw (m.stamps a p) at i) (rw (m.stamps b o) at e)))

-- what absent slots hold makes no difference
pub sound_same : (C D : Config) → ((x : ℕ) → D.present x ≡ C.present x) → ((x : ℕ) → C.present x ≡ true → D.stamp x ≡ C.stamp x)
    → ((x : ℕ) → C.present x ≡ true → D.events x ≡ C.events x) → D.next ≡ C.next → Sound C → Sound D
sound_same C D f g h n =
    sound_part C D
    (record { slots = λ x p. sym (f x) ∙ p; stamps = λ x p. g x (sym (f x) ∙ p); sets = λ x p. h x (sym (f x) ∙ p); next = n })

pub sound_restrict : (C : Config) (p : ℕ → Bool) → ((x : ℕ) → p x ≡ true → C.present x ≡ true) → Sound C → Sound (restricted p C)
sound_restrict C p f = sound_part C (restricted p C) (record { slots = f; stamps = λ x i. refl; sets = λ x i. refl; next = refl })

-- ---- the first configuration

pub sound_start : Sound initial
unfolding rising all
sound_start = record {
  proper = λ a p. record { update_rising = refl; id_rising = refl; below_id = below_refl ([] ∷ []) };
  nonempty = λ a p. ([], inl refl);
  apart = λ a b s t p o i j e. (eqb-true a 0 p ∙ sym (eqb-true b 0 o), in_one [] s i ∙ sym (in_one [] t j));
  seen = λ a b r p o i e. e;
  fresh = λ a e p i. absurd i;
  known = λ x S p g h w r i. let b = first_of S h in record { slot = b.0; inside = b.1; holds = in_covered r ([] ∷ []) i };
  shown = λ x S p g h u e i. absurd i;
}
