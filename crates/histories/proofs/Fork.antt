-- A fork keeps a configuration sound: update names and events are copied, so the new slot reads as the old one; and what the id strings
-- cover grows by those strings alone, which no update name covers. Assumes nothing.
use Rattle.laws.proofs.Library.{◌≡◌, refl, sym, ap, ◌∙◌, subst, Bool, true, false, cond, [], ◌∷◌, ◌⊎◌, ⊎_elim, ℕ}
use Rattle.rules.specs.Strings.{Str, prefix, ◌▹◌}
use Rattle.rules.specs.Names.{Name, covered}
use Rattle.rules.specs.Stamps.{append, fork}
use Rattle.laws.proofs.Tests.{clash, In}
use Rattle.laws.proofs.Prefix.{prefix_trans, prefix_grown, prefix_of_grown, grown_not_prefix}
use Rattle.laws.proofs.Below.{covered_some, below_each}
use Rattle.laws.proofs.Fork.{grown_is, Grown, append_in, covered_append}
use Rattle.laws.proofs.Steps.{Proper}
use Rattle.laws.proofs.Lawful.{fork_proper}
use Rattle.histories.specs.Configurations.{Config, Sound, forked, put}
use Rattle.histories.proofs.Config.{here, there, is_where, ApartIn, SeenIn, Moved, moved_reads, reads_sound}

-- a string and the one that it was grown from
root_prefix : (d : Bool) (i : Name) (x : Str) (g : Grown d i x) → prefix g.root x ≡ true
root_prefix d i x g = rw g.grown (prefix_grown g.root d)

prefix_of_root : (d : Bool) (i : Name) (x : Str) (g : Grown d i x) (r : Str) → prefix r x ≡ true → (prefix r g.root ≡ true) ⊎ (r ≡ g.root ▹ d)
prefix_of_root d i x g r p = prefix_of_grown r g.root d (rw g.grown at p)

-- where a string that t extends can be t alone, t does not extend it by a digit
too_long_lem : (s t : Str) (d : Bool) → (prefix s t ≡ true → s ≡ t) → prefix (s ▹ d) t ≡ true → ⊥
too_long_lem s t d f p =
    let k : s ≡ t = f (prefix_trans s (s ▹ d) t (prefix_grown s d) p) in
    clash (rw (← k) at p) (grown_not_prefix s d)

module _ (C : Config) (q : Sound C) (a b : ℕ) (pa : C.present a ≡ true) where
  abbrev D : Config
  D = forked a b C

  -- where each slot's update name and events come from
  abbrev old : ℕ → ℕ
  old = put b a (λ x. x)

  -- the slot of the branch d
  abbrev half : Bool → ℕ
  half d = cond d b a

  moved : Moved C D old
  unfolding fork
  moved = record {
    slots = λ x p. elim (is_where b x) [ here e c ↦ rw c pa | there n c ↦ rw c (rw c at p) ];
    updates = λ x p. elim (is_where b x) [
      | here e c ↦ rw c
      | there n c ↦ elim (is_where a x) [ here e k ↦ rw (c, k, e) | there m k ↦ rw (c, k) ]
    ];
    sets = λ x p. elim (is_where b x) [ here e c ↦ rw c | there n c ↦ rw c ];
    next = refl;
  }

  -- a slot holds a branch of a, or what it held
  data Place (x : ℕ) : Type 0 where
    branch : (d : Bool) → x ≡ half d → D.stamp x ≡ fork d (C.stamp a) → Place x
    other : (x ≡ a → ⊥) → C.present x ≡ true → D.stamp x ≡ C.stamp x → Place x

  place : (x : ℕ) → D.present x ≡ true → Place x
  place x p = elim (is_where b x) [
    | here e c ↦ branch true e (rw c)
    | there n c ↦ elim (is_where a x) [ here e k ↦ branch false e (rw (c, k)) | there m k ↦ other m (rw c at p) (rw (c, k)) ]
  ]

  proper_after : (x : ℕ) → D.present x ≡ true → Proper (D.stamp x)
  proper_after x p = elim (place x p) [ branch d h e ↦ rw e (fork_proper d (C.stamp a) (q.proper a pa)) | other n o e ↦ rw e (q.proper x o) ]

  -- two id strings of which one is a prefix of the other
  module _ (s t : Str) (e : prefix s t ≡ true) where
    -- a branch's string extends one of a's
    from_branch : (y : ℕ) (d : Bool) → C.present y ≡ true → In s (append d (C.stamp a).id) → In t (C.stamp y).id → a ≡ y
    from_branch y d py i j =
        let g = append_in d (C.stamp a).id s i in
        (q.apart a y g.root t pa py g.inside j (prefix_trans g.root s t (root_prefix d (C.stamp a).id s g) e)).0

    to_branch : (x : ℕ) (d : Bool) → C.present x ≡ true → In s (C.stamp x).id → In t (append d (C.stamp a).id) → a ≡ x
    to_branch x d px i j =
        let g = append_in d (C.stamp a).id t j in
        ⊎_elim (λ h. sym (q.apart x a s g.root px pa i g.inside h).0)
        (λ h. (q.apart a x g.root s pa px g.inside i (rw h (prefix_grown g.root d))).0)
        (prefix_of_root d (C.stamp a).id t g s e)

    both_branches : (c d : Bool) → In s (append c (C.stamp a).id) → In t (append d (C.stamp a).id) → (c ≡ d) × (s ≡ t)
    both_branches c d i j =
        let f = append_in c (C.stamp a).id s i in
        let g = append_in d (C.stamp a).id t j in
        ⊎_elim
        (λ h. let p : prefix (f.root ▹ c) g.root ≡ true = subst (λ (z : Str). prefix z g.root ≡ true) f.grown h in
        absurd (too_long_lem f.root g.root c (λ l. (q.apart a a f.root g.root pa pa f.inside g.inside l).1) p))
        (λ h. ((grown_is f.root g.root c d (sym f.grown ∙ h)).1, h ∙ sym g.grown))
        (prefix_of_root d (C.stamp a).id t g s e)

  apart_after : ApartIn D
  unfolding fork
  apart_after x y s t px py i j e = by (place x px) (place y py)
    where
      by : Place x → Place y → (x ≡ y) × (s ≡ t)
      by (other n o h) (other m p k) = q.apart x y s t o p (rw h at i) (rw k at j) e
      by (branch d f h) (other m p k) = absurd (m (sym (from_branch s t e y d p (rw h at i) (rw k at j))))
      by (other n o h) (branch d g k) = absurd (n (sym (to_branch s t e x d o (rw h at i) (rw k at j))))
      by (branch c f h) (branch d g k) = let z = both_branches s t e c d (rw h at i) (rw k at j) in (f ∙ ap half z.0 ∙ sym g, z.1)

  -- an update name covers no string that the fork makes
  unused : (z : ℕ) (r : Str) (d : Bool) → C.present z ≡ true → In r (C.stamp z).update → In r (append d (C.stamp a).id) → ⊥
  unused z r d pz i j =
      let g = append_in d (C.stamp a).id r j in
      let t = covered_some r (C.stamp z).id (below_each (C.stamp z).update (C.stamp z).id (q.proper z pz).below_id r i) in
      let p : prefix (g.root ▹ d) t.one ≡ true = subst (λ (x : Str). prefix x t.one ≡ true) g.grown t.passes in
      too_long_lem g.root t.one d (λ l. (q.apart a z g.root t.one pa pz g.inside t.inside l).1) p

  seen_after : SeenIn D
  unfolding fork
  seen_after x y r px py i h =
      let z : ℕ = old x in
      let pz : C.present z ≡ true = moved.slots x px in
      let k : In r (C.stamp z).update = rw (moved.updates x px) at i in
      elim (place y py) [
        | other n o e ↦ rw e (q.seen z y r pz o k (rw e at h))
        | branch d f e ↦
            rw e
            (⊎_elim (λ u. q.seen z a r pz pa k u) (λ u. absurd (unused z r d pz k u))
            (covered_append d r (C.stamp a).id (let v : covered r (append d (C.stamp a).id) ≡ true = rw e at h in v)))
      ]

  pub fork_sound : Sound (forked a b C)
  fork_sound = reads_sound C D (λ x. old x ∷ []) (moved_reads C D old moved) q proper_after apart_after seen_after
