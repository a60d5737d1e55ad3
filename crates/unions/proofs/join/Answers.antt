-- `unions::join` meets its contract: where both buffers have room its four parts, one after the other, are the definition, since none of them leaves
-- more words than it is given. Assumes nothing.
use Rattle.std.specs.declared.option.Option.TheVariants.{None, Some}
use Rattle.laws.proofs.Library.{◌≡◌, refl, sym, ap, ap₂, ◌∙◌, true, false, and-false, List, ◌++◌, ◌⊎◌, inl, inr, ℕ, ◌+◌, ◌≤◌, ◌<◌, le-leb}
use Rattle.laws.proofs.Library.{lt-leb, leb, length, take, drop, take_at, drop_at}
use Rattle.rules.specs.Packed.{over}
use Rattle.laws.proofs.Tests.{and_both}
use Rattle.unions.specs.Unions.{cleared, merge, reduced, lifted, joined_id, joined_update, can_join, joined_counts, joined_update_in, joined_id_in}
use Rattle.unions.proofs.Counts.{reduced_few, lifted_few}
use Rattle.unions.proofs.Buffers.{cleared_length, cleared_front}
use Rattle.unions.proofs.join.Goals as goal
use Rattle.unions.proofs.join.Goals.{then-update-a-via-then-update-a, then-update-a-via-else-update-a+then-id-a}

-- the words w at the front of a buffer, and what is left of them written in their place
module _ (w out f : List ℕ) (n : ℕ) (count : n ≡ length w) (here : f ≡ over w out) where
  front_is : take n f ≡ w
  front_is = ap₂ take count here ∙ take_at w (drop (length w) out) (length w) refl

  behind_is : drop n f ≡ drop (length w) out
  behind_is = ap₂ drop count here ∙ drop_at w (drop (length w) out) (length w) refl

  left_in : (left : List ℕ → List ℕ) → length (left w) ≤ length w → (part : List ℕ) → part ≡ cleared (length (take n f)) (left (take n f))
      → part ++ drop n f ≡ over (cleared (length w) (left w)) out
  left_in left few part e =
      rw (e, front_is, behind_is)
      (ap (λ (k : ℕ). cleared (length w) (left w) ++ drop k out) (sym (cleared_length (length w) (left w) few)))

module _ (u i v j update id : List ℕ) where
  abbrev Is : ℕ → ℕ → List ℕ → List ℕ → Type 0
  Is c k us is =
      (Some (record { update = c; id = k }) ≡ joined_counts u i v j update id) × (us ≡ joined_update_in u i v j update id)
      × (is ≡ joined_id_in u i v j update id)

  -- the buffers and counts that the parts leave, one after the other
  parts : (ids is updates us : List ℕ) (n k m c : ℕ) → can_join u i v j update id ≡ true
      → n ≡ length (merge i j) → ids ≡ over (merge i j) id
      → k ≡ length (reduced (take n ids)) → is ≡ cleared (length (take n ids)) (reduced (take n ids))
      → m ≡ length (merge u v) → updates ≡ over (merge u v) update
      → c ≡ length (lifted (take k (is ++ drop n ids)) (take m updates))
      → us ≡ cleared (length (take m updates)) (lifted (take k (is ++ drop n ids)) (take m updates))
      → Is c k (us ++ drop m updates) (is ++ drop n ids)
  unfolding joined_counts joined_update_in joined_id_in joined_update joined_id
  parts ids is updates us n k m c can a b d e f g h l =
      let p = d ∙ ap (λ (z : List ℕ). length (reduced z)) (front_is (merge i j) id ids n a b) in
      let q = left_in (merge i j) id ids n a b reduced (reduced_few (merge i j)) is e in
      let r : take k (is ++ drop n ids) ≡ reduced (merge i j) = ap₂ take p q ∙ cleared_front (length (merge i j)) (reduced (merge i j)) id in
      let s = h ∙ ap₂ (λ (y z : List ℕ). length (lifted y z)) r (front_is (merge u v) update updates m f g) in
      let t = left_in (merge u v) update updates m f g (lifted (take k (is ++ drop n ids))) (lifted_few _ (merge u v)) us l in
      rw can (
        ap₂ (λ (x y : ℕ). Some (record { update = x; id = y })) s p,
        t ∙ ap (λ (z : List ℕ). over (cleared (length (merge u v)) (lifted z (merge u v))) update) r,
        q,
      )

  -- a buffer is too short
  none : (length update < length u + length v) ⊎ (length id < length i + length j)
      → (None ≡ joined_counts u i v j update id) × (update ≡ joined_update_in u i v j update id) × (id ≡ joined_id_in u i v j update id)
  unfolding joined_counts joined_update_in joined_id_in
  none h = rw (no h) (refl, refl, refl)
    where
      no : (length update < length u + length v) ⊎ (length id < length i + length j) → can_join u i v j update id ≡ false
      no (inl e) = rw (lt-leb (length u + length v) (length update) e)
      no (inr e) = rw (lt-leb (length i + length j) (length id) e) (and-false (leb (length u + length v) (length update)))

pub returns-then-update-a : goal.returns-then-update-a
returns-then-update-a c =
    none c.args.a.update.now c.args.a.id.now c.args.b.update.now c.args.b.id.now c.args.update.now c.args.id.now
    (elim c.then-update-a.branch [ then-update-a-via-then-update-a w ↦ inl w.if-update-a.true | then-update-a-via-else-update-a+then-id-a w ↦ inr w.if-id-a.true ])

pub returns : goal.returns
returns c =
    parts c.args.a.update.now c.args.a.id.now c.args.b.update.now c.args.b.id.now c.args.update.now c.args.id.now c.unite-both_ids.new.out c.reduce-ids.new.id
    c.unite-both_updates.new.out c.lift-updates.new.update c.unite-both_ids.result c.reduce-ids.result c.unite-both_updates.result c.lift-updates.result
    (and_both (le-leb _ _ c.if-update-a.false) (le-leb _ _ c.if-id-a.false))
    c.unite-both_ids.ensures.0 c.unite-both_ids.ensures.1 c.reduce-ids.ensures.0 c.reduce-ids.ensures.1
    c.unite-both_updates.ensures.0 c.unite-both_updates.ensures.1 c.lift-updates.ensures.0 c.lift-updates.ensures.1
