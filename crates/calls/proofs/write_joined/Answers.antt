-- `calls::write_joined` meets its contract: the first words of both buffers are those of the join, and where its id is not too large the join is
-- lawful, so that they fit. Assumes nothing.
use Rattle.laws.proofs.Library.{◌≡◌, refl, sym, ap, ap₂, ◌∙◌, subst₂, true, false, List, ℕ, ◌≤◌, ◌<◌, arith, lt-ltb, le-ltb, length, take, replicate}
use Rattle.laws.proofs.Library.{length-map, length-take-le}
use Rattle.rules.specs.Limits.{narrow}
use Rattle.rules.specs.Strings.{str_of}
use Rattle.rules.specs.Names.{Name}
use Rattle.rules.specs.Stamps.{Stamp, lawful, join}
use Rattle.rules.specs.Stored.{strs_in, held}
use Rattle.rules.specs.Refusals.{first, many}
use Rattle.rules.specs.Packed.{wrote}
use Rattle.rules.specs.declared.Refusal.TheVariants.{Many}
use Rattle.laws.proofs.Library.{Err}
use Rattle.std.specs.Prelude.{Option, IsSome}
use Rattle.std.specs.declared.option.Option.TheVariants.{None, Some}
use Rattle.laws.proofs.Lawful.{lawful_join}
use Rattle.laws.proofs.Stored.{stored_lawful}
use Rattle.layout.specs.Words.{stamp_of}
use Rattle.rules.specs.declared.Counts.{Counts}
use Rattle.unions.specs.Unions.{joined_counts, joined_update_in, joined_id_in}
use Rattle.unions.proofs.Joining.{Told, Answered, room, front, records_joined}
use Rattle.writing.specs.Fits.{written_names}
use Rattle.writing.proofs.Writing.{both, lawful_fits}
use Rattle.calls.specs.Joins.{Lent, wrote_join}
use Rattle.calls.proofs.Laws.{tells_same}
use Rattle.calls.proofs.write_joined.Goals as goal

-- what the walk over the words of two stamps leaves in buffers of zeros
abbrev Joins : List ℕ → List ℕ → List ℕ → List ℕ → Type 0
Joins u i v j =
    (r : Option Counts) (us is : List ℕ) → r ≡ joined_counts u i v j (replicate room 0) (replicate room 0)
    → us ≡ joined_update_in u i v j (replicate room 0) (replicate room 0) → is ≡ joined_id_in u i v j (replicate room 0) (replicate room 0)
    → Answered (join (stamp_of u i) (stamp_of v j)) r us is

answered : (x : Stamp) (r : Option Counts) (us is : List ℕ) → Answered x r us is → IsSome r
answered x (Some k) us is w = refl
answered x None us is w = absurd w

lent_lawful : {u i : List ℕ} → Lent u i → lawful narrow (stamp_of u i) ≡ true
unfolding held strs_in
lent_lawful x = subst₂ (λ (a b : List ℕ). lawful narrow (stamp_of a b) ≡ true) x.update x.id (stored_lawful narrow x.of x.stored)

module _ {u i v j : List ℕ} (x : Lent u i) (y : Lent v j) where
  told : Joins u i v j
  unfolding held strs_in
  told =
      subst₂ (λ (a b : List ℕ). Joins a b v j) x.update x.id
      (subst₂ (Joins (front x.of.update) (front x.of.id)) y.update y.id (records_joined x.of y.of x.stored y.stored))

  module _ {r : Counts} {us is : List ℕ} (w : Told (join (stamp_of u i) (stamp_of v j)) r us is) where
    abbrev end : Stamp
    end = join (stamp_of u i) (stamp_of v j)

    id_count : r.id ≡ length end.id
    id_count = sym (length-take-le r.id is (omega (arith, w.fits, w.id_room))) ∙ sym (length-map (take r.id is) str_of) ∙ ap length w.id

    too_many : 16 < r.id → (l : List ℕ) → wrote_join (stamp_of u i) (stamp_of v j) l ≡ record { answer = Err Many; out = l }
    unfolding wrote_join first many wrote
    too_many h l = rw (lt-ltb 16 (length end.id) (omega (arith, id_count)))

    module _ (h : r.id ≤ 16) where
      few : many narrow end ≡ false
      unfolding many
      few = le-ltb 16 (length end.id) (omega (arith, id_count))

      told_is : stamp_of (take r.update us) (take r.id is) ≡ end
      told_is = ap₂ (λ (a b : Name). record { update = a; id = b }) w.update w.id

      is_lawful : lawful narrow end ≡ true
      is_lawful = lawful_join narrow (stamp_of u i) (stamp_of v j) (lent_lawful x) (lent_lawful y) few

      writes : (l : List ℕ) → written_names narrow (take r.update us) (take r.id is) l ≡ wrote_join (stamp_of u i) (stamp_of v j) l
      unfolding wrote_join written_names first
      writes l = rw (lawful_fits narrow (take r.update us) (take r.id is) (ap (lawful narrow) told_is ∙ is_lawful), told_is, few)

    update_inside : r.update ≤ length us
    update_inside = omega (arith, w.counts, w.fits, w.update_room)

    id_inside : r.id ≤ length is
    id_inside = omega (arith, w.fits, w.id_room)

pub unwrap-counts-requires : goal.unwrap-counts-requires
unwrap-counts-requires c = answered _ c.join.result c.join.new.update c.join.new.id (told c.requires.0 c.requires.1 _ _ _ c.join.ensures.0 c.join.ensures.1 c.join.ensures.2)

pub returns-then-counts-gt-STRINGS : goal.returns-then-counts-gt-STRINGS
returns-then-counts-gt-STRINGS c =
    let joined = told c.requires.0 c.requires.1 _ _ _ (sym c.unwrap-counts.ensures ∙ c.join.ensures.0) c.join.ensures.1 c.join.ensures.2 in
    both _ _ (too_many c.requires.0 c.requires.1 joined c.if-counts-gt-STRINGS.true _)

pub slice_bounds-update-end : goal.slice_bounds-update-end
slice_bounds-update-end c =
    update_inside c.requires.0 c.requires.1 (told c.requires.0 c.requires.1 _ _ _ (sym c.unwrap-counts.ensures ∙ c.join.ensures.0) c.join.ensures.1 c.join.ensures.2)

pub slice_bounds-joined-end : goal.slice_bounds-joined-end
slice_bounds-joined-end c =
    let joined = told c.requires.0 c.requires.1 _ _ _ (sym c.unwrap-counts.ensures ∙ c.join.ensures.0) c.join.ensures.1 c.join.ensures.2 in
    sym (length-take-le _ _ (update_inside c.requires.0 c.requires.1 joined))

pub returns : goal.returns
returns c =
    let joined = told c.requires.0 c.requires.1 _ _ _ (sym c.unwrap-counts.ensures ∙ c.join.ensures.0) c.join.ensures.1 c.join.ensures.2 in
    tells_same (writes c.requires.0 c.requires.1 joined c.if-counts-gt-STRINGS.false _) c.write_from.ensures
