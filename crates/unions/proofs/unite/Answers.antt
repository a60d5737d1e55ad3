-- `unions::unite` meets its contract. The loop's invariant: what the words to come make of the buffer is what all of them make of it at the start.
-- The measure is how many are to come. Assumes nothing.
use Rattle.laws.proofs.Library.{◌≡◌, sym, ap, ◌∙◌, true, false, ◌⊎◌, inl, inr, ◌<◌, arith, length, length-set}
use Rattle.std.proofs.Common.{rules}
use Rattle.unions.proofs.Turns.{EndsTurn, ends_turn, kept, lost, left_is, merges_rest, merges_all}
use Rattle.unions.proofs.unite.Goals as goal
use Rattle.unions.proofs.unite.Goals.{then-s-t, else-s-t, in_default, in_default-2, then-is_empty, else-is_empty}

pub loop-ours-preserved-then-not-begins : goal.loop-ours-preserved-then-not-begins
loop-ours-preserved-then-not-begins c =
    let u : EndsTurn c.loop-ours.ours.now c.loop-ours.theirs.now c.if-s-t.ours.now c.if-s-t.theirs.now c.if-s-t.low.0 c.if-s-t.low.1 =
    ends_turn _ _ _ _ _ (search rules) (search rules)
    (elim c.if-s-t.branch [ then-s-t w ↦ inl (w.if-s-t.true, ap (λ b. b.now) w.ours-is, ap (λ b. b.now) w.theirs-is, w.low-is) | else-s-t w ↦ inr (w.if-s-t.false, ap (λ b. b.now) w.ours-is, ap (λ b. b.now) w.theirs-is, w.low-is) ]) in record {
      room = simp length-set (omega (arith, u.turn.fewer, c.loop-ours.invariant.room));
      ours_left = u.ours_left c.args.m.now c.loop-ours.invariant.ours_left;
      theirs_left = u.theirs_left c.args.n.now c.loop-ours.invariant.theirs_left;
      same = kept c.loop-ours.count c.loop-ours.out u.turn (sym c.begins.ensures ∙ c.if-not-begins.true) ∙ c.loop-ours.invariant.same;
    }

pub loop-ours-preserved : goal.loop-ours-preserved
loop-ours-preserved c =
    let u : EndsTurn c.loop-ours.ours.now c.loop-ours.theirs.now c.if-s-t.ours.now c.if-s-t.theirs.now c.if-s-t.low.0 c.if-s-t.low.1 =
    ends_turn _ _ _ _ _ (search rules) (search rules)
    (elim c.if-s-t.branch [ then-s-t w ↦ inl (w.if-s-t.true, ap (λ b. b.now) w.ours-is, ap (λ b. b.now) w.theirs-is, w.low-is) | else-s-t w ↦ inr (w.if-s-t.false, ap (λ b. b.now) w.ours-is, ap (λ b. b.now) w.theirs-is, w.low-is) ]) in record {
      room = omega (arith, u.turn.fewer, c.loop-ours.invariant.room);
      ours_left = u.ours_left c.args.m.now c.loop-ours.invariant.ours_left;
      theirs_left = u.theirs_left c.args.n.now c.loop-ours.invariant.theirs_left;
      same = lost c.loop-ours.count c.loop-ours.out u.turn (sym c.begins.ensures ∙ c.if-not-begins.false) ∙ c.loop-ours.invariant.same;
    }

pub returns : goal.returns
returns c =
    let o = c.loop-ours.out in
    let k = c.loop-ours.count in
    let ours = c.loop-ours.ours.now in
    let theirs = c.loop-ours.theirs.now in
    let rest = c.if-is_empty.rest.now in
    let p = left_is c.args.m.now ours c.loop-ours.invariant.ours_left in
    let q = left_is c.args.n.now theirs c.loop-ours.invariant.theirs_left in
    let none : (length ours < 1) ⊎ (length theirs < 1) = elim c.if-ours-lt1.branch [ in_default w ↦ inl (search rules) | in_default-2 w ↦ inr (search rules) ] in
    let one : ((c.is_empty.result ≡ true) × (rest ≡ theirs)) ⊎ ((c.is_empty.result ≡ false) × (rest ≡ ours)) =
    elim c.if-is_empty.branch [ then-is_empty w ↦ inl (w.if-is_empty.true, ap (λ b. b.now) w.rest-is ∙ q) | else-is_empty w ↦ inr (w.if-is_empty.false, ap (λ b. b.now) w.rest-is ∙ p) ] in
    merges_all c.args.m.now c.args.n.now o c.args.out.now rest c.copy_from_slice.new.self k c.requires (search rules)
    (sym (merges_rest k o ours theirs rest none c.is_empty.result c.is_empty.ensures one) ∙ c.loop-ours.invariant.same) c.copy_from_slice.ensures.after
