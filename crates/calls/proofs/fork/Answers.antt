-- `calls::fork` meets its contract: what the reader refuses is passed out, then an id that can grow no longer. Both branches of a lawful stamp
-- are lawful, so that their words fit, and only the buffers are left to refuse. Assumes nothing.
use Rattle.laws.proofs.Library.{◌≡◌, sym, ap, ap₂, ◌∙◌, Bool, true, false, List, ℕ, ◌≤◌, arith, length-take-le, eqb, lit≤, length, take, replicate}
use Rattle.rules.specs.Limits.{narrow}
use Rattle.rules.specs.Strings.{digit}
use Rattle.rules.specs.Names.{any}
use Rattle.rules.specs.Stamps.{append, fork}
use Rattle.rules.specs.Stored.{words_of, stored, strs_in, held, is_stored}
use Rattle.rules.specs.Refusals.{first, long}
use Rattle.rules.specs.Values.{forked}
use Rattle.rules.specs.Packed.{read_stamp, wrote_two, packed_fork}
use Rattle.rules.specs.declared.Record.{Record}
use Rattle.rules.specs.declared.Refusal.{Refusal}
use Rattle.rules.specs.declared.Refusal.TheVariants.{Long}
use Rattle.rules.specs.declared.StampWords.{StampWords}
use Rattle.laws.proofs.Library.{Err}
use Rattle.laws.proofs.Lawful.{lawful_fork}
use Rattle.laws.proofs.Stored.{is_stored_lem, stored_is, stored_lawful, stored_not_unlawful}
use Rattle.names.specs.Lent.{grown_in}
use Rattle.names.proofs.Grown.{grown_branch}
use Rattle.walks.specs.Walks.{is_long}
use Rattle.stamps.proofs.Laws.{Counted, both_counted, stored_names, forked_is, lent_long}
use Rattle.writing.specs.Fits.{written_both}
use Rattle.writing.proofs.Writing.{two, stored_fits}
use Rattle.calls.specs.Joins.{LentBy}
use Rattle.std.proofs.Common.{rules}
use Rattle.calls.proofs.fork.Goals as goal

-- r with the words ws of an id as long as its own
abbrev with_id : Record → List ℕ → Record
with_id r ws = record { update = r.update; id = record { count = r.id.count; words = ws } }

-- that is the branch d of r, and stored
record Branch (r : Record) (d : Bool) (ws : List ℕ) : Type 0 where
  is : (with_id r ws).id ≡ words_of narrow (append d (strs_in r.id))
  stored : is_stored narrow (with_id r ws) ≡ true
  id : Counted (with_id r ws).id

refused : (s x y : List ℕ) {n : Refusal} → read_stamp narrow s ≡ Err n → packed_fork narrow s x y ≡ record { answer = Err n; zero = x; one = y }
unfolding packed_fork wrote_two
refused s x y n = rw n

module _ {s : List ℕ} {w : StampWords} (h : LentBy s w) where
  abbrev r : Record
  r = h.lent.of

  lent_id : is_long w.id.now ≡ any (λ t. eqb (length t) narrow.digits) (strs_in r.id)
  lent_id = ap is_long (sym h.lent.id) ∙ lent_long r.id

  too_long_lem : (x y : List ℕ) → is_long w.id.now ≡ true → packed_fork narrow s x y ≡ record { answer = Err Long; zero = x; one = y }
  unfolding packed_fork wrote_two forked first long held
  too_long_lem x y l = rw (h.is, stored_not_unlawful narrow r h.lent.stored, sym lent_id ∙ l)

  module _ (l : is_long w.id.now ≡ false) where
    short : any (λ t. eqb (length t) narrow.digits) (strs_in r.id) ≡ false
    short = sym lent_id ∙ l

    -- grown over zeros, the words of the id are those of a branch
    branch : (d : Bool) (ws : List ℕ) → ws ≡ grown_in (digit d) (take 16 w.id.now) (replicate 16 0) → Branch r d ws
    unfolding fork held stored long
    branch d ws e =
        let is = grown_branch narrow (lit≤ tt) r.id d w.id.now ws (stored_names narrow r h.lent.stored).1 short (sym h.lent.id) e in
        let u = stored_is narrow r h.lent.stored in
        let lawful = lawful_fork narrow d (held r) (stored_lawful narrow r h.lent.stored) short in
        let k : is_stored narrow (with_id r ws) ≡ true =
        ap (is_stored narrow) (λ i. record { update = (u i).update; id = is i }) ∙ is_stored_lem narrow (lit≤ tt) (fork d (held r)) lawful in
        record { is = is; stored = k; id = (both_counted (with_id r ws) k).1 }

    -- as many words as the id has
    many : length w.id.now ≡ r.id.count
    many = ap length (sym h.lent.id) ∙ sym (both_counted r h.lent.stored).1.taken

    inside : (d : Bool) (ws : List ℕ) → Branch r d ws → length w.id.now ≤ length ws
    inside d ws b = omega (arith, many, b.id.inside)

    of_record : (x y : List ℕ) {v o : List ℕ} → Branch r false v → Branch r true o
        → packed_fork narrow s x y ≡ written_both narrow (take r.update.count r.update.words) (take r.id.count v) (take r.id.count o) x y
    unfolding packed_fork written_both first held strs_in
    of_record x y z o =
        rw (h.is, sym (forked_is narrow r _ _ h.lent.stored short z.is o.is), stored_fits _ z.stored, stored_fits _ o.stored)

    writes : (x y v o : List ℕ) → Branch r false v → Branch r true o
        → packed_fork narrow s x y ≡ written_both narrow w.update.now (take (length w.id.now) v) (take (length w.id.now) o) x y
    writes x y v o zero one =
        of_record x y zero one ∙ ap₂ (λ (u : List ℕ) (n : ℕ). written_both narrow u (take n v) (take n o) x y) h.lent.update (sym many)

pub returns-in_err-s : goal.returns-in_err-s
returns-in_err-s c =
    let w = two _ _ (refused c.args.stamp.now c.args.zero.now c.args.one.now c.in_err-s.ensures) in
    let e : c.from_residual.result ≡ Err c.in_err-s.field-0.0 = search rules in
    (e ∙ w.0, w.1, w.2)

pub returns-then-is_long : goal.returns-then-is_long
returns-then-is_long c =
    two _ _ (too_long_lem c.in_ok-s.ensures c.args.zero.now c.args.one.now (sym c.is_long.ensures ∙ c.if-is_long.true))

pub returns : goal.returns
returns c =
    let read = c.in_ok-s.ensures in
    let short = sym c.is_long.ensures ∙ c.if-is_long.false in
    let zero = branch read short false _ c.grow.ensures.0 in
    let one = branch read short true _ c.grow.ensures.1 in
    let same = two _ _ (writes read short _ _ _ _ zero one) in
    (c.write_both.ensures.0 ∙ same.0, c.write_both.ensures.1 ∙ same.1, c.write_both.ensures.2 ∙ same.2)

pub slice_bounds-x-end : goal.slice_bounds-x-end
slice_bounds-x-end c =
    let short = sym c.is_long.ensures ∙ c.if-is_long.false in
    inside c.in_ok-s.ensures short false _ (branch c.in_ok-s.ensures short false _ c.grow.ensures.0)

pub slice_bounds-write_both-end : goal.slice_bounds-write_both-end
slice_bounds-write_both-end c =
    let short = sym c.is_long.ensures ∙ c.if-is_long.false in
    sym (length-take-le _ _ (inside c.in_ok-s.ensures short false _ (branch c.in_ok-s.ensures short false _ c.grow.ensures.0)))

pub slice_bounds-y-end : goal.slice_bounds-y-end
slice_bounds-y-end c =
    let short = sym c.is_long.ensures ∙ c.if-is_long.false in
    inside c.in_ok-s.ensures short true _ (branch c.in_ok-s.ensures short true _ c.grow.ensures.1)

pub slice_bounds-write_both-end-2 : goal.slice_bounds-write_both-end-2
slice_bounds-write_both-end-2 c =
    let short = sym c.is_long.ensures ∙ c.if-is_long.false in
    sym (length-take-le _ _ (inside c.in_ok-s.ensures short true _ (branch c.in_ok-s.ensures short true _ c.grow.ensures.1)))
