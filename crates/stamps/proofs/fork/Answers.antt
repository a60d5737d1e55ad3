-- `stamps::fork` meets its contract: the tests in their order, a stored update kept as it is, and the id grown by 0 and by 1. Assumes nothing.
use Rattle.laws.proofs.Library.{◌≡◌, sym, ap, ◌∙◌, Bool, true, false, List, [], ◌∷◌, arith, ℕ, eqb, length, take, replicate, Err}
use Rattle.std.proofs.Common.{rules}
use Rattle.rules.specs.Limits.{narrow}
use Rattle.rules.specs.Strings.{digit}
use Rattle.rules.specs.Names.{any}
use Rattle.rules.specs.Stamps.{append}
use Rattle.rules.specs.Stored.{words_of, strs_in, held, is_stored, unlawful}
use Rattle.rules.specs.Refusals.{first, long}
use Rattle.rules.specs.Values.{forked}
use Rattle.rules.specs.declared.Record.{Record}
use Rattle.rules.specs.declared.Refusal.{Refusal}
use Rattle.rules.specs.declared.Refusal.TheVariants.{Unlawful, Long}
use Rattle.walks.specs.Walks.{is_long}
use Rattle.names.specs.Lent.{grown_in}
use Rattle.names.proofs.Grown.{grown_branch}
use Rattle.stamps.proofs.Laws.{stored_names, alone, alone_stored, first_then, forked_is, lent_long}
use Rattle.stamps.proofs.fork.Goals as goal

module _ (r : Record) where
  abbrev too_long : Bool
  too_long = any (λ t. eqb (length t) narrow.digits) (strs_in r.id)

  first_refused : {n : Refusal} → alone narrow r ≡ Err n → forked narrow r ≡ Err n
  unfolding forked
  first_refused e = rw (first_then ((unlawful narrow r, Unlawful) ∷ []) _, e)

  then_refused : is_stored narrow r ≡ true → too_long ≡ true → Err Long ≡ forked narrow r
  unfolding forked first unlawful long held
  then_refused e l = rw (e, l)

  -- what was asked of the id before it grows: whether some string can grow no longer
  long_is : {b : Bool} {k : List ℕ} → b ≡ is_long k → k ≡ take r.id.count r.id.words → too_long ≡ b
  long_is e f = sym (e ∙ ap is_long f ∙ lent_long r.id)

  grown : {k : List ℕ} → is_stored narrow r ≡ true → k ≡ take r.id.count r.id.words → too_long ≡ false → (d : Bool) (out : List ℕ)
      → out ≡ grown_in (digit d) (take narrow.strings k) (replicate narrow.strings 0)
      → record { count = r.id.count; words = out } ≡ words_of narrow (append d (strs_in r.id))
  grown lawful e short d out = grown_branch narrow (omega arith) r.id d _ out (stored_names narrow r lawful).1 short e

pub returns-in_err-lawful : goal.returns-in_err-lawful
returns-in_err-lawful c = rw (first_refused c.args.r (sym c.lawful.ensures ∙ c.in_err-lawful.was)) (search rules)

pub returns-then-is_long : goal.returns-then-is_long
returns-then-is_long c =
    then_refused c.args.r (alone_stored narrow c.args.r (sym c.lawful.ensures ∙ c.in_ok-lawful.was)) (long_is c.args.r c.if-is_long.ensures c.counted-id.ensures.1)

pub returns : goal.returns
returns c =
    let r = c.args.r in
    let e = c.counted-id.ensures.1 in
    let lawful = alone_stored narrow r (sym c.lawful.ensures ∙ c.in_ok-lawful.was) in
    let short = long_is r c.if-is_long.ensures e in
    rw (c.with_id.ensures, c.with_id-2.ensures)
    (forked_is narrow r _ _ lawful short (grown r lawful e short false _ c.grow.ensures.0) (grown r lawful e short true _ c.grow.ensures.1))
