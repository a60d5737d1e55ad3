-- `bundles::find` meets its contract: what is sought from `at` on is what was sought from the start. Assumes nothing.
use Rattle.laws.proofs.Library.{◌≡◌, refl, sym, ap, ◌∙◌, List, ℕ, suc, ◌+◌, ◌-◌, ◌≤◌, ◌<◌, arith, lt-ltb, le-ltb, length, take, drop, Ok, Err}
use Rattle.laws.proofs.Library.{length-drop, drop-drop, length-take-le}
use Rattle.std.proofs.lemmas.Result.{err_from_is_err_and}
use Rattle.rules.specs.Limits.{narrow}
use Rattle.rules.specs.Bundles.{front_entry, entry_in, entry}
use Rattle.rules.specs.declared.Refusal.{Refusal}
use Rattle.rules.specs.declared.Refusal.TheVariants.{Malformed}
use Rattle.bundles.specs.Places.{placed}
use Rattle.bundles.specs.declared.Place.{Place}
use Rattle.bundles.proofs.find.Goals as goal

too_large : (b : List ℕ) (k : ℕ) → 65536 < length b → Err Malformed ≡ entry narrow k b
unfolding entry
too_large b k h = rw (lt-ltb 65536 (length b) h)

from_start : (b : List ℕ) (k : ℕ) → length b ≤ 65536 → entry_in narrow (k - 0) (drop 0 b) ≡ entry narrow k b
unfolding entry
from_start b k h = rw (le-ltb 65536 (length b) h) (ap (λ (n : ℕ). entry_in narrow n b) (let e : k - 0 ≡ k = omega arith in e))

module _ (b : List ℕ) (at : ℕ) where
  -- the entry at `at` is the one that is sought
  found : (left : ℕ) → left ≡ 0 → front_entry narrow (drop at b) ≡ entry_in narrow left (drop at b)
  unfolding entry_in
  found left z = rw z refl

  -- it is refused, and so is any entry behind it
  refuses : (left more : ℕ) (why : Refusal) → left ≡ suc more → Err why ≡ front_entry narrow (drop at b) → Err why ≡ entry_in narrow left (drop at b)
  unfolding entry_in
  refuses left more why z e = rw (z, sym e)

  -- it is passed over
  passes : (left more : ℕ) (p : Place) → left ≡ suc more → p.from ≡ at + 1 → (p.from ≤ p.to) × (p.to ≤ length b)
      → placed b (Ok p) ≡ front_entry narrow (drop at b) → entry_in narrow more (drop p.to b) ≡ entry_in narrow left (drop at b)
  unfolding entry_in
  passes left more p z e i f =
      let part = take (p.to - p.from) (drop p.from b) in
      let ends : at + (1 + length part) ≡ p.to =
      omega (arith, length-drop p.from b, length-take-le (p.to - p.from) (drop p.from b) (omega (arith, length-drop p.from b))) in
      rw (z, sym f) (sym (ap (entry_in narrow more) (drop-drop (1 + length part) at b ∙ ap (λ (j : ℕ). drop j b) ends)))

pub returns-then-b-gt-MOST_BYTES : goal.returns-then-b-gt-MOST_BYTES
returns-then-b-gt-MOST_BYTES c = (too_large c.args.b.now c.args.k c.if-b-gt-MOST_BYTES.true, tt)

pub loop-init : goal.loop-init
loop-init c = from_start c.args.b.now c.args.k c.if-b-gt-MOST_BYTES.false

pub returns-in_err-at : goal.returns-in_err-at
returns-in_err-at c =
    let passed = err_from_is_err_and c.from_residual.result c.from_residual.ensures.1 in
    let same : c.from_residual.result ≡ Err c.in_err-at.field-0.0 = passed.1 ∙ ap Err passed.2 in
    rw same
    (refuses c.args.b.now c.loop.at (c.args.k - c.loop.counter) (c.args.k - (c.loop.counter + 1)) _ (omega arith) c.in_err-at.ensures.0 ∙ c.loop.invariant, tt)

pub loop-preserved : goal.loop-preserved
loop-preserved c =
    let e = c.in_ok-at.ensures in
    passes c.args.b.now c.loop.at (c.args.k - c.loop.counter) _ c.in_ok-at.field-0 (omega arith) e.2 e.1 e.0 ∙ c.loop.invariant

pub returns : goal.returns
returns c =
    let e = c.front-2.ensures in
    (e.0 ∙ found c.args.b.now c.loop.at (c.args.k - c.loop.counter) (omega arith) ∙ c.loop.invariant, e.1)
