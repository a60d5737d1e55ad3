-- `names::grow` meets its contract: in each word's place come those of its string with a 0 more and with a 1 more, as far as there is room.
-- Assumes nothing.
use Rattle.laws.proofs.Library.{◌≡◌, refl, sym, ap, ◌∙◌, List, add-mod, arith, ℕ, ◌+◌, ◌*◌, ◌-◌, ◌%◌, ◌^◌, get_or, take, take_all}
use Rattle.names.specs.Lent.{longer, grown_in}
use Rattle.names.proofs.Grown.{grown_step}
use Rattle.names.proofs.grow.Goals as goal

-- the two words of a string with a digit more, sums in 64 bits
zero_is : (s : ℕ) → (s + 1) % 2 ^ 64 ≡ longer 0 s
zero_is s = ap (λ (x : ℕ). x % 2 ^ 64) (let z : s + 1 ≡ s + 1 + 0 * 2 ^ (63 - s % 64) = omega arith in z)

one_is : (s : ℕ) → ((s + 1) % 2 ^ 64 + (1 * 2 ^ (63 - s % 64)) % 2 ^ 64) % 2 ^ 64 ≡ longer 1 s
one_is s = sym (add-mod (s + 1) (1 * 2 ^ (63 - s % 64)) (2 ^ 64))

pub loop-k-init : goal.loop-k-init
unfolding grown_in
loop-k-init c = (refl, refl)

pub loop-k-preserved : goal.loop-k-preserved
loop-k-preserved c =
    let front = c.counted-s-items.result.now in
    let k = c.loop-k.k in
    let s = get_or front k 0 in
    (grown_step 0 k _ front c.loop-k.zero _ c.loop-k-test.true c.loop-k.invariant.0 (zero_is s), grown_step 1 k _ front c.loop-k.one _ c.loop-k-test.true c.loop-k.invariant.1 (one_is s))

pub returns : goal.returns
returns c =
    let front = c.counted-s-items.result.now in
    let all : take c.loop-k.k front ≡ take 16 c.args.id.now =
    take_all c.loop-k.k front (omega arith) ∙ c.counted-s-items.ensures.1 in (
      c.loop-k.invariant.0 ∙ ap (λ (l : List ℕ). grown_in 0 l c.args.zero.now) all,
      c.loop-k.invariant.1 ∙ ap (λ (l : List ℕ). grown_in 1 l c.args.one.now) all,
    )
