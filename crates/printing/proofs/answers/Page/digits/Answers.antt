-- `printing::answers::Page::digits` meets its contract. The loop's invariant: the digits to come, written from here on, are all digits
-- written from the start. Assumes nothing.
use Rattle.laws.proofs.Library.{◌≡◌, refl, [], ◌∷◌, ℕ, suc, ◌+◌, ◌*◌, ◌-◌, ◌/◌, ◌%◌, ◌^◌, ◌≤◌, ◌<◌, sub-zero, arith}
use Rattle.printing.specs.declared.answers.Page.{Page}
use Rattle.printing.specs.Inner.{Writes}
use Rattle.printing.proofs.Stores.{then}
use Rattle.printing.proofs.Digits.{highest, highest_none, highest_more, highest_all}
use Rattle.printing.proofs.answers.Page.digits.Goals as goal

-- one digit, and then those behind it
one_digit : (n i rest : ℕ) → i < n → n ≤ 63 → rest < 2 ^ 64
    → highest (n - i) rest ≡ (48 + rest / 2 ^ 63) ∷ highest (n - (i + 1)) ((rest * 2) % 2 ^ 64)
one_digit n i rest h k small = let less : n - i ≡ suc (n - (i + 1)) = omega arith in rw less (highest_more (n - (i + 1)) rest (omega arith) small)

-- no more text is the page as it stands
nothing : (p : Page) → Writes p [] p
nothing p = record { len = omega arith; size = refl; bytes = refl; lent = refl }

pub loop-i-init : goal.loop-i-init
loop-i-init c = record { room = omega arith; whole = λ p w. rw (sub-zero, highest_all c.args.word) at w }

pub loop-i-preserved : goal.loop-i-preserved
loop-i-preserved c =
    let n = c.args.word % 64 in
    record {
      room = omega arith;
      whole = λ p w. c.loop-i.invariant.whole p (rw (one_digit n c.loop-i._i c.loop-i.rest (omega arith) (omega arith) c.loop-i.auto.rest-fits.fits) (then _ _ c.byte.ensures w));
    }

pub returns : goal.returns
returns c =
    let none : c.args.word % 64 - c.loop-i._i ≡ 0 = omega arith in
    c.loop-i.invariant.whole c.loop-i.self (rw (none, highest_none c.loop-i.rest) (nothing c.loop-i.self))
