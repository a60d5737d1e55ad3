-- `writing::size_of` meets its contract: a stamp that fits has the bits of both its names, in whole bytes. Assumes nothing.
use Rattle.laws.proofs.Library.{◌≡◌, refl, sym, ap, ap₂, ◌∙◌, true, cond, and-false, List, map, ℕ, ◌+◌, ◌≤◌, arith, length}
use Rattle.rules.specs.Limits.{narrow, bytes_for}
use Rattle.rules.specs.Strings.{str_of}
use Rattle.rules.specs.Packed.{name_bits, packed}
use Rattle.layout.specs.Words.{stamp_of}
use Rattle.std.specs.declared.option.Option.TheVariants.{None, Some}
use Rattle.writing.specs.Fits.{fits_name, fits}
use Rattle.layout.proofs.Sizes.{names_length}
use Rattle.writing.proofs.Writing.{fitted, fitted_most, when_none, when_some}
use Rattle.writing.proofs.size_of.Goals as goal

abbrev bits : List ℕ → ℕ
bits n = length (name_bits narrow (map str_of n))

module _ (n : List ℕ) (x : ℕ) (is : Some x ≡ cond (fits_name narrow n) (Some (bits n)) None) where
  there : fits_name narrow n ≡ true
  there = (when_some _ x (bits n) is).0

  most : x ≤ 468
  most = omega (arith, (when_some _ x (bits n) is).1, fitted_most n (fitted n there))

both : (u i : List ℕ) (x y : ℕ) → Some x ≡ cond (fits_name narrow u) (Some (bits u)) None → Some y ≡ cond (fits_name narrow i) (Some (bits i)) None
    → Some (bytes_for (x + y)) ≡ cond (fits narrow u i) (Some (length (packed narrow (stamp_of u i)))) None
unfolding fits
both u i x y e f =
    let a = when_some _ x (bits u) e in
    let b = when_some _ y (bits i) f in
    rw (a.0, b.0) (ap Some (ap₂ (λ (x y : ℕ). bytes_for (x + y)) a.1 b.1 ∙ sym (names_length narrow (stamp_of u i))))

pub returns-in_err-bits_of : goal.returns-in_err-bits_of
unfolding fits
returns-in_err-bits_of c = c.from_residual.ensures ∙ rw (when_none _ _ c.in_err-bits_of.ensures) refl

pub returns-in_err-bits : goal.returns-in_err-bits
unfolding fits
returns-in_err-bits c = c.from_residual-in_err-bits.ensures ∙ rw (when_none _ _ c.in_err-bits.ensures, and-false) refl

pub overflow_add-bits : goal.overflow_add-bits
overflow_add-bits c =
    record { fits = omega (arith, most _ _ c.in_ok-bits_of.ensures, most _ _ c.in_ok-bits.ensures) }

pub overflow_add-result : goal.overflow_add-result
overflow_add-result c =
    record { fits = omega (arith, most _ _ c.in_ok-bits_of.ensures, most _ _ c.in_ok-bits.ensures) }

pub returns : goal.returns
returns c = both _ _ _ _ c.in_ok-bits_of.ensures c.in_ok-bits.ensures
