-- `writing::bits_of` meets its contract: the sum so far lacks the digits of the strings from s-index on, and none of the others is longer than
-- `longest`. Assumes nothing.
use Rattle.laws.proofs.Library.{◌≡◌, refl, sym, ap, ◌∙◌, ◌⊎◌, inl, inr, Bool, true, false, ◌&&◌, and_assoc, and-true, cond, List, [], ◌∷◌, map, ℕ, ◌+◌, ◌%◌, max}
use Rattle.laws.proofs.Library.{◌≤◌, ◌<◌, arith, le-leb, lt-leb, leb-true, leb-false, eqb-true, eqb, leb, length, get_or, drop, drop-cons, add-one}
use Rattle.laws.proofs.Library.{drop_of_length-le}
use Rattle.rules.specs.Limits.{narrow}
use Rattle.rules.specs.Strings.{str_of}
use Rattle.rules.specs.Names.{all}
use Rattle.rules.specs.Packed.{strings_bits}
use Rattle.laws.proofs.Tests.{no}
use Rattle.laws.proofs.Words.{str_length}
use Rattle.writing.specs.Fits.{all_fit, fits_name}
use Rattle.layout.proofs.Sizes.{strings_length, name_length}
use Rattle.std.specs.Bool.{then_some}
use Rattle.std.specs.declared.option.Option.TheVariants.{None, Some}
use Rattle.std.specs.Ordering.{ord_max, nat_cmp}
use Rattle.std.proofs.lemmas.Bool.Decides.{nat_tests}
use Rattle.writing.proofs.bits_of.Invariants.{bits}
use Rattle.writing.proofs.bits_of.Goals as goal

-- ---- the refusals

not_fit : (n : List ℕ) (e : Bool) → e ≡ eqb (length n) 0 → (e ≡ true) ⊎ ((e ≡ false) × (16 < length n)) → fits_name narrow n ≡ false
unfolding fits_name
not_fit n e d (inl t) = rw (eqb-true (length n) 0 (sym d ∙ t))
not_fit n e d (inr m) = simp (le-leb 1 (length n) (omega (arith, m.1)), lt-leb (length n) 16 m.1)

some_fit : (n : List ℕ) (e : Bool) → e ≡ eqb (length n) 0 → e ≡ false → 1 ≤ length n
some_fit [] e d f = absurd (no (sym (sym d ∙ f)))
some_fit (w ∷ n) e d f = omega arith

all_fit_lem : (n : List ℕ) → 1 ≤ length n → length n ≤ 16 → fits_name narrow n ≡ all_fit narrow n
unfolding fits_name
all_fit_lem n h m = simp (le-leb 1 (length n) h, le-leb (length n) 16 m)

-- ---- a string more

words_cons : (n : List ℕ) (i : ℕ) → i < length n → drop i n ≡ get_or n i 0 ∷ drop (i + 1) n
words_cons n i h = rw add-one (drop-cons n i 0 h)

max_is : (a b : ℕ) → ord_max nat_cmp a b ≡ max a b
max_is a b = grind (arith, nat_tests)

leb_max : (a k : ℕ) → leb (max a k) 24 ≡ (leb a 24 && leb k 24)
leb_max a k = by (leb a 24) (leb k 24) refl refl where
  by : (b c : Bool) → leb a 24 ≡ b → leb k 24 ≡ c → leb (max a k) 24 ≡ (b && c)
  by true true e f = le-leb (max a k) 24 (omega (arith, leb-true a 24 e, leb-true k 24 f))
  by true false e f = lt-leb (max a k) 24 (omega (arith, leb-false k 24 f))
  by false c e f = lt-leb (max a k) 24 (omega (arith, leb-false a 24 e))

longest_step : (n : List ℕ) (i longest : ℕ) → i < length n
    → (leb (max longest (get_or n i 0 % 64)) 24 && all_fit narrow (drop (i + 1) n)) ≡ (leb longest 24 && all_fit narrow (drop i n))
unfolding all_fit all
longest_step n i longest h =
    let w = get_or n i 0 in
    let m = drop (i + 1) n in
    ap (λ (b : Bool). b && all_fit narrow m) (leb_max longest (w % 64)) ∙ and_assoc (leb longest 24) (leb (w % 64) 24) (all_fit narrow m)
    ∙ ap (λ (x : List ℕ). leb longest 24 && all_fit narrow x) (sym (words_cons n i h))

bits_step : (n : List ℕ) (i : ℕ) → i < length n → bits (drop i n) ≡ 5 + get_or n i 0 % 64 + bits (drop (i + 1) n)
bits_step n i h =
    let w = get_or n i 0 in
    omega (arith, ap bits (words_cons n i h), strings_length narrow (str_of w) (map str_of (drop (i + 1) n)), str_length w)

pub returns-then-is_empty : goal.returns-then-is_empty
returns-then-is_empty c = rw (not_fit c.args.n.now c.is_empty.result c.is_empty.ensures c.then-is_empty.either)

pub loop-s-preserved : goal.loop-s-preserved
loop-s-preserved c =
    let n = c.args.n.now in
    let l = c.loop-s in
    let more : c.max-longest.result ≡ max l.longest (get_or n l.s-index 0 % 64) = c.max-longest.ensures ∙ max_is l.longest (get_or n l.s-index 0 % 64) in (
      omega arith,
      omega (arith, l.invariant.1, bits_step n l.s-index c.loop-s-test.true),
      ap (λ (k : ℕ). leb k 24 && all_fit narrow (drop (l.s-index + 1) n)) more ∙ longest_step n l.s-index l.longest c.loop-s-test.true ∙ l.invariant.2,
    )

given : (b : Bool) (s t : ℕ) → s ≡ t → then_some b s ≡ cond b (Some t) None
given true s t e = ap Some e
given false s t e = refl

pub returns : goal.returns
unfolding all_fit all strings_bits
returns c =
    let n = c.args.n.now in
    let l = c.loop-s in
    let end : drop l.s-index n ≡ [] = drop_of_length-le n {i = l.s-index} (omega arith) in
    let few : length n ≤ 16 = omega arith in
    let some : 1 ≤ length n = some_fit n c.is_empty.result c.is_empty.ensures c.if-is_empty.false in
    let fit : leb l.longest 24 ≡ fits_name narrow n =
    sym (and-true (leb l.longest 24)) ∙ ap (λ (m : List ℕ). leb l.longest 24 && all_fit narrow m) (sym end) ∙ l.invariant.2 ∙ sym (all_fit_lem n some few) in
    c.then_some.ensures
    ∙ ap (λ (b : Bool). then_some b l.sum) fit
    ∙ given (fits_name narrow n) l.sum _ (omega (arith, l.invariant.1, ap bits end, name_length narrow (map str_of n)))
