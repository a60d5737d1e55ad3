-- `is_zero_from` meets its contract: a bit that is set in one of the words stays set. Assumes nothing.
use Rattle.laws.proofs.Library.{◌≡◌, ◌⊎◌, inl, inr, sym, ap, ◌∙◌, Bool, ◌&&◌, and_assoc, and-true, add-one, List, ◌∷◌, ℕ, ◌+◌, ◌-◌, ◌≤◌, ◌<◌, min, arith, eqb, eqb-true, eq-eqb, get_or, length, take, drop, take_all, length-drop, drop_of_length-le, drop-cons}
use lib.Bits.{bit_or, or_add_and, and_le_l, and_le_r}
use Rattle.rules.specs.Names.{all}
use Rattle.laws.proofs.Tests.{at_most, iff, and_left, and_right, and_both}
use Rattle.names.proofs.is_zero_from.Goals as goal

-- no bit is set in either exactly when both are 0
or_zero : (a b : ℕ) → eqb (bit_or a b) 0 ≡ (eqb a 0 && eqb 0 b)
or_zero a b =
    iff
    (λ h.
    let e = eqb-true (bit_or a b) 0 h in
    and_both (eq-eqb a 0 (omega (arith, or_add_and a b, and_le_l a b, and_le_r a b))) (eq-eqb 0 b (omega (arith, or_add_and a b, and_le_l a b, and_le_r a b))))
    (λ h.
    let p = eqb-true a 0 (and_left (eqb a 0) (eqb 0 b) h) in
    let q = eqb-true 0 b (and_right (eqb a 0) (eqb 0 b) h) in
    eq-eqb (bit_or a b) 0 (omega (arith, or_add_and a b)))

-- one word more
turn : (bits i : ℕ) (l : List ℕ) → i < length l
    → (eqb (bit_or bits (get_or l i 0)) 0 && all (eqb 0) (drop (i + 1) l)) ≡ (eqb bits 0 && all (eqb 0) (drop i l))
unfolding all
turn bits i l h =
    let e : drop i l ≡ get_or l i 0 ∷ drop (i + 1) l = rw add-one (drop-cons l i 0 h) in
    let s = get_or l i 0 in
    ap (λ (b : Bool). b && all (eqb 0) (drop (i + 1) l)) (or_zero bits s)
    ∙ and_assoc (eqb bits 0) (eqb 0 s) (all (eqb 0) (drop (i + 1) l))
    ∙ ap (λ (m : List ℕ). eqb bits 0 && all (eqb 0) m) (sym e)

end : (bits i : ℕ) (l : List ℕ) → length l ≤ i → (eqb bits 0 && all (eqb 0) (drop i l)) ≡ eqb bits 0
unfolding all
end bits i l h = ap (λ (m : List ℕ). eqb bits 0 && all (eqb 0) m) (drop_of_length-le l {i = i} h) ∙ and-true (eqb bits 0)

-- the words from c on, where there may be fewer
rest : (w : List ℕ) (c m : ℕ) → m ≡ min c (length w) → take (length w - m) (drop m w) ≡ drop c w
rest w c m e = take_all (length w - m) (drop m w) (omega (arith, length-drop m w)) ∙ by (at_most c (length w))
  where
    by : (c ≤ length w) ⊎ (length w < c) → drop m w ≡ drop c w
    by (inl h) = ap (λ (k : ℕ). drop k w) (let k : m ≡ c = omega arith in k)
    by (inr h) = drop_of_length-le w {i = m} (omega arith) ∙ sym (drop_of_length-le w {i = c} (omega arith))

pub loop-x-init : goal.loop-x-init
loop-x-init c = ap (all (eqb 0)) (rest c.args.w.now c.args.c c.min.result c.min.ensures)

pub loop-x-preserved : goal.loop-x-preserved
loop-x-preserved c = turn c.loop-x.bits c.loop-x.x-index _ c.loop-x-test.true ∙ c.loop-x.invariant

pub returns : goal.returns
returns c = sym (end c.loop-x.bits c.loop-x.x-index _ (omega arith)) ∙ c.loop-x.invariant
