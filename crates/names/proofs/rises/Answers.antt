-- `rises` meets its contract: each word is compared with the one before, which is enough (`rise_first`). Assumes nothing.
use Rattle.laws.proofs.Library.{◌≡◌, refl, sym, ap, ◌∙◌, Bool, true, ◌&&◌, List, [], ◌∷◌, ℕ, ◌+◌, ◌-◌, ◌≤◌, ◌<◌, arith, length, get_or, take, drop, take_all}
use Rattle.rules.specs.Strings.{less, str_of, is_word}
use Rattle.strings.specs.Words.{precedes}
use Rattle.strings.proofs.Fronts.{begins_less}
use Rattle.names.proofs.Shape.{rise, rise_from, rise_first, rise_turn, rise_end}
use Rattle.names.proofs.rises.Goals.{then-not-is_word-2-via-then-not-is_word-2, then-not-is_word-2-via-else-not-is_word-2+then-not-precedes}
use Rattle.names.proofs.rises.Goals as goal

-- the words behind the first
abbrev others : List ℕ → List ℕ
others w = take (length w - 1) (drop 1 w)

begins : (w : List ℕ) → 1 ≤ length w → {b : Bool} → b ≡ is_word 24 (get_or w 0 0) → (b && rise_from 24 (get_or w 0 0) (others w)) ≡ rise 24 w
begins w h e = ap (λ (x : Bool). x && rise_from 24 (get_or w 0 0) (others w)) e ∙ sym (rise_first 24 (split w h))
  where
    split : (w : List ℕ) → 1 ≤ length w → w ≡ get_or w 0 0 ∷ others w
    split [] h = absurd (omega arith)
    split (x ∷ l) h = ap (λ (m : List ℕ). x ∷ m) (sym (take_all (length (x ∷ l) - 1) l (omega arith)))

pub returns-then-not-is_word : goal.returns-then-not-is_word
returns-then-not-is_word c = begins c.args.w.now c.in-len1-up.len_at_least c.if-not-is_word.ensures

pub loop-s-init : goal.loop-s-init
loop-s-init c = (sym c.if-not-is_word.ensures, begins c.args.w.now c.in-len1-up.len_at_least c.if-not-is_word.ensures)

-- the words of strings in order are strings in order
before : (a b : ℕ) {y : Bool} → is_word 24 a ≡ true → is_word 24 b ≡ true → y ≡ precedes a b → y ≡ less (str_of a) (str_of b)
before a b h k e = e ∙ begins_less 24 (omega arith) a b h k

-- the next of the others is the word s
turn : (w : List ℕ) (i p s : ℕ) {x y : Bool} → i < length (others w) → rise_from 24 p (drop i (others w)) ≡ rise 24 w → s ≡ get_or (others w) i 0
    → x ≡ is_word 24 s → y ≡ less (str_of p) (str_of s) → ((x && y) && rise_from 24 s (drop (i + 1) (others w))) ≡ rise 24 w
turn w i p s h e k f g = rw (f, g, k) (sym (rise_turn 24 p i (others w) h) ∙ e)

pub returns-then-not-is_word-2 : goal.returns-then-not-is_word-2
returns-then-not-is_word-2 c = elim c.then-not-is_word-2.branch [
  | then-not-is_word-2-via-then-not-is_word-2 w ↦ turn c.args.w.now c.loop-s.s-index c.loop-s.prior _ c.loop-s-test.true c.loop-s.invariant.1 refl w.if-not-is_word-2.ensures refl
  | then-not-is_word-2-via-else-not-is_word-2+then-not-precedes w ↦
      turn c.args.w.now c.loop-s.s-index c.loop-s.prior _ c.loop-s-test.true c.loop-s.invariant.1 refl w.if-not-is_word-2.ensures
      (before c.loop-s.prior _ c.loop-s.invariant.0 (sym w.if-not-is_word-2.ensures) w.if-not-precedes.ensures)
]

pub loop-s-preserved : goal.loop-s-preserved
loop-s-preserved c =
    (sym c.if-not-is_word-2.ensures, turn c.args.w.now c.loop-s.s-index c.loop-s.prior _ c.loop-s-test.true c.loop-s.invariant.1 refl c.if-not-is_word-2.ensures (before c.loop-s.prior _ c.loop-s.invariant.0 (sym c.if-not-is_word-2.ensures) c.if-not-precedes.ensures))

pub returns : goal.returns
returns c = sym (rise_end 24 c.loop-s.prior c.loop-s.s-index (others c.args.w.now) (omega arith)) ∙ c.loop-s.invariant.1
