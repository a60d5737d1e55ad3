-- `printing::answers::Page::number` meets its contract: one digit or two, and the newline. Assumes nothing.
use Rattle.laws.proofs.Library.{◌≡◌, [], ◌∷◌, ◌++◌, ℕ, ◌+◌, ◌/◌, ◌%◌, ◌≤◌, ◌<◌, lt-ltb, le-ltb, mod-eq_of_lt, arith}
use Rattle.printing.specs.Answers.{number_text}
use Rattle.printing.proofs.Stores.{then}
use Rattle.printing.proofs.answers.Page.number.Goals as goal
use Rattle.printing.proofs.answers.Page.number.Goals.{then-last-ge10, else-last-ge10}

one_digit : (n : ℕ) → n % 100 < 10 → number_text n ≡ ((48 + n % 100 % 10) ∷ []) ++ (10 ∷ [])
unfolding number_text
one_digit n h = rw (lt-ltb (n % 100) 10 h, mod-eq_of_lt h)

two_digits : (n : ℕ) → 10 ≤ n % 100 → number_text n ≡ ((48 + n % 100 / 10) ∷ []) ++ (((48 + n % 100 % 10) ∷ []) ++ (10 ∷ []))
unfolding number_text
two_digits n h = rw (le-ltb (n % 100) 10 h)

pub returns : goal.returns
returns c =
    let end = then _ _ c.byte-2.ensures c.byte-3.ensures in
    elim c.if-last-ge10.branch [
      | then-last-ge10 w ↦ rw (two_digits c.args.n (omega arith)) (then _ _ w.byte.ensures (rw w.self-is at end))
      | else-last-ge10 w ↦ rw (one_digit c.args.n (omega arith)) (rw w.self-is at end)
    ]
