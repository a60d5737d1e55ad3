-- `bundles::front` meets its contract: the list from `at` on is the length byte there and what comes behind it, and the code's tests are
-- those of that byte and that rest. Assumes nothing.
use Rattle.laws.proofs.Library.{◌≡◌, refl, sym, ap, ◌∙◌, cond, List, ℕ, ◌+◌, ◌-◌, ◌≤◌, ◌<◌, add-sub_cancel_left, add-one, arith, lt-ltb, le-ltb}
use Rattle.laws.proofs.Library.{length, get_or, take, drop, length-drop, drop_of_length-le, drop-cons, Ok, Err}
use Rattle.rules.specs.Limits.{narrow}
use Rattle.rules.specs.Bundles.{bad_entry, front_entry}
use Rattle.rules.specs.declared.Refusal.TheVariants.{Malformed, Ended}
use Rattle.bundles.proofs.front.Goals as goal
use Rattle.bundles.proofs.front.Goals.{then-n-lt-LEAST_BYTES-via-then-n-lt-LEAST_BYTES}
use Rattle.bundles.proofs.front.Goals.{then-n-lt-LEAST_BYTES-via-else-n-lt-LEAST_BYTES+then-n-gt-BYTES}
use Rattle.bundles.proofs.front.Goals.{then-n-lt-LEAST_BYTES-via-else-n-lt-LEAST_BYTES+else-n-gt-BYTES+then-b-from}

module _ (b : List ℕ) (at : ℕ) where
  ended : length b ≤ at → Err Ended ≡ front_entry narrow (drop at b)
  unfolding front_entry
  ended h = rw (drop_of_length-le b h)

  module _ (h : at < length b) where
    abbrev n : ℕ
    n = get_or b at 0

    front_is : front_entry narrow (drop at b) ≡ cond (bad_entry narrow n (drop (at + 1) b)) (Err Malformed) (Ok (take n (drop (at + 1) b)))
    unfolding front_entry
    front_is = rw (drop-cons b at 0 h, add-one at)

    too_small : n < 3 → Err Malformed ≡ front_entry narrow (drop at b)
    unfolding bad_entry
    too_small k = sym (front_is ∙ rw (lt-ltb n 3 k))

    too_large : 3 ≤ n → 117 < n → Err Malformed ≡ front_entry narrow (drop at b)
    unfolding bad_entry
    too_large k l = sym (front_is ∙ rw (le-ltb n 3 k, lt-ltb 117 n l))

    module _ (k : 3 ≤ n) (l : n ≤ 117) where
      rest : length (drop (at + 1) b) ≡ length b - (at + 1)
      rest = length-drop (at + 1) b

      cut_short : length b - (at + 1) < n → Err Malformed ≡ front_entry narrow (drop at b)
      unfolding bad_entry
      cut_short m = sym (front_is ∙ rw (le-ltb n 3 k, le-ltb 117 n l, rest, lt-ltb (length b - (at + 1)) n m))

      fits : n ≤ length b - (at + 1) → Ok (take (at + 1 + n - (at + 1)) (drop (at + 1) b)) ≡ front_entry narrow (drop at b)
      unfolding bad_entry
      fits m =
          ap (λ (j : ℕ). Ok (take j (drop (at + 1) b))) (add-sub_cancel_left (at + 1) n)
          ∙ sym (front_is ∙ rw (le-ltb n 3 k, le-ltb 117 n l, rest, le-ltb (length b - (at + 1)) n m))

pub returns-then-b-at : goal.returns-then-b-at
returns-then-b-at c = (ended c.args.b.now c.args.at c.if-b-at.true, tt, tt)

pub returns-then-n-lt-LEAST_BYTES : goal.returns-then-n-lt-LEAST_BYTES
returns-then-n-lt-LEAST_BYTES c =
    let b = c.args.b.now in
    let at = c.args.at in
    let h = c.if-b-at.false in
    let refused : Err Malformed ≡ front_entry narrow (drop at b) =
    elim c.then-n-lt-LEAST_BYTES.branch [
      | then-n-lt-LEAST_BYTES-via-then-n-lt-LEAST_BYTES w ↦ too_small b at h (omega arith)
      | then-n-lt-LEAST_BYTES-via-else-n-lt-LEAST_BYTES+then-n-gt-BYTES w ↦ too_large b at h (omega arith) (omega arith)
      | then-n-lt-LEAST_BYTES-via-else-n-lt-LEAST_BYTES+else-n-gt-BYTES+then-b-from w ↦ cut_short b at h (omega arith) (omega arith) (omega arith)
    ] in
    (refused, tt, tt)

pub returns : goal.returns
returns c =
    (fits c.args.b.now c.args.at c.if-b-at.false (omega arith) (omega arith) (omega arith), (omega arith, omega arith), refl)
