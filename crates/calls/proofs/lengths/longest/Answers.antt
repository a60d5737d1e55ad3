-- `calls::lengths::longest` meets its contract: a string has as many digits as its word's six low bits say, and none is longer than the largest.
-- Assumes nothing.
use Rattle.std.proofs.Common.{◌≡◌, ℕ, ◌%◌, max, List, [], ◌∷◌, map, ap, ◌∙◌, arith, rules, tests, fold, unwrap_or}
use Rattle.std.proofs.lemmas.Iterator.{YieldsList-from_slice, YieldsList-from_map}
use Rattle.std.proofs.lemmas.Iterator.Consumers.{reduce_from_yields_List}
use Rattle.std.proofs.lemmas.List.Folds.{max_of_map}
use Rattle.rules.specs.Strings.{str_of}
use Rattle.rules.specs.Room.{longest_of}
use Rattle.laws.proofs.Words.{str_length}
use Rattle.calls.proofs.lengths.longest.Goals as goal

longest_is : (a : ℕ) (n : List ℕ) → fold (λ b w. max b (w % 64)) a n ≡ max a (longest_of (map str_of n))
unfolding longest_of
longest_is a [] = omega arith
longest_is a (w ∷ n) = omega (arith, longest_is (max a (w % 64)) n, str_length w)

pub returns : goal.returns
returns c =
    let n = c.args.id.now in
    c.unwrap_or.ensures
    ∙ ap (λ o. unwrap_or o 0)
    (reduce_from_yields_List _ c.map.result _ c.max.ensures.ran
    (YieldsList-from_map _ (λ w. w % 64) (YieldsList-from_slice n cc) c.map.ensures.closure (λ w b q k. search (rules, tests))))
    ∙ max_of_map (λ w. w % 64) n ∙ (let e = longest_is 0 n in omega arith)
