-- Every history of calls on a fresh table leaves it right: the fresh table keeps the invariant, each call keeps it, and it says all that
-- is promised. It holds at any limits whose strings fit a word and whose names hold a string. Assumes nothing.
use Rattle.laws.proofs.Library.{List, [], ◌∷◌, ℕ, ◌≤◌, arith}
use Rattle.rules.specs.Limits.{Limits, narrow}
use Rattle.rules.specs.Histories.{Call, World, after, after_all, begin, history}
use Rattle.rules.specs.Promises.{EveryHistory}
use Rattle.histories.proofs.Good.{Good, good_begin}
use Rattle.histories.proofs.Keeps.{good_after}
use Rattle.histories.proofs.Right.{good_right}

module _ (L : Limits) (room : L.digits ≤ 58) where
  pub good_all : (n : ℕ) (w : World) (cs : List Call) → Good L n w → Good L n (after_all L w cs)
  unfolding after_all
  good_all n w [] g = g
  good_all n w (c ∷ cs) g = good_all n (after L w c) cs (good_after L room n w g c)

  pub history_good : 1 ≤ L.strings → (n : ℕ) (cs : List Call) → 1 ≤ n → Good L n (history L n cs)
  unfolding history
  history_good strings n cs some = good_all n (begin L n) cs (good_begin L room n some strings)

  -- demand 3 at these limits
  pub every_history_at : 1 ≤ L.strings → EveryHistory L
  every_history_at strings n cs some few = good_right L n some few (history L n cs) (history_good strings n cs some)

-- demand 3 at the limits in force
pub every_history : EveryHistory narrow
every_history = every_history_at narrow (omega arith) (omega arith)
