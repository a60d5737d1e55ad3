-- `joins::narrowed` meets its contract: the words are copied over the front of zeros. Assumes nothing.
use Rattle.laws.proofs.Library.{ap₂, List, ◌++◌, ℕ, length}
use Rattle.std.proofs.lemmas.List.{drop-replicate}
use Rattle.rules.specs.Limits.{narrow}
use Rattle.joins.specs.Buffers.{words}
use Rattle.joins.proofs.narrowed.Goals as goal

pub returns : goal.returns
unfolding words
returns c =
    let w = c.args.w.now in
    let e = ap₂ (λ (x y : List ℕ). x ++ y) c.copy_from_slice.ensures.after (drop-replicate (length w) narrow.strings 0) in
    λ i. record { count = length w; words = e i }
