-- `walks::is_long` meets its contract: `any` asks each word for its length. Assumes nothing.
use Rattle.std.proofs.Common.{◌∙◌, rules, tests}
use Rattle.std.proofs.lemmas.Iterator.{YieldsList-from_slice}
use Rattle.std.proofs.lemmas.Iterator.Search.{any_from_yields_List}
use Rattle.walks.proofs.Steps.{is_longest, long_any}
use Rattle.walks.proofs.is_long.Goals as goal

pub returns : goal.returns
returns c =
    any_from_yields_List is_longest _ _ _ c.any.ensures.ran (YieldsList-from_slice c.args.n.now cc) (λ x b q k. search (rules, tests)) ∙ long_any c.args.n.now
