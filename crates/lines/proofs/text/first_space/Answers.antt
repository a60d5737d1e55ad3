-- `lines::text::first_space` meets its contract: the library's search gives the first place at which its test passes. Assumes nothing.
use Rattle.laws.proofs.Library.{eqb}
use Rattle.std.proofs.Common.{rules, tests}
use Rattle.std.proofs.lemmas.Iterator.{YieldsList-from_slice}
use Rattle.std.proofs.lemmas.Iterator.Search.{position_from_yields_List}
use Rattle.lines.proofs.text.first_space.Goals as goal

pub returns : goal.returns
returns c =
    position_from_yields_List (λ x. eqb x 32) _ _ _ c.position.ensures.ran (YieldsList-from_slice c.args.s.now cc) (λ x b q k. search (rules, tests))
