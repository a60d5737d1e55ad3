-- `printing::answers::Page::conflict` meets its contract: five texts, each behind the one before. Assumes nothing.
use Rattle.rules.specs.Traces.{conflict_text}
use Rattle.printing.proofs.Stores.{then}
use Rattle.printing.proofs.answers.Page.conflict.Goals as goal

pub returns : goal.returns
unfolding conflict_text
returns c = then _ _ c.word.ensures (then _ _ c.digits.ensures (then _ _ c.word-2.ensures (then _ _ c.digits-2.ensures c.word-3.ensures)))
