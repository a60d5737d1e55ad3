-- `ebbmuslin::ebbmuslin_update` meets its contract: it is the packed call, with its answer as a number. Assumes nothing.
use Rattle.laws.proofs.Library.{ap, ◌∙◌}
use Rattle.rules.specs.Packed.{written_number}
use Rattle.ebbmuslin.proofs.ebbmuslin_update.Goals as goal

pub returns : goal.returns
returns c =
    let f = c.update in
    (c.written_code.ensures ∙ ap written_number f.ensures.0, f.ensures.1)
