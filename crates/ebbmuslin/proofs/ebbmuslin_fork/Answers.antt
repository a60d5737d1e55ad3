-- `ebbmuslin::ebbmuslin_fork` meets its contract: it is the packed call, with its answer as a number. Assumes nothing.
use Rattle.laws.proofs.Library.{ap, ◌∙◌}
use Rattle.rules.specs.Packed.{written_number}
use Rattle.ebbmuslin.proofs.ebbmuslin_fork.Goals as goal

pub returns : goal.returns
returns c =
    let f = c.fork in
    (c.written_code.ensures ∙ ap written_number f.ensures.0, f.ensures.1, f.ensures.2)
