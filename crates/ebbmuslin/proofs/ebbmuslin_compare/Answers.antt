-- `ebbmuslin::ebbmuslin_compare` meets its contract: it is the packed call, with its answer as a number and without its strings. Assumes nothing.
use Rattle.laws.proofs.Library.{ap, ◌∙◌}
use Rattle.rules.specs.Limits.{narrow}
use Rattle.rules.specs.Values.{compared_of}
use Rattle.rules.specs.Packed.{compared_number}
use Rattle.laws.proofs.Standing.{compared_packed}
use Rattle.ebbmuslin.proofs.ebbmuslin_compare.Goals as goal

pub returns : goal.returns
returns c = c.compared_code.ensures ∙ ap compared_number (ap compared_of c.compare.ensures ∙ compared_packed narrow _ _)
