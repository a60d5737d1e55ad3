-- `probes::probe_compare` meets its contract: it tells the number of the standing that the table's function gives. Assumes nothing.
use Rattle.laws.proofs.Library.{Result, ap, ◌∙◌}
use Rattle.laws.proofs.Standing.{compared_at}
use Rattle.rules.specs.Limits.{narrow}
use Rattle.rules.specs.Packed.{compared_number}
use Rattle.rules.specs.Values.{compared_of}
use Rattle.rules.specs.declared.Standing.{Standing}
use Rattle.rules.specs.declared.Refusal.{Refusal}
use Rattle.probes.proofs.probe_compare.Goals as goal

pub returns : goal.returns
returns c =
    c.compared_code.ensures ∙ ap (λ (s : Result Standing Refusal). compared_number (compared_of s)) c.compare.ensures
    ∙ ap compared_number (compared_at narrow c.args.t.now c.args.a c.args.b)
