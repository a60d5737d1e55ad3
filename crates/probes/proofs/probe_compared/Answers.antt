-- `probes::probe_compared` meets its contract: it compares both records that the words say. Assumes nothing.
use Rattle.laws.proofs.Library.{Result, ap, ap₂, ◌∙◌}
use Rattle.rules.specs.Limits.{narrow}
use Rattle.rules.specs.Values.{compared_of, standing}
use Rattle.rules.specs.Packed.{compared_number}
use Rattle.rules.specs.declared.Standing.{Standing}
use Rattle.rules.specs.declared.Refusal.{Refusal}
use Rattle.laws.proofs.Standing.{compared_standing}
use Rattle.probes.specs.Handed.{standing_words}
use Rattle.probes.proofs.probe_compared.Goals as goal

pub returns : goal.returns
returns c =
    let is = c.compare.ensures ∙ ap₂ (standing narrow) c.record_in.ensures c.record_in-2.ensures in (
      c.stood.ensures.0 ∙ ap (λ (s : Result Standing Refusal). compared_number (compared_of s)) is ∙ ap compared_number (compared_standing narrow _ _),
      c.stood.ensures.1 ∙ ap standing_words is,
    )
