-- `probes::probe_stood` meets its contract: it compares both packed stamps. Assumes nothing.
use Rattle.laws.proofs.Library.{Result, ap, ◌∙◌}
use Rattle.rules.specs.Limits.{narrow}
use Rattle.rules.specs.Values.{compared_of}
use Rattle.rules.specs.Packed.{compared_number}
use Rattle.rules.specs.declared.Standing.{Standing}
use Rattle.rules.specs.declared.Refusal.{Refusal}
use Rattle.laws.proofs.Standing.{compared_packed}
use Rattle.probes.specs.Handed.{standing_words}
use Rattle.probes.proofs.probe_stood.Goals as goal

pub returns : goal.returns
returns c =
    let is = c.compare.ensures in (
      c.stood.ensures.0 ∙ ap (λ (s : Result Standing Refusal). compared_number (compared_of s)) is ∙ ap compared_number (compared_packed narrow _ _),
      c.stood.ensures.1 ∙ ap standing_words is,
    )
