-- As many answers stand in a buffer behind a run as there were commands. Assumes nothing.
use Rattle.laws.proofs.Library.{◌≡◌, refl, ap, List, [], ◌∷◌, ℕ, suc, length}
use Rattle.rules.specs.Limits.{Limits}
use Rattle.rules.specs.Tables.{Table}
use Rattle.rules.specs.Traces.{line_table}
use Rattle.lines.specs.declared.Command.{Command}
use Rattle.lines.specs.Runs.{meant, answered}

pub answered_length : (L : Limits) (cs : List Command) (t : Table) → length (answered L t cs) ≡ length cs
unfolding answered
answered_length L [] t = refl
answered_length L (c ∷ cs) t = ap (λ (k : ℕ). suc k) (answered_length L cs (line_table L t (meant c)))
