-- A command says its line again; and the commands of one piece after another are answered as those of one piece. Assumes nothing.
use Rattle.laws.proofs.Library.{◌≡◌, refl, ap, List, [], ◌∷◌, ◌++◌}
use Rattle.rules.specs.Limits.{Limits}
use Rattle.rules.specs.Tables.{Table}
use Rattle.rules.specs.Traces.{Line, update, fork, join, compare, spare, unreadable, line_table}
use Rattle.lines.specs.declared.Command.{Command}
use Rattle.lines.specs.Commands.{command_of}
use Rattle.lines.specs.Runs.{meant, answer, answered, table_after}

pub meant_command : (m : Line) → meant (command_of m) ≡ m
unfolding meant command_of
meant_command (update a) = refl
meant_command (fork a) = refl
meant_command (join a b) = refl
meant_command (compare a b) = refl
meant_command (spare a) = refl
meant_command unreadable = refl

-- ---- piece after piece

pub answered_append : (L : Limits) (cs ds : List Command) (t : Table) → answered L t (cs ++ ds) ≡ answered L t cs ++ answered L (table_after L t cs) ds
unfolding answered table_after
answered_append L [] ds t = refl
answered_append L (c ∷ cs) ds t =
    ap (λ (es : List Command). answer L t c ∷ es) (answered_append L cs ds (line_table L t (meant c)))
