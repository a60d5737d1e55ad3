-- Commands at a table: what each becomes where it is answered, and the table that is left.
use Rattle.std.specs.Prelude.{cond, List, [], ◌∷◌, ℕ, ◌+◌, eqb, Result, Ok, Err}
use Rattle.rules.specs.Limits.{Limits}
use Rattle.rules.specs.Tables.{Table, update_at, fork_at, join_at, standing_at, spare_at, slot_number, spared_number}
use Rattle.rules.specs.Refusals.{number, verdict_number}
use Rattle.rules.specs.declared.Verdict.{Verdict}
use Rattle.rules.specs.declared.Standing.{Standing}
use Rattle.rules.specs.declared.Refusal.{Refusal}
use Rattle.rules.specs.declared.Refusal.TheVariants.{Unread}
use Rattle.rules.specs.Traces.{update, fork, join, compare, spare, unreadable, line_table, Line}
use Rattle.lines.specs.declared.Command.{Command}

-- the line that a command says, by its letter
unfoldable pub meant : Command → Line
meant c =
    cond (eqb c.op 85) (update c.a)
    (cond (eqb c.op 70) (fork c.a)
    (cond (eqb c.op 74) (join c.a c.b) (cond (eqb c.op 67) (compare c.a c.b) (cond (eqb c.op 83) (spare c.a) unreadable))))

-- a command with the number of its answer in the place of the first slot
abbrev pub numbered : Command → ℕ → Command
numbered c n = record { op = c.op; a = n; b = c.b }

-- a compare with its answer: a conflict is the letter c (99), which no line has, and the words of both uncovered strings
abbrev pub stood : Command → Result Standing Refusal → Command
stood c (Ok Standing.Equal) = numbered c (verdict_number Verdict.Equal)
stood c (Ok (Standing.Obsolete y)) = numbered c (verdict_number Verdict.Obsolete)
stood c (Ok (Standing.Newer x)) = numbered c (verdict_number Verdict.Newer)
stood c (Ok (Standing.Conflict x y)) = record { op = 99; a = x.word; b = y.word }
stood c (Err r) = numbered c (1000 + number r)

-- a command with the answer to the line that it says; an unreadable line is refusal 11, and has no letter afterwards
unfoldable pub answer_to : Limits → Table → Command → Line → Command
answer_to L t c (update a) = numbered c (slot_number (update_at L t a).answer)
answer_to L t c (fork a) = numbered c (slot_number (fork_at L t a).answer)
answer_to L t c (join a b) = numbered c (slot_number (join_at L t a b).answer)
answer_to L t c (compare a b) = stood c (standing_at L t a b)
answer_to L t c (spare a) = numbered c (spared_number (spare_at L t a))
answer_to L t c unreadable = record { op = 0; a = 1000 + number Unread; b = c.b }

abbrev pub answer : Limits → Table → Command → Command
answer L t c = answer_to L t c (meant c)

-- each command with its answer, one after the other
unfoldable pub answered : Limits → Table → List Command → List Command
answered L t [] = []
answered L t (c ∷ cs) = answer L t c ∷ answered L (line_table L t (meant c)) cs

-- the table behind them
unfoldable pub table_after : Limits → Table → List Command → Table
table_after L t [] = t
table_after L t (c ∷ cs) = table_after L (line_table L t (meant c)) cs
