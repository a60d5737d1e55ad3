-- A trace's lines as calls: which calls they make, and what table they reach.
use Rattle.std.specs.Prelude.{◌≡◌, List, [], ◌∷◌, ◌++◌}
use Rattle.rules.specs.Limits.{Limits, records}
use Rattle.rules.specs.Tables.{Table, fresh_table}
use Rattle.rules.specs.Histories.{Call, history, beside}
use Rattle.rules.specs.Traces.{Text, Line, update, fork, join, compare, spare, unreadable, line_table, traced_from, lines_of, read_lines, traced}
use Rattle.rules.specs.Promises.{Right}

-- spare is no call of a history, and an unreadable line is no call
unfoldable pub calls_of : List Line → List Call
calls_of [] = []
calls_of (update a ∷ ls) = Call.update a ∷ calls_of ls
calls_of (fork a ∷ ls) = Call.fork a ∷ calls_of ls
calls_of (join a b ∷ ls) = Call.join a b ∷ calls_of ls
calls_of (compare a b ∷ ls) = Call.compare a b ∷ calls_of ls
calls_of (spare a ∷ ls) = calls_of ls
calls_of (unreadable ∷ ls) = calls_of ls

-- what lines leave, one after the other
unfoldable pub lines_table : Limits → Table → List Line → Table
lines_table L t [] = t
lines_table L t (l ∷ ls) = lines_table L (line_table L t l) ls

-- the table that the trace tool has behind these lines
abbrev pub reached : Limits → List Line → Table
reached L ls = lines_table L (fresh_table L records) ls

-- every table that `traced` goes through is right: however a trace's lines are cut in two, the second part is answered at a table of a history
abbrev pub RightTraced : Limits → Type 0
RightTraced L = (input : Text) (ls ms : List Line) → read_lines (lines_of input) ≡ ls ++ ms
    → (traced L input ≡ traced_from L (fresh_table L records) ls ++ traced_from L (reached L ls) ms) × Right L (beside (reached L ls) (history L records (calls_of ls)))
