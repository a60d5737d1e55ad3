-- An input in pieces: what each piece prints and leaves. That all of them together print what the rules say of the whole input is `printed_traced`.
use Rattle.std.specs.Prelude.{Bool, cond, ◌&&◌, List, [], ◌∷◌, ◌++◌, ℕ, ◌-◌, ◌^◌, eqb, leb, length}
use Rattle.std.specs.declared.option.Option.{Option}
use Rattle.std.specs.declared.option.Option.TheVariants.{None, Some}
use Rattle.rules.specs.Limits.{narrow, records}
use Rattle.rules.specs.Tables.{fresh_table}
use Rattle.rules.specs.Traces.{Text}
use Rattle.lines.specs.declared.Command.{Command}
use Rattle.lines.specs.Commands.{begun, commands_over, ended, left}
use Rattle.lines.specs.Runs.{answered, table_after}
use Rattle.printing.specs.Answers.{answers_text}
use Rattle.inputs.specs.declared.Trace.{Trace}
use Rattle.inputs.specs.declared.Fed.{Fed}

-- ---- a piece

-- before the first: no line, a fresh table, and more bytes to take than any input has
unfoldable pub started : Trace
started = record { line = begun; table = fresh_table narrow records; budget = 2 ^ 64 - 1 }

-- the lines that end in it, each with its answer
abbrev pub piece_answers : Trace → Text → List Command
piece_answers s p = answered narrow s.table (ended s.line p)

-- what it prints, and where the trace then stands
unfoldable pub piece_text : Trace → Text → Text
piece_text s p = answers_text (piece_answers s p)

unfoldable pub after : Trace → Text → Trace
after s p = record { line = left s.line p; table = table_after narrow s.table (ended s.line p); budget = s.budget - length p }

-- ---- in buffers

-- a command for each byte, and no byte more than are to come; else nothing is taken and nothing written
abbrev pub room_for : ℕ → ℕ → ℕ → Bool
room_for n commands budget = leb n commands && leb n budget

abbrev pub has_room : Trace → Text → List Command → Bool
has_room s p commands = room_for (length p) (length commands) s.budget

unfoldable pub fed : Trace → Text → List Command → Option Fed
fed s p commands = cond (has_room s p commands) (Some (record { trace = after s p; count = length (piece_answers s p) })) None

unfoldable pub fed_commands : Trace → Text → List Command → List Command
fed_commands s p commands = cond (has_room s p commands) (commands_over (piece_answers s p) commands) commands

-- ---- the end: a last line without newline (newline is 10) is answered as if it had one

abbrev pub is_whole : Trace → Bool
is_whole s = eqb s.line.len 0

unfoldable pub closed : Trace → List Command → Option Fed
closed s commands = cond (is_whole s) (Some (record { trace = s; count = 0 })) (fed s (10 ∷ []) commands)

unfoldable pub closed_commands : Trace → List Command → List Command
closed_commands s commands = cond (is_whole s) commands (fed_commands s (10 ∷ []) commands)

-- ---- all pieces, one after the other, then the end

unfoldable pub end_text : Trace → Text
end_text s = cond (is_whole s) [] (piece_text s (10 ∷ []))

unfoldable pub text_of : Trace → List Text → Text
text_of s [] = end_text s
text_of s (p ∷ ps) = piece_text s p ++ text_of (after s p) ps
