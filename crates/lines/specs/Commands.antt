-- Lines as commands: the command that a line says, and those that a piece of the input ends.
use Rattle.std.specs.Prelude.{Bool, cond, List, [], ◌∷◌, ◌++◌, ℕ, ◌+◌, eqb, leb, ltb, length, set, take, drop, replicate}
use Rattle.std.specs.declared.option.Option.{Option}
use Rattle.std.specs.declared.option.Option.TheVariants.{None, Some}
use Rattle.rules.specs.Traces.{Line, Text, read_line, update, fork, join, compare, spare, unreadable}
use Rattle.lines.specs.declared.Unfinished.{Unfinished}
use Rattle.lines.specs.declared.Command.{Command}
use Rattle.lines.specs.declared.Gathered.{Gathered}

-- ---- a line

-- an unreadable line says nothing
abbrev pub unread : Command
unread = record { op = 0; a = 0; b = 0 }

-- the letter's byte, and the slots; what is not named is 0
unfoldable pub command_of : Line → Command
command_of (update a) = record { op = 85; a = a; b = 0 }
command_of (fork a) = record { op = 70; a = a; b = 0 }
command_of (join a b) = record { op = 74; a = a; b = b }
command_of (compare a b) = record { op = 67; a = a; b = b }
command_of (spare a) = record { op = 83; a = a; b = 0 }
command_of unreadable = unread

unfoldable pub commands_of : List Line → List Command
commands_of [] = []
commands_of (m ∷ ms) = command_of m ∷ commands_of ms

-- the bytes kept of a line
abbrev pub text_of : Unfinished → Text
text_of l = take l.len l.bytes

-- the command of the bytes kept
unfoldable pub parsed : Unfinished → Command
parsed l = command_of (read_line (text_of l))

-- ---- the unfinished line

unfoldable pub begun : Unfinished
begun = record { len = 0; bytes = replicate 8 0 }

-- one byte more; behind the eighth no byte is kept
unfoldable pub pushed : Unfinished → ℕ → Unfinished
pushed l x = cond (ltb l.len 8) (record { len = l.len + 1; bytes = set l.bytes l.len x }) l

-- the commands of the lines that end in a piece, where l stands before it
unfoldable pub ended : Unfinished → Text → List Command
ended l [] = []
ended l (x ∷ p) = cond (eqb x 10) (parsed l ∷ ended begun p) (ended (pushed l x) p)

-- the line that is unfinished behind the piece
unfoldable pub left : Unfinished → Text → Unfinished
left l [] = l
left l (x ∷ p) = cond (eqb x 10) (left begun p) (left (pushed l x) p)

-- ---- commands in a buffer

-- commands at the front of a buffer, and the rest of it as it was
abbrev pub commands_over : List Command → List Command → List Command
commands_over cs buffer = cs ++ drop (length cs) buffer

-- room for a command for each byte; without it nothing is read and nothing written
abbrev pub has_room : Text → List Command → Bool
has_room p buffer = leb (length p) (length buffer)

unfoldable pub gathered : Unfinished → Text → List Command → Option Gathered
gathered l p buffer = cond (has_room p buffer) (Some (record { line = left l p; count = length (ended l p) })) None

-- the commands at the front, and the rest of the buffer as it was
unfoldable pub gathered_in : Unfinished → Text → List Command → List Command
gathered_in l p buffer = cond (has_room p buffer) (commands_over (ended l p) buffer) buffer

-- ---- a whole input, piece after piece, then its last line

unfoldable pub whole : List Text → Text
whole [] = []
whole (p ∷ ps) = p ++ whole ps

-- a last line without newline, where it is something
unfoldable pub last_line : Unfinished → List Command
last_line l = cond (eqb l.len 0) [] (parsed l ∷ [])

unfoldable pub all_gathered : Unfinished → List Text → List Command
all_gathered l [] = last_line l
all_gathered l (p ∷ ps) = ended l p ++ all_gathered (left l p) ps
