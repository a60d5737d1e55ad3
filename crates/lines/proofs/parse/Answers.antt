-- `lines::parse` meets its contract: all bytes kept are read, and what does not read says nothing. Assumes nothing.
use Rattle.laws.proofs.Library.{◌≡◌, refl, length, take, rules}
use Rattle.std.proofs.Common.{unwrap_or}
use Rattle.std.proofs.lemmas.List.{take_min}
use Rattle.rules.specs.Traces.{Line, read_line, update, fork, join, compare, spare, unreadable}
use Rattle.lines.specs.Commands.{command_of, parsed, text_of, unread}
use Rattle.lines.specs.Inner.{said}
use Rattle.lines.proofs.parse.Goals as goal

said_or : (m : Line) → unwrap_or (said m) unread ≡ command_of m
unfolding command_of
said_or (update a) = refl
said_or (fork a) = refl
said_or (join a b) = refl
said_or (compare a b) = refl
said_or (spare a) = refl
said_or unreadable = refl

pub returns : goal.returns
unfolding parsed
returns c =
    let size : length c.args.line.bytes ≡ 8 = search rules in
    let kept : take c.min-kept.result c.args.line.bytes ≡ text_of c.args.line =
    rw (c.min-kept.ensures, ← size) (take_min c.args.line.len c.args.line.bytes) in
    rw (c.unwrap_or.ensures, c.command.ensures, kept) (said_or (read_line (text_of c.args.line)))
