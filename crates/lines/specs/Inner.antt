-- What the private functions give. No public contract and no law of the crate rests on these: each is tied to the rules where it is used.
use Rattle.std.specs.Prelude.{cond, ℕ, ◌-◌, eqb}
use Rattle.std.specs.List.{position}
use Rattle.std.specs.declared.option.Option.{Option}
use Rattle.std.specs.declared.option.Option.TheVariants.{None, Some}
use Rattle.std.proofs.Math.Option as rules
use Rattle.rules.specs.Traces.{Text, Line, is_digit, update, fork, join, compare, spare, unreadable}
use Rattle.lines.specs.declared.Command.{Command}
use Rattle.lines.specs.Commands.{command_of}

-- what the rules may give, as the code has it
abbrev pub given : rules.Option ℕ → Option ℕ
given rules.none = None
given (rules.some a) = Some a

-- the command of a line that reads
abbrev pub said : Line → Option Command
said (update a) = Some (command_of (update a))
said (fork a) = Some (command_of (fork a))
said (join a b) = Some (command_of (join a b))
said (compare a b) = Some (command_of (compare a b))
said (spare a) = Some (command_of (spare a))
said unreadable = None

-- the digit that a byte is
abbrev pub digit_of : ℕ → Option ℕ
digit_of x = cond (is_digit x) (Some (x - 48)) None

-- where the first space stands
abbrev pub first_space : Text → Option ℕ
first_space l = position (λ x. eqb x 32) l
