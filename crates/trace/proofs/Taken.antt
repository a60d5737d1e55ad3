-- With a command for each byte a piece is taken unless the trace takes not so many bytes more; its answers are in the buffer, and what it left
-- takes fewer bytes more. Assumes nothing.
use Rattle.laws.proofs.Library.{◌≡◌, ◌⊎◌, inl, inr, List, ℕ, ◌≤◌, ◌<◌, max, arith, length}
use Rattle.std.specs.Prelude.{MatchOption}
use Rattle.std.specs.declared.option.Option.{Option}
use Rattle.std.specs.declared.option.Option.TheVariants.{None, Some}
use Rattle.rules.specs.Traces.{Text}
use Rattle.lines.specs.declared.Command.{Command}
use Rattle.inputs.specs.declared.Trace.{Trace}
use Rattle.inputs.specs.declared.Fed.{Fed}
use Rattle.inputs.specs.Pieces.{fed, closed}
use Rattle.inputs.proofs.Feeds.{fed_shown, fed_less, closed_shown}

-- what came of n bytes, where the end of the input counts as one
abbrev pub IsTaken : Trace → ℕ → List Command → Option Fed → Type 0
IsTaken s n commands r = MatchOption r (s.budget < max 1 n) (λ (f : Fed). (f.count ≤ length commands) × (0 < n → f.trace.budget < s.budget))

pub fed_taken : (s : Trace) (p : Text) (commands : List Command) (r : Option Fed) → r ≡ fed s p commands → length p ≤ length commands
    → IsTaken s (length p) commands r
fed_taken s p commands None e h = omega (arith, fed_shown s p commands None e h)
fed_taken s p commands (Some f) e h = (fed_shown s p commands (Some f) e h, fed_less s p commands f e)

pub closed_taken : (s : Trace) (commands : List Command) (r : Option Fed) → r ≡ closed s commands → 0 < length commands → IsTaken s 0 commands r
closed_taken s commands None e h = closed_shown s commands None e h
closed_taken s commands (Some f) e h = (closed_shown s commands (Some f) e h, λ k. absurd (omega arith))

-- a piece, or the end of the input where it is empty
pub came : (s : Trace) (p : Text) (commands : List Command) (r : Option Fed) → length p ≤ length commands → 0 < length commands
    → ((length p ≡ 0) × (r ≡ closed s commands)) ⊎ (r ≡ fed s p commands) → IsTaken s (length p) commands r
came s p commands r h k (inl (none, e)) = rw none (closed_taken s commands r e k)
came s p commands r h k (inr e) = fed_taken s p commands r e h
