-- How much of the limits a packed stamp takes up already: the early warning before refusals 6 and 7.
use Rattle.std.specs.Prelude.{List, [], ◌∷◌, ℕ, zero, ◌+◌, ◌*◌, max, length, Result, Ok, Err}
use Rattle.rules.specs.Limits.{Limits}
use Rattle.rules.specs.Names.{Name}
use Rattle.rules.specs.Stored.{held}
use Rattle.rules.specs.Refusals.{and_then}
use Rattle.rules.specs.Packed.{read_stamp}
use Rattle.rules.specs.declared.Refusal.{Refusal}
use Rattle.rules.specs.declared.Room.{Room}

-- the digits of the longest of these strings
unfoldable pub longest_of : Name → ℕ
longest_of [] = zero
longest_of (s ∷ n) = max (length s) (longest_of n)

-- the number of id strings, and the digits of the longest of them
unfoldable pub room_of : Name → Room
room_of n = record { strings = length n; digits = longest_of n }

unfoldable pub room_in : Limits → List ℕ → Result Room Refusal
room_in L b = and_then (read_stamp L b) (λ r. Ok (room_of (held r).id))

-- "100 times the number of id strings plus the digits of the longest of them", "0 where the stamp is refused"
abbrev pub hundreds : Result Room Refusal → ℕ
hundreds (Ok r) = r.strings * 100 + r.digits
hundreds (Err r) = zero

unfoldable pub room_number : Limits → List ℕ → ℕ
room_number L b = hundreds (room_in L b)
