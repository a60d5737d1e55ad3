-- "A bundle is at most 65,536 bytes: entries back to back, each one length byte (3 to 117) and that many bytes of packed stamp."
use Rattle.std.specs.Prelude.{Bool, cond, ◌||◌, List, [], ◌∷◌, ℕ, zero, suc, ◌+◌, ltb, length, take, drop, Result, Ok, Err}
use Rattle.rules.specs.Limits.{Limits, bundle_room, shortest, longest}
use Rattle.rules.specs.Refusals.{and_then}
use Rattle.rules.specs.Packed.{read_stamp}
use Rattle.rules.specs.declared.Refusal.{Refusal}
use Rattle.rules.specs.declared.Refusal.TheVariants.{Malformed, Ended}
use Rattle.rules.specs.declared.Record.{Record}

-- an entry's own bytes, or the refusal
abbrev pub Entry : Type 0
Entry = Result (List ℕ) Refusal

-- the length byte and the room: "a length byte outside 3 to 117, or an entry cut short"
unfoldable pub bad_entry : Limits → ℕ → List ℕ → Bool
bad_entry L n rest = ltb n (shortest L) || ltb (longest L) n || ltb (length rest) n

-- the entry at the front: "13 or 1"
unfoldable pub front_entry : Limits → List ℕ → Entry
front_entry L [] = Err Ended
front_entry L (n ∷ rest) = cond (bad_entry L n rest) (Err Malformed) (Ok (take n rest))

-- what comes behind the entry at the front
abbrev pub behind : List ℕ → Entry → (List ℕ → Entry) → Entry
behind b (Ok p) next = next (drop (1 + length p) b)
behind b (Err r) next = Err r

-- "For entries before k only the length byte and the room are looked at"
unfoldable pub entry_in : Limits → ℕ → List ℕ → Entry
entry_in L zero b = front_entry L b
entry_in L (suc k) b = behind b (front_entry L b) (λ rest. entry_in L k rest)

-- "1 for its size, then entry by entry"
unfoldable pub entry : Limits → ℕ → List ℕ → Entry
entry L k b = cond (ltb bundle_room (length b)) (Err Malformed) (entry_in L k b)

-- "then 1 and 2 of the stamp in entry k"
unfoldable pub read_entry : Limits → ℕ → List ℕ → Result Record Refusal
read_entry L k b = and_then (entry L k b) (read_stamp L)
