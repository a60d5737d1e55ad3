-- The room of a stamp is told by small numbers. Assumes nothing.
use Rattle.laws.proofs.Library.{◌≡◌, refl, List, [], ◌∷◌, map, ℕ, ◌<◌, ◌≤◌, true, arith, length, take, length-map, Result, Ok, Err}
use Rattle.rules.specs.Limits.{narrow}
use Rattle.rules.specs.Strings.{str_of}
use Rattle.rules.specs.Stored.{is_stored, held, strs_in}
use Rattle.rules.specs.Refusals.{and_then}
use Rattle.rules.specs.Packed.{read_stamp}
use Rattle.rules.specs.Room.{longest_of, room_of, room_in}
use Rattle.rules.specs.declared.Record.{Record}
use Rattle.rules.specs.declared.Refusal.{Refusal}
use Rattle.rules.specs.declared.Room.{Room}
use Rattle.laws.proofs.Words.{str_length}
use Rattle.stamps.proofs.Laws.{both_counted, refusal_not_done}
use Rattle.calls.proofs.Laws.{read_stored}

-- no string is longer than a word's length field tells
longest_few : (n : List ℕ) → longest_of (map str_of n) < 64
unfolding longest_of
longest_few [] = omega arith
longest_few (w ∷ n) = omega (arith, str_length w, longest_few n)

few_of : (r : Room) (g : Result Record Refusal) → ((x : Record) → g ≡ Ok x → is_stored narrow x ≡ true)
    → and_then g (λ x. Ok (room_of (held x).id)) ≡ Ok r → (r.strings ≤ 16) × (r.digits < 64)
unfolding room_of held strs_in
few_of r (Ok x) lawful e =
    let n = (both_counted x (lawful x refl)).1 in
    let words = take x.id.count x.id.words in
    let is : r ≡ record { strings = length (map str_of words); digits = longest_of (map str_of words) } = cc in
    rw is (omega (arith, n.few, n.taken, length-map words str_of), longest_few words)
few_of r (Err n) lawful e = absurd (refusal_not_done e)

pub room_few : (b : List ℕ) (r : Room) → room_in narrow b ≡ Ok r → (r.strings ≤ 16) × (r.digits < 64)
unfolding room_in
room_few b r e = few_of r (read_stamp narrow b) (read_stored b) e
