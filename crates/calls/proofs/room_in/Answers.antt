-- `calls::room_in` meets its contract: what the reader refuses is passed out; else the id has as many strings as words, and `longest` tells the
-- digits. Assumes nothing.
use Rattle.laws.proofs.Library.{◌≡◌, ◌∙◌, List, ℕ, length, map, length-map, Ok, Err}
use Rattle.rules.specs.Limits.{narrow}
use Rattle.rules.specs.Strings.{str_of}
use Rattle.rules.specs.Stored.{held, strs_in}
use Rattle.rules.specs.Packed.{read_stamp}
use Rattle.rules.specs.Room.{room_of, room_in, longest_of}
use Rattle.rules.specs.declared.Refusal.{Refusal}
use Rattle.rules.specs.declared.StampWords.{StampWords}
use Rattle.calls.specs.Joins.{LentBy}
use Rattle.std.proofs.Common.{rules}
use Rattle.calls.proofs.room_in.Goals as goal

no_room : (s : List ℕ) {r : Refusal} → read_stamp narrow s ≡ Err r → Err r ≡ room_in narrow s
unfolding room_in
no_room s n = rw n

is_room : {s : List ℕ} {w : StampWords} {n : ℕ} → LentBy s w → n ≡ longest_of (map str_of w.id.now)
    → Ok (record { strings = length w.id.now; digits = n }) ≡ room_in narrow s
unfolding room_in room_of held strs_in
is_room {w = w} x e = rw (x.is, x.lent.id, e, length-map w.id.now str_of)

pub returns-in_err-s : goal.returns-in_err-s
returns-in_err-s c =
    let e : c.from_residual.result ≡ Err c.in_err-s.field-0.0 = search rules in
    e ∙ no_room c.args.stamp.now c.in_err-s.ensures

pub returns : goal.returns
returns c = is_room c.in_ok-s.ensures c.longest.ensures
