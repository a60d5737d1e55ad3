-- What the loop of `Bits::name_at` keeps: the strings read so far are those of the words written, and the reader of bits goes on from there.
use Rattle.laws.proofs.Library.{◌∷◌, ◌+◌, ◌-◌, take}
use Rattle.reading.proofs.Sofar.{Sofar}
use Rattle.reading.proofs.Bits.name_at.Given as goal

abbrev pub invariant-loop-slot : goal.invariant-loop-slot
invariant-loop-slot l =
    Sofar l.self.bytes.now l.self.count l.pos (l.count - (l.slot-index + 1)) l.prior l.next (l.initial.prior ∷ take l.slot-index l.slot-items)
