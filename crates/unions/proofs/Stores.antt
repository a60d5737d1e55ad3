-- Words stored one after the other are one store of all of them, and a store at the front is those words over the buffer. Assumes nothing.
use Rattle.laws.proofs.Library.{◌≡◌, List, [], ◌∷◌, ◌++◌, ℕ, suc, ◌+◌, ◌≤◌, zero-add, add-zero, add-suc, suc-add, arith, length}
use Rattle.laws.proofs.Library.{set, sets, sets-eq}
use Rattle.rules.specs.Packed.{over}

pub sets_append : (s t l : List ℕ) (i : ℕ) → sets l i (s ++ t) ≡ sets (sets l i s) (i + length s) t
sets_append [] t l i = rw add-zero
sets_append (x ∷ s) t l i = rw add-suc (rw suc-add at (sets_append s t (set l i x) (suc i)))

pub sets_front : (vs l : List ℕ) → length vs ≤ length l → sets l 0 vs ≡ over vs l
sets_front vs l h = rw zero-add at (sets-eq vs l 0 (omega arith))
