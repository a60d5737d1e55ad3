use Rattle.laws.proofs.Library.{◌≡◌, Bool, true, List, ◌++◌, ℕ, ◌+◌, ◌*◌, ◌-◌, ◌/◌, length, take}
use Rattle.rules.specs.Strings.{field}
use Rattle.rules.specs.Packed.{bits_of}
use Rattle.layout.proofs.Bytes.{are_bytes}
use Rattle.writing.proofs.Pen.end.Given as goal

-- bs are the bits of the bytes that went out, i of n, and behind them those at the top of rest
pub record Going (bs : List Bool) (n rest i : ℕ) (l : List ℕ) : Type 0 where
  pub bits : bits_of (take i l) ++ take ((n - i) * 8) (field 64 rest) ≡ bs
  pub bytes : are_bytes (take i l) ≡ true
  pub long : length l ≡ n

abbrev pub invariant-loop-byte : goal.invariant-loop-byte
invariant-loop-byte l =
    let n = (l.held + 7) / 8 in
    Going (take (n * 8) (field 64 l.initial.rest)) n l.rest l.byte-index l.byte-items
