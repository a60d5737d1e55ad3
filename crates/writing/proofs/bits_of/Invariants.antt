use Rattle.laws.proofs.Library.{◌≡◌, ◌&&◌, List, map, ℕ, ◌+◌, ◌*◌}
use Rattle.laws.proofs.Library.{◌≤◌, leb, length, drop}
use Rattle.rules.specs.Limits.{narrow}
use Rattle.rules.specs.Strings.{str_of}
use Rattle.rules.specs.Packed.{strings_bits}
use Rattle.writing.specs.Fits.{all_fit}
use Rattle.writing.proofs.bits_of.Given as goal

abbrev pub bits : List ℕ → ℕ
bits n = length (strings_bits narrow (map str_of n))

abbrev pub invariant-loop-s : goal.invariant-loop-s
invariant-loop-s l =
    (l.sum ≤ 84 + 63 * l.s-index) × (l.sum + bits (drop l.s-index l.n) + 5 * l.s-index ≡ 4 + bits l.n + 5 * length l.n)
    × ((leb l.longest 24 && all_fit narrow (drop l.s-index l.n)) ≡ all_fit narrow l.n)
