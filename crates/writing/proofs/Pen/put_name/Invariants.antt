use Rattle.laws.proofs.Library.{List, ◌++◌, map, ℕ, ◌-◌, Bool, length, take}
use Rattle.rules.specs.Limits.{narrow}
use Rattle.rules.specs.Strings.{field, str_of}
use Rattle.rules.specs.Packed.{strings_bits}
use Rattle.writing.specs.Cursors.{Put}
use Rattle.writing.proofs.Pen.put_name.Given as goal

abbrev pub strings : List ℕ → List Bool
strings n = strings_bits narrow (map str_of n)

abbrev pub invariant-loop-s : goal.invariant-loop-s
invariant-loop-s l = Put l.fn.self (field 4 (length l.n - 1) ++ strings (take l.s-index l.n)) l.self
