use Rattle.laws.proofs.Library.{◌≡◌, true, drop}
use Rattle.rules.specs.Strings.{is_word}
use Rattle.names.proofs.Shape.{rise, rise_from}
use Rattle.names.proofs.rises.Given as goal

-- what is left to ask: of the words behind the last one seen, which is that of a string
abbrev pub invariant-loop-s : goal.invariant-loop-s
invariant-loop-s l = (is_word 24 l.prior ≡ true) × (rise_from 24 l.prior (drop l.s-index l.more) ≡ rise 24 l.w)
