use Rattle.laws.proofs.Library.{◌+◌, ◌-◌, ◌≤◌, length}
use Rattle.rules.specs.Strings.{str_of}
use Rattle.rules.specs.Traces.{digits_text}
use Rattle.printing.specs.declared.answers.Page.{Page}
use Rattle.printing.specs.Inner.{Writes}
use Rattle.printing.proofs.Digits.{highest}
use Rattle.printing.proofs.answers.Page.digits.Given as goal

-- the digits to come have room, and written behind those that stand there they are all digits
abbrev pub invariant-loop-i : goal.invariant-loop-i
invariant-loop-i l =
    record {
      room : l.self.len + (l._i-end - l._i) ≤ length l.self.out.now;
      whole : (p : Page) → Writes l.self (highest (l._i-end - l._i) l.rest) p → Writes l.fn.self (digits_text (str_of l.word)) p;
    }
