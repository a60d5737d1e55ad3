use Rattle.laws.proofs.Library.{◌≡◌, ◌≤◌, length, drop}
use Rattle.printing.proofs.Turns.{writes}
use Rattle.printing.proofs.print.Given as goal

-- the page is in the buffer that was lent, and the answers to come, written from here on, are what all are from the start
abbrev pub invariant-loop-c : goal.invariant-loop-c
invariant-loop-c l =
    record {
      room : l.page.len ≤ length l.page.out.now;
      lent : l.page.out.ghost_name ≡ l.initial.page.out.ghost_name;
      few : l.count ≤ l.c-index;
      whole : writes (drop l.c-index l.commands) l.page.out.now l.page.len l.count ≡ writes l.commands l.initial.page.out.now 0 0;
    }
