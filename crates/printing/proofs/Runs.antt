-- What is printed for the commands of an input's lines is what the rules say the tool prints, however the input is cut into pieces.
-- A table's slots are below 100 so that two digits show them, and no line changes a table's size; and the strings of copies in conflict are
-- those of lawful records, so their words tell them. Assumes nothing.
use Rattle.laws.proofs.Library.{◌≡◌, refl, sym, ap₂, ◌∙◌, Bool, true, false, ◌||◌, List, [], ◌∷◌, ◌++◌, append_assoc, ℕ, suc, ◌≤◌, ◌<◌}
use Rattle.laws.proofs.Library.{le_trans, arith, leb-false, eqb-false, leb, length, set, replicate, length-set, length-replicate, Ok, Err}
use Rattle.rules.specs.Limits.{Limits, records}
use Rattle.rules.specs.Stamps.{start}
use Rattle.rules.specs.Stored.{stored, blank, absent}
use Rattle.rules.specs.Refusals.{Answer, first}
use Rattle.rules.specs.Tables.{Table, stepped, bad_size, no_slot, lowest, full, fresh_table, update_at, fork_at, join_at, compare_at, standing_at, spare_at}
use Rattle.rules.specs.Traces.{Text, Line, update, fork, join, compare, spare, unreadable, read_lines, lines_of}
use Rattle.rules.specs.Traces.{lacked_at, line_text, line_table, traced_from, traced}
use Rattle.rules.specs.declared.Refusal.{Refusal}
use Rattle.rules.specs.declared.Refusal.TheVariants.{NoSlot, Unfit}
use Rattle.laws.proofs.Tests.{no}
use Rattle.laws.proofs.Standing.{first_done, conflict_short}
use Rattle.laws.proofs.Words.{str_word}
use Rattle.lines.specs.declared.Command.{Command}
use Rattle.lines.specs.Commands.{command_of, commands_of, begun, all_gathered, whole}
use Rattle.lines.specs.Runs.{answer_to, answered}
use Rattle.lines.proofs.Splits.{either}
use Rattle.lines.proofs.Pieces.{all_lines}
use Rattle.lines.proofs.Runs.{meant_command}
use Rattle.printing.specs.Answers.{answer_text, answers_text}
use Rattle.printing.proofs.Texts.{unread_text, slot_text_lem, stood_text, spared_text_lem}

-- ---- tables

lowest_le : (L : Limits) (t : Table) → lowest L t ≤ length t
unfolding lowest
lowest_le L [] = omega arith
lowest_le L (r ∷ t) = either (λ (k : ℕ). k ≤ suc (length t)) (absent L r) (λ e. omega arith) (λ e. omega (arith, lowest_le L t))

-- the slot of an accepted step is its own
step_slot : (w : Answer) (a n : ℕ) (old new : Table) → (stepped w a old new).answer ≡ Ok n → (w ≡ Ok tt) × (a ≡ n)
step_slot (Ok x) a n old new e = (refl, cc)
step_slot (Err r) a n old new e = absurd (let z : ◌≡◌ {A = ℕ} 0 1 = cc in omega arith)

step_size : (w : Answer) (a : ℕ) (old new : Table) → length new ≡ length old → length (stepped w a old new).table ≡ length old
step_size (Ok x) a old new e = e
step_size (Err r) a old new e = refl

-- a slot that is there is below the table's size
slot_below : (L : Limits) (t : Table) (a : ℕ) → no_slot L t a ≡ false → a < length t
unfolding no_slot
slot_below L t a e = leb-false (length t) a (or_none_lem (leb (length t) a) _ e)
  where
    or_none_lem : (p q : Bool) → (p || q) ≡ false → p ≡ false
    or_none_lem true q e = absurd (no (sym e))
    or_none_lem false q e = refl

module _ (L : Limits) (t : Table) where
  pub line_size : (m : Line) → length (line_table L t m) ≡ length t
  unfolding line_table update_at fork_at join_at
  line_size (update a) = step_size (first _) a t _ (length-set t a _)
  line_size (fork a) = step_size (first _) (lowest L t) t _ (length-set (set t a _) (lowest L t) _ ∙ length-set t a _)
  line_size (join a b) = step_size (first _) a t _ (length-set (set t a _) b _ ∙ length-set t a _)
  line_size (compare a b) = refl
  line_size (spare a) = refl
  line_size unreadable = refl

  -- the slot named in an answer is in the table: the call's own, or the lowest absent one
  own_slot : (a n : ℕ) (more : List (Bool × Refusal)) (new : Table)
      → (stepped (first ((bad_size t, Unfit) ∷ (no_slot L t a, NoSlot) ∷ more)) a t new).answer ≡ Ok n → n < length t
  own_slot a n more new e =
      let w = step_slot (first ((bad_size t, Unfit) ∷ (no_slot L t a, NoSlot) ∷ more)) a n t new e in
      omega (arith, slot_below L t a (first_done _ _ _ (first_done _ _ _ w.0).1).0, w.1)

  update_slot : (a n : ℕ) → (update_at L t a).answer ≡ Ok n → n < length t
  unfolding update_at
  update_slot a n e = own_slot a n _ _ e

  join_slot : (a b n : ℕ) → (join_at L t a b).answer ≡ Ok n → n < length t
  unfolding join_at
  join_slot a b n e = own_slot a n _ _ e

  fork_slot_lem : (a n : ℕ) → (fork_at L t a).answer ≡ Ok n → n < length t
  unfolding fork_at full
  fork_slot_lem a n e =
      let w = step_slot _ (lowest L t) n t _ e in
      let f = (first_done _ _ _ (first_done _ _ _ (first_done _ _ _ (first_done _ _ _ w.0).1).1).1).0 in
      omega (arith, lowest_le L t, eqb-false (lowest L t) (length t) f, w.1)

-- ---- one line

pub print_line : (L : Limits) (t : Table) (m : Line) → L.digits ≤ 58 → length t ≤ records → answer_text (answer_to L t (command_of m) m) ≡ line_text L t m
unfolding answer_text command_of answer_to standing_at line_text
print_line L t (update a) room h = slot_text_lem (update_at L t a).answer (λ n e. omega (arith, update_slot L t a n e))
print_line L t (fork a) room h = slot_text_lem (fork_at L t a).answer (λ n e. omega (arith, fork_slot_lem L t a n e))
print_line L t (join a b) room h = slot_text_lem (join_at L t a b).answer (λ n e. omega (arith, join_slot L t a b n e))
print_line L t (compare a b) room h =
    stood_text (compare_at L t a b) a b _ _ (lacked_at t a b) (lacked_at t b a)
    (λ e. let k = conflict_short L t a b e in (
      str_word (lacked_at t a b) (le_trans k.0 room),
      str_word (lacked_at t b a) (le_trans k.1 room),
    ))
print_line L t (spare a) room h = spared_text_lem (spare_at L t a)
print_line L t unreadable room h = unread_text

-- ---- all lines

module _ (L : Limits) (room : L.digits ≤ 58) where
  pub prints : (ms : List Line) (t : Table) → length t ≤ records → answers_text (answered L t (commands_of ms)) ≡ traced_from L t ms
  unfolding answers_text answered commands_of traced_from
  prints [] t h = refl
  prints (m ∷ ms) t h =
      rw meant_command
      (ap₂ (λ (s u : Text). s ++ u) (print_line L t m room h) (prints ms (line_table L t m) (omega (arith, line_size L t m))))

  -- what is printed for an input, in whatever pieces it came
  pub prints_traced : (ps : List Text) → answers_text (answered L (fresh_table L records) (all_gathered begun ps)) ≡ traced L (whole ps)
  unfolding traced fresh_table
  prints_traced ps =
      rw (all_lines ps)
      (prints (read_lines (lines_of (whole ps))) (fresh_table L records)
      (omega (arith, length-set (replicate records (blank L)) 0 (stored L start), length-replicate records (blank L))))

-- ---- piece after piece

pub answers_append : (cs ds : List Command) → answers_text (cs ++ ds) ≡ answers_text cs ++ answers_text ds
unfolding answers_text
answers_append [] ds = refl
answers_append (c ∷ cs) ds = rw (answers_append cs ds, append_assoc)
