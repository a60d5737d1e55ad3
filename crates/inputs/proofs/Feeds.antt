-- What gathering and running a piece leave in the buffer, one after the other, is what the piece's definitions say. Assumes nothing.
use Rattle.laws.proofs.Library.{◌≡◌, refl, Bool, true, false, cond, and-false, List, [], ◌∷◌, ◌++◌, ℕ, ◌-◌, ◌≤◌, ◌<◌, arith}
use Rattle.laws.proofs.Library.{le-leb, lt-leb, leb-true, leb-false, eqb, leb, length, length-append, take, drop, take_at, drop_at}
use Rattle.std.specs.declared.option.Option.{Option}
use Rattle.std.specs.declared.option.Option.TheVariants.{None, Some}
use Rattle.std.specs.Option.{MatchOption}
use Rattle.rules.specs.Limits.{narrow}
use Rattle.rules.specs.Tables.{Table}
use Rattle.rules.specs.Traces.{Text}
use Rattle.laws.proofs.Tests.{and_right}
use Rattle.lines.specs.declared.Command.{Command}
use Rattle.lines.specs.declared.Gathered.{Gathered}
use Rattle.lines.specs.declared.Unfinished.{Unfinished}
use Rattle.lines.specs.Commands.{commands_over, ended, left, gathered, gathered_in}
use Rattle.lines.proofs.Turns.{ended_few}
use Rattle.traces.specs.Serves.{ran_table, ran_in}
use Rattle.traces.proofs.Ran.{answered_length}
use Rattle.inputs.specs.declared.Trace.{Trace}
use Rattle.inputs.specs.declared.Fed.{Fed}
use Rattle.inputs.specs.Pieces.{has_room, piece_answers, after, fed, fed_commands, closed}

-- ---- what gathering leaves: nothing where there is no room, else the commands at the front

module _ (l : Unfinished) (p : Text) (buffer : List Command) where
  abbrev Told : Option Gathered → List Command → Type 0
  Told r b =
      MatchOption r ((length buffer < length p) × (b ≡ buffer))
      (λ g. (length p ≤ length buffer) × (g ≡ record { line = left l p; count = length (ended l p) }) × (b ≡ commands_over (ended l p) buffer))

  told : (r : Option Gathered) (b : List Command) → r ≡ gathered l p buffer → b ≡ gathered_in l p buffer → Told r b
  unfolding gathered gathered_in
  told r b re be = by (leb (length p) (length buffer)) refl re be
    where
      by : (y : Bool) → leb (length p) (length buffer) ≡ y
          → r ≡ cond y (Some (record { line = left l p; count = length (ended l p) })) None → b ≡ cond y (commands_over (ended l p) buffer) buffer
          → Told r b
      by true e re be = rw re (leb-true _ _ e, refl, be)
      by false e re be = rw re (leb-false _ _ e, be)

-- ---- a piece

module _ (s : Trace) (p : Text) (commands : List Command) where
  -- more bytes than are to come
  pub fed_long : s.budget < length p → (◌≡◌ {A = Option Fed} None (fed s p commands)) × (commands ≡ fed_commands s p commands)
  unfolding fed fed_commands
  fed_long h = let e = lt-leb (length p) s.budget h in (rw (e, and-false), rw (e, and-false))

  -- no room
  pub fed_none : (b : List Command) → ◌≡◌ {A = Option Gathered} None (gathered s.line p commands) → b ≡ gathered_in s.line p commands
      → (◌≡◌ {A = Option Fed} None (fed s p commands)) × (b ≡ fed_commands s p commands)
  unfolding fed fed_commands
  fed_none b re be =
      let t = told s.line p commands None b re be in
      let e = lt-leb (length p) (length commands) t.0 in
      (rw e, rw e t.1)

  -- what is run: commands that stand in the buffer
  module _ (g : Gathered) (b : List Command) (ge : Some g ≡ gathered s.line p commands) (be : b ≡ gathered_in s.line p commands) where
    pub fed_few : g.count ≤ length b
    fed_few = let t = told s.line p commands (Some g) b ge be in rw (t.1, t.2) (simp length-append (omega arith))

    pub fed_all : (t : Table) (d : List Command) (w : ℕ) → (length p ≤ s.budget) × (w ≡ s.budget - length p)
        → t ≡ ran_table s.table (take g.count b) → d ≡ ran_in s.table (take g.count b)
        → (Some (record { trace = record { line = g.line; table = t; budget = w }; count = g.count }) ≡ fed s p commands)
        × (d ++ drop g.count b ≡ fed_commands s p commands)
    unfolding fed fed_commands after
    fed_all t d w more te de =
        let cs = ended s.line p in
        let u = told s.line p commands (Some g) b ge be in
        let front : take (length cs) (commands_over cs commands) ≡ cs = take_at cs _ _ refl in
        let behind : drop (length cs) (commands_over cs commands) ≡ drop (length cs) commands = drop_at cs _ _ refl in
        let room = le-leb (length p) (length commands) u.0 in
        let left = le-leb (length p) s.budget more.0 in
        let size = answered_length narrow cs s.table in
        (rw (te, more.1, u.1, u.2, front, room, left, size), rw (de, u.1, u.2, front, behind, room, left, size))

  -- with a buffer of this size a piece is taken unless the trace takes not so many bytes more, and its answers fit
  pub fed_shown : (r : Option Fed) → r ≡ fed s p commands → length p ≤ length commands
      → MatchOption r (s.budget < length p) (λ f. f.count ≤ length commands)
  unfolding fed
  fed_shown r re h = by (leb (length p) s.budget) refl (rw (le-leb (length p) (length commands) h) at re)
    where
      by : (y : Bool) → leb (length p) s.budget ≡ y
          → r ≡ cond y (Some (record { trace = after s p; count = length (piece_answers s p) })) None
          → MatchOption r (s.budget < length p) (λ f. f.count ≤ length commands)
      by true e re = rw (re, answered_length narrow (ended s.line p) s.table) (omega (arith, ended_few p s.line, h))
      by false e re = rw re (leb-false (length p) s.budget e)

  -- and what was taken the trace takes no more
  pub fed_less : (f : Fed) → Some f ≡ fed s p commands → 0 < length p → f.trace.budget < s.budget
  unfolding fed after
  fed_less f fe h = by (has_room s p commands) refl fe
    where
      by : (y : Bool) → has_room s p commands ≡ y
          → Some f ≡ cond y (Some (record { trace = after s p; count = length (piece_answers s p) })) None
          → f.trace.budget < s.budget
      by true e fe =
          let same : f ≡ record { trace = after s p; count = length (piece_answers s p) } = cc in
          let most = leb-true (length p) s.budget (and_right (leb (length p) (length commands)) (leb (length p) s.budget) e) in
          rw same (omega arith)
      by false e fe = absurd (cc)

-- the same at the end of the input
pub closed_shown : (s : Trace) (commands : List Command) (r : Option Fed) → r ≡ closed s commands → 1 ≤ length commands
    → MatchOption r (s.budget < 1) (λ f. f.count ≤ length commands)
unfolding closed
closed_shown s commands r re h = by (eqb s.line.len 0) re
  where
    by : (b : Bool) → r ≡ cond b (Some (record { trace = s; count = 0 })) (fed s (10 ∷ []) commands)
        → MatchOption r (s.budget < 1) (λ f. f.count ≤ length commands)
    by true re = rw re (omega arith)
    by false re = fed_shown s (10 ∷ []) commands r re h
