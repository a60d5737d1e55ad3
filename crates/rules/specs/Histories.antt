-- Demand 3's calls, the histories of them, and beside each history the event model of definition 2.1 of the paper.
use Rattle.std.specs.Prelude.{Bool, true, false, not, ◌&&◌, List, [], ◌∷◌, ◌++◌, ℕ, zero, suc, ◌+◌, eqb, length, get_or, set, replicate, Ok, Err}
use Rattle.rules.specs.Limits.{Limits}
use Rattle.rules.specs.Names.{any, all}
use Rattle.rules.specs.Stamps.{verdict, sum_shares}
use Rattle.rules.specs.Stored.{held}
use Rattle.rules.specs.Tables.{Table, Slot, Step, fresh_table, update_at, fork_at, join_at, present}
use Rattle.rules.specs.declared.Verdict.{Verdict}
use Rattle.rules.specs.declared.Verdict.TheVariants.{Equal, Obsolete, Newer, Conflict}

-- a call, with any slot numbers
pub data Call : Type 0 where
  update : ℕ → Call
  fork : ℕ → Call
  join : ℕ → ℕ → Call
  compare : ℕ → ℕ → Call

-- the updates that a copy has seen, each by its number
abbrev pub Events : Type 0
Events = List ℕ

-- a table, the events of each slot's copy, and the number of the next event: so that it is in no set yet
pub record World : Type 0 where
  pub table : Table
  pub events : List Events
  pub next : ℕ

abbrev pub events_at : World → ℕ → Events
events_at w a = get_or w.events a []

-- "Give each accepted update a new event"
abbrev pub after_update : World → ℕ → Step → Slot → World
after_update w a s (Ok b) = record { table = s.table; events = set w.events a (w.next ∷ events_at w a); next = suc w.next }
after_update w a s (Err r) = record { table = s.table; events = w.events; next = w.next }

-- "let fork copy the set of events": b is the new slot
abbrev pub after_fork : World → ℕ → Step → Slot → World
after_fork w a s (Ok b) = record { table = s.table; events = set w.events b (events_at w a); next = w.next }
after_fork w a s (Err r) = record { table = s.table; events = w.events; next = w.next }

-- "and join unite two"
abbrev pub after_join : World → ℕ → ℕ → Step → Slot → World
after_join w a b s (Ok c) = record { table = s.table; events = set (set w.events a (events_at w a ++ events_at w b)) b []; next = w.next }
after_join w a b s (Err r) = record { table = s.table; events = w.events; next = w.next }

unfoldable pub after : Limits → World → Call → World
after L w (update a) = let s : Step = update_at L w.table a in after_update w a s s.answer
after L w (fork a) = let s : Step = fork_at L w.table a in after_fork w a s s.answer
after L w (join a b) = let s : Step = join_at L w.table a b in after_join w a b s s.answer
after L w (compare a b) = w

unfoldable pub after_all : Limits → World → List Call → World
after_all L w [] = w
after_all L w (c ∷ cs) = after_all L (after L w c) cs

-- "a table made fresh", of n records
unfoldable pub begin : Limits → ℕ → World
begin L n = record { table = fresh_table L n; events = replicate n []; next = 0 }

-- "after any sequence of update, fork, join and compare calls, accepted or refused"
unfoldable pub history : Limits → ℕ → List Call → World
history L n cs = after_all L (begin L n) cs

-- ---- the records that calls leave, with no events beside them

-- by the call's own definition alone
unfoldable pub call_table : Limits → Table → Call → Table
call_table L t (update a) = (update_at L t a).table
call_table L t (fork a) = (fork_at L t a).table
call_table L t (join a b) = (join_at L t a b).table
call_table L t (compare a b) = t

unfoldable pub calls_table : Limits → Table → List Call → Table
calls_table L t [] = t
calls_table L t (c ∷ cs) = calls_table L (call_table L t c) cs

-- these records beside a history's events
abbrev pub beside : Table → World → World
beside t w = record { table = t; events = w.events; next = w.next }

-- ---- how event sets stand by inclusion

unfoldable pub within : Events → Events → Bool
within X Y = all (λ e. any (eqb e) Y) X

-- "equivalent iff X = Y", "obsolete iff X ⊂ Y", "inconsistent iff neither includes the other" (section 2)
abbrev pub event_verdict : Events → Events → Verdict
event_verdict X Y = verdict (within X Y) (within Y X)

abbrev pub is_obsolete : Verdict → Bool
is_obsolete Equal = false
is_obsolete Obsolete = true
is_obsolete Newer = false
is_obsolete Conflict = false

-- n slots, from slot a on
unfoldable pub slots_from : ℕ → ℕ → List ℕ
slots_from a zero = []
slots_from a (suc n) = a ∷ slots_from (suc a) n

-- some other present copy has all of a's events and more
unfoldable pub is_behind : Limits → World → ℕ → Bool
is_behind L w a =
    any (λ b. present L w.table b && not (eqb a b) && is_obsolete (event_verdict (events_at w a) (events_at w b))) (slots_from 0 (length w.table))

-- the shares of all present copies; an absent record's id has no string
unfoldable pub sum_table : ℕ → Table → ℕ
sum_table most [] = 0
sum_table most (r ∷ t) = sum_shares most (held r).id + sum_table most t

-- the events of some slots taken together
unfoldable pub events_of : World → List ℕ → Events
events_of w [] = []
events_of w (a ∷ S) = events_at w a ++ events_of w S
