-- The records in memory are those of a history: an event set beside a table decides nothing about its records, so calls by their own
-- definitions leave what a history has; and a trace's lines leave what its calls do. Assumes nothing.
use Rattle.laws.proofs.Library.{◌≡◌, Ok, Err, refl, sym, ap, ◌∙◌, subst, List, [], ◌∷◌, ◌++◌, append_assoc, ℕ, ◌≤◌, arith, eqb, ltb, length, eqb-false, ltb-false}
use Rattle.rules.specs.Limits.{Limits, narrow, records}
use Rattle.rules.specs.Refusals.{first}
use Rattle.rules.specs.Tables.{Table, bad_size, fresh_table, make_fresh, update_at, fork_at, join_at}
use Rattle.rules.specs.Histories.{Call, World, after_update, after_fork, after_join, after, after_all, begin, history, call_table, calls_table, beside}
use Rattle.rules.specs.Traces.{Text, Line, update, fork, join, compare, spare, unreadable, line_text, line_table, traced_from, traced}
use Rattle.rules.specs.Promises.{Right, MadeByCalls, RightByCalls}
use Rattle.laws.proofs.Tests.{not-true, clash, or_left, or_right}
use Rattle.histories.specs.Lines.{calls_of, lines_table, reached, RightTraced}
use Rattle.histories.proofs.Every.{every_history_at}

-- ---- calls

module _ (L : Limits) where
  after_table : (w : World) (c : Call) → (after L w c).table ≡ call_table L w.table c
  unfolding after call_table
  after_table w (Call.update a) =
      let s = update_at L w.table a in elim s.answer as (λ x. (after_update w a s x).table ≡ s.table) [ Ok b ↦ refl | Err r ↦ refl ]
  after_table w (Call.fork a) =
      let s = fork_at L w.table a in elim s.answer as (λ x. (after_fork w a s x).table ≡ s.table) [ Ok b ↦ refl | Err r ↦ refl ]
  after_table w (Call.join a b) =
      let s = join_at L w.table a b in elim s.answer as (λ x. (after_join w a b s x).table ≡ s.table) [ Ok c ↦ refl | Err r ↦ refl ]
  after_table w (Call.compare a b) = refl

  after_all_table : (w : World) (cs : List Call) → (after_all L w cs).table ≡ calls_table L w.table cs
  unfolding after_all calls_table
  after_all_table w [] = refl
  after_all_table w (c ∷ cs) = after_all_table (after L w c) cs ∙ ap (λ (t : Table). calls_table L t cs) (after_table w c)

  -- from a fresh table
  pub calls_history : (n : ℕ) (cs : List Call) → calls_table L (fresh_table L n) cs ≡ (history L n cs).table
  unfolding history begin
  calls_history n cs = sym (after_all_table (begin L n) cs)

  pub made_by_calls : MadeByCalls L
  unfolding make_fresh first
  made_by_calls t fits = rw fits (refl, calls_history (length t))

  module _ (room : L.digits ≤ 58) (strings : 1 ≤ L.strings) where
    -- the table of a history, told by other words
    right_beside : (n : ℕ) (cs : List Call) (t : Table) → 1 ≤ n → n ≤ records → t ≡ (history L n cs).table → Right L (beside t (history L n cs))
    right_beside n cs t some few e = subst (λ (u : Table). Right L (beside u (history L n cs))) (sym e) (every_history_at L room strings n cs some few)

    pub right_by_calls_at : RightByCalls L
    unfolding bad_size
    right_by_calls_at t cs fits =
        let e = eqb-false (length t) 0 (not-true (λ h. clash (or_left (ltb records (length t)) h) fits)) in
        let few = ltb-false records (length t) (not-true (λ h. clash (or_right (eqb (length t) 0) h) fits)) in
        right_beside (length t) cs (calls_table L (make_fresh L t).table cs) (omega arith) few ((made_by_calls t fits).1 cs)

  -- ---- lines

  pub lines_calls : (t : Table) (ls : List Line) → lines_table L t ls ≡ calls_table L t (calls_of ls)
  unfolding lines_table line_table calls_of calls_table call_table
  lines_calls t [] = refl
  lines_calls t (update a ∷ ls) = lines_calls (update_at L t a).table ls
  lines_calls t (fork a ∷ ls) = lines_calls (fork_at L t a).table ls
  lines_calls t (join a b ∷ ls) = lines_calls (join_at L t a b).table ls
  lines_calls t (compare a b ∷ ls) = lines_calls t ls
  lines_calls t (spare a ∷ ls) = lines_calls t ls
  lines_calls t (unreadable ∷ ls) = lines_calls t ls

  pub reached_history : (ls : List Line) → reached L ls ≡ (history L records (calls_of ls)).table
  reached_history ls = lines_calls (fresh_table L records) ls ∙ calls_history records (calls_of ls)

  -- what is printed behind some lines is printed at the table that they leave
  pub traced_append : (t : Table) (ls ms : List Line) → traced_from L t (ls ++ ms) ≡ traced_from L t ls ++ traced_from L (lines_table L t ls) ms
  unfolding traced_from lines_table
  traced_append t [] ms = refl
  traced_append t (l ∷ ls) ms =
      ap (λ (x : Text). line_text L t l ++ x) (traced_append (line_table L t l) ls ms)
      ∙ sym (append_assoc (line_text L t l) (traced_from L (line_table L t l) ls) (traced_from L (lines_table L (line_table L t l) ls) ms))

  module _ (room : L.digits ≤ 58) (strings : 1 ≤ L.strings) where
    pub right_traced_at : RightTraced L
    unfolding traced
    right_traced_at input ls ms e = (
      ap (traced_from L (fresh_table L records)) e ∙ traced_append (fresh_table L records) ls ms,
      right_beside room strings records (calls_of ls) (reached L ls) (omega arith) (omega arith) (reached_history ls),
    )

-- at the limits in force
pub right_by_calls : RightByCalls narrow
right_by_calls = right_by_calls_at narrow (omega arith) (omega arith)

pub right_traced : RightTraced narrow
right_traced = right_traced_at narrow (omega arith) (omega arith)
