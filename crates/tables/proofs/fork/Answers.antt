-- `tables::fork` takes a slot out of what it searched only where there is one: the rule refuses a fork to none. Assumes nothing.
use Rattle.laws.proofs.Library.{◌≡◌, refl, sym, ◌∙◌, Bool, true, false, ℕ, Ok}
use Rattle.std.specs.Prelude.{Option, Some, None}
use Rattle.std.specs.Option.{IsSome}
use Rattle.rules.specs.Limits.{narrow}
use Rattle.rules.specs.Refusals.{first}
use Rattle.rules.specs.Stored.{absent, unlawful}
use Rattle.rules.specs.declared.Record.{Record}
use Rattle.rules.specs.declared.Branches.{Branches}
use Rattle.stamps.proofs.Laws.{refusal_not_done}
use Rattle.slots.specs.Rules.{fork_rule}
use Rattle.tables.proofs.fork.Goals as goal

forks_to : (s : Record) (to : Option ℕ) {f : Branches} → fork_rule s to ≡ Ok f → IsSome to
unfolding fork_rule first
forks_to s (Some b) e = refl
forks_to s None e = absurd (by (absent narrow s) (unlawful narrow s) refl refl)
  where
    by : (p q : Bool) → absent narrow s ≡ p → unlawful narrow s ≡ q → ⊥
    by true q hp hq = refusal_not_done (rw hp at e)
    by false true hp hq = refusal_not_done (rw (hp, hq) at e)
    by false false hp hq = refusal_not_done (rw (hp, hq) at e)

pub unwrap-b-requires : goal.unwrap-b-requires
unwrap-b-requires c = forks_to _ c.lowest_absent-to.result (sym c.fork_rule.ensures ∙ c.in-Ok.is)
