-- `slots::update_rule` meets its contract: a record that is asked of and not refused is stored, so its id twice is what an edit makes of it.
-- Assumes nothing.
use Rattle.laws.proofs.Library.{◌≡◌, refl, sym, ap, ◌∙◌, Bool, true, false, [], Ok}
use Rattle.std.specs.Prelude.{⊤}
use Rattle.rules.specs.Limits.{narrow}
use Rattle.rules.specs.Stamps.{update}
use Rattle.rules.specs.Stored.{stored, held, absent, unlawful}
use Rattle.rules.specs.Refusals.{first}
use Rattle.rules.specs.declared.Record.{Record}
use Rattle.laws.proofs.Stored.{stored_is, lawful_stored}
use Rattle.stamps.proofs.Laws.{refusal_not_done}
use Rattle.slots.specs.Rules.{slot_tests, update_rule}
use Rattle.slots.proofs.update_rule.Goals as goal

module _ (s : Record) {x : ⊤} (e : first (slot_tests s []) ≡ Ok x) where
  lawful : unlawful narrow s ≡ false
  unfolding first
  lawful = by (absent narrow s) (unlawful narrow s) refl refl
    where
      by : (p q : Bool) → absent narrow s ≡ p → unlawful narrow s ≡ q → unlawful narrow s ≡ false
      by p false hp hq = hq
      by true true hp hq = absurd (refusal_not_done (simp (hp, hq) at e))
      by false true hp hq = absurd (refusal_not_done (simp (hp, hq) at e))

  edited : Ok (record { update = s.id; id = s.id }) ≡ update_rule s
  unfolding update_rule update held stored
  edited = rw e (ap (λ (r : Record). Ok (record { update = r.id; id = r.id })) (stored_is narrow s (lawful_stored narrow s lawful)))

pub returns : goal.returns
returns c = edited c.args.s.now (sym c.asked.ensures ∙ c.in_ok-asked.was)
