-- `joins::join` meets its contract: what the two are refused for comes first, and two that may meet are lawful, so they are merged.
-- Assumes nothing.
use Rattle.laws.proofs.Library.{◌≡◌, refl, sym, ◌∙◌, Bool, true, false, cond, [], ◌∷◌, Ok, Err}
use Rattle.std.specs.Prelude.{⊤}
use Rattle.std.proofs.Common.{rules}
use Rattle.rules.specs.Limits.{narrow}
use Rattle.rules.specs.Stamps.{Stamp, join}
use Rattle.rules.specs.Stored.{held, is_stored, unlawful}
use Rattle.rules.specs.Refusals.{Answer, first, and_then, many}
use Rattle.rules.specs.Values.{given, meeting, joined}
use Rattle.rules.specs.declared.Record.{Record}
use Rattle.rules.specs.declared.Refusal.TheVariants.{Unlawful, Many}
use Rattle.laws.proofs.Stored.{lawful_stored}
use Rattle.stamps.proofs.Laws.{refusal_not_done, joined_then}
use Rattle.joins.proofs.join.Goals as goal

module _ (a b : Record) where
  -- two that may meet are lawful
  met : {x : ⊤} → first (meeting narrow a b []) ≡ Ok x → (is_stored narrow a ≡ true) × (is_stored narrow b ≡ true)
  unfolding first
  met e = let p = both_pass (unlawful narrow a) (unlawful narrow b) _ e in (lawful_stored narrow a p.0, lawful_stored narrow b p.1)
    where
      both_pass : (p q : Bool) (x : Answer) {y : ⊤} → cond p (Err Unlawful) (cond q (Err Unlawful) x) ≡ Ok y → (p ≡ false) × (q ≡ false)
      both_pass true q x e = absurd (refusal_not_done e)
      both_pass false true x e = absurd (refusal_not_done e)
      both_pass false false x e = (refl, refl)

  -- the answer of `meet`, and then what is left to refuse
  told : {m : Answer} → first (meeting narrow a b []) ≡ m → (let j : Stamp = join (held a) (held b) in
      given narrow (and_then m (λ x. first ((many narrow j, Many) ∷ []))) j ≡ joined narrow a b)
  told e = sym (joined_then narrow a b ∙ rw e)

pub merged-requires : goal.merged-requires
merged-requires c = met _ _ (sym c.meet.ensures ∙ c.in_ok-meet.was)

pub returns-in_err-meet : goal.returns-in_err-meet
returns-in_err-meet c = rw (sym (told c.args.a c.args.b (sym c.meet.ensures ∙ c.in_err-meet.was))) (search rules)

pub returns : goal.returns
returns c = c.merged.ensures ∙ told c.args.a c.args.b (sym c.meet.ensures ∙ c.in_ok-meet.was)
