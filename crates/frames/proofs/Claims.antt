-- A walk shows what the code does, in the code's own terms. That this is what the contract claims is shown apart, of numbers and lists alone, so that a wrong
-- claim fails as an equation. E is the contract's own `ensures`. Assumes nothing.
use mathlib.Core.Path.{◌≡◌}
use mathlib.Core.List.{List, ◌∷◌, ◌++◌}
use seplogic.Ra.Ura.{Ura}
use mir.Syntax.{Local, Fn, named, mut, imm, ty_ref}
use base.Logic.{SProp, ent, emp, via, id⊢}
use prog.Wp.{WpFn, Tables}
use types.Logic.{Logic}
use contract.Lifetimes.{Lfts}
use contract.Monad.{fact, fact_use, top}
use sound.WpLaws.{WpFn-mono}
use denote.Memory.{pointee}
use denote.Slice.{slice_ty}
use denote.Triple.Entry.{Args, Res}
use denote.Triple.Clauses.{Ended, Clauses, AtExit, at_exit, closing}
use denote.Triple.Spec.{Meets}
use denote.Triple.Weaken.{weaken}
use Rattle.frames.proofs.Rows.{Plainly, Ins, valued}
use Rattle.frames.proofs.Lent.{of, params, Says, lent, Walk, lends, Tells, shown, Look, looks}
use Rattle.frames.proofs.Values.{Value, values}

-- what a contract ensures, of the arguments, the result and the arguments at exit
abbrev pub Ensures : {M : Type 1} (𝓤 : Ura M) → Ended → Type 2
Ensures 𝓤 T = (κs : Lfts T.signature.lifetimes) → Args T.signature κs → Unit {0} → Res T.signature κs → AtExit T κs → SProp 𝓤

abbrev pub claiming : {M : Type 1} (𝓤 : Ura M) (T : Ended) → Ensures 𝓤 T → Clauses 𝓤 T
claiming 𝓤 T E κs a = record { ghost = Unit {0}; requires = λ _. emp 𝓤; ensures = E κs a }

module _ {M : Type 1} {𝓤 : Ura M} (𝓛 : Logic 𝓤) (𝓣 : Tables 𝓤 𝓛.H) (f : Fn) (T : Ended)
    (φ : (κs : Lfts T.signature.lifetimes) → Args T.signature κs → Res T.signature κs → AtExit T κs → Type 0) (E : Ensures 𝓤 T)
    (so : (κs : Lfts T.signature.lifetimes) (a : Args T.signature κs) (r : Res T.signature κs) (e : AtExit T κs) → φ κs a r e
    → ent 𝓤 (emp 𝓤) (E κs a tt r e)) where
  open 𝓛 use {H}

  claims : Meets 𝓛 T.signature (WpFn 𝓤 H 𝓣.C 𝓣.Λ f) (closing 𝓛 T (claiming 𝓤 T (λ κs a _ r e. fact 𝓤 (φ κs a r e))))
      → Meets 𝓛 T.signature (WpFn 𝓤 H 𝓣.C 𝓣.Λ f) (closing 𝓛 T (claiming 𝓤 T E))
  claims = weaken 𝓛 T (claiming 𝓤 T (λ κs a _ r e. fact 𝓤 (φ κs a r e))) E
      (λ κs a g r ws. fact_use 𝓤 (φ κs a r (at_exit T κs a ws)) (id⊢ 𝓤 (fact 𝓤 (φ κs a r (at_exit T κs a ws))))
      (λ h. via 𝓤 (emp 𝓤) (top 𝓤 (fact 𝓤 (φ κs a r (at_exit T κs a ws)))) (so κs a r (at_exit T κs a ws) h)))
      (WpFn 𝓤 H 𝓣.C 𝓣.Λ f) (WpFn-mono 𝓤 H 𝓛.laws 𝓣 f)

module _ (P : Plainly) (Ps : List Plainly) (Q : Plainly) {M : Type 1} {𝓤 : Ura M} (𝓛 : Logic 𝓤) (𝓣 : Tables 𝓤 𝓛.H) (f : Fn)
    (rest : List Local) where
  -- of a function over a run that may be changed
  open 𝓛 use {H}

  pub lends_as : (φ : Says P Ps Q) → f.locals ≡ of Q.ty ∷ of (slice_ty (ty_ref (named 0) mut (pointee P.row.written))) ∷ (params Ps ++ rest)
      → Walk P Ps Q 𝓛 φ 𝓣 f → (E : Ensures 𝓤 (lent P Ps Q))
      → ((κs : Lfts 1) (a : Args (lent P Ps Q).signature κs) (r : Q.row.Denot) (e : AtExit (lent P Ps Q) κs) → φ κs a.0.now a.1 r e.0.now
      → ent 𝓤 (emp 𝓤) (E κs a tt r e))
      → Meets 𝓛 (lent P Ps Q).signature (WpFn 𝓤 H 𝓣.C 𝓣.Λ f) (closing 𝓛 (lent P Ps Q) (claiming 𝓤 (lent P Ps Q) E))
  lends_as φ same walk E so = claims 𝓛 𝓣 f (lent P Ps Q) (λ κs a r e. φ κs a.0.now a.1 r e.0.now) E so
      (lends P Ps Q 𝓛 φ 𝓣 f rest same walk)

  -- and of one that is only read
  pub looks_as : (φ : Tells P Ps Q) → f.locals ≡ of Q.ty ∷ of (slice_ty (ty_ref (named 0) imm (pointee P.row.written))) ∷ (params Ps ++ rest)
      → Look P Ps Q 𝓛 φ 𝓣 f → (E : Ensures 𝓤 (shown P Ps Q))
      → ((κs : Lfts 1) (a : Args (shown P Ps Q).signature κs) (r : Q.row.Denot) (e : AtExit (shown P Ps Q) κs) → φ κs a.0.now a.1 r
      → ent 𝓤 (emp 𝓤) (E κs a tt r e))
      → Meets 𝓛 (shown P Ps Q).signature (WpFn 𝓤 H 𝓣.C 𝓣.Λ f) (closing 𝓛 (shown P Ps Q) (claiming 𝓤 (shown P Ps Q) E))
  looks_as φ same walk E so = claims 𝓛 𝓣 f (shown P Ps Q) (λ κs a r e. φ κs a.0.now a.1 r) E so
      (looks P Ps Q 𝓛 φ 𝓣 f rest same walk)

-- and of one of plain values
pub values_as : (Ps : List Plainly) (Q : Plainly) {M : Type 1} {𝓤 : Ura M} (𝓛 : Logic 𝓤) (𝓣 : Tables 𝓤 𝓛.H) (f : Fn)
    (rest : List Local) (g : Ins 0 tt Ps → Q.row.Denot) → f.locals ≡ of Q.ty ∷ (params Ps ++ rest) → Value Ps Q 𝓛 g 𝓣 f
    → (E : Ensures 𝓤 (valued Ps Q)) → ((κs : Lfts 0) (a : Args (valued Ps Q).signature κs) (r : Q.row.Denot) (e : AtExit (valued Ps Q) κs) → r ≡ g a
    → ent 𝓤 (emp 𝓤) (E κs a tt r e))
    → Meets 𝓛 (valued Ps Q).signature (WpFn 𝓤 𝓛.H 𝓣.C 𝓣.Λ f) (closing 𝓛 (valued Ps Q) (claiming 𝓤 (valued Ps Q) E))
values_as Ps Q 𝓛 𝓣 f rest g same walk E so =
    claims 𝓛 𝓣 f (valued Ps Q) (λ κs a r e. r ≡ g a) E so (values Ps Q 𝓛 g 𝓣 f rest same walk)
