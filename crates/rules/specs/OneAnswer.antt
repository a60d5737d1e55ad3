-- "For any input, refused ones too, a public function's contract leaves one possible result and one possible content of each buffer and
-- record it was lent." A contract is what the checker makes of a function's clauses, in any model of the machine:
--     T            the function's types, and at which lifetimes what was lent is seen at exit
--     Clauses      at the arguments a: `ensures g r e`, of the result r and of what was lent as it is seen at exit
--     Lasts a      the last contents of everything that was lent to be written, one for each such argument; `at_exit a v` is how v is seen
--     Spec         what is proved of the code: there are last contents, and the clauses hold of them (`closing`)
use Rattle.std.specs.Prelude.{◌≡◌}
use seplogic.Ra.Ura.{Ura}
use base.Logic.{SProp, ent}
use prog.Memory.{Memory}
use prog.Routine.{Routine}
use types.Logic.{Logic}
use contract.Lifetimes.{Lfts}
use contract.Monad.{Fun, conj, fact}
use denote.Triple.Entry.{Args, Res}
use denote.Triple.Spec.{Spec}
use denote.Triple.Clauses.{Ended, Clauses, Lasts, at_exit, closing}

module _ (T : Ended) where
  abbrev Lives : Type 0
  Lives = Lfts T.signature.lifetimes

  abbrev Result : Lives → Type 0
  Result κs = Res T.signature κs

  -- a function's clauses in any model, and the contract that is proved of its code
  abbrev pub ClausesOf : Type 2
  ClausesOf = (M : Type 1) (𝓤 : Ura M) → (𝓛 : Logic 𝓤) → (Memory → SProp 𝓤) → (Routine → Fun 𝓤) → Clauses 𝓤 T

  abbrev pub SpecOf : Type 2
  SpecOf = (M : Type 1) (𝓤 : Ura M) → (𝓛 : Logic 𝓤) → (Memory → SProp 𝓤) → (Routine → Fun 𝓤) → Spec 𝓤 T.signature

  module _ (Face : Lives → Type 0) (see : (κs : Lives) → Result κs → Face κs) where
    -- of any two answers that meet the clauses on the same arguments, what is seen of the results is the same, and the last contents are
    abbrev pub OneSeenIn : {M : Type 1} (𝓤 : Ura M) → Clauses 𝓤 T → Type 1
    OneSeenIn 𝓤 c =
        (κs : Lives) (a : Args T.signature κs) (g h : (c κs a).ghost) (r s : Result κs) (v w : Lasts T κs a) →
        ent 𝓤 (conj 𝓤 ((c κs a).ensures g r (at_exit T κs a v)) ((c κs a).ensures h s (at_exit T κs a w))) (fact 𝓤 ((see κs r ≡ see κs s) × (v ≡ w)))

    -- and the contract of the code is made of just these clauses
    abbrev pub OneSeen : ClausesOf → SpecOf → Type 2
    OneSeen c p =
        (M : Type 1) (𝓤 : Ura M) (𝓛 : Logic 𝓤) (mem : Memory → SProp 𝓤) (run : Routine → Fun 𝓤) →
        (p M 𝓤 𝓛 mem run ≡ closing 𝓛 T (c M 𝓤 𝓛 mem run)) × OneSeenIn 𝓤 (c M 𝓤 𝓛 mem run)

  -- the results themselves are the same
  abbrev pub OneAnswer : ClausesOf → SpecOf → Type 2
  OneAnswer c p = OneSeen Result (λ κs r. r) c p
