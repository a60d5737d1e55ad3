-- Contracts that are equations leave one answer: two things that are each the same third are the same. Assumes nothing.
use Rattle.laws.proofs.Library.{◌≡◌, sym, ◌∙◌}
use seplogic.Ra.Ura.{Ura}
use base.Logic.{ent}
use contract.Monad.{conj, fact, fact_use, fact_i, conj_l, conj_r}

-- two answers that are each what a definition says
pub agree : {A : Type 0} {r s x : A} → r ≡ x → s ≡ x → r ≡ s
agree p q = p ∙ sym q

-- what follows of two facts follows of the clauses that state them
pub both_say : {M : Type 1} (𝓤 : Ura M) {P Q R : Type 0} → (P → Q → R) → ent 𝓤 (conj 𝓤 (fact 𝓤 P) (fact 𝓤 Q)) (fact 𝓤 R)
both_say 𝓤 {P} {Q} {R} f =
    fact_use 𝓤 P (conj_l 𝓤 (fact 𝓤 P) (fact 𝓤 Q)) (λ p.
    fact_use 𝓤 Q (conj_r 𝓤 (fact 𝓤 P) (fact 𝓤 Q)) (λ q. fact_i 𝓤 R (conj 𝓤 (fact 𝓤 P) (fact 𝓤 Q)) (f p q)))
