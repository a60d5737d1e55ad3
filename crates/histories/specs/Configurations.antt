-- Configurations, as the paper has them (definitions 2.1 and 4.3, section 6): what each slot holds, with no limits; the steps; and what every
-- history keeps of them (Invariants 4.4 to 4.6, Proposition 5.1).
use Rattle.std.specs.Prelude.{◌≡◌, Bool, true, false, cond, List, [], ◌∷◌, ◌++◌, ℕ, suc, ◌≤◌, ◌<◌, eqb, length}
use Rattle.rules.specs.Strings.{Str, prefix}
use Rattle.rules.specs.Names.{covered}
use Rattle.rules.specs.Stamps.{Stamp, start, update, fork, settled, unite, join}
use Rattle.laws.proofs.Tests.{In}
use Rattle.laws.proofs.Steps.{Proper}

-- one slot for each number; what an absent slot holds makes no difference
pub record Config : Type 0 where
  pub present : ℕ → Bool
  pub stamp : ℕ → Stamp
  pub events : ℕ → List ℕ
  pub next : ℕ

-- f with v in slot a
abbrev pub put : {A : Type 0} → ℕ → A → (ℕ → A) → ℕ → A
put a v f x = cond (eqb x a) v (f x)

-- ---- the steps

-- [e|e] in slot 0, and no events
abbrev pub initial : Config
initial = record { present = λ x. eqb x 0; stamp = λ x. start; events = λ x. []; next = 0 }

-- slot a after an update, with the next event
abbrev pub updated : ℕ → Config → Config
updated a C = record {
  present = C.present;
  stamp = put a (update (C.stamp a)) C.stamp;
  events = put a (C.next ∷ C.events a) C.events;
  next = suc C.next;
}

-- slot a forked, with the 1 branch in slot b
abbrev pub forked : ℕ → ℕ → Config → Config
forked a b C = record {
  present = put b true C.present;
  stamp = put b (fork true (C.stamp a)) (put a (fork false (C.stamp a)) C.stamp);
  events = put b (C.events a) C.events;
  next = C.next;
}

-- slots a and b united in slot a
abbrev pub united : ℕ → ℕ → Config → Config
united a b C = record {
  present = put b false C.present;
  stamp = put a (unite (C.stamp a) (C.stamp b)) C.stamp;
  events = put a (C.events a ++ C.events b) C.events;
  next = C.next;
}

-- one step of reduction in slot c
abbrev pub settled_at : ℕ → Str → Config → Config
settled_at c s C = record { present = C.present; stamp = put c (settled s (C.stamp c)) C.stamp; events = C.events; next = C.next }

-- slots a and b joined in slot a
abbrev pub joined : ℕ → ℕ → Config → Config
joined a b C = record {
  present = put b false C.present;
  stamp = put a (join (C.stamp a) (C.stamp b)) C.stamp;
  events = put a (C.events a ++ C.events b) C.events;
  next = C.next;
}

-- a configuration with fewer slots
abbrev pub restricted : (ℕ → Bool) → Config → Config
restricted p C = record { present = p; stamp = C.stamp; events = C.events; next = C.next }

-- ---- what every history keeps

-- some slot of S passes
pub record Among (S : List ℕ) (P : ℕ → Type 0) : Type 0 where
  pub slot : ℕ
  pub inside : In slot S
  pub holds : P slot

-- some copy of S has seen event e
abbrev pub Seen : Config → List ℕ → ℕ → Type 0
Seen C S e = Among S (λ b. In e (C.events b))

-- some copy of S has an update name that covers r: so does the union of all of theirs
abbrev pub Covers : Config → List ℕ → Str → Type 0
Covers C S r = Among S (λ b. covered r (C.stamp b).update ≡ true)

abbrev pub AllPresent : Config → List ℕ → Type 0
AllPresent C S = (b : ℕ) → In b S → C.present b ≡ true

-- x's events lie within those of S
abbrev pub Within : Config → ℕ → List ℕ → Type 0
Within C x S = (e : ℕ) → In e (C.events x) → Seen C S e

-- x's update name is below the union of those of S
abbrev pub Under : Config → ℕ → List ℕ → Type 0
Under C x S = (r : Str) → In r (C.stamp x).update → Covers C S r

pub record Sound (C : Config) : Type 0 where
  -- Invariant 4.4, and that both are names
  pub proper : (a : ℕ) → C.present a ≡ true → Proper (C.stamp a)
  pub nonempty : (a : ℕ) → C.present a ≡ true → (s : Str) × In s (C.stamp a).update
  -- Invariant 4.5
  pub apart : (a b : ℕ) (s t : Str) → C.present a ≡ true → C.present b ≡ true → In s (C.stamp a).id → In t (C.stamp b).id
      → prefix s t ≡ true → (a ≡ b) × (s ≡ t)
  -- Invariant 4.6
  pub seen : (a b : ℕ) (r : Str) → C.present a ≡ true → C.present b ≡ true → In r (C.stamp a).update → covered r (C.stamp b).id ≡ true
      → covered r (C.stamp b).update ≡ true
  pub fresh : (a e : ℕ) → C.present a ≡ true → In e (C.events a) → e < C.next
  -- Proposition 5.1, one field for each direction
  pub known : (x : ℕ) (S : List ℕ) → C.present x ≡ true → AllPresent C S → 1 ≤ length S → Within C x S → Under C x S
  pub shown : (x : ℕ) (S : List ℕ) → C.present x ≡ true → AllPresent C S → 1 ≤ length S → Under C x S → Within C x S
