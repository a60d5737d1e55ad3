-- "Strings, names, stamps" and "Operations": the stamp [u|i], lawful, update, fork, join with reduction, compare.
use Rattle.std.specs.Prelude.{Bool, true, false, cond, not, ◌&&◌, ◌||◌, ℕ, zero, suc, ◌+◌, length}
use mathlib.Core.List.{List, [], ◌∷◌, map, drop_last}
use Rattle.std.proofs.Math.Option.{Option, none, some}
use Rattle.rules.specs.Limits.{Limits}
use Rattle.rules.specs.Strings.{Str, same, ◌▹◌, share}
use Rattle.rules.specs.Names.{Name, keep, member, is_name, below, insert, union}
use Rattle.rules.specs.declared.Verdict.{Verdict}
use Rattle.rules.specs.declared.Verdict.TheVariants.{Equal, Obsolete, Newer, Conflict}

pub record Stamp : Type 0 where
  pub update : Name
  pub id : Name

-- the first s, among those that some string of l prolongs by a digit, of which n holds s0 and s1
unfoldable pub pair_among : List Str → Name → Option Str
pair_among [] n = none
pair_among (t ∷ l) n = cond (member (drop_last t ▹ false) n && member (drop_last t ▹ true) n) (some (drop_last t)) (pair_among l n)

-- some s of which n holds s0 and s1
unfoldable pub pair : Name → Option Str
pair n = pair_among n n

abbrev pub is_none : {A : Type 0} → Option A → Bool
is_none none = true
is_none (some a) = false

-- "It is lawful when both are names, u is below i, and i holds no two strings that differ in the last digit only"
unfoldable pub lawful : Limits → Stamp → Bool
lawful L s = is_name L s.update && is_name L s.id && below s.update s.id && is_none (pair s.id)

-- "A fresh table has [e|e] in slot 0"
abbrev pub start : Stamp
start = record { update = [] ∷ []; id = [] ∷ [] }

-- "Update: [u|i] becomes [i|i]"
unfoldable pub update : Stamp → Stamp
update s = record { update = s.id; id = s.id }

-- "i with 0 appended to each string", "i with 1 appended to each"
unfoldable pub append : Bool → Name → Name
append d i = map (λ s. s ▹ d) i

-- "Fork: [u|i] becomes [u|i0] and [u|i1]": the branch d
unfoldable pub fork : Bool → Stamp → Stamp
fork d s = record { update = s.update; id = append d s.id }

-- "if u held s0 or s1 at that moment, remove both from u and add s"
unfoldable pub settle : Str → Name → Name
settle s n =
    cond (member (s ▹ false) n || member (s ▹ true) n)
    (insert s (keep (λ t. not (same (s ▹ false) t || same (s ▹ true) t)) n))
    n

-- one step of reduction: i holds s0 and s1, so for i this puts s in their place
unfoldable pub settled : Str → Stamp → Stamp
settled s x = record { update = settle s x.update; id = settle s x.id }

-- "while i holds s0 and s1": at most so many steps
unfoldable pub reduce_by : ℕ → Stamp → Stamp
reduce_by zero x = x
reduce_by (suc k) x = elim (pair x.id) [ none ↦ x | some s ↦ reduce_by k (settled s x) ]

-- "It goes on until no such pair is left": each step leaves one string less in i
unfoldable pub reduce : Stamp → Stamp
reduce x = reduce_by (length x.id) x

-- "the unions of both update names and of both ids"
unfoldable pub unite : Stamp → Stamp → Stamp
unite a b = record { update = union a.update b.update; id = union a.id b.id }

-- "Join: the unions of both update names and of both ids, then reduction"
unfoldable pub join : Stamp → Stamp → Stamp
join a b = reduce (unite a b)

-- "equal if each u is below the other; obsolete if only the first is below the second; newer if only the second is below the first; conflict if neither"
abbrev pub verdict : Bool → Bool → Verdict
verdict true true = Equal
verdict true false = Obsolete
verdict false true = Newer
verdict false false = Conflict

unfoldable pub compare : Stamp → Stamp → Verdict
compare a b = verdict (below a.update b.update) (below b.update a.update)

-- "A copy's share is the sum over its id strings"
unfoldable pub sum_shares : ℕ → Name → ℕ
sum_shares most [] = 0
sum_shares most (s ∷ n) = share most s + sum_shares most n
