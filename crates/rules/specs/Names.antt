-- "Strings, names, stamps": names, below, union. A name is a set of strings; it stands as the list of them in rising order.
use Rattle.std.specs.Prelude.{Bool, true, false, cond, not, ◌&&◌, ◌||◌, List, [], ◌∷◌, ◌++◌, ℕ, zero, suc, leb, length, get_or}
use Rattle.rules.specs.Limits.{Limits}
use Rattle.rules.specs.Strings.{Str, prefix, same, less}

abbrev pub Name : Type 0
Name = List Str

-- some element passes; each element passes; the elements that pass
unfoldable pub any : {A : Type 0} → (A → Bool) → List A → Bool
any p [] = false
any p (x ∷ l) = p x || any p l

unfoldable pub all : {A : Type 0} → (A → Bool) → List A → Bool
all p [] = true
all p (x ∷ l) = p x && all p l

unfoldable pub keep : {A : Type 0} → (A → Bool) → List A → List A
keep p [] = []
keep p (x ∷ l) = cond (p x) (x ∷ keep p l) (keep p l)

-- s is one of n
unfoldable pub member : Str → Name → Bool
member s n = any (same s) n

-- each string comes before all that follow: so none is a prefix of another
unfoldable pub rising : Name → Bool
rising [] = true
rising (s ∷ n) = all (less s) n && rising n

-- "A name is a set of 1 to 16 strings, none a prefix of another", each of 0 to 24 digits
unfoldable pub is_name : Limits → Name → Bool
is_name L n = leb 1 (length n) && leb (length n) L.strings && all (λ s. leb (length s) L.digits) n && rising n

-- some string of n extends s (a string extends itself too)
unfoldable pub covered : Str → Name → Bool
covered s n = any (prefix s) n

-- "Name m is below name n when each string of m is a prefix of some string of n"
unfoldable pub below : Name → Name → Bool
below m n = all (λ s. covered s n) m

-- "The uncovered string of a copy is the first string of its update name, in rising order, that no string of the other's update name
-- extends": its place in m, from 0; as many as m has where there is none
unfoldable pub uncovered : Name → Name → ℕ
uncovered [] n = zero
uncovered (s ∷ m) n = cond (covered s n) (suc (uncovered m n)) zero

-- and the string itself; e where there is none, since e is never uncovered: every string extends it
unfoldable pub lacked : Name → Name → Str
lacked m n = get_or m (uncovered m n) []

-- s put in its place among strings in rising order; a string stands once
unfoldable pub insert : Str → Name → Name
insert s [] = s ∷ []
insert s (t ∷ n) = cond (same s t) (t ∷ n) (cond (less s t) (s ∷ t ∷ n) (t ∷ insert s n))

unfoldable pub sorted : List Str → Name
sorted [] = []
sorted (s ∷ l) = insert s (sorted l)

-- s is a proper prefix of another string in n
unfoldable pub outgrown : Str → List Str → Bool
outgrown s n = any (λ t. prefix s t && not (same s t)) n

-- "The union of two names keeps the strings of both that are no proper prefix of another string in either"
unfoldable pub union : Name → Name → Name
union m n = sorted (keep (λ s. not (outgrown s (m ++ n))) (m ++ n))

-- the union of any number of names
unfoldable pub unions : List Name → Name
unions [] = []
unions (m ∷ ms) = union m (unions ms)
