-- Names as words in rising order: the union as one merge, the reduction of an id by a stack, and what reduction makes of the update.
-- Each goes once over its words. That they are `union` and `reduce` of the rules is shown in proofs/.
use Rattle.std.specs.Prelude.{Bool, cond, not, ◌&&◌, List, [], ◌∷◌, ◌++◌, reverse, ℕ, zero, suc, ◌+◌, ◌-◌, eqb, leb, ltb, length, get_or, replicate}
use Rattle.std.specs.declared.option.Option.{Option}
use Rattle.std.specs.declared.option.Option.TheVariants.{None, Some}
use Rattle.rules.specs.Strings.{siblings, str_of}
use Rattle.rules.specs.Packed.{over}
use Rattle.strings.specs.Words.{begins}
use Rattle.rules.specs.declared.Counts.{Counts}

-- t comes after s, and does not extend it
abbrev pub behind : ℕ → ℕ → Bool
behind t s = ltb s t && not (begins s t)

-- the words, and zeros behind them, c in all
abbrev pub cleared : ℕ → List ℕ → List ℕ
cleared c w = w ++ replicate (c - length w) 0

-- ---- union

-- s stands before the words of m, and k merges m with what it is given
unfoldable pub merge_from : ℕ → List ℕ → (List ℕ → List ℕ) → List ℕ → List ℕ
merge_from s m k [] = s ∷ m
merge_from s m k (t ∷ n) =
    cond (ltb s t)
    (cond (begins s t) (k (t ∷ n)) (s ∷ k (t ∷ n)))
    (cond (begins t s) (merge_from s m k n) (t ∷ merge_from s m k n))

-- the lower word comes first; a string is not kept beside one that it is a prefix of
unfoldable pub merge : List ℕ → List ℕ → List ℕ
merge [] n = n
merge (s ∷ m) n = merge_from s m (merge m) n

-- ---- reduction of the id

-- s on the strings before it, last first: with its sibling on top both give way to what they share, whose word is that of the 0 less one
unfoldable pub push : ℕ → List ℕ → List ℕ
push s [] = s ∷ []
push s (t ∷ n) = cond (siblings (str_of t) (str_of s)) (push (t - 1) n) (s ∷ t ∷ n)

-- the words of l one after the other
unfoldable pub push_all : List ℕ → List ℕ → List ℕ
push_all n [] = n
push_all n (s ∷ l) = push_all (push s n) l

-- all of them, in rising order again
unfoldable pub reduced : List ℕ → List ℕ
reduced l = reverse (push_all [] l)

-- ---- what reduction makes of the update

-- the id's words without those at the front that come before r and are no prefix of it
unfoldable pub seek : List ℕ → ℕ → List ℕ
seek [] r = []
seek (t ∷ i) r = cond (behind r t) (seek i r) (t ∷ i)

-- the first of the id's words, where it is below r: sought so, it is a prefix of r then; else r stays
unfoldable pub root : List ℕ → ℕ → ℕ
root [] r = r
root (t ∷ i) r = cond (ltb t r) t r

-- a string that a string of the id is a prefix of becomes that string
unfoldable pub lift : List ℕ → List ℕ → List ℕ
lift i [] = []
lift i (r ∷ u) = root (seek i r) r ∷ lift (seek i r) u

-- a word that is the one before it is left out
unfoldable pub once_from : ℕ → List ℕ → List ℕ
once_from a [] = []
once_from a (b ∷ l) = cond (eqb a b) (once_from a l) (b ∷ once_from b l)

-- a list without equal neighbours
unfoldable pub once : List ℕ → List ℕ
once [] = []
once (a ∷ l) = a ∷ once_from a l

-- the update u beside the reduced id i
unfoldable pub lifted : List ℕ → List ℕ → List ℕ
lifted i u = once (lift i u)

-- ---- the join of the stamps [u|i] and [v|j]

-- the union of both ids, reduced
unfoldable pub joined_id : List ℕ → List ℕ → List ℕ
joined_id i j = reduced (merge i j)

-- the union of both updates, lifted beside it
unfoldable pub joined_update : List ℕ → List ℕ → List ℕ → List ℕ → List ℕ
joined_update u i v j = lifted (joined_id i j) (merge u v)

-- both buffers have room for the words of both names
abbrev pub can_join : List ℕ → List ℕ → List ℕ → List ℕ → List ℕ → List ℕ → Bool
can_join u i v j update id = leb (length u + length v) (length update) && leb (length i + length j) (length id)

-- how many words they hold then
unfoldable pub joined_counts : List ℕ → List ℕ → List ℕ → List ℕ → List ℕ → List ℕ → Option Counts
joined_counts u i v j update id =
    cond (can_join u i v j update id) (Some (record { update = length (joined_update u i v j); id = length (joined_id i j) })) None

-- and what: the words at the front, zeros in the place of what is gone, and the rest as it was
unfoldable pub joined_update_in : List ℕ → List ℕ → List ℕ → List ℕ → List ℕ → List ℕ → List ℕ
joined_update_in u i v j update id = cond (can_join u i v j update id) (over (cleared (length (merge u v)) (joined_update u i v j)) update) update

unfoldable pub joined_id_in : List ℕ → List ℕ → List ℕ → List ℕ → List ℕ → List ℕ → List ℕ
joined_id_in u i v j update id = cond (can_join u i v j update id) (over (cleared (length (merge i j)) (joined_id i j)) id) id

-- ---- what the private functions do

-- the first k words of a buffer, last first
unfoldable pub stack : List ℕ → ℕ → List ℕ
stack l zero = []
stack l (suc k) = get_or l k 0 ∷ stack l k

-- x on a stack, unless it is on top already
unfoldable pub once_on : ℕ → List ℕ → List ℕ
once_on x [] = x ∷ []
once_on x (t ∷ n) = cond (eqb t x) (t ∷ n) (x ∷ t ∷ n)
