-- "Strings, names, stamps": binary strings, how two of them stand to each other, and the word that holds one.
use Rattle.std.specs.Prelude.{Bool, true, false, cond, ◌&&◌, List, [], ◌∷◌, ◌++◌, ℕ, zero, suc, ◌+◌, ◌*◌, ◌-◌, ◌/◌, ◌%◌, ◌^◌, eqb, leb, length, take, replicate}
use Rattle.std.specs.Bool.{beq}

-- a string's digits, first to last; the empty one is written e
abbrev pub Str : Type 0
Str = List Bool

-- "One string is below another when it is a prefix of it, itself included"
unfoldable pub prefix : Str → Str → Bool
prefix [] t = true
prefix (a ∷ s) [] = false
prefix (a ∷ s) (b ∷ t) = beq a b && prefix s t

-- two strings are the same
unfoldable pub same : Str → Str → Bool
same [] [] = true
same [] (b ∷ t) = false
same (a ∷ s) [] = false
same (a ∷ s) (b ∷ t) = beq a b && same s t

-- "rising order, where 0 comes before 1 at the first digit that differs"; false where none differs
unfoldable pub less : Str → Str → Bool
less [] t = false
less (a ∷ s) [] = false
less (false ∷ s) (true ∷ t) = true
less (true ∷ s) (false ∷ t) = false
less (true ∷ s) (true ∷ t) = less s t
less (false ∷ s) (false ∷ t) = less s t

-- "How many leading digits two strings share"
unfoldable pub common : Str → Str → ℕ
common [] t = zero
common (a ∷ s) [] = zero
common (a ∷ s) (b ∷ t) = cond (beq a b) (suc (common s t)) zero

-- two strings that differ in the last digit only: they share all digits but that
unfoldable pub siblings : Str → Str → Bool
siblings s t = eqb (length s) (length t) && eqb (suc (common s t)) (length s)

infixl 66 ◌▹◌
-- a string with one digit more
abbrev pub ◌▹◌ : Str → Bool → Str
s ▹ d = s ++ (d ∷ [])

-- "The share of a string of length n is 2 to the power (24 − n)"; the whole is that of e
unfoldable pub share : ℕ → Str → ℕ
share most s = 2 ^ (most - length s)

abbrev pub whole : ℕ → ℕ
whole most = 2 ^ most

-- ---- numbers and their bits, the most significant first

abbrev pub digit : Bool → ℕ
digit true = 1
digit false = 0

-- the w low bits of a number
unfoldable pub field : ℕ → ℕ → List Bool
field zero a = []
field (suc w) a = eqb (a / 2 ^ w % 2) 1 ∷ field w a

-- the number that bits say, behind those of a
unfoldable pub value_from : ℕ → List Bool → ℕ
value_from a [] = a
value_from a (x ∷ s) = value_from (a * 2 + digit x) s

abbrev pub value : List Bool → ℕ
value s = value_from 0 s

-- ---- the word of a string: its digits left-aligned in 64 bits, its length in the six low bits

abbrev pub word_bits : ℕ
word_bits = 64

-- lengths are below this; it leaves 58 bits for digits
abbrev pub lengths : ℕ
lengths = 64

-- the bits of a string, with zeros behind it
unfoldable pub aligned : Str → List Bool
aligned s = s ++ replicate (word_bits - length s) false

unfoldable pub word_of : Str → ℕ
word_of s = value (aligned s) + length s

-- the string that a word tells
unfoldable pub str_of : ℕ → Str
str_of w = take (w % lengths) (field word_bits w)

-- the word is that of a string of at most so many digits
unfoldable pub is_word : ℕ → ℕ → Bool
is_word most w = leb (length (str_of w)) most && eqb w (word_of (str_of w))
