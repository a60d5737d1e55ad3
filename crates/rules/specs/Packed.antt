-- "Packed stamps and bundles": bits, most significant first; writing, reading, and the packed calls.
use Rattle.std.specs.Prelude.{Bool, false, cond, not, ◌&&◌, ◌||◌, List, [], ◌∷◌, ◌++◌, ℕ, zero, suc, ◌+◌, ◌*◌, ◌-◌, leb, ltb, length, take, drop, replicate, Result, Ok, Err}
use Rattle.std.proofs.Math.Option.{Option, none, some}
use Rattle.rules.specs.Limits.{Limits, byte_bits, bytes_for}
use Rattle.rules.specs.Strings.{Str, less, field, value}
use Rattle.rules.specs.Names.{Name, any}
use Rattle.rules.specs.Stamps.{Stamp, lawful}
use Rattle.rules.specs.Stored.{held, unlawful}
use Rattle.rules.specs.Refusals.{first, and_then, number, verdict_number}
use Rattle.rules.specs.Values.{Compared, given, updated, forked, joined, compared, standing}
use Rattle.rules.specs.declared.Record.{Record}
use Rattle.rules.specs.declared.Verdict.{Verdict}
use Rattle.rules.specs.declared.Refusal.TheVariants.{Malformed, Unlawful, Short}
use Rattle.rules.specs.declared.Refusal.{Refusal}
use Rattle.rules.specs.declared.Standing.{Standing}
use Rattle.rules.specs.declared.Branches.{Branches}

-- ---- writing

-- "each string: 5 bits of length (0 to 24), then its digits"
unfoldable pub string_bits : Limits → Str → List Bool
string_bits L s = field L.length_bits (length s) ++ s

unfoldable pub strings_bits : Limits → Name → List Bool
strings_bits L [] = []
strings_bits L (s ∷ n) = string_bits L s ++ strings_bits L n

-- "A name is 4 bits of count minus one, then each string"
unfoldable pub name_bits : Limits → Name → List Bool
name_bits L n = field L.count_bits (length n - 1) ++ strings_bits L n

-- "Update name, then id name"
unfoldable pub stamp_bits : Limits → Stamp → List Bool
stamp_bits L s = name_bits L s.update ++ name_bits L s.id

-- n bytes, eight bits each
unfoldable pub bytes_of : ℕ → List Bool → List ℕ
bytes_of zero bs = []
bytes_of (suc n) bs = value (take byte_bits bs) ∷ bytes_of n (drop byte_bits bs)

-- "Zero bits fill the last byte; no byte follows"
unfoldable pub pack_bits : List Bool → List ℕ
pack_bits bs = bytes_of (bytes_for (length bs)) (bs ++ replicate (bytes_for (length bs) * byte_bits - length bs) false)

unfoldable pub packed : Limits → Stamp → List ℕ
packed L s = pack_bits (stamp_bits L s)

-- ---- reading: the value and the bits behind it, or none where the layout does not read

unfoldable pub bits_of : List ℕ → List Bool
bits_of [] = []
bits_of (x ∷ xs) = field byte_bits x ++ bits_of xs

abbrev pub Taken : Type 0 → Type 0
Taken A = Option (A × List Bool)

-- a reader of A, and after it one of B
abbrev pub then_take : {A B : Type 0} → Taken A → (A → List Bool → Taken B) → Taken B
then_take none f = none
then_take (some g) f = f g.0 g.1

-- n digits
unfoldable pub take_bits : ℕ → List Bool → Taken (List Bool)
take_bits n bs = cond (leb n (length bs)) (some (take n bs, drop n bs)) none

-- a number of w bits
unfoldable pub take_number : ℕ → List Bool → Taken ℕ
take_number w bs = then_take (take_bits w bs) (λ f rest. some (value f, rest))

-- a string, of no more digits than are allowed
unfoldable pub take_string : Limits → List Bool → Taken Str
take_string L bs = then_take (take_number L.length_bits bs) (λ n rest. cond (leb n L.digits) (take_bits n rest) none)

-- k strings more, each after the one before it
unfoldable pub take_more : Limits → ℕ → Str → List Bool → Taken Name
take_more L zero s bs = some ([], bs)
take_more L (suc k) s bs =
    then_take (take_string L bs) (λ t rest.
    cond (less s t) (then_take (take_more L k t rest) (λ n end. some (t ∷ n, end))) none)

unfoldable pub take_name : Limits → List Bool → Taken Name
take_name L bs =
    then_take (take_number L.count_bits bs) (λ k rest.
    then_take (take_string L rest) (λ s more.
    then_take (take_more L k s more) (λ n end. some (s ∷ n, end))))

unfoldable pub take_stamp : Limits → List Bool → Taken Stamp
take_stamp L bs =
    then_take (take_name L bs) (λ u rest.
    then_take (take_name L rest) (λ i end. some (record { update = u; id = i }, end)))

-- the filling is zero, and no byte follows
unfoldable pub is_filling : List Bool → Bool
is_filling bs = ltb (length bs) byte_bits && not (any (λ x. x) bs)

abbrev pub filled_only : Taken Stamp → Option Stamp
filled_only none = none
filled_only (some g) = cond (is_filling g.1) (some g.0) none

-- the stamp that bytes pack, lawful or not; none where the layout does not read
unfoldable pub unpacked : Limits → List ℕ → Option Stamp
unpacked L b = filled_only (take_stamp L (bits_of b))

-- refusal 1, then 2
abbrev pub read_as : Limits → Option Stamp → Result Record Refusal
read_as L none = Err Malformed
read_as L (some s) = given L (first ((not (lawful L s), Unlawful) ∷ [])) s

unfoldable pub read_stamp : Limits → List ℕ → Result Record Refusal
read_stamp L b = read_as L (unpacked L b)

-- ---- the packed calls: "1 then 2 for the first; 1 then 2 for the second; 8, 9, 6, 7, 10"

-- the answer, and what the lent buffer holds afterwards
pub record Wrote : Type 0 where
  pub answer : Result ℕ Refusal
  pub out : List ℕ

-- "Accepted packed calls write exactly the result's bytes at the front and keep the rest of the buffer"
abbrev pub over : List ℕ → List ℕ → List ℕ
over p out = p ++ drop (length p) out

unfoldable pub wrote : Result (List ℕ) Refusal → List ℕ → Wrote
wrote (Ok p) out =
    cond (ltb (length out) (length p)) (record { answer = Err Short; out = out }) (record { answer = Ok (length p); out = over p out })
wrote (Err r) out = record { answer = Err r; out = out }

-- the bytes of a stamp that was not refused
abbrev pub bytes_in : Limits → Result Record Refusal → Result (List ℕ) Refusal
bytes_in L g = and_then g (λ r. Ok (packed L (held r)))

-- "writing a stamp checks 2, then 10"
unfoldable pub written_stamp : Limits → Record → List ℕ → Wrote
written_stamp L r out = wrote (and_then (first ((unlawful L r, Unlawful) ∷ [])) (λ x. Ok (packed L (held r)))) out

unfoldable pub packed_update : Limits → List ℕ → List ℕ → Wrote
packed_update L s out = wrote (bytes_in L (and_then (read_stamp L s) (updated L))) out

-- of two packed stamps, the first is read first
abbrev pub both_read : {A : Type 0} → Limits → List ℕ → List ℕ → (Record → Record → Result A Refusal) → Result A Refusal
both_read L s t f = and_then (read_stamp L s) (λ a. and_then (read_stamp L t) (f a))

unfoldable pub packed_join : Limits → List ℕ → List ℕ → List ℕ → Wrote
packed_join L s t out = wrote (bytes_in L (both_read L s t (joined L))) out

unfoldable pub packed_compare : Limits → List ℕ → List ℕ → Compared
packed_compare L s t = both_read L s t (compared L)

unfoldable pub packed_standing : Limits → List ℕ → List ℕ → Result Standing Refusal
packed_standing L s t = both_read L s t (standing L)

-- a fork's answer, and what both buffers hold afterwards
pub record WroteTwo : Type 0 where
  pub answer : Result ℕ Refusal
  pub zero : List ℕ
  pub one : List ℕ

-- "If either buffer is too short, neither is written"
unfoldable pub wrote_two : Result (List ℕ × List ℕ) Refusal → List ℕ → List ℕ → WroteTwo
wrote_two (Ok p) x y =
    cond (ltb (length x) (length p.0) || ltb (length y) (length p.1))
    (record { answer = Err Short; zero = x; one = y })
    (record { answer = Ok (length p.0); zero = over p.0 x; one = over p.1 y })
wrote_two (Err r) x y = record { answer = Err r; zero = x; one = y }

-- the bytes of both branches
abbrev pub branches_in : Limits → Result Branches Refusal → Result (List ℕ × List ℕ) Refusal
branches_in L g = and_then g (λ f. Ok (packed L (held f.zero), packed L (held f.one)))

unfoldable pub packed_fork : Limits → List ℕ → List ℕ → List ℕ → WroteTwo
packed_fork L s x y = wrote_two (branches_in L (and_then (read_stamp L s) (forked L))) x y

-- ---- which to keep

pub data Side : Type 0 where
  the_first the_second neither : Side

-- "the first if equal or newer, the second if the first is obsolete, an empty part of the first on conflict or refusal"
abbrev pub side_of : Compared → Side
side_of (Ok Verdict.Equal) = the_first
side_of (Ok Verdict.Obsolete) = the_second
side_of (Ok Verdict.Newer) = the_first
side_of (Ok Verdict.Conflict) = neither
side_of (Err r) = neither

-- ---- the numbers that C gets: "the others give the bytes written; a refusal gives 1,000 plus its number"

abbrev pub written_number : Result ℕ Refusal → ℕ
written_number (Ok n) = n
written_number (Err r) = 1000 + number r

abbrev pub compared_number : Compared → ℕ
compared_number (Ok v) = verdict_number v
compared_number (Err r) = 1000 + number r
