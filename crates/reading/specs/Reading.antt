-- What reading says: of the private readers, where they stand at a bit of the bytes and which words they have; of the public one, what it
-- leaves in lent words and beside them.
use Rattle.std.specs.Prelude.{◌≡◌, Bool, true, List, ℕ, ◌≤◌, take, drop, Option, Some, None, IfSome, Result, Ok, Err}
use Rattle.std.proofs.Math.Option.{none, some}
use Rattle.std.proofs.Math.Option as Opt
use Rattle.rules.specs.Limits.{narrow}
use Rattle.rules.specs.Strings.{Str, str_of, is_word}
use Rattle.rules.specs.Names.{Name, all, is_name}
use Rattle.rules.specs.Stamps.{Stamp}
use Rattle.rules.specs.Packed.{bits_of, Taken, take_string, take_name, unpacked, over}
use Rattle.rules.specs.declared.Words.{Words}
use Rattle.rules.specs.declared.Record.{Record}
use Rattle.rules.specs.declared.Refusal.{Refusal}
use Rattle.layout.specs.Words.{stamp_of}
use Rattle.walks.specs.Walks.{strs}
use Rattle.rules.specs.declared.Counts.{Counts}

-- ---- into lent words

-- how many strings each name has, or the refusal
abbrev pub counts_of : Result Record Refusal → Result Counts Refusal
counts_of (Ok r) = Ok (record { update = r.update.count; id = r.id.count })
counts_of (Err e) = Err e

-- the name's words at the front, and the rest kept
unfoldable pub lent_to : Words → List ℕ → List ℕ
lent_to w out = over (take w.count w.words) out

-- the update and the id of what was read; on a refusal nothing is written
abbrev pub update_in : Result Record Refusal → List ℕ → List ℕ
update_in (Ok r) out = lent_to r.update out
update_in (Err e) out = out

abbrev pub id_in : Result Record Refusal → List ℕ → List ℕ
id_in (Ok r) out = lent_to r.id out
id_in (Err e) out = out

-- ---- names in words

-- each is the word of a string within the limit
abbrev pub are_words : List ℕ → Bool
are_words ws = all (is_word narrow.digits) ws

-- the words are those of two names
pub record AreNames (u i : List ℕ) : Type 0 where
  pub update : is_name narrow (strs u) ≡ true
  pub id : is_name narrow (strs i) ≡ true
  pub update_words : are_words u ≡ true
  pub id_words : are_words i ≡ true

-- ---- the readers

-- the bits that are there to be read
abbrev pub stream : ℕ → List ℕ → List Bool
stream bits b = take bits (bits_of b)

-- those from bit next on
abbrev pub rest : List ℕ → ℕ → ℕ → List Bool
rest b bits next = drop next (stream bits b)

-- a string in its word, and the rest from bit r.1 on
abbrev pub string_told : List ℕ → ℕ → Option (ℕ × ℕ) → Taken Str
string_told b bits None = none
string_told b bits (Some r) = some (str_of r.0, rest b bits r.1)

-- the string at bit pos, or none
pub record StringRead (b : List ℕ) (bits pos : ℕ) (r : Option (ℕ × ℕ)) : Type 0 where
  pub reads : take_string narrow (rest b bits pos) ≡ string_told b bits r
  pub whole : IfSome r (λ s. is_word narrow.digits s.0 ≡ true)
  pub inside : IfSome r (λ s. s.1 ≤ bits)

-- a name in r.0 words at the front of ws, and the rest from bit r.1 on
abbrev pub name_told : List ℕ → ℕ → Option (ℕ × ℕ) → List ℕ → Taken Name
name_told b bits None ws = none
name_told b bits (Some r) ws = some (strs (take r.0 ws), rest b bits r.1)

-- there are so many words, each that of a string
pub record Held (n : ℕ) (ws : List ℕ) : Type 0 where
  pub few : n ≤ 16
  pub whole : are_words (take n ws) ≡ true

-- the name at bit pos, or none
pub record NameRead (b : List ℕ) (bits pos : ℕ) (r : Option (ℕ × ℕ)) (ws : List ℕ) : Type 0 where
  pub reads : take_name narrow (rest b bits pos) ≡ name_told b bits r ws
  pub words : IfSome r (λ n. Held n.0 ws)
  pub inside : IfSome r (λ n. n.1 ≤ bits)

-- the stamp in so many words at the front of us and is
abbrev pub names_told : Option Counts → List ℕ → List ℕ → Opt.Option Stamp
names_told None us is = none
names_told (Some c) us is = some (stamp_of (take c.update us) (take c.id is))

-- the stamp that bytes pack, lawful or not, its words at the front of us and is; or none
pub record NamesRead (b : List ℕ) (r : Option Counts) (us is : List ℕ) : Type 0 where
  pub reads : unpacked narrow b ≡ names_told r us is
  pub update : IfSome r (λ c. Held c.update us)
  pub id : IfSome r (λ c. Held c.id is)
