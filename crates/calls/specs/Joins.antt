-- What is read of packed bytes, and what the join of two lawful stamps writes: each stamp in the words of its names.
use Rattle.std.specs.Prelude.{◌≡◌, true, List, [], ◌∷◌, ℕ, take, Result, Ok, Err}
use Rattle.rules.specs.Limits.{narrow}
use Rattle.rules.specs.Stamps.{Stamp, join}
use Rattle.rules.specs.Stored.{is_stored}
use Rattle.rules.specs.Refusals.{and_then, first, many}
use Rattle.rules.specs.Packed.{Wrote, packed, wrote, read_stamp}
use Rattle.rules.specs.declared.Record.{Record}
use Rattle.rules.specs.declared.Refusal.{Refusal}
use Rattle.rules.specs.declared.StampWords.{StampWords}
use Rattle.rules.specs.declared.Refusal.TheVariants.{Many}

-- of the refusals only 7 and 10 are left
unfoldable pub wrote_join : Stamp → Stamp → List ℕ → Wrote
wrote_join s t out =
    let j : Stamp = join s t in
    wrote (and_then (first ((many narrow j, Many) ∷ [])) (λ x. Ok (packed narrow j))) out

-- u and i are the words that count of a lawful stamp's record
pub record Lent (u i : List ℕ) : Type 0 where
  pub of : Record
  pub stored : is_stored narrow of ≡ true
  pub update : take of.update.count of.update.words ≡ u
  pub id : take of.id.count of.id.words ≡ i

-- those of the stamp that the bytes s pack
pub record LentBy (s : List ℕ) (w : StampWords) : Type 0 where
  pub lent : Lent w.update.now w.id.now
  pub is : read_stamp narrow s ≡ Ok lent.of

abbrev pub Reads : List ℕ → Result StampWords Refusal → Type 0
Reads s (Ok w) = LentBy s w
Reads s (Err e) = read_stamp narrow s ≡ Err e
