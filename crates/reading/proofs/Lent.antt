-- A stamp read into words that were zeros: beside their counts they are the record that is read by value. Assumes nothing.
use Rattle.laws.proofs.Library.{◌≡◌, refl, ap, ap₂, ◌∙◌, not, List, [], ◌∷◌, ◌++◌, map, Option, none, some, ℕ, zero, suc, ◌-◌, arith, length, drop}
use Rattle.laws.proofs.Library.{replicate, length-map, take_at, Result, Ok, Err}
use Rattle.rules.specs.Limits.{narrow}
use Rattle.rules.specs.Strings.{word_of}
use Rattle.rules.specs.Names.{Name}
use Rattle.rules.specs.Stamps.{Stamp, lawful}
use Rattle.rules.specs.Stored.{words_of, stored}
use Rattle.rules.specs.Refusals.{Answer, first}
use Rattle.rules.specs.Packed.{over, unpacked, read_as, read_stamp}
use Rattle.rules.specs.Values.{given}
use Rattle.rules.specs.declared.Record.{Record}
use Rattle.rules.specs.declared.Refusal.{Refusal}
use Rattle.rules.specs.declared.Refusal.TheVariants.{Unlawful}
use Rattle.rules.specs.declared.Counts.{Counts}
use Rattle.reading.specs.Reading.{counts_of, lent_to, update_in, id_in}

-- ---- a name's words over zeros

drop_zeros : (k n : ℕ) → drop k (replicate {A = ℕ} n 0) ≡ replicate (n - k) 0
drop_zeros zero n = ap (λ (m : ℕ). replicate m 0) (let e : n ≡ n - 0 = omega arith in e)
drop_zeros (suc k) zero = ap (λ (m : ℕ). replicate m 0) (let e : 0 ≡ 0 - suc k = omega arith in e)
drop_zeros (suc k) (suc n) = drop_zeros k n ∙ ap (λ (m : ℕ). replicate m 0) (let e : n - k ≡ suc n - suc k = omega arith in e)

over_zeros : (n : Name) → lent_to (words_of narrow n) (replicate 16 0) ≡ (words_of narrow n).words
unfolding lent_to words_of
over_zeros n =
    ap (λ (l : List ℕ). over l (replicate 16 0)) (take_at (map word_of n) (replicate (16 - length n) 0) (length n) (length-map n word_of))
    ∙ ap (λ (k : ℕ). map word_of n ++ drop k (replicate 16 0)) (length-map n word_of)
    ∙ ap (λ (l : List ℕ). map word_of n ++ l) (drop_zeros (length n) 16)

-- ---- what was read, by value

-- the record of so many strings in these words
abbrev pub record_by : Counts → List ℕ → List ℕ → Record
record_by k u i = record { update = record { count = k.update; words = u }; id = record { count = k.id; words = i } }

abbrev pub given_by : Result Counts Refusal → List ℕ → List ℕ → Result Record Refusal
given_by (Ok k) u i = Ok (record_by k u i)
given_by (Err e) u i = Err e

-- a stamp's stored shape, lent
stored_is : (s : Stamp) → (lent_to (stored narrow s).update (replicate 16 0) ≡ (stored narrow s).update.words) × (lent_to (stored narrow s).id (replicate 16 0) ≡ (stored narrow s).id.words)
unfolding stored
stored_is s = (over_zeros s.update, over_zeros s.id)

given_is : (a : Answer) (s : Stamp) (zeros : List ℕ) → zeros ≡ replicate 16 0
    → given_by (counts_of (given narrow a s)) (update_in (given narrow a s) zeros) (id_in (given narrow a s) zeros) ≡ given narrow a s
given_is (Ok x) s zeros e =
    let r = stored narrow s in
    rw e (ap₂ (λ (u i : List ℕ). Ok (record_by (record { update = r.update.count; id = r.id.count }) u i)) (stored_is s).0 (stored_is s).1)
given_is (Err e) s zeros f = refl

pub read_is : (b : List ℕ) (r : Result Counts Refusal) (u i : List ℕ) → r ≡ counts_of (read_stamp narrow b)
    → u ≡ update_in (read_stamp narrow b) (replicate 16 0) → i ≡ id_in (read_stamp narrow b) (replicate 16 0) → given_by r u i ≡ read_stamp narrow b
unfolding read_stamp
read_is b r u i e eu ei = rw (e, eu, ei) (by (unpacked narrow b))
  where
    by : (o : Option Stamp)
        → given_by (counts_of (read_as narrow o)) (update_in (read_as narrow o) (replicate 16 0)) (id_in (read_as narrow o) (replicate 16 0)) ≡ read_as narrow o
    by none = refl
    by (some s) = given_is (first ((not (lawful narrow s), Unlawful) ∷ [])) s (replicate 16 0) refl
