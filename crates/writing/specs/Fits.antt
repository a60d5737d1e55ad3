-- Words that can be laid out, lawful or not: what the fields of the packed form can say.
use Rattle.std.specs.Prelude.{Bool, not, ◌&&◌, List, [], ◌∷◌, ℕ, ◌%◌, leb, length, Ok}
use Rattle.rules.specs.Limits.{Limits}
use Rattle.rules.specs.Strings.{lengths}
use Rattle.rules.specs.Names.{all}
use Rattle.rules.specs.Refusals.{and_then, first}
use Rattle.rules.specs.Packed.{Wrote, WroteTwo, packed, wrote, wrote_two}
use Rattle.layout.specs.Words.{stamp_of}
use Rattle.rules.specs.declared.Refusal.TheVariants.{Unlawful}

-- no string is too long
unfoldable pub all_fit : Limits → List ℕ → Bool
all_fit L n = all (λ (w : ℕ). leb (w % lengths) L.digits) n

-- nor are there too many strings, or none
unfoldable pub fits_name : Limits → List ℕ → Bool
fits_name L n = leb 1 (length n) && (leb (length n) L.strings && all_fit L n)

unfoldable pub fits : Limits → List ℕ → List ℕ → Bool
fits L u i = fits_name L u && fits_name L i

-- "writing a stamp checks 2, then 10": of 2 only what the layout needs
unfoldable pub written_names : Limits → List ℕ → List ℕ → List ℕ → Wrote
written_names L u i out = wrote (and_then (first ((not (fits L u i), Unlawful) ∷ [])) (λ x. Ok (packed L (stamp_of u i)))) out

-- "If either buffer is too short, neither is written": two stamps that have the update u
unfoldable pub written_both : Limits → List ℕ → List ℕ → List ℕ → List ℕ → List ℕ → WroteTwo
written_both L u x y zero one =
    wrote_two (and_then (first ((not (fits L u x), Unlawful) ∷ (not (fits L u y), Unlawful) ∷ [])) (λ z. Ok (packed L (stamp_of u x), packed L (stamp_of u y)))) zero one
