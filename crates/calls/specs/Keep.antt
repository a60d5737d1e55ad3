-- Which of two lent slices is given back: "the first if equal or newer, the second if the first is obsolete, an empty part of the first
-- on conflict or refusal".
use Rattle.std.specs.Prelude.{◌≡◌, List, [], ℕ}
use Rattle.std.specs.Borrow.{Bor}
use Rattle.rules.specs.Packed.{Side, the_first, the_second, neither}

-- r is the first reference itself, the second itself, or has the address of the first and no bytes
abbrev pub kept_is : Side → Bor (List ℕ) → Bor (List ℕ) → Bor (List ℕ) → Type 0
kept_is the_first s t r = r ≡ s
kept_is the_second s t r = r ≡ t
kept_is neither s t r = (r.ref_ptr ≡ s.ref_ptr) × (r.now ≡ [])
