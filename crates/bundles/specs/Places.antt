-- Where an entry lies in a bundle: the bytes between two places, or the refusal.
use Rattle.std.specs.Prelude.{◌≡◌, List, ℕ, ◌+◌, ◌-◌, ◌≤◌, length, take, drop, Result, Ok, Err}
use Rattle.rules.specs.Bundles.{Entry}
use Rattle.rules.specs.declared.Refusal.{Refusal}
use Rattle.bundles.specs.declared.Place.{Place}

-- the entry that a place of b tells
abbrev pub placed : List ℕ → Result Place Refusal → Entry
placed b (Ok p) = Ok (take (p.to - p.from) (drop p.from b))
placed b (Err r) = Err r

-- the place lies in b
abbrev pub Inside : List ℕ → Result Place Refusal → Type 0
Inside b (Ok p) = (p.from ≤ p.to) × (p.to ≤ length b)
Inside b (Err r) = Unit {0}

-- it is that of an entry whose length byte is at `at`
abbrev pub Begins : ℕ → Result Place Refusal → Type 0
Begins at (Ok p) = p.from ≡ at + 1
Begins at (Err r) = Unit {0}
