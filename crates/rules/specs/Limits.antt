-- The limits and the field widths, as parameters: the definitions take them, and `narrow` is what is in force.
use Rattle.std.specs.Prelude.{ℕ, ◌+◌, ◌*◌, ◌/◌}

pub record Limits : Type 0 where
  -- a string has at most so many digits
  pub digits : ℕ
  -- a name has at most so many strings
  pub strings : ℕ
  -- bits of a packed name's count, less one
  pub count_bits : ℕ
  -- bits of a packed string's length
  pub length_bits : ℕ

-- "A string is 0 to 24 binary digits"; "a set of 1 to 16 strings"; "4 bits of count minus one", "5 bits of length"
abbrev pub narrow : Limits
narrow = record { digits = 24; strings = 16; count_bits = 4; length_bits = 5 }

-- "a lent run of 1 to 32 copy records"
abbrev pub records : ℕ
records = 32

-- the bits of a byte
abbrev pub byte_bits : ℕ
byte_bits = 8

-- "A bundle is at most 65,536 bytes"
abbrev pub bundle_room : ℕ
bundle_room = 65536

-- so many bytes hold so many bits
abbrev pub bytes_for : ℕ → ℕ
bytes_for bits = (bits + 7) / byte_bits

-- "That is 3 to 117 bytes": two names of one empty string, and two of all the strings with all their digits
abbrev pub shortest : Limits → ℕ
shortest L = bytes_for (2 * (L.count_bits + L.length_bits))

abbrev pub longest : Limits → ℕ
longest L = bytes_for (2 * (L.count_bits + L.strings * (L.length_bits + L.digits)))
