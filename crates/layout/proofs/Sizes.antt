-- How many bytes a packed stamp takes: as many as hold its bits, and those of a lawful stamp lie between two names of one empty string
-- and two full ones. Each digit more is one bit more, so both branches of a fork take the same number.
use Rattle.laws.proofs.Library.{◌≡◌, refl, sym, ap, ◌∙◌, Bool, true, false, inl, leb, [], ◌∷◌, ◌+◌, ◌*◌, ◌≤◌, mul-le-mul_right, arith, length, length-append}
use Rattle.rules.specs.Limits.{Limits, narrow, bytes_for, shortest, longest}
use Rattle.rules.specs.Strings.{Str, ◌▹◌}
use Rattle.rules.specs.Names.{Name, all, is_name}
use Rattle.rules.specs.Stamps.{Stamp, lawful, append, fork}
use Rattle.rules.specs.Packed.{string_bits, strings_bits, name_bits, stamp_bits, pack_bits, packed}
use Rattle.laws.proofs.Bits.{field_length}
use Rattle.layout.proofs.Bytes.{are_bytes, pack_length, bytes_are_bytes}
use Rattle.layout.proofs.Names.{all_short, named, lawful_names}
use Rattle.laws.proofs.Tests.{and_right}
use Rattle.laws.proofs.Lawful.{all_short_lem}

module _ (L : Limits) where
  packed_length : (s : Stamp) → length (packed L s) ≡ bytes_for (length (stamp_bits L s))
  unfolding packed
  packed_length s = pack_length (stamp_bits L s)

  pub packed_are_bytes : (s : Stamp) → are_bytes (packed L s) ≡ true
  unfolding packed pack_bits
  packed_are_bytes s = bytes_are_bytes (bytes_for (length (stamp_bits L s))) _

  pub string_length : (s : Str) → length (string_bits L s) ≡ L.length_bits + length s
  unfolding string_bits
  string_length s = simp (length-append, field_length)

  pub strings_length : (s : Str) (n : Name) → length (strings_bits L (s ∷ n)) ≡ L.length_bits + length s + length (strings_bits L n)
  unfolding strings_bits
  strings_length s n = simp (length-append, string_length)

  pub name_length : (n : Name) → length (name_bits L n) ≡ L.count_bits + length (strings_bits L n)
  unfolding name_bits
  name_length n = simp (length-append, field_length)

  stamp_length : (s : Stamp) → length (stamp_bits L s) ≡ length (name_bits L s.update) + length (name_bits L s.id)
  unfolding stamp_bits
  stamp_length s = length-append (name_bits L s.update) (name_bits L s.id)

  -- in bytes
  pub names_length : (s : Stamp) → length (packed L s) ≡ bytes_for (length (name_bits L s.update) + length (name_bits L s.id))
  names_length s = packed_length s ∙ ap bytes_for (stamp_length s)

  -- ---- between the shortest and the longest

  pub strings_most : (n : Name) → all_short L n ≡ true → length (strings_bits L n) ≤ length n * (L.length_bits + L.digits)
  unfolding strings_bits all
  strings_most [] h = omega arith
  strings_most (s ∷ n) h =
      omega (arith, strings_length s n, all_short_lem L.digits (s ∷ n) h s (inl refl), strings_most n (and_right (leb (length s) L.digits) (all_short L n) h))

  name_least : (n : Name) → is_name L n ≡ true → L.count_bits + L.length_bits ≤ length (name_bits L n)
  name_least [] h = absurd (omega (arith, (named L [] h).nonempty))
  name_least (s ∷ n) h = omega (arith, name_length (s ∷ n), strings_length s n)

  pub name_most : (n : Name) → is_name L n ≡ true → length (name_bits L n) ≤ L.count_bits + L.strings * (L.length_bits + L.digits)
  name_most n h =
      let i = named L n h in
      omega (arith, name_length n, strings_most n i.short, mul-le-mul_right (L.length_bits + L.digits) i.few)

  pub packed_least : (s : Stamp) → lawful L s ≡ true → shortest L ≤ length (packed L s)
  packed_least s h =
      let n = lawful_names L s h in
      omega (arith, names_length s, name_least s.update n.0, name_least s.id n.1)

  pub packed_most : (s : Stamp) → lawful L s ≡ true → length (packed L s) ≤ longest L
  packed_most s h =
      let n = lawful_names L s h in
      omega (arith, names_length s, name_most s.update n.0, name_most s.id n.1)

  -- ---- a digit more

  grown_length : (d : Bool) (n : Name) → length (strings_bits L (append d n)) ≡ length (strings_bits L n) + length n
  unfolding append
  grown_length d [] = omega arith
  grown_length d (s ∷ n) = omega (arith, strings_length (s ▹ d) (append d n), strings_length s n, grown_length d n, length-append s (d ∷ []))

  -- each string of the id is one bit longer
  pub fork_bits : (d : Bool) (s : Stamp) → length (stamp_bits L (fork d s)) ≡ length (stamp_bits L s) + length s.id
  unfolding fork
  fork_bits d s = omega (arith, stamp_length (fork d s), stamp_length s, name_length (append d s.id), name_length s.id, grown_length d s.id)

  pub forks_length : (s : Stamp) → length (packed L (fork false s)) ≡ length (packed L (fork true s))
  forks_length s = packed_length (fork false s) ∙ ap bytes_for (fork_bits false s ∙ sym (fork_bits true s)) ∙ sym (packed_length (fork true s))

-- "That is 3 to 117 bytes"
pub packed_narrow : (s : Stamp) → lawful narrow s ≡ true → (3 ≤ length (packed narrow s)) × (length (packed narrow s) ≤ 117)
packed_narrow s h = (packed_least narrow s h, packed_most narrow s h)
