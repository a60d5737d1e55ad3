-- Packed stamps and bytes that read are one to one. Writing then reading gives a lawful stamp back, and no other stamp has its bytes;
-- reading then writing gives the bytes back, and no other bytes read as that stamp. Assumes nothing.
use Rattle.laws.proofs.Library.{◌≡◌, Ok, refl, sym, ap, ◌∙◌, Bool, true, List, Option, none, some, Option·none-ne-some, Option·some-injective, ℕ, ◌^◌, ◌≤◌, lit≤}
use Rattle.laws.proofs.Library.{length, arith, inl, inr}
use Rattle.rules.specs.Limits.{Limits, narrow}
use Rattle.rules.specs.Names.{is_name}
use Rattle.rules.specs.Stamps.{Stamp, lawful}
use Rattle.rules.specs.Stored.{stored, held}
use Rattle.rules.specs.Refusals.{first}
use Rattle.rules.specs.Packed.{stamp_bits, packed, bits_of, Taken, take_stamp, is_filling, filled_only, unpacked, read_as, read_stamp}
use Rattle.rules.specs.Promises.{WriteRead, ReadWrite}
use Rattle.rules.specs.declared.Record.{Record}
use Rattle.laws.proofs.Tests.{decide}
use Rattle.laws.proofs.Stored.{held_stored}
use Rattle.layout.proofs.Bytes.{are_bytes, filling_of, packed_bits, filling_is, pack_of_bits}
use Rattle.layout.proofs.Fields.{let_through}
use Rattle.layout.proofs.Names.{Fitting, narrow_fits, lawful_names, stamp_back, took_stamp, took_names}

module _ (L : Limits) where
  -- ---- stamps and bytes

  pub unpacked_packed : Fitting L → (s : Stamp) → is_name L s.update ≡ true → is_name L s.id ≡ true → unpacked L (packed L s) ≡ some s
  unfolding unpacked packed
  unpacked_packed fit s u i =
      rw (packed_bits (stamp_bits L s), stamp_back L fit s (filling_of (length (stamp_bits L s))) u i, filling_is (length (stamp_bits L s)))

  filled : {P : Type 0} (t : Taken Stamp) (s : Stamp) → filled_only t ≡ some s → ((z : List Bool) → t ≡ some (s, z) → is_filling z ≡ true → P) → P
  filled none s e k = absurd (Option·none-ne-some s e)
  filled (some g) s e k =
      let c = let_through (is_filling g.1) (some g.0) s e in
      k g.1 (ap (λ (x : Stamp). some (x, g.1)) (Option·some-injective g.0 s c.1)) c.0

  pub packed_unpacked : (b : List ℕ) (s : Stamp) → are_bytes b ≡ true → unpacked L b ≡ some s → packed L s ≡ b
  unfolding unpacked packed
  packed_unpacked b s h e =
      filled (take_stamp L (bits_of b)) s e (λ z told zeros. pack_of_bits b (stamp_bits L s) z h (took_stamp L (bits_of b) s z told) zeros)

  -- where the count can say no more than is allowed, what is unpacked are names
  pub unpacked_names : 2 ^ L.count_bits ≤ L.strings → (b : List ℕ) (s : Stamp) → unpacked L b ≡ some s
      → (is_name L s.update ≡ true) × (is_name L s.id ≡ true)
  unfolding unpacked
  unpacked_names exact b s e = filled (take_stamp L (bits_of b)) s e (λ z told zeros. took_names L exact (bits_of b) s z told)

  -- no two lawful stamps have the same bytes
  pub packed_injective : Fitting L → (s t : Stamp) → lawful L s ≡ true → lawful L t ≡ true → packed L s ≡ packed L t → s ≡ t
  packed_injective fit s t p q e =
      let f = lawful_names L s p in
      let g = lawful_names L t q in
      Option·some-injective s t (sym (unpacked_packed fit s f.0 f.1) ∙ ap (unpacked L) e ∙ unpacked_packed fit t g.0 g.1)

  -- no two runs of bytes read as the same stamp
  pub unpacked_injective : (a b : List ℕ) (s : Stamp) → are_bytes a ≡ true → are_bytes b ≡ true → unpacked L a ≡ some s → unpacked L b ≡ some s → a ≡ b
  unpacked_injective a b s p q e f = sym (packed_unpacked a s p e) ∙ packed_unpacked b s q f

  -- ---- the promises

  -- "write then read gives the stamp back"
  pub write_read : Fitting L → WriteRead L
  unfolding read_stamp first
  write_read fit s h =
      let n = lawful_names L s h in
      ap (read_as L) (unpacked_packed fit s n.0 n.1) ∙ rw h

  -- what an accepted reading found
  accepted : {P : Type 0} (o : Option Stamp) (r : Record) → read_as L o ≡ Ok r
      → ((s : Stamp) → o ≡ some s → lawful L s ≡ true → r ≡ stored L s → P) → P
  unfolding first
  accepted none r e k = absurd (let z : ◌≡◌ {A = ℕ} 0 1 = cc in omega arith)
  accepted (some s) r e k = elim (decide (lawful L s)) [
    | inl p ↦ k s refl p (let f = rw p at e in cc)
    | inr p ↦ absurd (let z : ◌≡◌ {A = ℕ} 0 1 = cc (rw p at e) in omega arith)
  ]

  -- ---- the record that was read

  module _ (room : L.digits ≤ 58) where
    -- "for all accepted bytes read then write gives the bytes back"
    pub read_write : ReadWrite L
    unfolding read_stamp
    read_write b r h e =
        accepted (unpacked L b) r e (λ s told p q. ap (λ (x : Record). packed L (held x)) q ∙ ap (packed L) (held_stored L room s p) ∙ packed_unpacked b s h told)

-- ---- the limits in force

pub narrow_write_read : WriteRead narrow
narrow_write_read = write_read narrow narrow_fits

pub narrow_read_write : ReadWrite narrow
narrow_read_write = read_write narrow (lit≤ tt)
