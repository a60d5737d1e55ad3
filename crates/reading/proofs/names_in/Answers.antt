-- `reading::names_in` meets its contract: each test of the code is the one that the reader of bits makes there. Assumes nothing.
use Rattle.laws.proofs.Library.{◌≡◌, refl, sym, ap, ◌∙◌, Bool, true, false, cond, List, ◌++◌, Option, none, some, ℕ, ◌*◌, ◌<◌, arith, rules}
use Rattle.laws.proofs.Library.{lit≤, length, take, take_at}
use Rattle.std.specs.Bool.{then_some}
use Rattle.rules.specs.Limits.{narrow}
use Rattle.rules.specs.Names.{Name}
use Rattle.rules.specs.Stamps.{Stamp}
use Rattle.rules.specs.Packed.{bits_of, take_name, take_stamp, is_filling, unpacked}
use Rattle.layout.proofs.Bytes.{are_bytes}
use Rattle.layout.proofs.RoundTrip.{packed_unpacked, unpacked_names}
use Rattle.walks.specs.Walks.{strs}
use Rattle.layout.specs.Words.{stamp_of}
use Rattle.reading.specs.Reading.{stream, rest, NameRead, NamesRead}
use Rattle.layout.proofs.Sizes.{names_length, name_most}
use Rattle.layout.proofs.Values.{bytes_are}
use Rattle.reading.proofs.Streams.{bits_take}
use Rattle.std.specs.declared.option.Option.TheVariants.{None, Some}
use Rattle.reading.proofs.names_in.Goals as goal

-- ---- the ways of a reader of a stamp

-- more bytes than the longest stamp has
too_long_lem : (b : List ℕ) → are_bytes b ≡ true → 117 < length b → unpacked narrow b ≡ none
too_long_lem b h l = by (unpacked narrow b) refl
  where
    by : (o : Option Stamp) → unpacked narrow b ≡ o → unpacked narrow b ≡ none
    by none e = e
    by (some s) e =
        let n = unpacked_names narrow (lit≤ tt) b s e in
        absurd
        (omega (arith, ap length (packed_unpacked narrow b s h e), names_length narrow s, name_most narrow s.update n.0, name_most narrow s.id n.1))

no_update : (b : List ℕ) → take_name narrow (bits_of b) ≡ none → unpacked narrow b ≡ none
unfolding unpacked take_stamp
no_update b e = simp e

no_id : (b : List ℕ) (u : Name) (rest : List Bool) → take_name narrow (bits_of b) ≡ some (u, rest) → take_name narrow rest ≡ none
    → unpacked narrow b ≡ none
unfolding unpacked take_stamp
no_id b u rest e f = simp (e, f)

-- both names, and what the filling decides
both : (b : List ℕ) (u i : Name) (rest end : List Bool) (full : Bool) → take_name narrow (bits_of b) ≡ some (u, rest)
    → take_name narrow rest ≡ some (i, end) → full ≡ is_filling end → unpacked narrow b ≡ cond full (some (record { update = u; id = i })) none
unfolding unpacked take_stamp
both b u i rest end full e f g = simp (e, f, sym g)

-- behind the bytes of b others may stand
copied_bits : (b x others : List ℕ) → x ≡ b → stream (length b * 8) (x ++ others) ≡ bits_of b
copied_bits b x others e = bits_take (length b) (x ++ others) ∙ ap bits_of (take_at x others (length b) (ap length e) ∙ e)

-- ---- what the names' answers tell

none_read : (b us is : List ℕ) → unpacked narrow b ≡ none → NamesRead b None us is
none_read b us is e = record { reads = e; update = tt; id = tt }

-- of p the bits that are there are those of b
module _ (b p us : List ℕ) (e : stream (length b * 8) p ≡ bits_of b) where
  abbrev bits : ℕ
  bits = length b * 8

  without_update : NameRead p bits 0 None us → unpacked narrow b ≡ none
  without_update u = no_update b (ap (take_name narrow) (sym e) ∙ u.reads)

  module _ (is : List ℕ) (m next : ℕ) (u : NameRead p bits 0 (Some (m, next)) us) where
    took_update : take_name narrow (bits_of b) ≡ some (strs (take m us), rest p bits next)
    took_update = ap (take_name narrow) (sym e) ∙ u.reads

    without_id : NameRead p bits next None is → unpacked narrow b ≡ none
    without_id i = no_id b (strs (take m us)) (rest p bits next) took_update i.reads

    module _ (n end : ℕ) (i : NameRead p bits next (Some (n, end)) is) where
      with_both : (full : Bool) → full ≡ is_filling (rest p bits end) → unpacked narrow b ≡ cond full (some (stamp_of (take m us) (take n is))) none
      with_both full g = both b (strs (take m us)) (strs (take n is)) (rest p bits next) (rest p bits end) full took_update i.reads g

      -- what the filling decides
      all_read : (full : Bool) → full ≡ is_filling (rest p bits end) → NamesRead b (then_some full (record { update = m; id = n })) us is
      all_read true g = record { reads = with_both true g; update = u.words; id = i.words }
      all_read false g = none_read b us is (with_both false g)

-- ---- the code

pub returns-then-b-gt-BYTES : goal.returns-then-b-gt-BYTES
returns-then-b-gt-BYTES c =
    none_read c.args.b.now c.args.u.now c.args.i.now (too_long_lem c.args.b.now (bytes_are c.args.b.now (λ i. search rules)) (omega arith))

pub returns-in_err-update : goal.returns-in_err-update
returns-in_err-update c =
    let same = copied_bits c.args.b.now c.copy_from_slice.new.self _ c.copy_from_slice.ensures.after in
    rw c.from_residual.ensures (none_read c.args.b.now _ c.args.i.now (without_update c.args.b.now _ _ same c.in_err-update.ensures))

pub returns-in_err-id : goal.returns-in_err-id
returns-in_err-id c =
    let same = copied_bits c.args.b.now c.copy_from_slice.new.self _ c.copy_from_slice.ensures.after in
    rw c.from_residual-in_err-id.ensures
    (none_read c.args.b.now _ _ (without_id c.args.b.now _ _ same _ c.in_ok-update.update _ c.in_ok-update.ensures c.in_err-id.ensures))

pub returns : goal.returns
returns c =
    let same = copied_bits c.args.b.now c.copy_from_slice.new.self _ c.copy_from_slice.ensures.after in
    rw c.then_some.ensures
    (all_read c.args.b.now _ _ same _ c.in_ok-update.update _ c.in_ok-update.ensures c.in_ok-id.id _ c.in_ok-id.ensures c.is_filling_at.result c.is_filling_at.ensures)
