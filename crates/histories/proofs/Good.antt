-- The invariant of a table and its events: the configuration is sound, every present record is a stored shape, and the shares add up to
-- the whole. The fresh table has it. Assumes nothing.
use Rattle.laws.proofs.Library.{◌≡◌, refl, ap, ◌∙◌, true, false, not, ◌||◌, [], ℕ, ◌≤◌, ◌<◌, arith, eqb, leb, length, set, replicate, length-set}
use Rattle.laws.proofs.Library.{length-replicate, get_or-replicate, eqb-true, lt-leb}
use Rattle.rules.specs.Limits.{Limits}
use Rattle.rules.specs.Strings.{whole}
use Rattle.rules.specs.Stamps.{Stamp, lawful, start}
use Rattle.rules.specs.Stored.{stored, is_stored, blank, absent}
use Rattle.rules.specs.Tables.{Table, outside, at, stamp_at, no_slot, present, fresh_table}
use Rattle.rules.specs.Histories.{World, events_at, begin, sum_table}
use Rattle.rules.specs.declared.Record.{Record}
use Rattle.laws.proofs.Tests.{clash, not-true, not_is}
use Rattle.laws.proofs.Lawful.{lawful_start}
use Rattle.laws.proofs.Stored.{is_stored_lem, blank_absent}
use Rattle.histories.specs.Configurations.{Config, Sound, initial, put}
use Rattle.histories.proofs.Config.{here, there, is_where, sound_same, sound_start}
use Rattle.histories.proofs.Tables.{present_size, present_there, at_put, present_stored, stamp_stored, share_of, share_blank, sum_blank, sum_stored}
use Rattle.histories.proofs.Tables.{share_start}

-- what the slots hold, with no limits
abbrev pub config_of : Limits → World → Config
config_of L w = record { present = present L w.table; stamp = stamp_at w.table; events = events_at w; next = w.next }

-- every present record is the stored shape of a lawful stamp
abbrev pub Shaped : Limits → Table → Type 0
Shaped L t = (a : ℕ) → present L t a ≡ true → is_stored L (at t a) ≡ true

pub record Good (L : Limits) (n : ℕ) (w : World) : Type 0 where
  pub size : length w.table ≡ n
  pub events_size : length w.events ≡ n
  pub sound : Sound (config_of L w)
  pub shapes : Shaped L w.table
  pub sum : sum_table L.digits w.table ≡ whole L.digits

-- ---- stores

-- of nothing, or of a stored shape
shaped_set : (L : Limits) (t : Table) (a : ℕ) (r : Record) → a < length t → (absent L r ≡ false → is_stored L r ≡ true) → Shaped L t → Shaped L (set t a r)
unfolding no_slot
shaped_set L t a r h ok s x p =
    let q : not (leb (length t) x || absent L (put a r (at t) x)) ≡ true = rw (length-set t a r, at_put L t a h r x) at p in
    rw (at_put L t a h r x)
    (elim (is_where a x) [
      | here m e ↦ rw e (ok (not_is (let k : not (absent L r) ≡ true = rw (e, m, lt-leb (length t) a h) at q in k)))
      | there m e ↦ rw e (s x (rw e at q))
    ])

pub shaped_blank : (L : Limits) (t : Table) (a : ℕ) → a < length t → Shaped L t → Shaped L (set t a (blank L))
shaped_blank L t a h = shaped_set L t a (blank L) h (λ e. absurd (clash (blank_absent L) e))

module _ (L : Limits) (room : L.digits ≤ 58) where
  pub shaped_stored : (t : Table) (a : ℕ) (s : Stamp) → a < length t → lawful L s ≡ true → Shaped L t → Shaped L (set t a (stored L s))
  shaped_stored t a s h l = shaped_set L t a (stored L s) h (λ e. is_stored_lem L room s l)

  -- ---- the fresh table

  module _ (n : ℕ) where
    -- n records of nothing
    abbrev bare : Table
    bare = replicate n (blank L)

    bare_at : (x : ℕ) → x < length bare → at bare x ≡ blank L
    bare_at x h = get_or-replicate n x (blank L) outside (rw (length-replicate n (blank L)) at h)

    bare_absent : (x : ℕ) → present L bare x ≡ false
    bare_absent x = not-true (λ p. clash (ap (absent L) (bare_at x (present_size L bare x p)) ∙ blank_absent L) (present_there L bare x p))

    only_first : (x : ℕ) → put 0 true (present L bare) x ≡ eqb x 0
    only_first x = elim (is_where 0 x) [ here p e ↦ rw e | there m e ↦ rw e (bare_absent x) ]

    pub good_begin : 1 ≤ n → 1 ≤ L.strings → Good L n (begin L n)
    unfolding begin fresh_table
    good_begin some strings =
        let legal = lawful_start L strings in
        let inside : 0 < length bare = omega (arith, length-replicate n (blank L)) in
        record {
          size = length-set bare 0 (stored L start) ∙ length-replicate n (blank L);
          events_size = length-replicate n [];
          sound =
              sound_same initial (config_of L (begin L n)) (λ x. present_stored L bare 0 inside start legal x ∙ only_first x)
              (λ x p. stamp_stored L bare 0 inside start legal x room ∙ rw p)
              (λ x p. get_or-replicate n x [] [] (omega (arith, eqb-true x 0 p))) refl sound_start;
          shapes = shaped_stored bare 0 start inside legal (λ x p. absurd (clash p (bare_absent x)));
          sum =
              let held_none = ap (share_of L.digits) (bare_at 0 inside) ∙ share_blank L L.digits in
              omega (arith, sum_stored L room L.digits bare 0 start inside legal, sum_blank L L.digits n, share_start L.digits);
        }
