-- What is read as a stamp is the stored shape of a lawful one, so that its names are inside the words that they were read into. Assumes nothing.
use Rattle.laws.proofs.Library.{◌≡◌, refl, sym, ap, ap₂, ◌∙◌, subst, Bool, true, false, cond, not, List, Option, none, some, ℕ, lit≤, take, drop, length, take_at}
use Rattle.laws.proofs.Library.{◌≤◌, Result, Ok, Err}
use Rattle.rules.specs.Limits.{narrow}
use Rattle.rules.specs.Stamps.{Stamp, lawful}
use Rattle.rules.specs.Stored.{is_stored, held, strs_in}
use Rattle.layout.specs.Words.{stamp_of}
use Rattle.rules.specs.Refusals.{first}
use Rattle.rules.specs.Values.{given}
use Rattle.rules.specs.Packed.{Wrote, unpacked, read_as, read_stamp}
use Rattle.rules.specs.declared.Words.{Words}
use Rattle.rules.specs.declared.Record.{Record}
use Rattle.rules.specs.declared.Refusal.{Refusal}
use Rattle.rules.specs.declared.Refusal.TheVariants.{Unlawful}
use Rattle.laws.proofs.Stored.{is_stored_lem}
use Rattle.stamps.proofs.Laws.{Counted, both_counted, refusal_not_done}
use Rattle.rules.specs.declared.Counts.{Counts}
use Rattle.reading.specs.Reading.{counts_of, lent_to, update_in, id_in}
use Rattle.calls.specs.Joins.{Lent}

-- ---- what was read

pub read_stored : (b : List ℕ) (r : Record) → read_stamp narrow b ≡ Ok r → is_stored narrow r ≡ true
unfolding read_stamp first
read_stored b r = by (unpacked narrow b)
  where
    asked : (s : Stamp) (t : Bool) → lawful narrow s ≡ t → given narrow (cond (not t) (Err Unlawful) (Ok tt)) s ≡ Ok r → is_stored narrow r ≡ true
    asked s true h e = subst (λ (x : Record). is_stored narrow x ≡ true) (cc) (is_stored_lem narrow (lit≤ tt) s h)
    asked s false h e = absurd (refusal_not_done e)

    by : (o : Option Stamp) → read_as narrow o ≡ Ok r → is_stored narrow r ≡ true
    by none e = absurd (refusal_not_done e)
    by (some s) e = asked s (lawful narrow s) refl e

-- so many words at the front of us and is are those of the names of a lawful stamp's record, which was read
pub record InWords (g : Result Record Refusal) (k : Counts) (us is : List ℕ) : Type 0 where
  pub of : Record
  pub read : g ≡ Ok of
  pub stored : is_stored narrow of ≡ true
  pub update : take of.update.count of.update.words ≡ take k.update us
  pub id : take of.id.count of.id.words ≡ take k.id is
  pub update_few : k.update ≤ 16
  pub id_few : k.id ≤ 16

-- a name at the front of other words
front_lent : (w : Words) (l : List ℕ) → Counted w → take w.count w.words ≡ take w.count (lent_to w l)
unfolding lent_to
front_lent w l c = sym (take_at (take w.count w.words) (drop (length (take w.count w.words)) l) w.count (sym c.taken))

pub in_words : (g : Result Record Refusal) (k : Counts) (us is u₀ i₀ : List ℕ) → ((r : Record) → g ≡ Ok r → is_stored narrow r ≡ true)
    → Ok k ≡ counts_of g → us ≡ update_in g u₀ → is ≡ id_in g i₀ → InWords g k us is
in_words (Ok r) k us is u₀ i₀ lawful e f h =
    let stored = lawful r refl in
    let n = both_counted r stored in
    let c : k ≡ record { update = r.update.count; id = r.id.count } = cc in
    record {
      of = r;
      read = refl;
      stored = stored;
      update = rw (c, f) (front_lent r.update u₀ n.0);
      id = rw (c, h) (front_lent r.id i₀ n.1);
      update_few = rw c n.0.few;
      id_few = rw c n.1.few;
    }
in_words (Err n) k us is u₀ i₀ lawful e f h = absurd (refusal_not_done (sym e))

pub was_read : (b : List ℕ) (k : Counts) (us is u₀ i₀ : List ℕ) → Ok k ≡ counts_of (read_stamp narrow b) → us ≡ update_in (read_stamp narrow b) u₀
    → is ≡ id_in (read_stamp narrow b) i₀ → InWords (read_stamp narrow b) k us is
was_read b k us is u₀ i₀ = in_words (read_stamp narrow b) k us is u₀ i₀ (read_stored b)

pub not_read : (g : Result Record Refusal) (e : Refusal) → Err e ≡ counts_of g → g ≡ Err e
not_read (Ok r) e h = absurd (refusal_not_done h)
not_read (Err n) e h = let z : n ≡ e = cc in ap Err z

-- ---- what is told

-- a call's answer, and what its buffer holds, are those of x
abbrev pub Tells : Result ℕ Refusal → List ℕ → Wrote → Type 0
Tells w l x = (w ≡ x.answer) × (l ≡ x.out)

pub tells_same : {w : Result ℕ Refusal} {l : List ℕ} {x y : Wrote} → x ≡ y → Tells w l x → Tells w l y
tells_same e t = (t.0 ∙ ap (λ (z : Wrote). z.answer) e, t.1 ∙ ap (λ (z : Wrote). z.out) e)

-- ---- what was lent

module _ {u i : List ℕ} (x : Lent u i) where
  pub held_is : held x.of ≡ stamp_of u i
  unfolding held strs_in
  held_is = ap₂ (λ (m n : List ℕ). stamp_of m n) x.update x.id
