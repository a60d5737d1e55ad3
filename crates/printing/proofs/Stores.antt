-- Stores one after the other are one store of what was stored. Assumes nothing.
use Rattle.laws.proofs.Library.{◌≡◌, sym, ap₂, ◌∙◌, List, [], ◌∷◌, ◌++◌, ℕ, suc, ◌+◌, ◌≤◌, ◌<◌, add-zero, add-suc, suc-add, zero-add, add-one, arith, length, drop}
use Rattle.laws.proofs.Library.{append_assoc, ◌-◌, drop-drop, get_or, set, length-append, sets, sets-eq, drop-cons}
use Rattle.rules.specs.Traces.{Text}
use Rattle.rules.specs.Packed.{over}
use Rattle.std.proofs.Math.Seq.{length-sets}
use borrow.Rule.Slice.PartMut.{put_mid}
use Rattle.printing.specs.declared.answers.Page.{Page}
use Rattle.printing.specs.Inner.{Writes}

pub sets_append : (s t l : List ℕ) (i : ℕ) → sets l i (s ++ t) ≡ sets (sets l i s) (i + length s) t
sets_append [] t l i = rw add-zero
sets_append (x ∷ s) t l i = rw add-suc (rw suc-add at (sets_append s t (set l i x) (suc i)))

-- a store at the front is what was stored, over the buffer
pub sets_front : (vs l : List ℕ) → length vs ≤ length l → sets l 0 vs ≡ over vs l
sets_front vs l h = rw zero-add at (sets-eq vs l 0 (omega arith))

-- one text behind another
pub then : {a b d : Page} (s t : Text) → Writes a s b → Writes b t d → Writes a (s ++ t) d
then {a} {b} {d} s t p q =
    record {
      len = omega (arith, p.len, q.len, length-append s t);
      size = q.size ∙ p.size;
      bytes = q.bytes ∙ ap₂ (λ l n. sets l n t) p.bytes p.len ∙ sym (sets_append s t a.out.now a.len);
      lent = q.lent ∙ p.lent;
    }

-- one byte of a word, and then the rest of it
pub put_step : (word out : List ℕ) (at i : ℕ) → i < length word
    → sets out (at + i) (drop i word) ≡ sets (set out (at + i) (get_or word i 0)) (at + (i + 1)) (drop (i + 1) word)
put_step word out at i h = rw (add-one, add-suc, drop-cons word i 0 h)

-- a text copied into its place is that store
pub copied : (t l : List ℕ) (at : ℕ) → at + length t ≤ length l → put_mid at (at + length t - at) l t ≡ sets l at t
copied t l at h =
    let room : at + length t - at ≡ length t = omega arith in
    rw (sets-eq t l at h, append_assoc, room, drop-drop (length t) at l)

pub copied_size : (t l : List ℕ) (at : ℕ) → at + length t ≤ length l → length (put_mid at (at + length t - at) l t) ≡ length l
copied_size t l at h = rw (copied t l at h) (length-sets l at t)
