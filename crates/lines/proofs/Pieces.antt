-- However an input is cut into pieces, the commands gathered are those of its lines. One piece after another is one piece, by induction
-- over the first; and the unfinished line keeps the first eight bytes, which decide what it says. Assumes nothing.
use Rattle.laws.proofs.Library.{◌≡◌, refl, sym, ap, ◌∙◌, Bool, true, false, cond, List, [], ◌∷◌, ◌++◌, append_assoc, append-nil, ℕ, suc, ◌+◌, ◌≤◌, min}
use Rattle.laws.proofs.Library.{arith, add-one, ltb-true, ltb-false, eq-eqb, ne_eqb, eqb, ltb, length, take, set, length-append, length-set, take_all}
use Rattle.laws.proofs.Library.{take-suc-set, take-append-le}
use Rattle.rules.specs.Traces.{Text, read_line, read_lines, lines_of, drop_empty_last, split_at, onto_first}
use Rattle.lines.specs.declared.Unfinished.{Unfinished}
use Rattle.lines.specs.declared.Command.{Command}
use Rattle.lines.specs.Commands.{command_of, commands_of, text_of, parsed, begun, pushed, ended, left, last_line, all_gathered, whole}
use Rattle.lines.proofs.Splits.{parts}
use Rattle.lines.proofs.Reading.{read_eight}

-- ---- one piece after another

-- the line that both leave, and the commands that end in both
abbrev Appends : Text → Text → Unfinished → Type 0
Appends p q l = (left l (p ++ q) ≡ left (left l p) q) × (ended l (p ++ q) ≡ ended l p ++ ended (left l p) q)

appends : (p q : Text) (l : Unfinished) → Appends p q l
unfolding left ended
appends [] q l = (refl, refl)
appends (x ∷ p) q l = by (eqb x 10) (appends p q begun) (appends p q (pushed l x))
  where
    by : (b : Bool) → Appends p q begun → Appends p q (pushed l x)
        → (cond b (left begun (p ++ q)) (left (pushed l x) (p ++ q)) ≡ left (cond b (left begun p) (left (pushed l x) p)) q)
        × (cond b (parsed l ∷ ended begun (p ++ q)) (ended (pushed l x) (p ++ q))
        ≡ cond b (parsed l ∷ ended begun p) (ended (pushed l x) p) ++ ended (cond b (left begun p) (left (pushed l x) p)) q)
    by true f g = (f.0, ap (λ (cs : List Command). parsed l ∷ cs) f.1)
    by false f g = g

-- pieces are one piece, and then the last line
pub all_whole : (ps : List Text) (l : Unfinished) → all_gathered l ps ≡ ended l (whole ps) ++ last_line (left l (whole ps))
unfolding all_gathered whole left ended
all_whole [] l = refl
all_whole (p ∷ ps) l =
    let a = appends p (whole ps) l in
    rw (a.1, a.0, append_assoc)
    (ap (λ (cs : List Command). ended l p ++ cs) (all_whole ps (left l p)))

-- ---- what the unfinished line keeps

-- l stands for the text t
record Holds (l : Unfinished) (t : Text) : Type 0 where
  kept : text_of l ≡ take 8 t
  size : l.len ≡ min 8 (length t)
  room : length l.bytes ≡ 8

holds_begun : Holds begun []
unfolding begun
holds_begun = record { kept = refl; size = refl; room = refl }

holds_pushed : (l : Unfinished) (t : Text) (x : ℕ) → Holds l t → Holds (pushed l x) (t ++ (x ∷ []))
unfolding pushed
holds_pushed l t x h = by (ltb l.len 8) refl
  where
    more : length (t ++ (x ∷ [])) ≡ suc (length t)
    more = length-append t (x ∷ []) ∙ add-one (length t)

    by : (b : Bool) → ltb l.len 8 ≡ b → Holds (cond b (record { len = l.len + 1; bytes = set l.bytes l.len x }) l) (t ++ (x ∷ []))
    by true e =
        let k = ltb-true l.len 8 e in
        let n : length t ≤ 7 = omega (arith, h.size) in
        let same : text_of l ≡ t = h.kept ∙ take_all 8 t (omega arith) in
        record {
          kept =
              rw add-one (take-suc-set l.bytes l.len x (omega (arith, h.room))
              ∙ ap (λ (s : Text). s ++ (x ∷ [])) same
              ∙ sym (take_all 8 (t ++ (x ∷ [])) (omega (arith, more))));
          size = omega (arith, more, h.size);
          room = length-set l.bytes l.len x ∙ h.room;
        }
    by false e =
        let k = ltb-false l.len 8 e in
        let n : 8 ≤ length t = omega (arith, h.size) in
        record { kept = h.kept ∙ sym (take-append-le 8 t (x ∷ []) n); size = omega (arith, more, h.size); room = h.room }

holds_says : (l : Unfinished) (t : Text) → Holds l t → parsed l ≡ command_of (read_line t)
unfolding parsed
holds_says l t h = ap command_of (ap read_line h.kept ∙ read_eight t)

-- ---- the whole input

-- a text before the first part
before : Text → List Text → List Text
before t [] = t ∷ []
before t (p ∷ ps) = (t ++ p) ∷ ps

-- the last line, where it is something
last_line_lem : (l : Unfinished) (t : Text) → Holds l t → last_line l ≡ commands_of (read_lines (drop_empty_last (t ∷ [])))
unfolding last_line commands_of read_lines drop_empty_last
last_line_lem l [] h = rw (eq-eqb l.len 0 h.size)
last_line_lem l (x ∷ t) h = rw (ne_eqb l.len 0 (λ e. omega (arith, e, h.size)), holds_says l (x ∷ t) h)

lines_from : (input : Text) (l : Unfinished) (t : Text) → Holds l t
    → ended l input ++ last_line (left l input) ≡ commands_of (read_lines (drop_empty_last (before t (split_at 10 input))))
unfolding ended left split_at before commands_of read_lines drop_empty_last
lines_from [] l t h = rw append-nil (last_line_lem l t h)
lines_from (x ∷ input) l t h = by (eqb x 10) (parts 10 input) (λ m s k. lines_from input m s k)
  where
    by : (b : Bool) → (p : Text) × (ps : List Text) × (split_at 10 input ≡ p ∷ ps)
        → ((m : Unfinished) (s : Text) → Holds m s
        → ended m input ++ last_line (left m input) ≡ commands_of (read_lines (drop_empty_last (before s (split_at 10 input)))))
        → cond b (parsed l ∷ ended begun input) (ended (pushed l x) input) ++ last_line (cond b (left begun input) (left (pushed l x) input))
        ≡ commands_of (read_lines (drop_empty_last (before t (cond b ([] ∷ split_at 10 input) (onto_first x (split_at 10 input))))))
    by true r ih = rw (ih begun [] holds_begun, r.2, append-nil, holds_says l t h)
    by false r ih =
        ih (pushed l x) (t ++ (x ∷ [])) (holds_pushed l t x h)
        ∙ rw r.2 (ap (λ (p : Text). commands_of (read_lines (drop_empty_last (p ∷ r.1)))) (append_assoc t (x ∷ []) r.0))

none_before : (input : Text) → before [] (split_at 10 input) ≡ split_at 10 input
unfolding before
none_before input = rw (parts 10 input).2

-- the commands gathered from all pieces, and then the last line's, are those of the lines of the whole input
pub all_lines : (ps : List Text) → all_gathered begun ps ≡ commands_of (read_lines (lines_of (whole ps)))
unfolding lines_of
all_lines ps =
    all_whole ps begun
    ∙ lines_from (whole ps) begun [] holds_begun
    ∙ ap (λ (ls : List Text). commands_of (read_lines (drop_empty_last ls))) (none_before (whole ps))
