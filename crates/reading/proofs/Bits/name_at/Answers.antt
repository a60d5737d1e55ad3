-- `Bits::name_at` meets its contract: the words written are those of the strings read so far, and the reader of bits goes on from
-- the same bit behind the same string. Assumes nothing.
use Rattle.laws.proofs.Library.{◌≡◌, refl, sym, ap, ◌∙◌, Bool, true, false, not, ◌&&◌, List, [], ◌∷◌, ◌++◌, append_assoc, append-nil, map-append, none}
use Rattle.laws.proofs.Library.{some, ℕ, suc, ◌+◌, ◌*◌, ◌-◌, ◌/◌, ◌^◌, ◌≤◌, ◌<◌, add-one, arith, le-leb, lt-leb, leb-true, leb-false}
use Rattle.laws.proofs.Library.{leb, ltb, lit≤, length, take, drop, set, length-append, drop-drop, take-suc-set, take_all, take_at, length-take-le, length-drop, length-set}
use Rattle.rules.specs.Limits.{narrow}
use Rattle.rules.specs.Strings.{Str, less, field, value, str_of, is_word}
use Rattle.rules.specs.Names.{Name, all}
use Rattle.rules.specs.Packed.{bits_of, string_bits, Taken, then_take, take_bits, take_number, take_string, take_more, take_name}
use Rattle.laws.proofs.Tests.{and_left, and_right, and_both}
use Rattle.layout.proofs.Fields.{go_on, took_string}
use Rattle.strings.specs.Words.{begins}
use Rattle.strings.proofs.Fronts.{begins_less}
use Rattle.walks.specs.Walks.{strs}
use Rattle.reading.specs.Reading.{stream, rest, are_words, StringRead, NameRead}
use Rattle.layout.proofs.Sizes.{string_length}
use Rattle.reading.proofs.Streams.{part_within, top_value, shows, room_is}
use Rattle.reading.proofs.Sofar.{onward, Sofar}
use Rattle.std.specs.declared.option.Option.TheVariants.{None, Some}
use borrow.Rule.Slice.PartMut.{put_mid}
use Rattle.reading.proofs.Bits.name_at.Goals as goal

-- ---- the ways of a reader of a name

no_count : (bs : List Bool) → length bs < 4 → take_name narrow bs ≡ none
unfolding take_name take_number take_bits
no_count bs h = simp (lt-leb 4 (length bs) h)

-- behind the count
counted : (bs : List Bool) (k : ℕ) → 4 ≤ length bs → k ≡ value (take 4 bs)
    → take_name narrow bs ≡ then_take (take_string narrow (drop 4 bs)) (λ s more. then_take (take_more narrow k s more) (λ n end. some (s ∷ n, end)))
unfolding take_name take_number take_bits
counted bs k h e = simp (le-leb 4 (length bs) h, sym e)

onward_cons : (n : Name) (t : Str) (r : Taken Name) → onward n (then_take r (λ m end. some (t ∷ m, end))) ≡ onward (n ++ (t ∷ [])) r
onward_cons n t none = refl
onward_cons n t (some g) = ap (λ (m : Name). some (m, g.1)) (sym (append_assoc n (t ∷ []) g.0))

one_more : (n : Name) (k : ℕ) (s t : Str) (bs rest : List Bool) → take_string narrow bs ≡ some (t, rest) → less s t ≡ true
    → onward n (take_more narrow (suc k) s bs) ≡ onward (n ++ (t ∷ [])) (take_more narrow k t rest)
unfolding take_more
one_more n k s t bs rest e h = simp (e, h) (onward_cons n t (take_more narrow k t rest))

no_more : (n : Name) (k : ℕ) (s : Str) (bs : List Bool) → take_string narrow bs ≡ none → onward n (take_more narrow (suc k) s bs) ≡ none
unfolding take_more
no_more n k s bs e = simp e

not_after : (n : Name) (k : ℕ) (s t : Str) (bs rest : List Bool) → take_string narrow bs ≡ some (t, rest) → less s t ≡ false
    → onward n (take_more narrow (suc k) s bs) ≡ none
unfolding take_more
not_after n k s t bs rest e h = simp (e, h)

-- ---- one word more

strs_more : (ws : List ℕ) (w : ℕ) → strs (ws ++ (w ∷ [])) ≡ strs ws ++ (str_of w ∷ [])
strs_more ws w = map-append str_of ws (w ∷ [])

words_more : (ws : List ℕ) (w : ℕ) → are_words ws ≡ true → is_word 24 w ≡ true → are_words (ws ++ (w ∷ [])) ≡ true
unfolding all
words_more [] w h g = and_both g refl
words_more (x ∷ ws) w h g = and_both (and_left (is_word 24 x) (are_words ws) h) (words_more ws w (and_right (is_word 24 x) (are_words ws) h) g)

-- of the slots behind the first, one more is written
slot_more : (items : List ℕ) (first k w : ℕ) → k < length items → first ∷ take (k + 1) (set items k w) ≡ (first ∷ take k items) ++ (w ∷ [])
slot_more items first k w h = ap (λ (l : List ℕ). first ∷ l) (ap (λ (n : ℕ). take n (set items k w)) (add-one k) ∙ take-suc-set items k w h)

module _ (out : List ℕ) (first n : ℕ) (h : n < length out) where
  slots : length (take n (drop 1 (set out 0 first))) ≡ n
  slots = length-take-le n (drop 1 (set out 0 first)) (omega (arith, length-drop 1 (set out 0 first), length-set out 0 first))

  -- all are written
  laid : (items : List ℕ) (k all : ℕ) → length items ≡ n → n ≤ k → all ≡ suc n → take all (put_mid 1 n (set out 0 first) items) ≡ first ∷ take k items
  laid items k all e f g = rw (g, take_all k items (omega arith)) (by out h)
    where
      by : (xs : List ℕ) → n < length xs → take (suc n) (put_mid 1 n (set xs 0 first) items) ≡ first ∷ items
      by [] l = absurd (omega arith)
      by (x ∷ xs) l = ap (λ (t : List ℕ). first ∷ t) (take_at items _ n e)

-- ---- the strings read so far

module _ (b : List ℕ) (bits pos v k : ℕ) (ek : k ≡ v / 2 ^ 60) (hv : v < 2 ^ 64) (hb : bits ≤ length b * 8)
    (e : take 57 (field 64 v) ≡ take 57 (drop pos (bits_of b))) where
  abbrev bs : List Bool
  bs = rest b bits pos

  count_is : 4 ≤ length bs → k ≡ value (take 4 bs)
  count_is h =
      ek ∙ top_value 4 v hv (omega arith)
      ∙ ap value (shows 4 57 pos v b (omega arith) e ∙ sym (part_within 4 pos bits (bits_of b) (omega (arith, room_is b bits pos hb))))

  no_first : StringRead b bits (pos + 4) None → take_name narrow bs ≡ none
  no_first s = by (leb 4 (length bs)) refl
    where
      by : (x : Bool) → leb 4 (length bs) ≡ x → take_name narrow bs ≡ none
      by true g =
          let l = leb-true 4 (length bs) g in
          counted bs k l (count_is l)
          ∙ ap (λ (t : Taken Str). then_take t (λ s more. then_take (take_more narrow k s more) (λ n end. some (s ∷ n, end))))
          (ap (take_string narrow) (drop-drop 4 pos (stream bits b)) ∙ s.reads)
      by false g = no_count bs (leb-false 4 (length bs) g)

  -- the first string
  started : (w next : ℕ) → StringRead b bits (pos + 4) (Some (w, next)) → Sofar b bits pos k w next (w ∷ [])
  unfolding all
  started w next s =
      let long : 5 ≤ length (rest b bits (pos + 4)) =
      omega (
        arith,
        ap length (took_string narrow (rest b bits (pos + 4)) (str_of w) (rest b bits next) s.reads).1,
        length-append (string_bits narrow (str_of w)) (rest b bits next),
        string_length narrow (str_of w),
      ) in
      let l : 4 ≤ length bs = omega (arith, room_is b bits pos hb, room_is b bits (pos + 4) hb) in
      record {
        whole = s.whole;
        inside = s.inside;
        words = and_both s.whole refl;
        reads =
            counted bs k l (count_is l)
            ∙ ap (λ (q : List Bool). then_take (take_string narrow q) (λ t more. onward (t ∷ []) (take_more narrow k t more))) (drop-drop 4 pos (stream bits b))
            ∙ go_on (λ t more. onward (t ∷ []) (take_more narrow k t more)) s.reads;
      }

module _ {b : List ℕ} {bits pos k prior next : ℕ} {ws : List ℕ} (s : Sofar b bits pos k prior next ws) where
  goes : (j : ℕ) → k ≡ j → take_name narrow (rest b bits pos) ≡ onward (strs ws) (take_more narrow j (str_of prior) (rest b bits next))
  goes j e = s.reads ∙ ap (λ (n : ℕ). onward (strs ws) (take_more narrow n (str_of prior) (rest b bits next))) e

  -- a string more
  stepped : (j w to : ℕ) (more : List ℕ) → k ≡ suc j → more ≡ ws ++ (w ∷ []) → StringRead b bits next (Some (w, to))
      → (ltb prior w && not (begins prior w)) ≡ true → Sofar b bits pos j w to more
  stepped j w to more e f t l =
      let after : less (str_of prior) (str_of w) ≡ true = sym (begins_less 24 (lit≤ tt) prior w s.whole t.whole) ∙ l in
      rw f (record {
        whole = t.whole;
        inside = t.inside;
        words = words_more ws w s.words t.whole;
        reads =
            goes (suc j) e ∙ one_more (strs ws) j (str_of prior) (str_of w) (rest b bits next) (rest b bits to) t.reads after
            ∙ ap (λ (n : Name). onward n (take_more narrow j (str_of w) (rest b bits to))) (sym (strs_more ws w));
      })

  -- a string more, and none there
  stopped : (j : ℕ) → k ≡ suc j → StringRead b bits next None → take_name narrow (rest b bits pos) ≡ none
  stopped j e t = goes (suc j) e ∙ no_more (strs ws) j (str_of prior) (rest b bits next) t.reads

  -- a string more, and not after the last
  fallen : (j w to : ℕ) → k ≡ suc j → StringRead b bits next (Some (w, to)) → (ltb prior w && not (begins prior w)) ≡ false
      → take_name narrow (rest b bits pos) ≡ none
  fallen j w to e t l =
      let not_less : less (str_of prior) (str_of w) ≡ false = sym (begins_less 24 (lit≤ tt) prior w s.whole t.whole) ∙ l in
      goes (suc j) e ∙ not_after (strs ws) j (str_of prior) (str_of w) (rest b bits next) (rest b bits to) t.reads not_less

  -- no string more
  ended : (all : ℕ) (out : List ℕ) → k ≡ 0 → all ≤ 16 → take all out ≡ ws → NameRead b bits pos (Some (all, next)) out
  unfolding take_more
  ended all out e few f =
      record {
        reads = goes 0 e ∙ ap (λ (m : Name). some (m, rest b bits next)) (append-nil (strs ws) ∙ sym (ap strs f));
        words = record { few = few; whole = ap are_words f ∙ s.words };
        inside = s.inside;
      }

refused : (b : List ℕ) (bits pos : ℕ) (ws : List ℕ) → take_name narrow (rest b bits pos) ≡ none → NameRead b bits pos None ws
refused b bits pos ws e = record { reads = e; words = tt; inside = tt }

-- ---- the code

pub returns-in_err-prior : goal.returns-in_err-prior
returns-in_err-prior c =
    let r = c.args.self in
    rw c.from_residual.ensures
    (refused r.bytes.now r.count c.args.pos _
    (no_first r.bytes.now r.count c.args.pos c.word_at.result _ refl (omega arith) (omega arith) c.word_at.ensures c.in_err-prior.ensures))

pub loop-slot-init : goal.loop-slot-init
loop-slot-init c =
    let r = c.args.self in
    started r.bytes.now r.count c.args.pos c.word_at.result _ (omega arith) (omega arith) (omega arith) c.word_at.ensures c.in_ok-prior.prior _ c.in_ok-prior.ensures

pub returns-in_err-word : goal.returns-in_err-word
returns-in_err-word c =
    let r = c.args.self in
    let n = c.word_at.result / 2 ^ 60 + 1 - 1 in
    let all = slots c.args.out.now c.in_ok-prior.prior n (omega arith) in
    rw c.from_residual-in_err-word.ensures
    (refused r.bytes.now r.count c.args.pos _ (stopped c.loop-slot.invariant (n - (c.loop-slot.slot-index + 1)) (omega arith) c.in_err-word.ensures))

pub returns-then-not-precedes : goal.returns-then-not-precedes
returns-then-not-precedes c =
    let r = c.args.self in
    let n = c.word_at.result / 2 ^ 60 + 1 - 1 in
    let all = slots c.args.out.now c.in_ok-prior.prior n (omega arith) in
    refused r.bytes.now r.count c.args.pos _
    (fallen c.loop-slot.invariant (n - (c.loop-slot.slot-index + 1)) c.in_ok-word.word _ (omega arith) c.in_ok-word.ensures
    (sym c.precedes.ensures ∙ c.if-not-precedes.true))

pub loop-slot-preserved : goal.loop-slot-preserved
loop-slot-preserved c =
    let n = c.word_at.result / 2 ^ 60 + 1 - 1 in
    let all = slots c.args.out.now c.in_ok-prior.prior n (omega arith) in
    stepped c.loop-slot.invariant _ c.in_ok-word.word _ _ (omega arith)
    (slot_more c.loop-slot.slot-items c.in_ok-prior.prior c.loop-slot.slot-index c.in_ok-word.word (omega arith)) c.in_ok-word.ensures
    (sym c.precedes.ensures ∙ c.if-not-precedes.false)

pub returns : goal.returns
returns c =
    let n = c.word_at.result / 2 ^ 60 + 1 - 1 in
    let h : n < length c.args.out.now = omega arith in
    let all = slots c.args.out.now c.in_ok-prior.prior n h in
    ended c.loop-slot.invariant _ _ (omega arith) (omega arith)
    (laid c.args.out.now c.in_ok-prior.prior n h c.loop-slot.slot-items c.loop-slot.slot-index _ (omega arith) (omega arith) (omega arith))
