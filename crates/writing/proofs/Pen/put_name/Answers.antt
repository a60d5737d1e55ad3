-- `writing::Pen::put_name` meets its contract: behind the count stand the strings put so far, each behind its length. Assumes nothing.
use Rattle.laws.proofs.Library.{◌≡◌, sym, ap, ◌∙◌, Bool, List, [], ◌∷◌, ◌++◌, map, append_assoc, append-nil, ℕ, zero, suc, ◌+◌, ◌-◌, ◌%◌, ◌≤◌, ◌<◌}
use Rattle.laws.proofs.Library.{add-one, subst, arith, length, get_or, take, length-map, length-append, take_all}
use Rattle.laws.proofs.Library.{ap₂, ◌*◌, ◌/◌, ◌^◌, shr_lt, shr-shr, take-append-add}
use Rattle.std.specs.Int.RustNames.{bit_or}
use Rattle.std.proofs.lemmas.Nat.{or_comm, or_shifted}
use Rattle.rules.specs.Limits.{narrow}
use Rattle.rules.specs.Strings.{field, str_of}
use Rattle.rules.specs.Packed.{string_bits, strings_bits, name_bits}
use Rattle.laws.proofs.Bits.{field_length}
use Rattle.laws.proofs.Words.{field_top, str_length, str_top}
use Rattle.layout.proofs.Values.{field_join}
use Rattle.layout.proofs.Sizes.{string_length, strings_length, name_length}
use Rattle.writing.specs.Cursors.{Put}
use Rattle.writing.proofs.Writing.{fitted, fit_at, put_then, shifted}
use Rattle.writing.proofs.Pen.put_name.Invariants.{strings}
use Rattle.writing.proofs.Pen.put_name.Goals as goal

abbrev string : ℕ → List Bool
string w = string_bits narrow (str_of w)

-- a word turned by five begins with its length and its digits
turned_is : (s : ℕ) → s < 2 ^ 64 → bit_or (s / 2 ^ 5) ((s * 2 ^ 59) % 2 ^ 64) ≡ (s % 2 ^ 5) * 2 ^ 59 + s / 2 ^ 5
turned_is s word =
    ap (bit_or (s / 2 ^ 5)) (shifted s 5 59) ∙ or_comm (s / 2 ^ 5) ((s % 2 ^ 5) * 2 ^ 59) ∙ or_shifted (s % 2 ^ 5) 59 (s / 2 ^ 5) (shr_lt 59 5 word)

turned_bits : (s : ℕ) → s < 2 ^ 64 → s % 64 ≤ 24 → take (s % 64 + 5) (field 64 (bit_or (s / 2 ^ 5) ((s * 2 ^ 59) % 2 ^ 64))) ≡ string s
unfolding string_bits
turned_bits s word short =
    let k = s % 64 in
    let rest = s / 2 ^ 5 in
    let len = field 5 (s % 2 ^ 5) in
    let e : k + 5 ≡ 5 + k = omega arith in
    let f : 59 ≡ k + (59 - k) = omega arith in
    let d : 5 + (59 - k) ≡ 64 - k = omega arith in
    let small : s % 2 ^ 5 ≡ k = omega arith in
    ap₂ (λ (n m : ℕ). take n (field 64 m)) e (turned_is s word)
    ∙ ap (take (5 + k)) (field_join 5 59 (s % 2 ^ 5) rest (shr_lt 59 5 word))
    ∙ ap (λ (n : ℕ). take (n + k) (len ++ field 59 rest)) (sym (field_length 5 (s % 2 ^ 5)))
    ∙ take-append-add len (field 59 rest) k
    ∙ ap₂ (λ (a b : List Bool). a ++ b) (ap (field 5) (small ∙ sym (str_length s)))
    (ap (λ (n : ℕ). take k (field n rest)) f ∙ field_top k (59 - k) rest ∙ ap (field k) (shr-shr s 5 (59 - k) ∙ ap (λ (n : ℕ). s / 2 ^ n) d) ∙ sym (str_top s))

count_bits : (n : ℕ) → 1 ≤ n → n ≤ 16 → take 4 (field 64 (((n - 1) * 2 ^ 60) % 2 ^ 64)) ≡ field 4 (n - 1)
count_bits n some few =
    field_top 4 60 (((n - 1) * 2 ^ 60) % 2 ^ 64) ∙ ap (field 4) (let e : ((n - 1) * 2 ^ 60) % 2 ^ 64 / 2 ^ 60 ≡ n - 1 = omega arith in e)

strings_more : (n : List ℕ) (i : ℕ) → i < length n → strings (take (suc i) n) ≡ strings (take i n) ++ string (get_or n i 0)
unfolding strings_bits
strings_more [] i h = absurd (omega arith)
strings_more (w ∷ n) zero h = append-nil (string w)
strings_more (w ∷ n) (suc i) h =
    ap (λ (s : List Bool). string w ++ s) (strings_more n i (omega arith)) ∙ sym (append_assoc (string w) (strings (take i n)) (string (get_or n i 0)))

strings_within : (n : List ℕ) (i : ℕ) → length (strings (take i n)) ≤ length (strings n)
unfolding strings_bits
strings_within n zero = omega arith
strings_within [] (suc i) = omega arith
strings_within (w ∷ n) (suc i) =
    omega (arith, strings_within n i, strings_length narrow (str_of w) (map str_of (take i n)), strings_length narrow (str_of w) (map str_of n))

-- the string at i is put behind the count and those before it
more : (c : List Bool) (n : List ℕ) (i : ℕ) → i < length n → (c ++ strings (take i n)) ++ string (get_or n i 0) ≡ c ++ strings (take (i + 1) n)
more c n i h =
    append_assoc c (strings (take i n)) (string (get_or n i 0))
    ∙ ap (λ (s : List Bool). c ++ s) (sym (strings_more n i h) ∙ ap (λ (k : ℕ). strings (take k n)) (sym (add-one i)))

counted : (n : List ℕ) → field 4 (length n - 1) ++ strings n ≡ name_bits narrow (map str_of n)
unfolding name_bits
counted n = ap (λ (k : ℕ). field 4 (k - 1) ++ strings n) (sym (length-map n str_of))

pub overflow_sub-n : goal.overflow_sub-n
overflow_sub-n c = (fitted c.args.n.now c.requires.0).nonempty

pub put-requires : goal.put-requires
put-requires c =
    let n = c.args.n.now in (
      omega arith,
      omega arith,
      record { few = c.requires.1.few; bytes = c.requires.1.bytes; room = omega (arith, c.requires.1.room, name_length narrow (map str_of n)) },
    )

pub loop-s-init : goal.loop-s-init
unfolding strings_bits
loop-s-init c =
    let n = c.args.n.now in
    let fit = fitted n c.requires.0 in
    subst (λ (b : List Bool). Put c.args.self.now b c.put.new.self)
    (count_bits (length n) fit.nonempty fit.few ∙ sym (append-nil (field 4 (length n - 1)))) c.put.ensures

pub put-requires-in-loop-s : goal.put-requires-in-loop-s
put-requires-in-loop-s c =
    let n = c.args.n.now in
    let i = c.loop-s.s-index in
    let count = field 4 (length n - 1) in
    let w = get_or n i 0 in
    let so_far = c.loop-s.invariant in (
      omega arith,
      omega (arith, fit_at n i c.loop-s-test.true (fitted n c.requires.0).short),
      record {
        few = so_far.few;
        bytes = so_far.bytes c.requires.1.bytes;
        room = omega (
          arith,
          so_far.moved,
          so_far.long,
          c.requires.1.room,
          length-append count (strings (take i n)),
          field_length 4 (length n - 1),
          ap length (strings_more n i c.loop-s-test.true),
          length-append (strings (take i n)) (string w),
          string_length narrow (str_of w),
          str_length w,
          strings_within n (suc i),
          name_length narrow (map str_of n),
        );
      },
    )

pub loop-s-preserved : goal.loop-s-preserved
loop-s-preserved c =
    let n = c.args.n.now in
    let i = c.loop-s.s-index in
    let count = field 4 (length n - 1) in
    let w = get_or n i 0 in
    let turned : take (w % 64 + 5) (field 64 c.rotate_right.result) ≡ string w =
    ap (λ (v : ℕ). take (w % 64 + 5) (field 64 v)) c.rotate_right.ensures
    ∙ turned_bits w (c.type_inv.n i).fits (fit_at n i c.loop-s-test.true (fitted n c.requires.0).short) in
    subst (λ (b : List Bool). Put c.args.self.now b c.put-in-loop-s.new.self)
    (ap (λ (s : List Bool). (count ++ strings (take i n)) ++ s) turned ∙ more count n i c.loop-s-test.true)
    (put_then (count ++ strings (take i n)) (take (w % 64 + 5) (field 64 c.rotate_right.result)) c.loop-s.invariant c.put-in-loop-s.ensures)

pub returns : goal.returns
returns c =
    let n = c.args.n.now in
    let all : take c.loop-s.s-index n ≡ n = take_all c.loop-s.s-index n (omega arith) in
    subst (λ (b : List Bool). Put c.args.self.now b c.loop-s.self)
    (ap (λ (m : List ℕ). field 4 (length n - 1) ++ strings m) all ∙ counted n) c.loop-s.invariant
