-- Names and stamps go through the packed bits and back: the count says how many strings follow, and each says how long it is.
-- What is read rises as a name does. Assumes nothing.
use Rattle.laws.proofs.Library.{◌≡◌, refl, sym, ap, ap₂, ◌∙◌, subst, subst₂, Bool, true, List, [], ◌∷◌, ◌++◌, append_assoc, ⊎_elim, inr, inl, some, ℕ, zero}
use Rattle.laws.proofs.Library.{suc, ◌-◌, ◌^◌, ◌≤◌, ◌<◌, arith, leb, lit<, lit≤, length}
use Rattle.rules.specs.Limits.{Limits, narrow}
use Rattle.rules.specs.Strings.{Str, field, less}
use Rattle.rules.specs.Names.{Name, all, rising, is_name}
use Rattle.rules.specs.Stamps.{Stamp, lawful}
use Rattle.rules.specs.Packed.{string_bits, strings_bits, name_bits, stamp_bits, then_take, take_more, take_name, take_stamp}
use Rattle.laws.proofs.Rising.{rising_head, rising_tail, rising_cons, rising_before}
use Rattle.laws.proofs.Lawful.{Short, short_all, name_parts, parts_name, lawful_parts}
use Rattle.layout.proofs.Fields.{let_through, same_value, steps, number_back, took_number, string_back, took_string}

-- the fields are wide enough for what the limits allow
pub record Fitting (L : Limits) : Type 0 where
  pub lengths : L.digits < 2 ^ L.length_bits
  pub counts : L.strings ≤ 2 ^ L.count_bits

pub narrow_fits : Fitting narrow
narrow_fits = record { lengths = lit< tt; counts = lit≤ tt }

-- no string is longer than allowed
abbrev pub all_short : Limits → Name → Bool
all_short L n = all (λ s. leb (length s) L.digits) n

-- what makes a list of strings a name
pub record Named (L : Limits) (n : Name) : Type 0 where
  pub nonempty : 1 ≤ length n
  pub few : length n ≤ L.strings
  pub short : all_short L n ≡ true
  pub rises : rising n ≡ true

pub named : (L : Limits) (n : Name) → is_name L n ≡ true → Named L n
named L n h =
    let p = name_parts L n h in
    record { nonempty = p.filled; few = p.few; short = short_all L.digits n p.short; rises = p.rises }

-- both parts of a lawful stamp are names
pub lawful_names : (L : Limits) (s : Stamp) → lawful L s ≡ true → (is_name L s.update ≡ true) × (is_name L s.id ≡ true)
lawful_names L s h = let p = lawful_parts L s h in (parts_name L s.update p.update_named, parts_name L s.id p.id_named)

module _ (L : Limits) where
  -- one more string that is not too long
  short_cons : (s : Str) (n : Name) → length s ≤ L.digits → Short L.digits n → Short L.digits (s ∷ n)
  short_cons s n p h t i = ⊎_elim (λ e. rw e p) (h t) i

  -- ---- the strings after the first

  more_back : L.digits < 2 ^ L.length_bits → (s : Str) (n : Name) (rest : List Bool) → Short L.digits n → rising (s ∷ n) ≡ true
      → take_more L (length n) s (strings_bits L n ++ rest) ≡ some (n, rest)
  unfolding take_more strings_bits
  more_back fits s [] rest short h = refl
  more_back fits s (t ∷ n) rest short h =
      rw (append_assoc (string_bits L t) (strings_bits L n) rest, string_back L t (strings_bits L n ++ rest) (short t (inl refl)) fits)
      (rw (rising_head s (t ∷ n) h t (inl refl), more_back fits t n rest (λ u i. short u (inr i)) (rising_tail s (t ∷ n) h)))

  -- so many strings, each allowed, each after the one before it, were written there
  pub record More (k : ℕ) (s : Str) (bs : List Bool) (n : Name) (rest : List Bool) : Type 0 where
    pub count : length n ≡ k
    pub short : Short L.digits n
    pub rises : rising (s ∷ n) ≡ true
    pub bits : bs ≡ strings_bits L n ++ rest

  took_more : (k : ℕ) (s : Str) (bs : List Bool) (n : Name) (rest : List Bool) → take_more L k s bs ≡ some (n, rest) → More k s bs n rest
  unfolding take_more strings_bits all rising
  took_more zero s bs n rest e =
      let p = same_value [] n bs rest e in
      subst₂ (λ (m : Name) (r : List Bool). More zero s bs m r) p.0 p.1
      (record { count = refl; short = λ t i. absurd i; rises = rising_cons s [] (λ t i. absurd i) refl; bits = refl })
  took_more (suc k) s bs n rest e = steps _ _ (n, rest) e (λ t r first next.
      let c = let_through (less s t) (then_take (take_more L k t r) (λ m end. some (t ∷ m, end))) (n, rest) next in
      steps _ _ (n, rest) c.1 (λ m end more last.
      let p = same_value (t ∷ m) n end rest last in
      let f = took_string L bs t r first in
      let h = took_more k t r m end more in
      subst₂ (λ (x : Name) (y : List Bool). More (suc k) s bs x y) p.0 p.1
      (record {
        count = ap suc h.count;
        short = short_cons t m f.0 h.short;
        rises = rising_before s t m c.0 h.rises;
        bits = f.1 ∙ ap (λ (q : List Bool). string_bits L t ++ q) h.bits ∙ sym (append_assoc (string_bits L t) (strings_bits L m) end);
      })))

  -- ---- a name

  -- the bits of a name and of what follows, field by field
  name_bits_lem : (s : Str) (n : Name) (rest : List Bool)
      → name_bits L (s ∷ n) ++ rest ≡ field L.count_bits (length n) ++ (string_bits L s ++ (strings_bits L n ++ rest))
  unfolding name_bits strings_bits
  name_bits_lem s n rest = let e : suc (length n) - 1 ≡ length n = omega arith in simp (e, append_assoc)

  pub name_back : Fitting L → (n : Name) (rest : List Bool) → is_name L n ≡ true → take_name L (name_bits L n ++ rest) ≡ some (n, rest)
  unfolding take_name
  name_back fit [] rest h = absurd (omega (arith, (name_parts L [] h).filled))
  name_back fit (s ∷ n) rest h =
      let i = name_parts L (s ∷ n) h in
      rw (name_bits_lem s n rest, number_back L.count_bits (length n) (string_bits L s ++ (strings_bits L n ++ rest)) (omega (arith, i.few, fit.counts)))
      (rw (string_back L s (strings_bits L n ++ rest) (i.short s (inl refl)) fit.lengths)
      (rw (more_back fit.lengths s n rest (λ t j. i.short t (inr j)) i.rises)))

  -- a name was found: written there, of as many strings as its count can say
  pub record Found (bs : List Bool) (n : Name) (rest : List Bool) : Type 0 where
    pub nonempty : 1 ≤ length n
    pub few : length n ≤ 2 ^ L.count_bits
    pub short : Short L.digits n
    pub rises : rising n ≡ true
    pub bits : bs ≡ name_bits L n ++ rest

  pub took_name : (bs : List Bool) (n : Name) (rest : List Bool) → take_name L bs ≡ some (n, rest) → Found bs n rest
  unfolding take_name
  took_name bs n rest e =
      steps _ _ (n, rest) e (λ k r first next.
      steps _ _ (n, rest) next (λ s q second more.
      steps _ _ (n, rest) more (λ m end third last.
      let p = same_value (s ∷ m) n end rest last in
      let c = took_number L.count_bits bs k r first in
      let f = took_string L r s q second in
      let h = took_more k s q m end third in
      subst₂ (λ (x : Name) (y : List Bool). Found bs x y) p.0 p.1
      (record {
        nonempty = omega arith;
        few = omega (arith, c.0, h.count);
        short = short_cons s m f.0 h.short;
        rises = h.rises;
        bits =
            c.1 ∙ ap₂ (λ (j : ℕ) (z : List Bool). field L.count_bits j ++ z) (sym h.count) (f.1 ∙ ap (λ (z : List Bool). string_bits L s ++ z) h.bits)
            ∙ sym (name_bits_lem s m end);
      }))))

  -- ---- a stamp

  pub stamp_back : Fitting L → (s : Stamp) (rest : List Bool) → is_name L s.update ≡ true → is_name L s.id ≡ true
      → take_stamp L (stamp_bits L s ++ rest) ≡ some (s, rest)
  unfolding take_stamp stamp_bits
  stamp_back fit s rest u i =
      rw (append_assoc (name_bits L s.update) (name_bits L s.id) rest, name_back fit s.update (name_bits L s.id ++ rest) u)
      (rw (name_back fit s.id rest i))

  pub took_stamp : (bs : List Bool) (s : Stamp) (rest : List Bool) → take_stamp L bs ≡ some (s, rest) → bs ≡ stamp_bits L s ++ rest
  unfolding take_stamp stamp_bits
  took_stamp bs s rest e =
      steps _ _ (s, rest) e (λ u r first next.
      steps _ _ (s, rest) next (λ i end second last.
      let p = same_value (record { update = u; id = i }) s end rest last in
      (took_name bs u r first).bits ∙ ap (λ (z : List Bool). name_bits L u ++ z) (took_name r i end second).bits
      ∙ sym (append_assoc (name_bits L u) (name_bits L i) end)
      ∙ ap₂ (λ (t : Stamp) (z : List Bool). name_bits L t.update ++ name_bits L t.id ++ z) p.0 p.1))

  -- where the count can say no more than is allowed, what is read are names
  pub took_names : 2 ^ L.count_bits ≤ L.strings → (bs : List Bool) (s : Stamp) (rest : List Bool) → take_stamp L bs ≡ some (s, rest)
      → (is_name L s.update ≡ true) × (is_name L s.id ≡ true)
  unfolding take_stamp
  took_names exact bs s rest e =
      steps _ _ (s, rest) e (λ u r first next.
      steps _ _ (s, rest) next (λ i end second last.
      let p = same_value (record { update = u; id = i }) s end rest last in
      subst (λ (t : Stamp). (is_name L t.update ≡ true) × (is_name L t.id ≡ true)) p.0 (by u (took_name bs u r first), by i (took_name r i end second))))
    where
      by : {bs rest : List Bool} (n : Name) → Found bs n rest → is_name L n ≡ true
      by n f = parts_name L n (record { filled = f.nonempty; few = omega (arith, f.few); short = f.short; rises = f.rises })
