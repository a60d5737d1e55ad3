-- What the loop of `unite` comes to from a turn on: a turn leaves it as it was, and at the end what is left of one of the two follows. Assumes nothing.
use Rattle.laws.proofs.Library.{◌≡◌, sym, ap, ap₂, ◌∙◌, Bool, true, false, cond, List, [], ◌∷◌, ◌++◌, ◌⊎◌, inl, inr, ℕ, suc, ◌+◌, ◌-◌, ◌≤◌, ◌<◌, zero-add, add-one}
use Rattle.laws.proofs.Library.{arith, append_assoc, eqb, eqb·suc-zero, drop-drop, lt-ltb, le-ltb, length, take, drop, get_or, set, sets, sets-eq, take-length, length-drop}
use borrow.Rule.Slice.PartMut.{put_mid}
use Rattle.rules.specs.Packed.{over}
use Rattle.laws.proofs.Tests.{clash}
use Rattle.strings.specs.Words.{begins}
use Rattle.unions.specs.Unions.{merge_from, merge}
use Rattle.unions.proofs.Counts.{merge_few}
use Rattle.unions.proofs.Stores.{sets_front}

-- with k words in the buffer, and m and n to come
unfoldable pub merges : List ℕ → List ℕ → List ℕ → ℕ → ℕ × List ℕ
merges m n out k = (k + length (merge m n), sets out k (merge m n))

-- the words behind the first
abbrev pub behind_first : List ℕ → List ℕ
behind_first l = take (length l - 1) (drop 1 l)

pub behind_is : (x : ℕ) (l : List ℕ) → behind_first (x ∷ l) ≡ l
behind_is x l = let e : suc (length l) - 1 ≡ length l = omega arith in rw e (take-length l)

-- behind a word of what is left of o, what is left then
left_behind : (x : ℕ) (l o : List ℕ) → x ∷ l ≡ drop (length o - suc (length l)) o → l ≡ drop (length o - length l) o
left_behind x l o h =
    let i = length o - suc (length l) in
    ap (drop 1) h ∙ drop-drop 1 i o ∙ ap (λ (j : ℕ). drop j o) (omega (arith, ap length h, length-drop i o))

-- and taken from o by how many it has, it is as it was
pub left_is : (o l : List ℕ) → l ≡ drop (length o - length l) o → take (length o - (length o - length l)) (drop (length o - length l) o) ≡ l
left_is o l h =
    let i = length o - length l in
    ap (λ (k : ℕ). take k (drop i o)) (sym (length-drop i o)) ∙ take-length (drop i o) ∙ sym h

-- low, the lower of the first words of m and n, is taken from its name, high is the other, and m' and n' are to come
pub record Turn (m n m' n' : List ℕ) (low high : ℕ) : Type 0 where
  pub next : merge m n ≡ cond (begins low high) (merge m' n') (low ∷ merge m' n')
  pub fewer : length m' + length n' + 1 ≡ length m + length n

-- the same, and where m and n are the ends of two names, so are m' and n'
pub record EndsTurn (m n m' n' : List ℕ) (low high : ℕ) : Type 0 where
  pub turn : Turn m n m' n' low high
  pub ours_left : (o : List ℕ) → m ≡ drop (length o - length m) o → m' ≡ drop (length o - length m') o
  pub theirs_left : (o : List ℕ) → n ≡ drop (length o - length n) o → n' ≡ drop (length o - length n') o

pub turn : (m n m' n' : List ℕ) (p : ℕ × ℕ) → 1 ≤ length m → 1 ≤ length n
    → ((get_or m 0 0 < get_or n 0 0) × (m' ≡ behind_first m) × (n' ≡ n) × (p ≡ (get_or m 0 0, get_or n 0 0)))
    ⊎ ((get_or n 0 0 ≤ get_or m 0 0) × (m' ≡ m) × (n' ≡ behind_first n) × (p ≡ (get_or n 0 0, get_or m 0 0)))
    → Turn m n m' n' p.0 p.1
unfolding merge merge_from
turn [] n m' n' p a b h = absurd (omega arith)
turn (s ∷ m) [] m' n' p a b h = absurd (omega arith)
turn (s ∷ m) (t ∷ n) m' n' p a b (inl (l, e, f, g)) = rw (g, f, e, behind_is) (record { next = simp (lt-ltb s t l); fewer = omega arith })
turn (s ∷ m) (t ∷ n) m' n' p a b (inr (l, e, f, g)) = rw (g, f, e, behind_is) (record { next = simp (le-ltb s t l); fewer = omega arith })

pub ends_turn : (m n m' n' : List ℕ) (p : ℕ × ℕ) → 1 ≤ length m → 1 ≤ length n
    → ((get_or m 0 0 < get_or n 0 0) × (m' ≡ behind_first m) × (n' ≡ n) × (p ≡ (get_or m 0 0, get_or n 0 0)))
    ⊎ ((get_or n 0 0 ≤ get_or m 0 0) × (m' ≡ m) × (n' ≡ behind_first n) × (p ≡ (get_or n 0 0, get_or m 0 0)))
    → EndsTurn m n m' n' p.0 p.1
ends_turn [] n m' n' p a b h = absurd (omega arith)
ends_turn (s ∷ m) [] m' n' p a b h = absurd (omega arith)
ends_turn (s ∷ m) (t ∷ n) m' n' p a b (inl (l, e, f, g)) =
    let u : Turn (s ∷ m) (t ∷ n) m' n' p.0 p.1 = turn (s ∷ m) (t ∷ n) m' n' p a b (inl (l, e, f, g)) in
    record { turn = u; ours_left = rw (e, behind_is) (left_behind s m); theirs_left = rw f (λ o h. h) }
ends_turn (s ∷ m) (t ∷ n) m' n' p a b (inr (l, e, f, g)) =
    let u : Turn (s ∷ m) (t ∷ n) m' n' p.0 p.1 = turn (s ∷ m) (t ∷ n) m' n' p a b (inr (l, e, f, g)) in
    record { turn = u; ours_left = rw e (λ o h. h); theirs_left = rw (f, behind_is) (left_behind t n) }

module _ (k : ℕ) (out : List ℕ) where
  module _ {m n m' n' : List ℕ} {low high : ℕ} (u : Turn m n m' n' low high) where
    pub kept : begins low high ≡ false → merges m' n' (set out k low) (k + 1) ≡ merges m n out k
    unfolding merges
    kept e = rw (u.next, e) (ap₂ (λ (x : ℕ) (y : List ℕ). (x, y)) (omega arith) (rw add-one))

    pub lost : begins low high ≡ true → merges m' n' out k ≡ merges m n out k
    unfolding merges
    lost e = rw (u.next, e)

  -- one of the two has no word left: what is left of the other follows
  pub merges_rest : (ours theirs rest : List ℕ) → (length ours < 1) ⊎ (length theirs < 1) → (e : Bool) → e ≡ eqb (length ours) 0
      → ((e ≡ true) × (rest ≡ theirs)) ⊎ ((e ≡ false) × (rest ≡ ours)) → merges ours theirs out k ≡ (k + length rest, sets out k rest)
  unfolding merges merge merge_from
  merges_rest [] theirs rest h e q (inl r) = rw (r.1)
  merges_rest [] theirs rest h e q (inr r) = absurd (clash q r.0)
  merges_rest (s ∷ m) theirs rest h e q (inl r) = absurd (clash r.0 (q ∙ eqb·suc-zero (length m)))
  merges_rest (s ∷ m) [] rest h e q (inr r) = rw (r.1)
  merges_rest (s ∷ m) (t ∷ n) rest (inl h) e q (inr r) = absurd (omega arith)
  merges_rest (s ∷ m) (t ∷ n) rest (inr h) e q (inr r) = absurd (omega arith)

-- and is written behind what is written
pub merges_all : (m n out start rest f : List ℕ) (k : ℕ) → length m + length n ≤ length start → k + length rest ≤ length out
    → (k + length rest, sets out k rest) ≡ merges m n start 0 → f ≡ rest
    → (k + length rest ≡ length (merge m n)) × (put_mid k (k + length rest - k) out f ≡ over (merge m n) start)
unfolding merges
merges_all m n out start rest f k h room e g =
    let p = ap (λ (r : ℕ × List ℕ). r.0) e in
    let q = ap (λ (r : ℕ × List ℕ). r.1) e in
    let d : k + length rest - k ≡ length rest = omega arith in
    let put : put_mid k (k + length rest - k) out f ≡ sets out k rest =
    rw (g, d) (ap (λ (l : List ℕ). take k out ++ (rest ++ l)) (drop-drop (length rest) k out)
    ∙ sym (append_assoc (take k out) rest (drop (k + length rest) out)) ∙ sym (sets-eq rest out k room)) in
    (p ∙ zero-add (length (merge m n)), put ∙ q ∙ sets_front (merge m n) start (omega (arith, merge_few m n)))
