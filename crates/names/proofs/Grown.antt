-- The words of a name with a digit appended to each string: word by word, they are the words of the grown strings, and zeros behind them stay.
-- Assumes nothing.
use Rattle.laws.proofs.Library.{◌≡◌, refl, sym, ap, ap₂, ◌∙◌, Bool, true, false, List, [], ◌∷◌, ◌++◌, map, inl, inr, ℕ, zero, suc, ◌+◌, ◌*◌, ◌-◌, ◌%◌, ◌^◌}
use Rattle.laws.proofs.Library.{◌≤◌, ◌<◌, sub-zero, mod-eq_of_lt, add-one, arith, eqb, length, get_or, take, set, replicate, length-map, take_all, eqb-false}
use Rattle.rules.specs.Limits.{Limits}
use Rattle.rules.specs.Strings.{Str, ◌▹◌, digit, word_of}
use Rattle.rules.specs.Names.{Name, any}
use Rattle.rules.specs.Stamps.{append}
use Rattle.rules.specs.Stored.{words_of, strs_in, is_stored_name}
use Rattle.rules.specs.declared.Words.{Words}
use Rattle.laws.proofs.Tests.{In, any_none}
use Rattle.laws.proofs.Words.{word_length, word_lt, word_grown}
use Rattle.laws.proofs.Shares.{grown_length}
use Rattle.laws.proofs.Fork.{append_length}
use Rattle.laws.proofs.Lawful.{name_parts}
use Rattle.laws.proofs.Stored.{stored_name, stored_name_is}
use Rattle.names.specs.Lent.{longer, grown_in}

-- ---- written one after the other

-- one word more
grown_more : (d k : ℕ) (l out : List ℕ) → k < length l → set (grown_in d (take k l) out) k (longer d (get_or l k 0)) ≡ grown_in d (take (suc k) l) out
unfolding grown_in
grown_more d k [] out h = absurd (omega arith)
grown_more d zero (w ∷ l) [] h = refl
grown_more d (suc k) (w ∷ l) [] h = refl
grown_more d zero (w ∷ l) (x ∷ out) h = refl
grown_more d (suc k) (w ∷ l) (x ∷ out) h = ap (λ (m : List ℕ). longer d w ∷ m) (grown_more d k l out (omega arith))

-- as a loop wants it
pub grown_step : (d k v : ℕ) (l z out : List ℕ) → k < length l → z ≡ grown_in d (take k l) out → v ≡ longer d (get_or l k 0) → set z k v ≡ grown_in d (take (k + 1) l) out
grown_step d k v l z out h e f =
    ap₂ (λ (m : List ℕ) (x : ℕ). set m k x) e f ∙ grown_more d k l out h ∙ ap (λ (j : ℕ). grown_in d (take j l) out) (sym (add-one k))

take_few : (k : ℕ) (l : List ℕ) → length (take k l) ≤ k
take_few zero l = omega arith
take_few (suc k) [] = omega arith
take_few (suc k) (x ∷ l) = omega (arith, take_few k l)

grown_zeros : (d : ℕ) (l : List ℕ) (n : ℕ) → length l ≤ n → grown_in d l (replicate n 0) ≡ map (longer d) l ++ replicate (n - length l) 0
unfolding grown_in
grown_zeros d [] n h = ap (λ (k : ℕ). replicate {A = ℕ} k 0) (sym (sub-zero n))
grown_zeros d (w ∷ l) zero h = absurd (omega arith)
grown_zeros d (w ∷ l) (suc n) h =
    let e : suc n - length (w ∷ l) ≡ n - length l = omega arith in
    ap (λ (m : List ℕ). longer d w ∷ m) (grown_zeros d l n (omega arith) ∙ ap (λ (k : ℕ). map (longer d) l ++ replicate k 0) (sym e))

-- ---- a digit more

longer_word : (s : Str) (d : Bool) → length s < 58 → longer (digit d) (word_of s) ≡ word_of (s ▹ d)
longer_word s d h =
    let e : word_of s + 1 + digit d * 2 ^ (63 - word_of s % 64) ≡ word_of (s ▹ d) =
    ap (λ (n : ℕ). word_of s + 1 + digit d * 2 ^ (63 - n)) (word_length s (omega arith)) ∙ sym (word_grown s d h) in
    ap (λ (n : ℕ). n % 2 ^ 64) e ∙ mod-eq_of_lt (word_lt (s ▹ d) (omega (arith, grown_length s d)))

longer_words : (d : Bool) (n : Name) → ((s : Str) → In s n → length s < 58) → map (longer (digit d)) (map word_of n) ≡ map word_of (append d n)
unfolding append
longer_words d [] f = refl
longer_words d (s ∷ n) f = ap₂ (λ (w : ℕ) (l : List ℕ). w ∷ l) (longer_word s d (f s (inl refl))) (longer_words d n (λ t i. f t (inr i)))

take_front : (n : Name) (z : List ℕ) → take (length n) (map word_of n ++ z) ≡ map word_of n
take_front [] z = refl
take_front (s ∷ n) z = ap (λ (l : List ℕ). word_of s ∷ l) (take_front n z)

-- the counted words of a stored name whose strings leave room for a digit more, grown over zeros
pub grown_name : (L : Limits) → L.digits ≤ 58 → (n : Words) (d : Bool) → is_stored_name L n ≡ true
    → any (λ t. eqb (length t) L.digits) (strs_in n) ≡ false
    → record { count = n.count; words = grown_in (digit d) (take n.count n.words) (replicate L.strings 0) } ≡ words_of L (append d (strs_in n))
unfolding words_of
grown_name L room n d h short =
    let m = strs_in n in
    let parts = name_parts L m (stored_name L n h) in
    let shorter : (s : Str) → In s m → length s < 58 =
    λ s i. omega (arith, room, parts.short s i, eqb-false (length s) L.digits (any_none (λ t. eqb (length t) L.digits) m short s i)) in
    let same : length (append d m) ≡ length m = append_length d m in
    let front : take n.count n.words ≡ map word_of m =
    ap (λ (w : Words). take w.count w.words) (stored_name_is L n h) ∙ take_front m (replicate (L.strings - length m) 0) in
    let count : n.count ≡ length (append d m) = ap (λ (w : Words). w.count) (stored_name_is L n h) ∙ sym same in
    let words : grown_in (digit d) (take n.count n.words) (replicate L.strings 0) ≡ map word_of (append d m) ++ replicate (L.strings - length (append d m)) 0 =
    ap (λ (l : List ℕ). grown_in (digit d) l (replicate L.strings 0)) front
    ∙ grown_zeros (digit d) (map word_of m) L.strings (omega (arith, length-map m word_of, parts.few))
    ∙ ap₂ (λ (l : List ℕ) (k : ℕ). l ++ replicate (L.strings - k) 0) (longer_words d m shorter) (length-map m word_of ∙ sym same) in
    λ i. record { count = count i; words = words i }

-- so what `grow` leaves in zeros is a branch's id
pub grown_branch : (L : Limits) → L.digits ≤ 58 → (n : Words) (d : Bool) (l out : List ℕ) → is_stored_name L n ≡ true
    → any (λ t. eqb (length t) L.digits) (strs_in n) ≡ false → l ≡ take n.count n.words
    → out ≡ grown_in (digit d) (take L.strings l) (replicate L.strings 0) → record { count = n.count; words = out } ≡ words_of L (append d (strs_in n))
unfolding words_of
grown_branch L room n d l out h short counted grown =
    let few : length l ≤ L.strings =
    omega (arith, ap length counted, take_few n.count n.words, ap (λ (w : Words). w.count) (stored_name_is L n h), (name_parts L (strs_in n) (stored_name L n h)).few) in
    ap (λ (w : List ℕ). record { count = n.count; words = w })
    (grown ∙ ap (λ (x : List ℕ). grown_in (digit d) x (replicate L.strings 0)) (take_all L.strings l few ∙ counted))
    ∙ grown_name L room n d h short
