-- What the proofs of the writers cite: words that fit, what a size tells, bits behind bits in a word, and bytes behind bytes. Assumes nothing.
use Rattle.laws.proofs.Library.{◌≡◌, refl, sym, ap, ap₂, ◌∙◌, subst, Bool, true, false, cond, ◌&&◌, List, [], ◌∷◌, ◌++◌, map, append_assoc, ℕ}
use Rattle.laws.proofs.Library.{◌+◌, ◌*◌, ◌-◌, ◌%◌, ◌^◌, ◌≤◌, ◌<◌, add-zero, mod-lt, arith, le-leb, leb-true, leb, pow_pos, shl-shr, mod-pow-add}
use Rattle.laws.proofs.Library.{zero, suc, ◌/◌, ltb, lt-ltb, pow-suc, pow-add, suc-mul, mod-mod-pow, low, length, get_or, take, drop, length-map, length-append, drop-drop}
use Rattle.std.specs.Prelude.{Option}
use Rattle.std.specs.Option.{ok_or}
use Rattle.std.specs.declared.option.Option.TheVariants.{None, Some}
use Rattle.laws.proofs.Library.{Result, Ok, Err}
use Rattle.rules.specs.declared.Refusal.{Refusal}
use Rattle.rules.specs.declared.Refusal.TheVariants.{Unlawful}
use Rattle.std.specs.Int.{byte_at, bytes_high_first}
use Rattle.rules.specs.Limits.{Limits, narrow}
use Rattle.rules.specs.Strings.{field, str_of}
use Rattle.rules.specs.Names.{all, is_name}
use Rattle.rules.specs.Stamps.{lawful}
use Rattle.rules.specs.Stored.{stored, strs_in, held, same_record, is_stored, unlawful}
use Rattle.rules.specs.Packed.{name_bits, bits_of, Wrote, WroteTwo, written_stamp}
use Rattle.rules.specs.declared.Record.{Record}
use Rattle.laws.proofs.Tests.{and_left, and_right, and_both}
use Rattle.laws.proofs.Words.{field_low, field_split, str_length}
use Rattle.layout.proofs.Bytes.{are_bytes}
use Rattle.layout.proofs.Names.{all_short, named, lawful_names}
use Rattle.layout.specs.Words.{stamp_of}
use Rattle.writing.specs.Cursors.{written, Put}
use Rattle.writing.specs.declared.Pen.{Pen}
use Rattle.writing.specs.Fits.{all_fit, fits_name, fits, written_names}
use Rattle.layout.proofs.Sizes.{name_length, strings_most}
use Rattle.layout.proofs.Values.{join_lt, field_join}

-- ---- words that fit

fit_short : (L : Limits) (n : List ℕ) → all_fit L n ≡ all_short L (map str_of n)
unfolding all_fit all
fit_short L [] = refl
fit_short L (w ∷ n) = ap₂ (λ (a b : Bool). a && b) (ap (λ (k : ℕ). leb k L.digits) (sym (str_length w))) (fit_short L n)

name_fits : (L : Limits) (n : List ℕ) → is_name L (map str_of n) ≡ true → fits_name L n ≡ true
unfolding fits_name
name_fits L n h =
    let i = named L (map str_of n) h in
    and_both (le-leb 1 (length n) (omega (arith, i.nonempty, length-map n str_of)))
    (and_both (le-leb (length n) L.strings (omega (arith, i.few, length-map n str_of))) (fit_short L n ∙ i.short))

-- the words of a lawful stamp fit
pub lawful_fits : (L : Limits) (u i : List ℕ) → lawful L (stamp_of u i) ≡ true → fits L u i ≡ true
unfolding fits
lawful_fits L u i h =
    let names = lawful_names L (stamp_of u i) h in
    and_both (name_fits L u names.0) (name_fits L i names.1)

-- those of a stored shape too
pub stored_fits : (r : Record) → is_stored narrow r ≡ true
    → fits narrow (take r.update.count r.update.words) (take r.id.count r.id.words) ≡ true
unfolding is_stored held strs_in
stored_fits r h = lawful_fits narrow _ _ (and_left (lawful narrow (held r)) (same_record r (stored narrow (held r))) h)

-- what is written of a stored record is what is written of its words
pub written_is : (r : Record) (l : List ℕ) → is_stored narrow r ≡ true
    → written_stamp narrow r l ≡ written_names narrow (take r.update.count r.update.words) (take r.id.count r.id.words) l
unfolding written_stamp written_names unlawful held strs_in
written_is r l h = rw (h, stored_fits r h)

-- what makes words fit
pub record Fitted (n : List ℕ) : Type 0 where
  pub nonempty : 1 ≤ length n
  pub few : length n ≤ 16
  pub short : all_fit narrow n ≡ true

pub fitted : (n : List ℕ) → fits_name narrow n ≡ true → Fitted n
unfolding fits_name
fitted n h =
    let a = leb 1 (length n) in
    let b = leb (length n) 16 in
    let c = all_fit narrow n in
    let bc : (b && c) ≡ true = and_right a (b && c) h in
    record {
      nonempty = leb-true 1 (length n) (and_left a (b && c) h);
      few = leb-true (length n) 16 (and_left b c bc);
      short = and_right b c bc;
    }

pub both_fit : (u i : List ℕ) → fits narrow u i ≡ true → (fits_name narrow u ≡ true) × (fits_name narrow i ≡ true)
unfolding fits
both_fit u i h = (and_left (fits_name narrow u) (fits_name narrow i) h, and_right (fits_name narrow u) (fits_name narrow i) h)

-- and each of them does
pub fit_at : (n : List ℕ) (i : ℕ) → i < length n → all_fit narrow n ≡ true → get_or n i 0 % 64 ≤ 24
unfolding all_fit all
fit_at [] i h f = absurd (omega arith)
fit_at (w ∷ n) zero h f = leb-true (w % 64) 24 (and_left (leb (w % 64) 24) (all_fit narrow n) f)
fit_at (w ∷ n) (suc i) h f = fit_at n i (omega arith) (and_right (leb (w % 64) 24) (all_fit narrow n) f)

-- ---- what a size tells

pub when_none : (b : Bool) (v : ℕ) → None ≡ cond b (Some v) None → b ≡ false
when_none true v e = absurd cc
when_none false v e = refl

pub when_some : (b : Bool) (x v : ℕ) → Some x ≡ cond b (Some v) None → (b ≡ true) × (x ≡ v)
when_some true x v e = (refl, cc)
when_some false x v e = absurd cc

module _ (b : Bool) (v : ℕ) (o : Option ℕ) (is : o ≡ cond b (Some v) None) where
  pub refused : (r : Refusal) → Err r ≡ ok_or o Unlawful → (b ≡ false) × (r ≡ Unlawful)
  refused r e = by b refl where
    by : (c : Bool) → b ≡ c → (b ≡ false) × (r ≡ Unlawful)
    by true f = let z : ◌≡◌ {A = Result ℕ Refusal} (Err r) (Ok v) = e ∙ ap (λ (p : Option ℕ). ok_or p Unlawful) (rw f at is) in absurd cc
    by false f =
        let z : ◌≡◌ {A = Result ℕ Refusal} (Err r) (Err Unlawful) = e ∙ ap (λ (p : Option ℕ). ok_or p Unlawful) (rw f at is) in
        (f, cc)

  pub sized : (x : ℕ) → Ok x ≡ ok_or o Unlawful → (b ≡ true) × (x ≡ v)
  sized x e = by b refl where
    by : (c : Bool) → b ≡ c → (b ≡ true) × (x ≡ v)
    by true f = let z : ◌≡◌ {A = Result ℕ Refusal} (Ok x) (Ok v) = e ∙ ap (λ (p : Option ℕ). ok_or p Unlawful) (rw f at is) in (f, cc)
    by false f = let z : ◌≡◌ {A = Result ℕ Refusal} (Ok x) (Err Unlawful) = e ∙ ap (λ (p : Option ℕ). ok_or p Unlawful) (rw f at is) in absurd cc

-- sixteen strings of five and twenty-four bits behind a count of four
pub fitted_most : (n : List ℕ) → Fitted n → length (name_bits narrow (map str_of n)) ≤ 468
fitted_most n f =
    let s = map str_of n in
    omega (arith, name_length narrow s, strings_most narrow s (sym (fit_short narrow n) ∙ f.short), f.few, length-map n str_of)

-- ---- bits behind bits in a word

-- a shift by k leaves the j lowest bits of a word of j + k, moved up
pub shifted : (a j k : ℕ) → (a * 2 ^ k) % 2 ^ (j + k) ≡ (a % 2 ^ j) * 2 ^ k
shifted a j k =
    mod-pow-add (a * 2 ^ k) j k
    ∙ ap₂ (λ (x y : ℕ). (x % 2 ^ j) * 2 ^ k + y) (shl-shr a k) (ap (λ (x : ℕ). x % 2 ^ k) (sym (add-zero (a * 2 ^ k))) ∙ low a k {lo = 0} (pow_pos k))
    ∙ add-zero _

-- so that a number of k bits behind them fits
pub push_lt : (a j k v : ℕ) → j + k ≡ 64 → v < 2 ^ k → (a * 2 ^ k) % 2 ^ 64 + v < 2 ^ 64
push_lt a j k v e l =
    subst (λ (n : ℕ). (a * 2 ^ k) % 2 ^ n + v < 2 ^ n) e (rw (shifted a j k) (join_lt (a % 2 ^ j) j k v (mod-lt a (pow_pos j)) l))

-- and the bits of v stand behind those of a that are held
pub push_bits : (a h j k v : ℕ) → h ≤ j → j + k ≡ 64 → v < 2 ^ k → field (h + k) ((a * 2 ^ k) % 2 ^ 64 + v) ≡ field h a ++ field k v
push_bits a h j k v m e l =
    ap (λ (n : ℕ). field (h + k) ((a * 2 ^ k) % 2 ^ n + v)) (sym e) ∙ ap (λ (x : ℕ). field (h + k) (x + v)) (shifted a j k)
    ∙ field_join h k (a % 2 ^ j) v l
    ∙ ap (λ (s : List Bool). s ++ field k v)
    (sym (field_low h (a % 2 ^ j)) ∙ ap (λ (n : ℕ). field h (a % 2 ^ n % 2 ^ h)) (let d : j ≡ (j - h) + h = omega arith in d)
    ∙ ap (field h) (mod-mod-pow a (j - h) h) ∙ field_low h a)

-- ---- bytes behind bytes

pub bits_append : (a b : List ℕ) → bits_of (a ++ b) ≡ bits_of a ++ bits_of b
unfolding bits_of
bits_append [] b = refl
bits_append (x ∷ a) b = ap (λ (s : List Bool). field 8 x ++ s) (bits_append a b) ∙ sym (append_assoc (field 8 x) (bits_of a) (bits_of b))

pow_bytes : (k : ℕ) → 256 ^ k ≡ 2 ^ (k * 8)
pow_bytes zero = refl
pow_bytes (suc k) = omega (arith, pow-suc 256 k, pow_bytes k, pow-add 2 8 (k * 8), ap (λ (n : ℕ). 2 ^ n) (let e : suc k * 8 ≡ 8 + k * 8 = omega (arith, suc-mul k 8) in e))

shr-zero : (n : ℕ) → n / 2 ^ 0 ≡ n
shr-zero n = omega arith

byte_field : (k n : ℕ) → field 8 (byte_at k n) ≡ field 8 (n / 2 ^ (k * 8))
byte_field zero n = field_low 8 n ∙ ap (field 8) (sym (shr-zero n))
byte_field (suc k) n = field_low 8 (n / 256 ^ suc k) ∙ ap (λ (m : ℕ). field 8 (n / m)) (pow_bytes (suc k))

-- the bytes of a number, the highest first, have its bits
pub bytes_bits : (k n : ℕ) → bits_of (bytes_high_first k n) ≡ field (k * 8) n
unfolding bits_of field
bytes_bits zero n = refl
bytes_bits (suc k) n =
    ap₂ (λ (s t : List Bool). s ++ t) (byte_field k n) (bytes_bits k n) ∙ sym (field_split 8 (k * 8) n)
    ∙ ap (λ (w : ℕ). field w n) (let e : 8 + k * 8 ≡ suc k * 8 = omega (arith, suc-mul k 8) in e)

pub bytes_append : (a b : List ℕ) → are_bytes a ≡ true → are_bytes b ≡ true → are_bytes (a ++ b) ≡ true
unfolding all
bytes_append [] b h k = k
bytes_append (x ∷ a) b h k = and_both (and_left (ltb x 256) (are_bytes a) h) (bytes_append a b (and_right (ltb x 256) (are_bytes a) h) k)

byte_lt : (k n : ℕ) → byte_at k n < 256
byte_lt zero n = omega arith
byte_lt (suc k) n = omega arith

pub high_are_bytes : (k n : ℕ) → are_bytes (bytes_high_first k n) ≡ true
unfolding all
high_are_bytes zero n = refl
high_are_bytes (suc k) n = and_both (lt-ltb (byte_at k n) 256 (byte_lt k n)) (high_are_bytes k n)

-- where two lists agree they agree further on
pub drop_on : (i j : ℕ) (l m : List ℕ) → i ≤ j → drop i l ≡ drop i m → drop j l ≡ drop j m
drop_on i j l m h e =
    let on : i + (j - i) ≡ j = omega arith in
    ap (λ (k : ℕ). drop k l) (sym on) ∙ sym (drop-drop (j - i) i l) ∙ ap (drop (j - i)) e ∙ drop-drop (j - i) i m ∙ ap (λ (k : ℕ). drop k m) on

-- what is put behind what was put
pub put_then : {p q r : Pen} (a b : List Bool) → Put p a q → Put q b r → Put p (a ++ b) r
put_then {p} {q} {r} a b s t =
    record {
      bits = t.bits ∙ ap (λ (x : List Bool). x ++ b) s.bits ∙ append_assoc (written p) a b;
      kept = t.kept ∙ drop_on q.at r.at q.out.now p.out.now t.on s.kept;
      long = t.long ∙ s.long;
      few = t.few;
      bytes = λ h. t.bytes (s.bytes h);
      on = omega (arith, s.on, t.on);
      moved = omega (arith, s.moved, t.moved, length-append a b);
      same = t.same ∙ s.same;
    }

-- ---- what was written

-- the answer and what the buffer holds
pub both : (w v : Wrote) → v ≡ w → (w.answer ≡ v.answer) × (w.out ≡ v.out)
both w v e = (ap (λ (x : Wrote). x.answer) (sym e), ap (λ (x : Wrote). x.out) (sym e))

-- the answer and what both buffers hold
pub two : (w v : WroteTwo) → v ≡ w → (w.answer ≡ v.answer) × (w.zero ≡ v.zero) × (w.one ≡ v.one)
two w v e = (ap (λ (x : WroteTwo). x.answer) (sym e), ap (λ (x : WroteTwo). x.zero) (sym e), ap (λ (x : WroteTwo). x.one) (sym e))
