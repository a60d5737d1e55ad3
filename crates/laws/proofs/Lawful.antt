-- Lawful stamps stay lawful: the first one is, and update, fork and join make them of lawful ones, where the limits do not refuse.
-- Since u is below i, the limits are asked of i alone: u has no more strings than i, and none longer. Assumes nothing.
use Rattle.laws.proofs.Library.{◌≡◌, refl, ap, Bool, true, false, ◌&&◌, [], ◌∷◌, inl, ⊎_elim, Option, none, some, ℕ, ◌≤◌, le_trans, arith, leb, length}
use Rattle.laws.proofs.Library.{leb-true, le-leb, ltb-false}
use Rattle.rules.specs.Limits.{Limits}
use Rattle.rules.specs.Strings.{Str, same}
use Rattle.rules.specs.Names.{Name, any, all, member, rising, is_name, below, union}
use Rattle.rules.specs.Stamps.{Stamp, pair_among, pair, is_none, lawful, start, update, append, fork, settled, reduce, unite, join, compare}
use Rattle.rules.specs.Refusals.{long, many}
use Rattle.rules.specs.declared.Verdict.TheVariants.{Equal}
use Rattle.laws.proofs.Tests.{no, and_left, and_right, and_both, In, in_append, in_filled, all_each, each_all}
use Rattle.laws.proofs.Prefix.{prefix_length}
use Rattle.laws.proofs.Below.{covered_some, below_each, below_refl}
use Rattle.laws.proofs.Union.{union_top, union_rising, below_union_left, union_mono}
use Rattle.laws.proofs.Steps.{Proper, settle_nonempty}
use Rattle.laws.proofs.Reduce.{reduce_keeps, reduce_proper, reduce_normal}
use Rattle.laws.proofs.Shares.{settle_short}
use Rattle.laws.proofs.Counts.{count_below}
use Rattle.laws.proofs.Fork.{append_length, append_rising, below_append, append_no_pair, append_short}

-- ---- what the tests say

four : (a b c d : Bool) → (a && b && c && d) ≡ true → (a ≡ true) × (b ≡ true) × (c ≡ true) × (d ≡ true)
four a b c d e =
    let f = and_left (a && b && c) d e in
    let g = and_left (a && b) c f in
    (and_left a b g, and_right a b g, and_right (a && b) c f, and_right (a && b && c) d e)

-- each string of n has at most so many digits
abbrev pub Short : ℕ → Name → Type 0
Short most n = (s : Str) → In s n → length s ≤ most

pub short_all : (most : ℕ) (n : Name) → Short most n → all (λ s. leb (length s) most) n ≡ true
short_all most n f = each_all (λ s. leb (length s) most) n (λ s i. le-leb (length s) most (f s i))

pub all_short_lem : (most : ℕ) (n : Name) → all (λ s. leb (length s) most) n ≡ true → Short most n
all_short_lem most n e s i = leb-true (length s) most (all_each (λ t. leb (length t) most) n e s i)

-- "A name is a set of 1 to 16 strings, none a prefix of another", each of 0 to 24 digits
pub record Named (L : Limits) (n : Name) : Type 0 where
  pub filled : 1 ≤ length n
  pub few : length n ≤ L.strings
  pub short : Short L.digits n
  pub rises : rising n ≡ true

pub name_parts : (L : Limits) (n : Name) → is_name L n ≡ true → Named L n
unfolding is_name
name_parts L n e =
    let f = four (leb 1 (length n)) (leb (length n) L.strings) (all (λ s. leb (length s) L.digits) n) (rising n) e in
    record {
      filled = leb-true 1 (length n) f.0;
      few = leb-true (length n) L.strings f.1;
      short = all_short_lem L.digits n f.2;
      rises = f.3;
    }

pub parts_name : (L : Limits) (n : Name) → Named L n → is_name L n ≡ true
unfolding is_name
parts_name L n p =
    and_both (and_both (and_both (le-leb 1 (length n) p.filled) (le-leb (length n) L.strings p.few)) (short_all L.digits n p.short)) p.rises

is_none_lem : {A : Type 0} (o : Option A) → is_none o ≡ true → o ≡ none
is_none_lem none e = refl
is_none_lem (some a) e = absurd (no e)

-- "both are names, u is below i, and i holds no two strings that differ in the last digit only"
pub record Lawful (L : Limits) (x : Stamp) : Type 0 where
  pub update_named : Named L x.update
  pub id_named : Named L x.id
  pub below_id : below x.update x.id ≡ true
  pub normal : pair x.id ≡ none

module _ (L : Limits) (x : Stamp) where
  pub lawful_parts : lawful L x ≡ true → Lawful L x
  unfolding lawful
  lawful_parts e =
      let f = four (is_name L x.update) (is_name L x.id) (below x.update x.id) (is_none (pair x.id)) e in
      record {
        update_named = name_parts L x.update f.0;
        id_named = name_parts L x.id f.1;
        below_id = f.2;
        normal = is_none_lem (pair x.id) f.3;
      }

  pub parts_lawful : Lawful L x → lawful L x ≡ true
  unfolding lawful
  parts_lawful p =
      and_both (and_both (and_both (parts_name L x.update p.update_named) (parts_name L x.id p.id_named)) p.below_id) (ap is_none p.normal)

  pub lawful_proper : lawful L x ≡ true → Proper x
  lawful_proper e = let p = lawful_parts e in record { update_rising = p.update_named.rises; id_rising = p.id_named.rises; below_id = p.below_id }

  -- "u never has more strings than i"
  pub lawful_counts : lawful L x ≡ true → length x.update ≤ length x.id
  lawful_counts e = let p = lawful_proper e in count_below x.update x.id p.update_rising p.below_id

-- ---- what u below i spares

-- what is above a name that has strings has some
filled_below : (m n : Name) → below m n ≡ true → 1 ≤ length m → 1 ≤ length n
filled_below [] n b h = absurd (omega arith)
filled_below (s ∷ m) n b h = let c = covered_some s n (below_each (s ∷ m) n b s (inl refl)) in in_filled c.one n c.inside

-- what is below a name of short strings has none longer
short_below : (most : ℕ) (m n : Name) → below m n ≡ true → Short most n → Short most m
short_below most m n b f s i =
    let c = covered_some s n (below_each m n b s i) in
    le_trans (prefix_length s c.one c.passes) (f c.one c.inside)

-- lawful by what is asked of i, and a string in u
pub lawful_made : (L : Limits) (x : Stamp) → Proper x → 1 ≤ length x.update → length x.id ≤ L.strings → Short L.digits x.id
    → pair x.id ≡ none → lawful L x ≡ true
lawful_made L x p h k f e =
    let b = p.below_id in
    parts_lawful L x
    record {
      update_named = record {
        filled = h;
        few = le_trans (count_below x.update x.id p.update_rising b) k;
        short = short_below L.digits x.update x.id b f;
        rises = p.update_rising;
      };
      id_named = record { filled = filled_below x.update x.id b h; few = k; short = f; rises = p.id_rising };
      below_id = b;
      normal = e;
    }

-- "equal if each u is below the other"
pub compare_self : (x : Stamp) → compare x x ≡ Equal
unfolding compare
compare_self x = simp (below_refl x.update)

-- ---- the operations

pub lawful_start : (L : Limits) → 1 ≤ L.strings → lawful L start ≡ true
unfolding rising all pair pair_among member any same
lawful_start L h =
    lawful_made L start record { update_rising = refl; id_rising = refl; below_id = below_refl ([] ∷ []) } (omega arith) h
    (λ s i. ⊎_elim (λ e. omega (arith, ap length e)) (λ k. absurd k) i) refl

pub lawful_update : (L : Limits) (x : Stamp) → lawful L x ≡ true → lawful L (update x) ≡ true
unfolding update
lawful_update L x e =
    let p = lawful_parts L x e in
    parts_lawful L (update x) record { update_named = p.id_named; id_named = p.id_named; below_id = below_refl x.id; normal = p.normal }

pub fork_proper : (d : Bool) (x : Stamp) → Proper x → Proper (fork d x)
unfolding fork
fork_proper d x p =
    record { update_rising = p.update_rising; id_rising = append_rising d x.id p.id_rising; below_id = below_append d x.update x.id p.below_id }

pub lawful_fork : (L : Limits) (d : Bool) (x : Stamp) → lawful L x ≡ true → long L x ≡ false → lawful L (fork d x) ≡ true
unfolding fork long
lawful_fork L d x e h =
    let p = lawful_parts L x e in
    let n = p.id_named in
    lawful_made L (fork d x) (fork_proper d x (lawful_proper L x e)) p.update_named.filled (rw (append_length d x.id) n.few)
    (all_short_lem L.digits (append d x.id) (append_short d L.digits x.id (short_all L.digits x.id n.short) h))
    (append_no_pair d x.id)

-- the unions of two stamps: all that is asked of a lawful stamp but the count and the pairs
pub unite_proper : (a b : Stamp) → Proper a → Proper b → Proper (unite a b)
unfolding unite
unite_proper a b p q = record {
  update_rising = union_rising a.update b.update;
  id_rising = union_rising a.id b.id;
  below_id = union_mono a.update b.update a.id b.id p.below_id q.below_id;
}

-- a string in u, and none too long in i
abbrev Sized : ℕ → Stamp → Type 0
Sized most x = (1 ≤ length x.update) × Short most x.id

unite_sized : (most : ℕ) (a b : Stamp) → Sized most a → Sized most b → Sized most (unite a b)
unfolding unite
unite_sized most a b p q = (
  filled_below a.update (union a.update b.update) (below_union_left a.update b.update) p.0,
  λ s i. ⊎_elim (p.1 s) (q.1 s) (in_append s a.id b.id (union_top a.id b.id s i).inside),
)

reduce_sized : (most : ℕ) (x : Stamp) → Proper x → Sized most x → Sized most (reduce x)
unfolding settled
reduce_sized most =
    reduce_keeps (Sized most) (λ s x p i j h. (settle_nonempty s x.update h.0, settle_short most s x.id h.1))

pub lawful_join : (L : Limits) (a b : Stamp) → lawful L a ≡ true → lawful L b ≡ true → many L (join a b) ≡ false → lawful L (join a b) ≡ true
unfolding join many
lawful_join L a b e f h =
    let p = lawful_parts L a e in
    let q = lawful_parts L b f in
    let u = unite_proper a b (lawful_proper L a e) (lawful_proper L b f) in
    let z = reduce_sized L.digits (unite a b) u
    (unite_sized L.digits a b (p.update_named.filled, p.id_named.short) (q.update_named.filled, q.id_named.short)) in
    lawful_made L (join a b) (reduce_proper (unite a b) u) z.0 (ltb-false L.strings (length (join a b).id) h) z.1 (reduce_normal (unite a b) u)
