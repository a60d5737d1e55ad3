-- `reading::read_in` meets its contract: the words that were read are those of the stamp that the bytes pack, and both names are names by the
-- way they were read, so that the two questions that are left decide whether it is lawful. Assumes nothing.
use Rattle.laws.proofs.Library.{◌≡◌, refl, sym, ap, ap₂, ◌∙◌, true, false, Result, Ok, Err, List, [], ◌∷◌, ◌++◌, map, ℕ, ◌-◌, arith, lit≤}
use Rattle.laws.proofs.Library.{length, take, drop, replicate, length-map, length-take-le, take_at}
use Rattle.rules.specs.Limits.{narrow}
use Rattle.rules.specs.Strings.{word_of, str_of, is_word}
use Rattle.rules.specs.Names.{all}
use Rattle.rules.specs.Stamps.{lawful}
use Rattle.rules.specs.Stored.{words_of, stored}
use Rattle.rules.specs.Refusals.{first}
use Rattle.rules.specs.Packed.{over, read_as, read_stamp}
use Rattle.rules.specs.declared.Refusal.{Refusal}
use Rattle.rules.specs.declared.Refusal.TheVariants.{Malformed, Unlawful}
use Rattle.laws.proofs.Tests.{and_left, and_right}
use Rattle.layout.proofs.RoundTrip.{unpacked_names}
use Rattle.walks.specs.Walks.{strs}
use Rattle.strings.proofs.Order.{word_is}
use Rattle.rules.specs.declared.Counts.{Counts}
use Rattle.std.specs.declared.option.Option.TheVariants.{None, Some}
use Rattle.std.specs.Option.{ok_or}
use Rattle.std.proofs.Common.{Option}
use Rattle.std.proofs.lemmas.Result.{err_from_is_err_and}
use Rattle.layout.specs.Words.{stamp_of}
use Rattle.reading.specs.Reading.{counts_of, update_in, id_in, lent_to, are_words, AreNames, NamesRead}
use Rattle.reading.proofs.read_in.Goals as goal

-- ---- words and their strings

words_back : (ws : List ℕ) → are_words ws ≡ true → map word_of (strs ws) ≡ ws
unfolding all
words_back [] h = refl
words_back (w ∷ ws) h =
    ap₂ (λ (x : ℕ) (l : List ℕ). x ∷ l) (sym (word_is 24 (lit≤ tt) w (and_left (is_word 24 w) (are_words ws) h))) (words_back ws (and_right (is_word 24 w) (are_words ws) h))

-- a name's record lends the words that tell the name
lent_words : (ws out : List ℕ) → are_words ws ≡ true → over ws out ≡ lent_to (words_of narrow (strs ws)) out
unfolding lent_to words_of
lent_words ws out h =
    let n = strs ws in
    ap (λ (l : List ℕ). over l out)
    (sym (take_at (map word_of n) (replicate (16 - length n) 0) (length n) (length-map n word_of) ∙ words_back ws h))

-- ---- what the bytes tell

not_names : (b us is : List ℕ) (r : Option Counts) (why : Refusal) → NamesRead b r us is → ◌≡◌ {A = Result Counts Refusal} (Err why) (ok_or r Malformed)
    → read_stamp narrow b ≡ Err why
unfolding read_stamp
not_names b us is None why n e = ap (read_as narrow) n.reads ∙ (let f : Malformed ≡ why = cc in ap Err f)
not_names b us is (Some k) why n e = cc

refused : (b : List ℕ) (why : Refusal) (r : Result Counts Refusal) (u i : List ℕ) → r ≡ Err why → read_stamp narrow b ≡ Err why
    → (r ≡ counts_of (read_stamp narrow b)) × (u ≡ update_in (read_stamp narrow b) u) × (i ≡ id_in (read_stamp narrow b) i)
refused b why r u i e f = rw f (e, refl, refl)

module _ {b us is : List ℕ} {k : Counts} (n : NamesRead b (Some k) us is) where
  abbrev u : List ℕ
  u = take k.update us

  abbrev i : List ℕ
  i = take k.id is

  are_names : AreNames u i
  are_names =
      let both = unpacked_names narrow (lit≤ tt) b (stamp_of u i) n.reads in
      record { update = both.0; id = both.1; update_words = n.update.whole; id_words = n.id.whole }

  unlawful : lawful narrow (stamp_of u i) ≡ false → read_stamp narrow b ≡ Err Unlawful
  unfolding read_stamp first
  unlawful l = ap (read_as narrow) n.reads ∙ rw l

  lawful_read : lawful narrow (stamp_of u i) ≡ true → read_stamp narrow b ≡ Ok (stored narrow (stamp_of u i))
  unfolding read_stamp first
  lawful_read l = ap (read_as narrow) n.reads ∙ rw l

  -- the words of a lawful stamp, lent
  laid : (m : ℕ) (ws x p : List ℕ) → m ≡ length (take m ws) → p ≡ take m ws → are_words (take m ws) ≡ true
      → p ++ drop m x ≡ lent_to (words_of narrow (strs (take m ws))) x
  laid m ws x p e f h = ap₂ (λ (l : List ℕ) (c : ℕ). l ++ drop c x) f e ∙ lent_words (take m ws) x h

  lent : (x y p q : List ℕ) → length us ≡ 16 → length is ≡ 16 → p ≡ u → q ≡ i → lawful narrow (stamp_of u i) ≡ true
      → (Ok k ≡ counts_of (read_stamp narrow b)) × (p ++ drop k.update x ≡ update_in (read_stamp narrow b) x)
      × (q ++ drop k.id y ≡ id_in (read_stamp narrow b) y)
  unfolding stored words_of
  lent x y p q hu hi ep eq l =
      let eu : k.update ≡ length u = sym (length-take-le k.update us (omega (arith, n.update.few))) in
      let ei : k.id ≡ length i = sym (length-take-le k.id is (omega (arith, n.id.few))) in
      rw (lawful_read l) (
        ap₂ (λ (m n : ℕ). Ok (record { update = m; id = n })) (eu ∙ sym (length-map u str_of)) (ei ∙ sym (length-map i str_of)),
        laid k.update us x p eu ep n.update.whole,
        laid k.id is y q ei eq n.id.whole,
      )

-- ---- the code

pub returns-in_err-counts : goal.returns-in_err-counts
returns-in_err-counts c =
    let passed = err_from_is_err_and _ c.from_residual.ensures.1 in
    refused c.args.b.now _ _ _ _ (passed.1 ∙ ap Err passed.2)
    (not_names c.args.b.now _ _ _ _ c.names_in.ensures c.in_err-counts.ensures.value)

pub is_lawful_read-requires : goal.is_lawful_read-requires
is_lawful_read-requires c = are_names (rw c.in_ok-counts.ensures.ok_part at c.names_in.ensures)

pub returns-then-not-is_lawful_read : goal.returns-then-not-is_lawful_read
returns-then-not-is_lawful_read c =
    refused c.args.b.now Unlawful (Err Unlawful) c.args.update.now c.args.id.now refl
    (unlawful (rw c.in_ok-counts.ensures.ok_part at c.names_in.ensures) (sym c.is_lawful_read.ensures ∙ c.if-not-is_lawful_read.true))

pub returns : goal.returns
returns c =
    lent (rw c.in_ok-counts.ensures.ok_part at c.names_in.ensures) c.args.update.now c.args.id.now _ _ (omega arith) (omega arith)
    c.copy_from_slice.ensures.after c.copy_from_slice-2.ensures.after (sym c.is_lawful_read.ensures ∙ c.if-not-is_lawful_read.false)
