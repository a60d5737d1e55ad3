-- Steps for walks over a run of plain values, for any type of them: an element is read and stored where it lies, and a covered function of values is called,
-- each as one statement. Assumes nothing.
use mathlib.Core.Path.{◌≡◌, refl, sym, ap, subst}
use mathlib.Core.List.{List, [], ◌∷◌}
use mathlib.Core.Option.{some}
use Prim.Native.Nat.{ℕ, zero, ◌+◌, ◌*◌, ◌<◌, ◌^◌}
use lib.Dec.{T, T as Holds, ltb}
use lib.ListN.{length, get_or, set}
use seplogic.Ra.Ura.{Ura}
use base.Fraction.{full_share}
use mir.Syntax.{Callee, Ty, ty_int, ty_bool, w64, Body, place, seq, call, Opd as Operand}
use mir.Raw.{raw as raw_ty}
use mir.Val.{Val, WT, has_ty, vint, vbool}
use base.Logic.{SProp, ent, sep, emp, wand, ex, via, comm∗, mono_l, mono_r, emp∗, snd∗, ex_e, ex_i, wand_i, guard_i}
use base.Fml.{Share, ftrue, fat, froom}
use prog.Wp.{Env, Calls, Loops, spot_of, eval_opds}
use types.Logic.{Logic, sem}
use contract.Lifetimes.{Lfts}
use contract.Monad.{fact, fact_i}
use sound.WpLaws.{FmC}
use types.Kit.{Item, ‵, raw, ◌⊛◌, later, mean, ⋆, nth, del, put, pull, unpull, fill, push, Post, Goal, Soaks, runs, lands, aim, Seq, ◌$◌, ◌∵◌, ! }
use types.Kit.{qed, by, move, drop, split, split3, join, recast, use0, use1, assume, frame, await, done}
use types.Run.{Reads, Writes, Opds, land, from, stop}
use denote.RattleType.{RattleType, Denots, flat, owns}
use denote.Exit.{yes, unchanged}
use denote.Laws.{Copy, Is, shows, Tells, Makes, Lawful, Typed, Ises, Are, Spells, valss, Tellss, Makess, owns_make}
use denote.Copied.{Copied, uint_Copied, bool_Copied}
use denote.Memory.{cell_at, mem, shares}
use denote.Index.{place as spot, place_is, row, others, elem_out, elem_back, elem_put}
use denote.Plain.{uint_Tells, uint_Makes, uint_copy, uint_Lawful, bool_Tells, bool_Makes, bool-copy, bool_Lawful}
use denote.Builtin.{usize, bool}
use denote.Steps.{only, nothing, owned, facts, heard}
use denote.Signature.{Slot, plain, types_at}
use denote.Struct.Struct.{Plains, layout}
use denote.Struct.Declared.{Declared, shape, fields}
use denote.Struct.Declared as Decl
use denote.Struct.Laws as LL
use denote.Enum.Enum
use denote.Enum.Declared as Choices
use denote.Enum.Laws as EL
use denote.Triple.End.{all}
use denote.Triple.Statement.{Contract, Triple}
use denote.Triple.Clauses.{Ended, Clauses, closing, ensured, lasts}
use denote.Triple.Spec.{triple_of}
use Rattle.frames.proofs.Frame.{key, fills}

-- a type of plain data that is one machine value
pub record Plainly : Type 2 where
  pub row : RattleType
  pub ty : Ty
  pub lies : row.mir ≡ ty ∷ []
  pub val : row.Denot → Val
  pub tells : Tells row (Is row) (λ x. val x ∷ [])
  pub makes : {M : Type 1} {𝓤 : Ura M} (𝓛 : Logic 𝓤) → Makes 𝓛 row (Is row)
  pub lawful : {M : Type 1} {𝓤 : Ura M} (𝓛 : Logic 𝓤) → Lawful 𝓛 row
  pub copies : {M : Type 1} {𝓤 : Ura M} (𝓛 : Logic 𝓤) → Copy 𝓛 row
  -- a `&` to it is made of any share, and read through
  pub copied : {M : Type 1} {𝓤 : Ura M} (𝓛 : Logic 𝓤) → Copied 𝓛 row
  pub still : row.exit yes ≡ unchanged
  pub small : T (ltb (mem row).size (2 ^ 64))

-- usize and u64, then bool
abbrev pub number : Plainly
number = record {
  row = usize;
  ty = ty_int w64;
  lies = refl;
  val = vint w64;
  tells = uint_Tells w64;
  makes = λ 𝓛. uint_Makes 𝓛 w64;
  lawful = λ 𝓛. uint_Lawful 𝓛 w64;
  copies = λ 𝓛. uint_copy 𝓛 w64;
  copied = λ 𝓛. uint_Copied 𝓛 w64;
  still = refl;
  small = tt;
}

abbrev pub truth : Plainly
truth = record {
  row = bool;
  ty = ty_bool;
  lies = refl;
  val = vbool;
  tells = bool_Tells;
  makes = λ 𝓛. bool_Makes 𝓛;
  lawful = λ 𝓛. bool_Lawful 𝓛;
  copies = λ 𝓛. bool-copy 𝓛;
  copied = λ 𝓛. bool_Copied 𝓛;
  still = refl;
  small = tt;
}

module _ (T : Declared) (L : LL.Laws T) (pl : Plains (fields T)) (cs : LL.Copyables T.parts) (st : (Decl.row T).exit yes ≡ unchanged)
    (sm : Holds (ltb (mem (Decl.row T)).size (2 ^ 64))) where
  abbrev pub struct : Plainly
  struct = record {
    row = Decl.row T;
    ty = layout (shape T);
    lies = refl;
    val = LL.val T L;
    tells = LL.tells T L;
    makes = λ 𝓛. LL.makes T pl 𝓛;
    lawful = LL.lawful T L;
    copies = LL.copy T cs;
    copied = LL.copied T cs;
    still = st;
    small = sm;
  }

-- a declared enum
module _ (T : Choices.Declared) (L : EL.Laws T) (pl : Enum.Plainss (Choices.variants T)) (cs : EL.Copyabless T.parts) (few : Enum.Few (Choices.shape T))
    (sm : Holds (ltb (mem (Choices.row T)).size (2 ^ 64))) where
  abbrev pub choice : Plainly
  choice = record {
    row = Choices.row T;
    ty = Enum.layout (Choices.shape T);
    lies = refl;
    val = EL.val T L;
    tells = EL.tells T L;
    makes = λ 𝓛. EL.makes T pl 𝓛;
    lawful = λ 𝓛. EL.lawful T L 𝓛 few;
    copies = EL.copy T cs;
    copied = EL.copied T cs;
    still = EL.still T cs yes;
    small = sm;
  }

-- a value of the type has the machine type
pub typed : (P : Plainly) {M : Type 1} {𝓤 : Ura M} (𝓛 : Logic 𝓤) (x : P.row.Denot) (v : Val) → Is P.row x (v ∷ []) → T
    (has_ty P.ty v) × WT v
typed P {M} {𝓤} 𝓛 x v is = (subst (λ (τs : List Ty). Typed τs (v ∷ [])) P.lies ((P.lawful 𝓛).typed x (v ∷ []) is)).0

pub fitting : (P : Plainly) {M : Type 1} {𝓤 : Ura M} (𝓛 : Logic 𝓤) (x : P.row.Denot) {τ : Ty} → τ ≡ P.ty → Is P.row x
    (P.val x ∷ []) → T (has_ty τ (P.val x)) × WT (P.val x)
fitting P 𝓛 x e is = subst (λ (τ : Ty). T (has_ty τ (P.val x)) × WT (P.val x)) (sym e) (typed P 𝓛 x (P.val x) is)

-- ---- the elements of a run, which is entry r of the context
module _ {M : Type 1} {𝓤 : Ura M} (𝓛 : Logic 𝓤) (Γ : List (Item 𝓤)) (P : Plainly) (q : Share) (ys : List P.row.Denot)
    (i : ℕ) (d : P.row.Denot)
    (b o : ℕ) (l : i < length ys) (r : ℕ) (at-r : nth 𝓛 r Γ ≡ ‵ (row P.row q ys b o)) where
  open 𝓛 use {H}

  abbrev a : ℕ
  a = spot (mem P.row).size o i

  abbrev D : SProp 𝓤
  D = ⋆ 𝓛 (del 𝓛 r Γ)

  abbrev v : Val
  v = P.val (get_or ys i d)

  abbrev F : SProp 𝓤
  F = sep 𝓤 (sem 𝓛 (P.row.own_val (get_or ys i d) (v ∷ []))) (sep 𝓤 (sem 𝓛 (others (shares P.row) q ys i b o)) D)

  gone : ent 𝓤 (⋆ 𝓛 Γ) (sep 𝓤 (sem 𝓛 (row P.row q ys b o)) D)
  gone = subst (λ (j : Item 𝓤). ent 𝓤 (⋆ 𝓛 Γ) (sep 𝓤 (mean 𝓛 j) D)) at-r (pull 𝓛 r Γ)

  home : ent 𝓤 (sep 𝓤 (sem 𝓛 (row P.row q ys b o)) D) (⋆ 𝓛 Γ)
  home = subst (λ (j : Item 𝓤). ent 𝓤 (sep 𝓤 (mean 𝓛 j) D) (⋆ 𝓛 Γ)) at-r (unpull 𝓛 r Γ)

  lies_as : (w : Val) → sem 𝓛 (cell_at q P.row.mir (w ∷ []) b a) ≡ sem 𝓛 (fat q (raw_ty P.ty) b a w)
  lies_as w = ap (λ (τs : List Ty). sem 𝓛 (cell_at q τs (w ∷ []) b a)) P.lies

  out : ent 𝓤 (⋆ 𝓛 Γ) (sep 𝓤 (H.at q P.ty b a v) F)
  out = via 𝓤 (sep 𝓤 (sem 𝓛 (row P.row q ys b o)) D) gone (qed 𝓛 (‵ (row P.row q ys b o) ∷ raw D ∷ []) ∵
      elem_out ! P.row (Is P.row) (shows 𝓛 P.row) (λ x. P.val x ∷ []) P.tells q ys i d b o l (λ is.
      recast 𝓛 (‵ (fat q (raw_ty P.ty) b a v)) (lies_as v) $ use1 𝓛 (‵ (fat q P.ty b a v)) (𝓛.laws.raw_at q P.ty b a v) $ done !))

  back : ent 𝓤 (sep 𝓤 (H.at q P.ty b a v) F) (⋆ 𝓛 Γ)
  back = qed 𝓛 (‵ (fat q P.ty b a v) ∷ (‵ (P.row.own_val (get_or ys i d) (v ∷ [])) ⊛ ‵ (others (shares P.row) q ys i b o) ⊛ raw D) ∷ []) ∵
      use1 𝓛 (‵ (fat q (raw_ty P.ty) b a v)) (𝓛.laws.at_raw q P.ty b a v) $ recast 𝓛 (‵ (cell_at q P.row.mir (v ∷ []) b a)) (sym (lies_as v)) $
      move ! (1 ∷ []) $ split3 ! $ move ! (3 ∷ 0 ∷ 1 ∷ []) $ elem_back ! P.row q ys i d (v ∷ []) b o l $ by ! home

  there : (K : Type 0) → Reads K 𝓛 Γ P.ty b a v
  there K = record {
    go = λ Kt h.
        via 𝓤 (sep 𝓤 (H.at q P.ty b a v) F) out
        (via 𝓤 (sep 𝓤 (H.at q P.ty b a v) (wand 𝓤 (H.at q P.ty b a v) (Kt v)))
        (mono_r 𝓤 (H.at q P.ty b a v) (wand_i 𝓤 F (H.at q P.ty b a v) (Kt v)
        (via 𝓤 (sep 𝓤 (H.at q P.ty b a v) F) (comm∗ 𝓤 F (H.at q P.ty b a v)) (via 𝓤 (⋆ 𝓛 Γ) back h))))
        (via 𝓤 (ex 𝓤 (λ (u : Val). sep 𝓤 (H.at q P.ty b a u) (wand 𝓤 (H.at q P.ty b a u) (Kt u))))
        (ex_i 𝓤 (λ (u : Val). sep 𝓤 (H.at q P.ty b a u) (wand 𝓤 (H.at q P.ty b a u) (Kt u))) v)
        (ex_i 𝓤 (λ (s : Share). ex 𝓤 (λ (u : Val). sep 𝓤 (H.at s P.ty b a u) (wand 𝓤 (H.at s P.ty b a u) (Kt u)))) q)));
  }

module _ {M : Type 1} {𝓤 : Ura M} (𝓛 : Logic 𝓤) (Γ : List (Item 𝓤)) (P : Plainly) (ys : List P.row.Denot) (i : ℕ)
    (y : P.row.Denot)
    (b o : ℕ) (l : i < length ys) (r : ℕ) (at-r : nth 𝓛 r Γ ≡ ‵ (row P.row full_share ys b o)) where
  open 𝓛 use {H}

  abbrev c : ℕ
  c = spot (mem P.row).size o i

  abbrev B : SProp 𝓤
  B = ⋆ 𝓛 (del 𝓛 r Γ)

  abbrev w : Val
  w = P.val y

  abbrev u : Val
  u = P.val (get_or ys i y)

  into : (K : Type 0) → Is P.row y (w ∷ []) → Writes K 𝓛 Γ P.ty b c w (put 𝓛 r (‵ (row P.row full_share (set ys i y) b o)) Γ)
  into K is = record {
    go = λ Q h.
        via 𝓤 (sep 𝓤 (H.room P.ty b c) (wand 𝓤 (H.at full_share P.ty b c w) Q))
        (via 𝓤 (sep 𝓤 (sem 𝓛 (row P.row full_share ys b o)) B) (gone 𝓛 Γ P full_share ys i y b o l r at-r)
        (qed 𝓛 (‵ (row P.row full_share ys b o) ∷ raw B ∷ []) ∵
        elem_out ! P.row (Is P.row) (shows 𝓛 P.row) (λ x. P.val x ∷ []) P.tells full_share ys i y b o l (λ _.
        recast 𝓛 (‵ (fat full_share (raw_ty P.ty) b c u)) (lies_as 𝓛 Γ P full_share ys i y b o l r at-r u) $
        use1 𝓛 (‵ (fat full_share P.ty b c u)) (𝓛.laws.raw_at full_share P.ty b c u) $ use1 𝓛 (‵ (froom P.ty b c)) (𝓛.laws.at_room P.ty b c u) $
        frame ! $ drop ! $
        assume ! (‵ (fat full_share P.ty b c w)) $ use1 𝓛 (‵ (fat full_share (raw_ty P.ty) b c w)) (𝓛.laws.at_raw full_share P.ty b c w) $
        recast 𝓛 (‵ (cell_at full_share P.row.mir (w ∷ []) b c)) (sym (lies_as 𝓛 Γ P full_share ys i y b o l r at-r w)) $
        owned ! P.row (Is P.row) (P.makes 𝓛) y (w ∷ []) is $ move ! (1 ∷ 0 ∷ []) $ elem_put ! P.row full_share ys i y (w ∷ []) b o l $
        by ! (via 𝓤 (⋆ 𝓛 (put 𝓛 r (‵ (row P.row full_share (set ys i y) b o)) Γ)) (fill 𝓛 r (‵ (row P.row full_share (set ys i y) b o)) Γ) h))))
        (guard_i 𝓤 (T (has_ty P.ty w) × WT w) _ (typed P 𝓛 y w is));
  }

module _ {M : Type 1} {𝓤 : Ura M} {𝓛 : Logic 𝓤} {K : Type 0} {Γ : List (Item 𝓤)} where
  -- an element's relation
  open 𝓛 use {H}

  pub known : K → {G : Goal 𝓤 H} (P : Plainly) (q : Share) (ys : List P.row.Denot) (i : ℕ) (d : P.row.Denot) (b o : ℕ) → i < length ys → (r : ℕ) → nth
      𝓛 r Γ ≡ ‵ (row P.row q ys b o)
      → (Is P.row (get_or ys i d) (P.val (get_or ys i d) ∷ []) → Seq K 𝓛 Γ G) → Seq K 𝓛 Γ G
  known t {G} P q ys i d b o l r e k = record {
    prf = via 𝓤 (sep 𝓤 (sem 𝓛 (row P.row q ys b o)) (D 𝓛 Γ P q ys i d b o l r e))
        (gone 𝓛 Γ P q ys i d b o l r e) inner.prf;
  }
    where
      inner : Seq K 𝓛 (‵ (row P.row q ys b o) ∷ raw (D 𝓛 Γ P q ys i d b o l r e) ∷ []) G
      inner = elem_out t P.row (Is P.row) (shows 𝓛 P.row) (λ x. P.val x ∷ []) P.tells q ys i d b o l (λ is.
          elem_back t P.row q ys i d (P.val (get_or ys i d) ∷ []) b o l $ by t (via 𝓤 (⋆ 𝓛 Γ) (home 𝓛 Γ P q ys i d b o l r e) (k is).prf))

  -- element i is read where it lies
  pub look_elem : K → (P : Plainly) (q : Share) (ys : List P.row.Denot) (i : ℕ) (d : P.row.Denot) (b o : ℕ) → i < length ys → (r : ℕ) → nth 𝓛 r Γ ≡ ‵
      (row P.row q ys b o)
      → Reads K 𝓛 Γ P.ty b (i * (mem P.row).size + o) (P.val (get_or ys i d))
  look_elem t P q ys i d b o l r e = subst (λ (n : ℕ). Reads K 𝓛 Γ P.ty b n (P.val (get_or ys i d))) (place_is (mem P.row).size o i)
      (there 𝓛 Γ P q ys i d b o l r e K)

  -- and stored
  pub store_elem : K → (P : Plainly) (ys : List P.row.Denot) (i : ℕ) (y : P.row.Denot) (b o : ℕ) → i < length ys → (r : ℕ) → nth 𝓛 r Γ ≡ ‵
      (row P.row full_share ys b o)
      → Is P.row y (P.val y ∷ []) → Writes K 𝓛 Γ P.ty b (i * (mem P.row).size + o) (P.val y)
      (put 𝓛 r (‵ (row P.row full_share (set ys i y) b o)) Γ)
  store_elem t P ys i y b o l r e is = subst (λ (n : ℕ). Writes K 𝓛 Γ P.ty b n (P.val y) (put 𝓛 r (‵ (row P.row full_share (set ys i y) b o)) Γ))
      (place_is (mem P.row).size o i) (into 𝓛 Γ P ys i y b o l r e K is)

-- ---- a covered function of plain values, whose contract says what it gives
-- parameters of plain types
abbrev pub slots : {n : ℕ} → List Plainly → List (Slot n)
slots [] = []
slots (P ∷ Ps) = plain (λ _. P.row) ∷ slots Ps

module _ (n : ℕ) (κs : Lfts n) where
  -- their values, the machine values of those, and what is known of both
  abbrev pub Ins : List Plainly → Type 0
  Ins Ps = Denots (types_at (slots {n = n} Ps) κs)

  abbrev pub spelled : (Ps : List Plainly) → Spells (types_at (slots {n = n} Ps) κs)
  spelled [] = tt
  spelled (P ∷ Ps) = ((λ x. P.val x ∷ []), spelled Ps)

  abbrev pub told : (Ps : List Plainly) → Tellss (types_at (slots {n = n} Ps) κs) (Ises (types_at (slots {n = n} Ps) κs)) (spelled Ps)
  told [] = tt
  told (P ∷ Ps) = (P.tells, told Ps)

  abbrev pub made : {M : Type 1} {𝓤 : Ura M} (𝓛 : Logic 𝓤) → (Ps : List Plainly) → Makess 𝓛 (types_at (slots {n = n} Ps) κs)
      (Ises (types_at (slots {n = n} Ps) κs))
  made 𝓛 [] = tt
  made 𝓛 (P ∷ Ps) = (P.makes 𝓛, made 𝓛 Ps)

  -- the arguments are values of their types
  abbrev pub Good : (Ps : List Plainly) → Ins Ps → Type 0
  Good Ps a = Are (types_at (slots {n = n} Ps) κs) (Ises (types_at (slots {n = n} Ps) κs)) a (valss (types_at (slots {n = n} Ps) κs) (spelled Ps) a)

  abbrev pub words : (Ps : List Plainly) → Ins Ps → List Val
  words Ps a = flat (types_at (slots {n = n} Ps) κs) (valss (types_at (slots {n = n} Ps) κs) (spelled Ps) a)

-- the signature of such a function
abbrev pub valued : List Plainly → Plainly → Ended
valued Ps Q = record { signature = record { lifetimes = 0; outlives = []; params = slots Ps; result = plain (λ _. Q.row) }; kept = all yes (slots Ps) }

module _ {M : Type 1} {𝓤 : Ura M} (𝓛 : Logic 𝓤) (Ps : List Plainly) (Q : Plainly) (f : Ins 0 tt Ps → Q.row.Denot) where
  open 𝓛 use {H}

  abbrev pub giving : Clauses 𝓤 (valued Ps Q)
  giving κs a = record { ghost = Unit {0}; requires = λ _. emp 𝓤; ensures = λ _ r e. fact 𝓤 (r ≡ f a) }

  abbrev pub Gives : Contract 𝓤
  Gives = triple_of 𝓛 (valued Ps Q).signature (closing 𝓛 (valued Ps Q) giving)

  abbrev pub asked : Ins 0 tt Ps → Gives.Ghost
  asked a = ((tt, tt, tt, a, valss (types_at (slots {n = 0} Ps) tt) (spelled 0 tt Ps) a), tt)

  -- what it is given is plain: it is made from nothing
  goes : (a : Ins 0 tt Ps) → Good 0 tt Ps a → ent 𝓤 (emp 𝓤) (Gives.pre (asked a))
  goes a is =
      qed 𝓛 [] ∵ nothing ! $ use0 𝓛 (‵ (owns (types_at (slots {n = 0} Ps) tt) a (valss (types_at (slots {n = 0} Ps) tt) (spelled 0 tt Ps) a)))
      (owns_make 𝓛 (types_at (slots {n = 0} Ps) tt) (Ises (types_at (slots {n = 0} Ps) tt)) (made 0 tt 𝓛 Ps) a _ is) $ nothing ! $ join ! $ done !

  -- and what it gives is told by its contract
  comes : (a : Ins 0 tt Ps) (v : Val) → ent 𝓤 (Gives.post (asked a) v) (H.⇛ (fact 𝓤 (Is Q.row (f a) (v ∷ []))))
  comes a v = 𝓛.laws.⇛_mono _ _ (ex_e 𝓤 _ (λ r.
      qed 𝓛 ((‵ ftrue ⊛ ‵ (Q.row.own_val r (v ∷ []))) ∷ raw (ensured 𝓛 (valued Ps Q) giving tt a tt r) ∷ []) ∵ move ! (1 ∷ []) $
      use1 𝓛 (raw (fact 𝓤 (r ≡ f a))) (ex_e 𝓤 _ (λ ws. snd∗ 𝓤 (sem 𝓛 (lasts (valued Ps Q) tt a ws)) (fact 𝓤 (r ≡ f a)))) $ heard ! (r ≡ f a) (λ e. split ! $
      drop ! $
      facts ! Q.row (Is Q.row) (shows 𝓛 Q.row) r (v ∷ []) (λ is. by !
      (fact_i 𝓤 (Is Q.row (f a) (v ∷ [])) (emp 𝓤) (subst (λ (y : Q.row.Denot). Is Q.row y (v ∷ [])) e is))))))

module _ {M : Type 1} {𝓤 : Ura M} {𝓛 : Logic 𝓤} {K : Type 0} {Γ : List (Item 𝓤)} {E : Env 𝓤 𝓛.H} {C : Calls 𝓤 𝓛.H} where
  -- the call itself: `after v` is what is to be shown once it has returned v
  open 𝓛 use {H}

  pub called_by : K → FmC 𝓤 H 𝓛.laws C → {g : Callee} {xs : List Operand} (Ps : List Plainly) (Q : Plainly) (f : Ins 0 tt Ps → Q.row.Denot) → Triple 𝓤 (C g)
      (Gives 𝓛 Ps Q f)
      → (a : Ins 0 tt Ps) → Good 0 tt Ps a → Opds K 𝓛 Γ E xs (words 0 tt Ps a) → (after : Val → Goal 𝓤 H) → ((v : Val) → Soaks (after v))
      → (Is Q.row (f a) (Q.val (f a) ∷ []) → Seq K 𝓛 Γ (after (Q.val (f a)))) → ent 𝓤 (⋆ 𝓛 Γ)
      (H.⇛ (eval_opds 𝓤 H E xs (λ us. C g us (λ v. aim 𝓤 H (after v)))))
  called_by t fm {g} {xs} Ps Q f met a good os after soaks go =
      via 𝓤 (eval_opds 𝓤 H E xs (λ us. C g us (λ v. aim 𝓤 H (after v))))
      (os.go (λ us. C g us (λ v. aim 𝓤 H (after v)))
      (via 𝓤 (sep 𝓤 ((Gives 𝓛 Ps Q f).pre (asked 𝓛 Ps Q f a)) (⋆ 𝓛 Γ))
      (via 𝓤 (sep 𝓤 (emp 𝓤) (⋆ 𝓛 Γ)) (emp∗ 𝓤 (⋆ 𝓛 Γ)) (mono_l 𝓤 (⋆ 𝓛 Γ) (goes 𝓛 Ps Q f a good)))
      (via 𝓤 (sep 𝓤 (C g (words 0 tt Ps a) ((Gives 𝓛 Ps Q f).post (asked 𝓛 Ps Q f a))) (⋆ 𝓛 Γ)) (mono_l 𝓤 (⋆ 𝓛 Γ) (met (asked 𝓛 Ps Q f a)))
      (fm g (words 0 tt Ps a) ((Gives 𝓛 Ps Q f).post (asked 𝓛 Ps Q f a)) (λ v. aim 𝓤 H (after v)) (⋆ 𝓛 Γ)
      (λ v. via 𝓤 (⋆ 𝓛 (raw ((Gives 𝓛 Ps Q f).post (asked 𝓛 Ps Q f a) v) ∷ Γ))
      (push 𝓛 (raw ((Gives 𝓛 Ps Q f).post (asked 𝓛 Ps Q f a) v)) Γ) (landed v).prf)))))
      (𝓛.laws.⇛_intro _)
    where
      landed : (v : Val) → Seq K 𝓛 (raw ((Gives 𝓛 Ps Q f).post (asked 𝓛 Ps Q f a) v) ∷ Γ) (after v)
      landed v = use1 𝓛 (later (raw (fact 𝓤 (Is Q.row (f a) (v ∷ []))))) (comes 𝓛 Ps Q f a v) $ await t (soaks v) $
          heard t (Is Q.row (f a) (v ∷ [])) (λ is.
          let told : v ∷ [] ≡ Q.val (f a) ∷ [] = Q.tells (f a) (v ∷ []) is in
          subst (λ (u : Val). Seq K 𝓛 Γ (after u)) (sym (ap only told)) (go (subst (Is Q.row (f a)) told is)))

module _ {M : Type 1} {𝓤 : Ura M} {𝓛 : Logic 𝓤} {K : Type 0} {Γ : List (Item 𝓤)} {E : Env 𝓤 𝓛.H} {C : Calls 𝓤 𝓛.H} {Λ : Loops 𝓤 𝓛.H}
    {q : Post 𝓤 𝓛.H} where
  -- it is called, and local k holds what it gives
  open 𝓛 use {H}

  pub calls_by : K → FmC 𝓤 H 𝓛.laws C → {g : Callee} {xs : List Operand} {k : ℕ} {rest : Body} (Ps : List Plainly) (Q : Plainly)
      (f : Ins 0 tt Ps → Q.row.Denot) → Triple 𝓤 (C g) (Gives 𝓛 Ps Q f)
      → (a : Ins 0 tt Ps) → Good 0 tt Ps a → Opds K 𝓛 Γ E xs (words 0 tt Ps a) → (spot_of 𝓤 H E k).0 ≡ Q.ty → key 𝓛 (nth 𝓛 k Γ) ≡ some
      (full_share, ((spot_of 𝓤 H E k).0, ((spot_of 𝓤 H E k).1, zero)))
      → (Is Q.row (f a) (Q.val (f a) ∷ []) → Seq K 𝓛 (put 𝓛 k (‵ (fat full_share (spot_of 𝓤 H E k).0 (spot_of 𝓤 H E k).1 zero (Q.val (f a)))) Γ)
      (runs C Λ E rest q))
      → Seq K 𝓛 Γ (runs C Λ E (seq (call g xs (place k [])) rest) q)
  calls_by t fm {g} {xs} {k} {rest} Ps Q f met a good os s e go = record {
    prf = called_by t fm Ps Q f met a good os (λ v. lands C Λ E (place k []) v rest q) (λ v. tt)
        (λ is. land t (from t (stop t)) (fills t k e (fitting Q 𝓛 (f a) s is)) $ go is);
  }
