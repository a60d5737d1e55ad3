-- Steps for walks, in which local k of a function is entry k of the context, as in its MIR. Assumes nothing.
--     [local 0; ..; local n - 1; what frees them; the rest]
-- `var ! refl` reads a local, `sets ! (..) refl fits` writes one, whether it holds something or not, `begins` and `leaves` are the frame's two ends.
use mathlib.Core.Path.{◌≡◌, refl, sym, ap, subst}
use mathlib.Core.List.{List, [], ◌∷◌, ◌++◌}
use mathlib.Core.Bool.{Bool, not}
use mathlib.Core.Option.{Option, none, some}
use Prim.Native.Nat.{ℕ, zero, ◌+◌}
use lib.Dec.{T}
use seplogic.Ra.Ura.{Ura}
use base.Fraction.{full_share}
use mir.Syntax.{cond, skip, Sym, Tys, ty_struct, field, Ty, Local, Body, Fn, place, copy, assign, seq, Opd as Operand, Rv as RValue}
use mir.Fields.{get_v, set_v}
use mir.Val.{vbool, Vals, vstruct, Val, WT, has_ty}
use base.Logic.{assoc', SProp, ent, sep, emp, wand, all, id⊢, via, comm∗, mono_l, mono_r, mono∗, emp∗, snd∗, wand_i, all_i, all_e, guard_i}
use base.Fml.{Fml, Share, ftrue, ffalse, feq, flt, fsep, fand, for, fwand, fex, fall, fupd, fat, froom, fdies, flft, fdead, fobs, fauth, fres, fbor, fobor}
use base.Fml.{flent, fshr_bor, fhide, fleft, fown, finv, fnamed, ftok, fkid, fme, fsent}
use prog.Wp.{Wp, after_seq, Env, Calls, Loops, WpFn, alloc, pass, release, spot_of, ty_of, params}
use types.Logic.{Logic, sem}
use contract.Monad.{top}
use types.Kit.{Item, ‵, raw, ◌⊛◌, later, mean, ⋆, nth, del, put, given, pull, fill, push, pop, ++⊢, any_q, post, Post, at_ret, Goal, prop, runs, frees}
use types.Kit.{aim, Seq, Step, step, ◌$◌, ◌∵◌, !, qed, move, frame, fsplit, fjoin, split, join, by, assume, done, use1, use2}
use types.Run.{first, branches, skips, fld, Writes, Opd, Rv, look, load, from, stop, assigns}
use prog.Memory.{field_of, field_at}
use types.Part.{Part, look_in, sub, whole}

-- what an entry that is a cell, or room for one, is known by: its share, type, block and offset; none of any other entry
abbrev pub Key : Type 0
Key = Option (Share × (Ty × (ℕ × ℕ)))

-- a block for each local
abbrev pub Blocks : List Local → Type 0
Blocks [] = Unit {0}
Blocks (l ∷ ls) = ℕ × Blocks ls

module _ {M : Type 1} {𝓤 : Ura M} (𝓛 : Logic 𝓤) where
  -- what an entry that is a cell, or room for one, gives where the share is the whole
  open 𝓛 use {H}

  abbrev pub empties : Key → SProp 𝓤
  empties none = emp 𝓤
  empties (some k) = all 𝓤 (λ (e : k.0 ≡ full_share). H.room k.1.0 k.1.1.0 k.1.1.1)

  -- any other entry
  abbrev none_of : (i : Item 𝓤) → (k : Key) × ent 𝓤 (mean 𝓛 i) (empties k)
  none_of i = (none, top 𝓤 (mean 𝓛 i))

  abbrev pub formula : (F : Fml) → (k : Key) × ent 𝓤 (sem 𝓛 F) (empties k)
  formula (fat q τ b o v) = (
    some (q, (τ, (b, o))),
    all_i 𝓤 (λ (e : q ≡ full_share). H.room τ b o) (λ e. via 𝓤 (H.at full_share τ b o v)
        (subst (λ (s : Share). ent 𝓤 (H.at q τ b o v) (H.at s τ b o v)) e (id⊢ 𝓤 (H.at q τ b o v))) (𝓛.laws.at_room τ b o v)),
  )
  formula (froom τ b o) = (some (full_share, (τ, (b, o))), all_i 𝓤 (λ (e : full_share ≡ full_share). H.room τ b o) (λ e. id⊢ 𝓤 (H.room τ b o)))
  formula ftrue = none_of (‵ ftrue)
  formula ffalse = none_of (‵ ffalse)
  formula (feq X x y) = none_of (‵ (feq X x y))
  formula (flt m n) = none_of (‵ (flt m n))
  formula (fsep P Q) = none_of (‵ (fsep P Q))
  formula (fand P Q) = none_of (‵ (fand P Q))
  formula (for P Q) = none_of (‵ (for P Q))
  formula (fwand P Q) = none_of (‵ (fwand P Q))
  formula (fex X F) = none_of (‵ (fex X F))
  formula (fall X F) = none_of (‵ (fall X F))
  formula (fupd P) = none_of (‵ (fupd P))
  formula (fdies τ b) = none_of (‵ (fdies τ b))
  formula (flft κ q) = none_of (‵ (flft κ q))
  formula (fdead κ) = none_of (‵ (fdead κ))
  formula (fobs γ u) = none_of (‵ (fobs γ u))
  formula (fauth γ u) = none_of (‵ (fauth γ u))
  formula (fres γ u) = none_of (‵ (fres γ u))
  formula (fbor κ P) = none_of (‵ (fbor κ P))
  formula (fobor κ q P) = none_of (‵ (fobor κ q P))
  formula (flent κ P) = none_of (‵ (flent κ P))
  formula (fshr_bor κ F) = none_of (‵ (fshr_bor κ F))
  formula (fhide P) = none_of (‵ (fhide P))
  formula (fleft q ω τs b o) = none_of (‵ (fleft q ω τs b o))
  formula (fown R γ u) = none_of (‵ (fown R γ u))
  formula (finv P) = none_of (‵ (finv P))
  formula (fnamed n P) = none_of (‵ (fnamed n P))
  formula (ftok ψ) = none_of (‵ (ftok ψ))
  formula (fkid h n) = none_of (‵ (fkid h n))
  formula (fme n) = none_of (‵ (fme n))
  formula (fsent n) = none_of (‵ (fsent n))

  abbrev pub cell : (i : Item 𝓤) → (k : Key) × ent 𝓤 (mean 𝓛 i) (empties k)
  cell (‵ F) = formula F
  cell (raw P) = none_of (raw P)
  cell (i ⊛ j) = none_of (i ⊛ j)
  cell (Item.some F) = none_of (Item.some F)
  cell (given φ i) = none_of (given φ i)
  cell (later i) = none_of (later i)

  abbrev pub key : Item 𝓤 → Key
  key i = (cell i).0

  -- an entry that has the key of the whole cell is room for one
  pub emptied : (i : Item 𝓤) (τ : Ty) (b : ℕ) → key i ≡ some (full_share, (τ, (b, zero))) → ent 𝓤 (mean 𝓛 i) (H.room τ b zero)
  emptied i τ b e =
      via 𝓤 (empties (some (full_share, (τ, (b, zero))))) (subst (λ (k : Key). ent 𝓤 (mean 𝓛 i) (empties k)) e (cell i).1)
      (all_e 𝓤 (λ (z : full_share ≡ full_share). H.room τ b zero) refl)

  -- ---- the frame
  abbrev pub env_of : (ls : List Local) → Blocks ls → Env 𝓤 H
  env_of [] bs = []
  env_of (l ∷ ls) bs = (ty_of 𝓤 H l, bs.0) ∷ env_of ls bs.1

  -- the frame before anything is stored in it
  abbrev pub rooms : Env 𝓤 H → List (Item 𝓤)
  rooms [] = []
  rooms (e ∷ E) = ‵ (froom e.0 e.1 zero) ∷ rooms E

  -- what frees the locals, in one entry
  abbrev pub deaths : Env 𝓤 H → Fml
  deaths [] = ftrue
  deaths (e ∷ E) = fsep (fdies e.0 e.1) (deaths E)

  -- the frame with these values in its first locals
  abbrev pub cells : Env 𝓤 H → List Val → List (Item 𝓤)
  cells E [] = rooms E
  cells [] (v ∷ vs) = []
  cells (e ∷ E) (v ∷ vs) = ‵ (fat full_share e.0 e.1 zero v) ∷ cells E vs

  -- the frame at the head of a loop: these locals hold a value
  abbrev pub frame_of : Env 𝓤 H → List (Option Val) → List (Item 𝓤)
  frame_of [] vs = []
  frame_of (e ∷ E) [] = ‵ (froom e.0 e.1 zero) ∷ frame_of E []
  frame_of (e ∷ E) (none ∷ vs) = ‵ (froom e.0 e.1 zero) ∷ frame_of E vs
  frame_of (e ∷ E) (some v ∷ vs) = ‵ (fat full_share e.0 e.1 zero v) ∷ frame_of E vs

  -- the arguments fit the parameters' types
  abbrev pub Fit : Env 𝓤 H → List Val → Type 0
  Fit E [] = Unit {0}
  Fit [] (v ∷ vs) = ⊥
  Fit (e ∷ E) (v ∷ vs) = (T (has_ty e.0 v) × WT v) × Fit E vs

  -- the result has no argument
  abbrev pub entry : Env 𝓤 H → List Val → List (Item 𝓤)
  entry [] vs = []
  entry (e ∷ E) vs = ‵ (froom e.0 e.1 zero) ∷ cells E vs

  abbrev pub Fits : Env 𝓤 H → List Val → Type 0
  Fits [] vs = ⊥
  Fits (e ∷ E) vs = Fit E vs

  allocated : (ls : List Local) (Kt : Env 𝓤 H → SProp 𝓤) (P : SProp 𝓤)
      → ((bs : Blocks ls) → ent 𝓤 (sep 𝓤 (⋆ 𝓛 (rooms (env_of ls bs))) (sep 𝓤 (sem 𝓛 (deaths (env_of ls bs))) P)) (Kt (env_of ls bs))) → ent 𝓤 P
      (alloc 𝓤 H ls Kt)
  allocated [] Kt P h = via 𝓤 (sep 𝓤 (emp 𝓤) (sep 𝓤 (emp 𝓤) P)) (via 𝓤 (sep 𝓤 (emp 𝓤) P) (emp∗ 𝓤 P) (mono_r 𝓤 (emp 𝓤) (emp∗ 𝓤 P))) (h tt)
  allocated (l ∷ ls) Kt P h =
      all_i 𝓤 (λ (b : ℕ). wand 𝓤 (sep 𝓤 (H.room (ty_of 𝓤 H l) b zero) (H.dies (ty_of 𝓤 H l) b)) (alloc 𝓤 H ls (λ E. Kt ((ty_of 𝓤 H l, b) ∷ E))))
      (λ b. wand_i 𝓤 P (sep 𝓤 (H.room (ty_of 𝓤 H l) b zero) (H.dies (ty_of 𝓤 H l) b)) (alloc 𝓤 H ls (λ E. Kt ((ty_of 𝓤 H l, b) ∷ E)))
      (allocated ls (λ E. Kt ((ty_of 𝓤 H l, b) ∷ E)) (sep 𝓤 P (sep 𝓤 (H.room (ty_of 𝓤 H l) b zero) (H.dies (ty_of 𝓤 H l) b)))
      (λ bs. via 𝓤 _ (turned l ls b bs P) (h (b, bs)))))
    where
      turned : (l : Local) (ls : List Local) (b : ℕ) (bs : Blocks ls) (P : SProp 𝓤)
          → ent 𝓤 (sep 𝓤 (⋆ 𝓛 (rooms (env_of ls bs))) (sep 𝓤 (sem 𝓛 (deaths (env_of ls bs)))
          (sep 𝓤 P (sep 𝓤 (H.room (ty_of 𝓤 H l) b zero) (H.dies (ty_of 𝓤 H l) b)))))
          (sep 𝓤 (⋆ 𝓛 (rooms (env_of (l ∷ ls) (b, bs)))) (sep 𝓤 (sem 𝓛 (deaths (env_of (l ∷ ls) (b, bs)))) P))
      turned l ls b bs P =
          qed 𝓛 (raw (⋆ 𝓛 (rooms (env_of ls bs))) ∷ ‵ (deaths (env_of ls bs)) ∷ raw P ∷ ‵ (froom (ty_of 𝓤 H l) b zero) ∷ ‵ (fdies (ty_of 𝓤 H l) b) ∷ []) ∵
          move ! (3 ∷ 0 ∷ 4 ∷ 1 ∷ []) $
          use2 𝓛 (raw (⋆ 𝓛 (rooms (env_of (l ∷ ls) (b, bs))))) (push 𝓛 (‵ (froom (ty_of 𝓤 H l) b zero)) (rooms (env_of ls bs))) $ frame ! $ fjoin ! $
          done !

  passed : (E : Env 𝓤 H) (vs : List Val) (P Q : SProp 𝓤) → Fit E vs → ent 𝓤 (sep 𝓤 (⋆ 𝓛 (cells E vs)) P) Q → ent 𝓤 (sep 𝓤 (⋆ 𝓛 (rooms E)) P)
      (pass 𝓤 H E vs Q)
  passed E [] P Q fits h = h
  passed [] (v ∷ vs) P Q fits h = absurd fits
  passed (e ∷ E) (v ∷ vs) P Q fits h =
      via 𝓤 (sep 𝓤 (H.room e.0 e.1 zero) (wand 𝓤 (H.at full_share e.0 e.1 zero v) (pass 𝓤 H E vs Q)))
      (qed 𝓛 ((raw (⋆ 𝓛 (rooms (e ∷ E)))) ∷ raw P ∷ []) ∵
      use1 𝓛 (‵ (froom e.0 e.1 zero) ⊛ raw (⋆ 𝓛 (rooms E))) (pop 𝓛 (‵ (froom e.0 e.1 zero)) (rooms E)) $ split ! $ frame ! $
      assume ! (‵ (fat full_share e.0 e.1 zero v)) $ move ! (1 ∷ 0 ∷ []) $
      by ! (passed E vs (sep 𝓤 (H.at full_share e.0 e.1 zero v) P) Q fits.1 (via 𝓤 _ (placed e E v vs P) h)))
      (guard_i 𝓤 (T (has_ty e.0 v) × WT v) _ fits.0)
    where
      placed : (e : Ty × ℕ) (E : Env 𝓤 H) (v : Val) (vs : List Val) (P : SProp 𝓤)
          → ent 𝓤 (sep 𝓤 (⋆ 𝓛 (cells E vs)) (sep 𝓤 (H.at full_share e.0 e.1 zero v) P)) (sep 𝓤 (⋆ 𝓛 (cells (e ∷ E) (v ∷ vs))) P)
      placed e E v vs P =
          qed 𝓛 (raw (⋆ 𝓛 (cells E vs)) ∷ ‵ (fat full_share e.0 e.1 zero v) ∷ raw P ∷ []) ∵ move ! (1 ∷ 0 ∷ []) $
          use2 𝓛 (raw (⋆ 𝓛 (cells (e ∷ E) (v ∷ vs)))) (push 𝓛 (‵ (fat full_share e.0 e.1 zero v)) (cells E vs)) $ done !

  -- the frees
  abbrev pub keys : Env 𝓤 H → List (Item 𝓤) → List Key
  keys [] Γ = []
  keys (e ∷ E) [] = none ∷ keys E []
  keys (e ∷ E) (i ∷ Γ) = key i ∷ keys E Γ

  -- the keys of a whole frame
  abbrev pub wants : Env 𝓤 H → List Key
  wants [] = []
  wants (e ∷ E) = some (full_share, (e.0, (e.1, zero))) ∷ wants E

  -- what stands behind the frame
  abbrev pub after : Env 𝓤 H → List (Item 𝓤) → List (Item 𝓤)
  after [] Γ = Γ
  after (e ∷ E) [] = after E []
  after (e ∷ E) (i ∷ Γ) = after E Γ

  abbrev head : List Key → Key
  head [] = none
  head (k ∷ ks) = k

  abbrev tail : List Key → List Key
  tail [] = []
  tail (k ∷ ks) = ks

  with_room : (x : Ty × ℕ) (E : Env 𝓤 H) (P Q R : SProp 𝓤) → ent 𝓤 P (H.room x.0 x.1 zero) → ent 𝓤 Q (sep 𝓤 (⋆ 𝓛 (rooms E)) R) → ent 𝓤 (sep 𝓤 P Q)
      (sep 𝓤 (⋆ 𝓛 (rooms (x ∷ E))) R)
  with_room x E P Q R h k =
      via 𝓤 (sep 𝓤 (H.room x.0 x.1 zero) (sep 𝓤 (⋆ 𝓛 (rooms E)) R)) (mono∗ 𝓤 h k)
      (via 𝓤 (sep 𝓤 (sep 𝓤 (H.room x.0 x.1 zero) (⋆ 𝓛 (rooms E))) R) (assoc' 𝓤 (H.room x.0 x.1 zero) (⋆ 𝓛 (rooms E)) R)
      (mono_l 𝓤 R (push 𝓛 (‵ (froom x.0 x.1 zero)) (rooms E))))

  all_emptied : (E : Env 𝓤 H) (Γ : List (Item 𝓤)) → keys E Γ ≡ wants E → ent 𝓤 (⋆ 𝓛 Γ) (sep 𝓤 (⋆ 𝓛 (rooms E)) (⋆ 𝓛 (after E Γ)))
  all_emptied [] Γ e = emp∗ 𝓤 (⋆ 𝓛 Γ)
  all_emptied (x ∷ E) [] e = via 𝓤 (sep 𝓤 (emp 𝓤) (emp 𝓤)) (emp∗ 𝓤 (emp 𝓤)) (with_room x E (emp 𝓤) (emp 𝓤) (⋆ 𝓛 (after E []))
      (via 𝓤 (empties (some (full_share, (x.0, (x.1, zero))))) (subst (λ (k : Key). ent 𝓤 (emp 𝓤) (empties k)) (ap head e) (id⊢ 𝓤 (emp 𝓤)))
      (all_e 𝓤 (λ (z : full_share ≡ full_share). H.room x.0 x.1 zero) refl)) (all_emptied E [] (ap tail e)))
  all_emptied (x ∷ E) (i ∷ Γ) e = via 𝓤 (sep 𝓤 (mean 𝓛 i) (⋆ 𝓛 Γ)) (pop 𝓛 i Γ)
      (with_room x E (mean 𝓛 i) (⋆ 𝓛 Γ) (⋆ 𝓛 (after E Γ)) (emptied i x.0 x.1 (ap head e)) (all_emptied E Γ (ap tail e)))

  released : (E : Env 𝓤 H) (P : SProp 𝓤) → ent 𝓤 (sep 𝓤 (⋆ 𝓛 (rooms E)) (sep 𝓤 (sem 𝓛 (deaths E)) P)) (release 𝓤 H E P)
  released [] P = via 𝓤 (sep 𝓤 (emp 𝓤) P) (snd∗ 𝓤 (emp 𝓤) (sep 𝓤 (emp 𝓤) P)) (snd∗ 𝓤 (emp 𝓤) P)
  released (x ∷ E) P =
      qed 𝓛 (raw (⋆ 𝓛 (rooms (x ∷ E))) ∷ ‵ (deaths (x ∷ E)) ∷ raw P ∷ []) ∵
      use1 𝓛 (‵ (froom x.0 x.1 zero) ⊛ raw (⋆ 𝓛 (rooms E))) (pop 𝓛 (‵ (froom x.0 x.1 zero)) (rooms E)) $ split ! $ move ! (2 ∷ []) $
      fsplit ! $
      move ! (2 ∷ 0 ∷ []) $ join ! $ frame ! $ move ! (1 ∷ 0 ∷ []) $ by ! (released E P)

module _ {M : Type 1} {𝓤 : Ura M} {𝓛 : Logic 𝓤} {K : Type 0} {Γ : List (Item 𝓤)} where
  -- a function is entered: its locals are there, its arguments stored
  open 𝓛 use {H}

  pub begins : K → (C : Calls 𝓤 H) (Λ : Loops 𝓤 H) (f : Fn) (vs : List Val) (Kf : Val → SProp 𝓤) →
      ((bs : Blocks f.locals) → Fits 𝓛 (env_of 𝓛 f.locals bs) vs)
      → ((bs : Blocks f.locals) → Seq K 𝓛 (entry 𝓛 (env_of 𝓛 f.locals bs) vs ++ (‵ (deaths 𝓛 (env_of 𝓛 f.locals bs)) ∷ Γ))
      (runs C Λ (env_of 𝓛 f.locals bs) f.body (at_ret (env_of 𝓛 f.locals bs) Kf)))
      → Seq K 𝓛 Γ (prop (WpFn 𝓤 H C Λ f vs Kf))
  unfolding WpFn
  begins t C Λ f vs Kf fits k = record { prf = allocated 𝓛 f.locals _ (⋆ 𝓛 Γ) (λ bs. started (env_of 𝓛 f.locals bs) _ (fits bs) (k bs).prf) }
    where
      started : (E : Env 𝓤 H) (Q : SProp 𝓤) → Fits 𝓛 E vs → ent 𝓤 (⋆ 𝓛 (entry 𝓛 E vs ++ (‵ (deaths 𝓛 E) ∷ Γ))) Q
          → ent 𝓤 (sep 𝓤 (⋆ 𝓛 (rooms 𝓛 E)) (sep 𝓤 (sem 𝓛 (deaths 𝓛 E)) (⋆ 𝓛 Γ))) (params 𝓤 H E vs Q)
      started [] Q z h = absurd z
      started (e ∷ E) Q z h =
          via 𝓤 (sep 𝓤 (⋆ 𝓛 (rooms 𝓛 E)) (sep 𝓤 (H.room e.0 e.1 zero) (sep 𝓤 (sem 𝓛 (deaths 𝓛 (e ∷ E))) (⋆ 𝓛 Γ))))
          (qed 𝓛 (raw (⋆ 𝓛 (rooms 𝓛 (e ∷ E))) ∷ ‵ (deaths 𝓛 (e ∷ E)) ∷ raw (⋆ 𝓛 Γ) ∷ []) ∵
          use1 𝓛 (‵ (froom e.0 e.1 zero) ⊛ raw (⋆ 𝓛 (rooms 𝓛 E))) (pop 𝓛 (‵ (froom e.0 e.1 zero)) (rooms 𝓛 E)) $ split ! $
          move ! (1 ∷ 0 ∷ []) $ done !)
          (passed 𝓛 E vs (sep 𝓤 (H.room e.0 e.1 zero) (sep 𝓤 (sem 𝓛 (deaths 𝓛 (e ∷ E))) (⋆ 𝓛 Γ))) Q z
          (via 𝓤 (⋆ 𝓛 (entry 𝓛 (e ∷ E) vs ++ (‵ (deaths 𝓛 (e ∷ E)) ∷ Γ)))
          (qed 𝓛 (raw (⋆ 𝓛 (cells 𝓛 E vs)) ∷ ‵ (froom e.0 e.1 zero) ∷ ‵ (deaths 𝓛 (e ∷ E)) ∷ raw (⋆ 𝓛 Γ) ∷ []) ∵ move ! (1 ∷ 0 ∷ []) $
          use2 𝓛 (raw (⋆ 𝓛 (entry 𝓛 (e ∷ E) vs))) (push 𝓛 (‵ (froom e.0 e.1 zero)) (cells 𝓛 E vs)) $ move ! (1 ∷ 2 ∷ []) $
          use2 𝓛 (raw (⋆ 𝓛 (‵ (deaths 𝓛 (e ∷ E)) ∷ Γ))) (push 𝓛 (‵ (deaths 𝓛 (e ∷ E))) Γ) $ move ! (1 ∷ 0 ∷ []) $
          by ! (++⊢ 𝓛 (entry 𝓛 (e ∷ E) vs) (‵ (deaths 𝓛 (e ∷ E)) ∷ Γ))) h))

  -- a function is left: its locals are freed, whatever they hold
  pub leaves : K → {E : Env 𝓤 H} {g : Goal 𝓤 H} {Δ : List (Item 𝓤)} → keys 𝓛 E Γ ≡ wants 𝓛 E → after 𝓛 E Γ ≡ ‵ (deaths 𝓛 E) ∷ Δ → Step K 𝓛 Δ g Γ (frees E g)
  leaves t {E} {g} {Δ} e d = step (λ s. record {
    prf = via 𝓤 (sep 𝓤 (⋆ 𝓛 (rooms 𝓛 E)) (⋆ 𝓛 (‵ (deaths 𝓛 E) ∷ Δ))) (subst
        (λ (Θ : List (Item 𝓤)). ent 𝓤 (⋆ 𝓛 Γ) (sep 𝓤 (⋆ 𝓛 (rooms 𝓛 E)) (⋆ 𝓛 Θ))) d (all_emptied 𝓛 E Γ e))
        (via 𝓤 (sep 𝓤 (⋆ 𝓛 (rooms 𝓛 E)) (sep 𝓤 (sem 𝓛 (deaths 𝓛 E)) (aim 𝓤 H g)))
        (mono_r 𝓤 (⋆ 𝓛 (rooms 𝓛 E)) (via 𝓤 (sep 𝓤 (sem 𝓛 (deaths 𝓛 E)) (⋆ 𝓛 Δ)) (pop 𝓛 (‵ (deaths 𝓛 E)) Δ)
        (mono_r 𝓤 (sem 𝓛 (deaths 𝓛 E)) s.prf)))
        (released 𝓛 E (aim 𝓤 H g)));
  })

  -- entry k is a cell or room for one: it is written
  pub fills : K → (k : ℕ) {τ : Ty} {b : ℕ} {v : Val} → key 𝓛 (nth 𝓛 k Γ) ≡ some (full_share, (τ, (b, zero))) → T (has_ty τ v) × WT v → Writes K 𝓛 Γ τ b zero
      v (put 𝓛 k (‵ (fat full_share τ b zero v)) Γ)
  fills t k {τ} {b} {v} e wt = record {
    go = λ P h.
        via 𝓤 (sep 𝓤 (H.room τ b zero) (wand 𝓤 (H.at full_share τ b zero v) P))
        (via 𝓤 (sep 𝓤 (mean 𝓛 (nth 𝓛 k Γ)) (⋆ 𝓛 (del 𝓛 k Γ))) (pull 𝓛 k Γ)
        (mono∗ 𝓤 (emptied 𝓛 (nth 𝓛 k Γ) τ b e) (wand_i 𝓤 (⋆ 𝓛 (del 𝓛 k Γ)) (H.at full_share τ b zero v) P
        (via 𝓤 (sep 𝓤 (H.at full_share τ b zero v) (⋆ 𝓛 (del 𝓛 k Γ))) (comm∗ 𝓤 (⋆ 𝓛 (del 𝓛 k Γ)) (H.at full_share τ b zero v))
        (via 𝓤 (⋆ 𝓛 (put 𝓛 k (‵ (fat full_share τ b zero v)) Γ)) (fill 𝓛 k (‵ (fat full_share τ b zero v)) Γ) h)))))
        (guard_i 𝓤 (T (has_ty τ v) × WT v) (sep 𝓤 (H.room τ b zero) (wand 𝓤 (H.at full_share τ b zero v) P)) wt);
  }

  module _ {E : Env 𝓤 H} where
    pub var : K → {k : ℕ} {q : Share} {v : Val} → nth 𝓛 k Γ ≡ ‵ (fat q (spot_of 𝓤 H E k).0 (spot_of 𝓤 H E k).1 zero v) → Opd K 𝓛 Γ E (copy (place k [])) v
    var t {k} e = load t (from t (stop t)) (look t k e)

    -- field n of local k, which is a struct
    pub piece : K → {k n : ℕ} {q : Share} {ν : Sym} {τs : Tys} {vs : Vals} {τ : Ty} {d : ℕ} → (spot_of 𝓤 H E k).0 ≡ ty_struct ν τs
        → nth 𝓛 k Γ ≡ ‵ (fat q (ty_struct ν τs) (spot_of 𝓤 H E k).1 zero (vstruct vs)) → field_at zero τs n ≡ some (τ, d) → Opd K 𝓛 Γ E
        (copy (place k (field n ∷ []))) (get_v vs n)
    piece t {k} {n} {q} {ν} {τs} {vs} {τ} {d} s e f =
        load t (from t (fld t (subst (λ (σ : Ty). field_of σ n ≡ some (τ, d)) (sym s) f) (stop t)))
        (look_in t k (subst (λ (i : Item 𝓤). Part K 𝓛 i q τ (spot_of 𝓤 H E k).1 (zero + d) (get_v vs n)
        (λ u. ‵ (fat q (ty_struct ν τs) (spot_of 𝓤 H E k).1 zero (vstruct (set_v vs n u))))) (sym e) (sub t n f (whole t))))

    module _ {C : Calls 𝓤 H} {Λ : Loops 𝓤 H} {q : Post 𝓤 H} where
      pub sets : K → {k : ℕ} {rv : RValue} {rest : Body} {v : Val} → Rv K 𝓛 Γ E rv v → key 𝓛 (nth 𝓛 k Γ) ≡ some
          (full_share, ((spot_of 𝓤 H E k).0, ((spot_of 𝓤 H E k).1, zero)))
          → T (has_ty (spot_of 𝓤 H E k).0 v) × WT v
          → Step K 𝓛 (put 𝓛 k (‵ (fat full_share (spot_of 𝓤 H E k).0 (spot_of 𝓤 H E k).1 zero v)) Γ) (runs C Λ E rest q) Γ
          (runs C Λ E (seq (assign (place k []) rv) rest) q)
      sets t {k} r e wt = assigns t r (from t (stop t)) (fills t k e wt)

      -- `if c { a }`, and then the rest
      pub ifs : K → {c : Operand} {a rest : Body} {y : Bool} → Opd K 𝓛 Γ E c (vbool y) →
          (T y → Seq K 𝓛 Γ (runs C Λ E a (any_q (after_seq 𝓤 H (Wp 𝓤 H C Λ E rest (post 𝓤 H q)) (post 𝓤 H q)))))
          → (T (not y) → Seq K 𝓛 Γ (runs C Λ E rest q)) → Seq K 𝓛 Γ (runs C Λ E (seq (cond c a skip) rest) q)
      ifs t o held failed = first t $ branches t o held (λ n. skips t $ record { prf = (failed n).prf })
