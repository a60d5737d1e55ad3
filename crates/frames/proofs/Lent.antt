-- Walks over a lent run of plain values: the run is opened at the start and closed at the end, once for all functions whose first parameter is a run and whose
-- others are plain. Assumes nothing.
-- In the walk the context is [the locals; what frees them; the run; what closes it].
use mathlib.Core.Path.{◌≡◌, refl, sym, ap, subst}
use mathlib.Core.List.{List, [], ◌∷◌, ◌++◌}
use Prim.Native.Nat.{ℕ}
use lib.ListN.{length}
use seplogic.Ra.Ura.{Ura}
use base.Fraction.{full_share}
use mir.Syntax.{Local, Fn, Ty, named, mut, imm, ty_ref, local, value_local}
use mir.Val.{Val}
use base.Logic.{SProp, ent, sep, emp, ex, via, id⊢, comm∗, mono_r, fst∗, ex∗, emp∗}
use base.Fml.{Fml, GName, Share, ftrue, fsep, flft, fobs, fauth, fbor, fobor, fhide}
use prog.Wp.{WpFn, Tables}
use types.Logic.{Logic, sem}
use contract.Lifetimes.{Lfts, Shares}
use contract.Monad.{fact}
use sound.WpLaws.{WpFn-mono}
use types.Kit.{pick, Item, ‵, raw, ◌⊛◌, some, ⋆, ++⊢, ⊢++, Goal, Soaks, soak, aim, runs, at_ret, Seq, Sq, ◌$◌, ◌∵◌, !, qed, by, move, keep, split, join}
use types.Kit.{fsplit, fjoin, frame, use0, use1, later, await, updating, now as at_once, show, done}
use denote.Exit.{yes, Exit, Last, left}
use denote.RattleType.{Valss, owns}
use denote.Shadow.{pure_i}
use denote.Laws.{Is, valss}
use denote.Ref.{Bor, MutBor}
use denote.Slice.{slice_ty, slice_val, heres, Room, shr_slice_vals, mut_slice_vals, mut_slice_Tells, shr_slice_Tells, mut_slice_at, coded_holeys}
use denote.Slice.{elements_shared}
use denote.Opens.{Shut as WayBack}
use denote.Memory.{pointee}
use denote.Lend.{Held}
use denote.Index.{row, opens_slice, closes_slice, looks_slice, shuts_slice}
use denote.Signature.{plain, types_at, mut_slice_of, shr_slice_of}
use denote.Steps.{nothing, owned}
use denote.Triple.End.{all, Fins}
use denote.Triple.Entry.{on_entry}
use denote.Triple.Clauses.{Ended, Clauses, closing}
use denote.Triple.Spec.{Meets}
use denote.Triple.Walked.{says, Stays, stay_slice, stay_dropped, has_of, fits_of, Ending, walk_of, ends_at, walked, Goes-slice, Goes-dropped, AllGo, walk_Meets}
use Rattle.frames.proofs.Frame.{Blocks, env_of, deaths, entry, Fit, Fits, begins}
use Rattle.frames.proofs.Rows.{Plainly, slots, Ins, spelled, told, Good, words, typed}

-- what stands at the end of the context is replaced by what it entails after an update
module _ {M : Type 1} {𝓤 : Ura M} {𝓛 : Logic 𝓤} {K : Type 0} {G : Goal 𝓤 𝓛.H} where
  open 𝓛 use {H}

  under : Soaks G → (Δ Γ : List (Item 𝓤)) {X : Type 0} (Γ' : X → List (Item 𝓤)) → ent 𝓤 (⋆ 𝓛 Γ) (H.⇛ (ex 𝓤 (λ (x : X). ⋆ 𝓛 (Γ' x)))) →
      ((x : X) → Seq K 𝓛 (Δ ++ Γ' x) G) → Seq K 𝓛 (Δ ++ Γ) G
  under z Δ Γ {X} Γ' h k = record {
    prf = via 𝓤 (sep 𝓤 (⋆ 𝓛 Δ) (⋆ 𝓛 Γ)) (⊢++ 𝓛 Δ Γ)
        (via 𝓤 (sep 𝓤 (H.⇛ (ex 𝓤 (λ (x : X). ⋆ 𝓛 (Γ' x)))) (⋆ 𝓛 Δ)) (via 𝓤 (sep 𝓤 (⋆ 𝓛 Δ) (H.⇛ (ex 𝓤 (λ (x : X). ⋆ 𝓛 (Γ' x)))))
        (mono_r 𝓤 (⋆ 𝓛 Δ) h) (comm∗ 𝓤 (⋆ 𝓛 Δ) (H.⇛ (ex 𝓤 (λ (x : X). ⋆ 𝓛 (Γ' x))))))
        (via 𝓤 (H.⇛ (sep 𝓤 (ex 𝓤 (λ (x : X). ⋆ 𝓛 (Γ' x))) (⋆ 𝓛 Δ))) (𝓛.laws.⇛_frame (ex 𝓤 (λ (x : X). ⋆ 𝓛 (Γ' x))) (⋆ 𝓛 Δ))
        (via 𝓤 (H.⇛ (aim 𝓤 H G)) (𝓛.laws.⇛_mono (sep 𝓤 (ex 𝓤 (λ (x : X). ⋆ 𝓛 (Γ' x))) (⋆ 𝓛 Δ)) (aim 𝓤 H G)
        (ex∗ 𝓤 (λ (x : X). ⋆ 𝓛 (Γ' x)) (⋆ 𝓛 Δ) (λ x. via 𝓤 (sep 𝓤 (⋆ 𝓛 Δ) (⋆ 𝓛 (Γ' x))) (comm∗ 𝓤 (⋆ 𝓛 (Γ' x)) (⋆ 𝓛 Δ))
        (via 𝓤 (⋆ 𝓛 (Δ ++ Γ' x)) (++⊢ 𝓛 Δ (Γ' x)) (k x).prf))))
        (soak 𝓤 H 𝓛.laws G z))));
  }

-- ---- the plain parameters: nothing is had of them at exit
abbrev pub dropped : (n : ℕ) (Ps : List Plainly) → Stays (slots {n = n} Ps) (all yes (slots {n = n} Ps))
dropped n [] = tt
dropped n (P ∷ Ps) = (stay_dropped (plain (λ _. P.row)) yes, dropped n Ps)

abbrev last : (P : Plainly) (x : P.row.Denot) → Last (P.row.exit yes) x
last P x = subst (λ (e : Exit P.row.Denot). Last e x) (sym P.still) tt

module _ (n : ℕ) (κs : Lfts n) where
  abbrev pub lastly : (Ps : List Plainly) (a : Ins n κs Ps) → Fins κs (slots Ps) (all yes (slots Ps)) a
  lastly [] a = tt
  lastly (P ∷ Ps) a = (last P a.0, lastly Ps a.1)

  pub fitting : (Ps : List Plainly) (a : Ins n κs Ps) → fits_of κs (slots Ps) (all yes (slots Ps)) (dropped n Ps) a (lastly Ps a)
  fitting [] a = tt
  fitting (P ∷ Ps) a = (tt, fitting Ps a.1)

  module _ {M : Type 1} {𝓤 : Ura M} (𝓛 : Logic 𝓤) where
    pub had : (Ps : List Plainly) (a : Ins n κs Ps) (vss : Valss (types_at (slots Ps) κs)) → ent 𝓤 (emp 𝓤)
        (sem 𝓛 (has_of κs (slots Ps) (all yes (slots Ps)) (dropped n Ps) a (lastly Ps a) vss))
    had [] a vss = id⊢ 𝓤 (emp 𝓤)
    had (P ∷ Ps) a vss = via 𝓤 (sep 𝓤 (emp 𝓤) (emp 𝓤)) (emp∗ 𝓤 (emp 𝓤)) (mono_r 𝓤 (emp 𝓤) (had Ps a.1 vss.1))

pub going : {M : Type 1} {𝓤 : Ura M} (𝓛 : Logic 𝓤) (n : ℕ) (Ps : List Plainly) → AllGo 𝓛 n (slots Ps) (all yes (slots Ps))
    (dropped n Ps)
going 𝓛 n [] = tt
going 𝓛 n (P ∷ Ps) = (
  Goes-dropped 𝓛 n (plain (λ _. P.row)) yes (λ κs. subst (λ (e : Exit P.row.Denot). (x : P.row.Denot) (f : Last e x) → left e x f ≡ ftrue)
      (sym P.still) (λ x f. refl)),
  going 𝓛 n Ps,
)

-- ---- the frame of such a function: the result, the run, the parameters, and what else it has
-- a local of a type
abbrev pub of : Ty → Local
of τ = local τ value_local

abbrev pub params : List Plainly → List Local
params [] = []
params (P ∷ Ps) = of P.ty ∷ params Ps

fit_all : {M : Type 1} {𝓤 : Ura M} (𝓛 : Logic 𝓤) (κs : Lfts 1) (Ps : List Plainly) (a : Ins 1 κs Ps) → Good 1 κs Ps a →
    (rest : List Local) (bs : Blocks (params Ps ++ rest))
    → Fit 𝓛 (env_of 𝓛 (params Ps ++ rest) bs) (words 1 κs Ps a)
fit_all 𝓛 κs [] a is rest bs = tt
fit_all 𝓛 κs (P ∷ Ps) a is rest bs = (typed P 𝓛 a.0 (P.val a.0) is.0, fit_all 𝓛 κs Ps a.1 is.1 rest bs.1)

-- ---- a function over a run that may be changed: φ says what it gives and leaves
module _ (P : Plainly) (Ps : List Plainly) (Q : Plainly) where
  abbrev pub lent : Ended
  lent = record {
    signature = record { lifetimes = 1; outlives = []; params = mut_slice_of (0 ∷ []) tt (plain (λ _. P.row)) ∷ slots Ps; result = plain (λ _. Q.row) };
    kept = (yes, all yes (slots Ps));
  }

  abbrev stayed : Stays lent.signature.params lent.kept
  stayed = (stay_slice (0 ∷ []) tt (plain (λ _. P.row)), dropped 1 Ps)

  -- of the list on entry, the arguments, the result and the list at exit
  abbrev pub Says : Type 1
  Says = (κs : Lfts 1) → List P.row.Denot → Ins 1 κs Ps → Q.row.Denot → List P.row.Denot → Type 0

  module _ {M : Type 1} {𝓤 : Ura M} (𝓛 : Logic 𝓤) (φ : Says) where
    open 𝓛 use {H}

    abbrev pub lending : Clauses 𝓤 lent
    lending κs a = record { ghost = Unit {0}; requires = λ _. emp 𝓤; ensures = λ _ r e. fact 𝓤 (φ κs a.0.now a.1 r e.0.now) }

    module _ (κs : Lfts 1) (qs : Shares 1) (b o : ℕ) (γ : GName) (ys : List P.row.Denot) (a : Ins 1 κs Ps) where
      abbrev Shut : Fml
      Shut = fsep (fobor κs.0 qs.0 (Held P.row (length ys) b o γ)) (fsep (fobs γ ((coded_holeys P.row).code (heres P.row ys)))
          (fauth γ ((coded_holeys P.row).code (heres P.row ys))))

      opened : ent 𝓤 (⋆ 𝓛 (‵ (fobs γ ((coded_holeys P.row).code (heres P.row ys))) ∷ ‵ (fbor κs.0 (Held P.row (length ys) b o γ)) ∷ ‵
          (flft κs.0 qs.0) ∷ []))
          (H.⇛ (⋆ 𝓛 (‵ (row P.row full_share ys b o) ∷ ‵ Shut ∷ [])))
      opened = qed 𝓛 (‵ (fobs γ ((coded_holeys P.row).code (heres P.row ys))) ∷ ‵ (fbor κs.0 (Held P.row (length ys) b o γ)) ∷ ‵
          (flft κs.0 qs.0) ∷ []) ∵
          updating ! $ opens_slice ! tt P.row ys b o $ at_once ! $ frame ! $ move ! (1 ∷ 2 ∷ []) $ fjoin ! $ move ! (1 ∷ 0 ∷ []) $ fjoin ! $ done !

      abbrev at : MutBor (List P.row.Denot)
      at = record { ref_ptr = (b, o); ghost_name = γ; now = ys }

      abbrev vss : Valss (types_at (slots {n = 1} Ps) κs)
      vss = valss (types_at (slots {n = 1} Ps) κs) (spelled 1 κs Ps) a

      abbrev Bound : (walk_of 𝓛 lent stayed lending).Ghost
      Bound = ((κs, qs, tt, (at, a), (mut_slice_vals at, vss)), tt)

      abbrev Post : Val → SProp 𝓤
      Post = (walk_of 𝓛 lent stayed lending).post Bound

      closed : Room P.row (length ys) → (zs : List P.row.Denot) (r : Q.row.Denot) → length zs ≡ length ys → φ κs ys a r zs → Is Q.row r
          (Q.val r ∷ [])
          → ent 𝓤 (⋆ 𝓛 (‵ (row P.row full_share zs b o) ∷ ‵ Shut ∷ [])) (Post (Q.val r))
      closed gn zs r same said is =
          qed 𝓛 (‵ (row P.row full_share zs b o) ∷ ‵ Shut ∷ []) ∵ updating ! $ move ! (1 ∷ []) $ fsplit ! $ move ! (1 ∷ []) $ fsplit ! $
          move ! (3 ∷ 2 ∷ 0 ∷ 1 ∷ []) $
          closes_slice ! tt P.row ys zs same b o $ by ! (via 𝓤 _ ending (ends_at 𝓛 lent stayed lending Bound (Q.val r) r (zs, lastly 1 κs Ps a)
          (same, fitting 1 κs Ps a)))
        where
          ending : ent 𝓤 (⋆ 𝓛 (‵ (fobs γ ((coded_holeys P.row).code (heres P.row zs))) ∷ ‵ (fbor κs.0 (Held P.row (length zs) b o γ)) ∷ ‵
              (flft κs.0 qs.0) ∷ []))
              (Ending 𝓛 lent stayed lending Bound (Q.val r) r (zs, lastly 1 κs Ps a))
          ending = qed 𝓛 (‵ (fobs γ ((coded_holeys P.row).code (heres P.row zs))) ∷ ‵ (fbor κs.0 (Held P.row (length zs) b o γ)) ∷ ‵
              (flft κs.0 qs.0) ∷ []) ∵
              says ! said $ nothing ! $ move ! (3 ∷ 0 ∷ []) $ join ! $ frame ! $ fjoin ! $
              pure_i ! (mut_slice_at P.row (record { ref_ptr = (b, o); ghost_name = γ; now = zs }) (mut_slice_vals at)) (tt, (tt, tt))
              (ap (λ (m : ℕ). slice_val (b, o) m ∷ []) (sym same), subst (Room P.row) (sym same) gn) $ fjoin ! $
              use0 𝓛 (‵ (has_of κs (slots Ps) (all yes (slots Ps)) (dropped 1 Ps) a (lastly 1 κs Ps a) vss)) (had 1 κs 𝓛 Ps a vss) $ move ! (1 ∷ 0 ∷ []) $
              fjoin ! $ frame ! $
              owned ! Q.row (Is Q.row) (Q.makes 𝓛) r (Q.val r ∷ []) is $ done !

    -- what closes the run, at the list zs and the result r
    abbrev pub Closes : (κs : Lfts 1) (b o : ℕ) (ys : List P.row.Denot) (a : Ins 1 κs Ps) → (Val → SProp 𝓤) → Fml → Type 1
    Closes κs b o ys a Post S = (zs : List P.row.Denot) (r : Q.row.Denot) → length zs ≡ length ys → φ κs ys a r zs → Is Q.row r (Q.val r ∷ [])
        → ent 𝓤 (⋆ 𝓛 (‵ (row P.row full_share zs b o) ∷ ‵ S ∷ [])) (Post (Q.val r))

    module _ (𝓣 : Tables 𝓤 H) (f : Fn) where
      -- what a proof of such a function has to give: the steps of its body, from its first context to its return
      abbrev pub Walk : Type 2
      Walk = (κs : Lfts 1) (b o : ℕ) (ys : List P.row.Denot) (a : Ins 1 κs Ps) → Room P.row (length ys) → Good 1 κs Ps a → (Post : Val → SProp 𝓤)
          (S : Fml) → Closes κs b o ys a Post S
          → (bs : Blocks f.locals) → Sq 𝓛 (entry 𝓛 (env_of 𝓛 f.locals bs) (slice_val (b, o) (length ys) ∷ words 1 κs Ps a) ++
          (‵ (deaths 𝓛 (env_of 𝓛 f.locals bs)) ∷ ‵ (row P.row full_share ys b o) ∷ ‵ S ∷ []))
          (runs 𝓣.C 𝓣.Λ (env_of 𝓛 f.locals bs) f.body (at_ret (env_of 𝓛 f.locals bs) Post))

      pub lends : (rest : List Local) → f.locals ≡ of Q.ty ∷ of (slice_ty (ty_ref (named 0) mut (pointee P.row.written))) ∷ (params Ps ++ rest) → Walk
          → Meets 𝓛 lent.signature (WpFn 𝓤 H 𝓣.C 𝓣.Λ f) (closing 𝓛 lent lending)
      lends rest same walk =
          walk_Meets 𝓛 lent stayed (Goes-slice 𝓛 1 0 tt (plain (λ _. P.row)), going 𝓛 1 Ps) lending (WpFn 𝓤 H 𝓣.C 𝓣.Λ f)
          (WpFn-mono 𝓤 H 𝓛.laws 𝓣 f)
          (walked 𝓛 lent stayed lending (WpFn 𝓤 H 𝓣.C 𝓣.Λ f) (λ κs. (mut_slice_vals, spelled 1 κs Ps))
          (λ κs. (mut_slice_Tells (named 0) κs.0 P.row, told 1 κs Ps))
          (λ κs qs bounds a _ are. via 𝓤 _ (fst∗ 𝓤 _ (emp 𝓤)) (run κs qs a.0.ref_ptr.0 a.0.ref_ptr.1 a.0.ghost_name a.0.now a.1 are.0.0.1
          are.1)))
        where
          run : (κs : Lfts 1) (qs : Shares 1) (b o : ℕ) (γ : GName) (ys : List P.row.Denot) (a : Ins 1 κs Ps) → Room P.row (length ys) → Good 1 κs Ps a
              → ent 𝓤 (on_entry 𝓛 lent.signature κs qs (record { ref_ptr = (b, o); ghost_name = γ; now = ys }, a)
              (slice_val (b, o) (length ys) ∷ [], vss κs qs b o γ ys a))
              (WpFn 𝓤 H 𝓣.C 𝓣.Λ f (slice_val (b, o) (length ys) ∷ words 1 κs Ps a) (Post κs qs b o γ ys a))
          run κs qs b o γ ys a gn good =
              qed 𝓛 ((‵ (flft κs.0 qs.0) ⊛ ‵ ftrue) ∷ ‵ (owns (types_at lent.signature.params κs) (at κs qs b o γ ys a, a)
              (slice_val (b, o) (length ys) ∷ [], vss κs qs b o γ ys a)) ∷ []) ∵
              split ! $ move ! (2 ∷ []) $ fsplit ! $ fsplit ! $ move ! (1 ∷ []) $ fsplit ! $ keep ! (0 ∷ 1 ∷ 4 ∷ []) $
              begins ! 𝓣.C 𝓣.Λ f (slice_val (b, o) (length ys) ∷ words 1 κs Ps a) (Post κs qs b o γ ys a)
              (subst (λ (ls : List Local). (bs : Blocks ls) → Fits 𝓛 (env_of 𝓛 ls bs) (slice_val (b, o) (length ys) ∷ words 1 κs Ps a)) (sym same)
              (λ bs. ((tt, (tt, (record { fits = gn.0 }, tt))), fit_all 𝓛 κs Ps a good rest bs.1.1)))
              (λ bs. under tt (entry 𝓛 (env_of 𝓛 f.locals bs) (slice_val (b, o) (length ys) ∷ words 1 κs Ps a)) _ {X = Unit {0}}
              (λ _. ‵ (deaths 𝓛 (env_of 𝓛 f.locals bs)) ∷ ‵ (row P.row full_share ys b o) ∷ ‵ (Shut κs qs b o γ ys a) ∷ []) (opens bs)
              (λ _. walk κs b o ys a gn good (Post κs qs b o γ ys a) (Shut κs qs b o γ ys a) (closed κs qs b o γ ys a gn) bs))
            where
              opens : (bs : Blocks f.locals) → ent 𝓤 (⋆ 𝓛 (‵ (deaths 𝓛 (env_of 𝓛 f.locals bs)) ∷ ‵
                  (fobs γ ((coded_holeys P.row).code (heres P.row ys)))
                  ∷ ‵ (fbor κs.0 (Held P.row (length ys) b o γ)) ∷ ‵ (flft κs.0 qs.0) ∷ []))
                  (H.⇛ (ex 𝓤 (λ (_ : Unit {0}). ⋆ 𝓛 (‵ (deaths 𝓛 (env_of 𝓛 f.locals bs)) ∷ ‵ (row P.row full_share ys b o) ∷ ‵
                  (Shut κs qs b o γ ys a) ∷ []))))
              opens bs =
                  qed 𝓛 (‵ (deaths 𝓛 (env_of 𝓛 f.locals bs)) ∷ raw (⋆ 𝓛 (‵ (fobs γ ((coded_holeys P.row).code (heres P.row ys))) ∷ ‵
                  (fbor κs.0 (Held P.row (length ys) b o γ)) ∷ ‵ (flft κs.0 qs.0) ∷ [])) ∷ []) ∵
                  updating ! $ move ! (1 ∷ []) $ use1 𝓛 (later (raw (⋆ 𝓛 (‵ (row P.row full_share ys b o) ∷ ‵ (Shut κs qs b o γ ys a) ∷ []))))
                  (opened κs qs b o γ ys a) $ await ! tt $ at_once ! $
                  show ! (λ (_ : Unit {0}). ⋆ 𝓛 (‵ (deaths 𝓛 (env_of 𝓛 f.locals bs)) ∷ ‵ (row P.row full_share ys b o) ∷ ‵ (Shut κs qs b o γ ys a) ∷
                  [])) tt $ move ! (1 ∷ 0 ∷ []) $ done !

-- ---- a function over a run that is only read: φ says what it gives
module _ (P : Plainly) (Ps : List Plainly) (Q : Plainly) where
  abbrev pub shown : Ended
  shown = record {
    signature = record { lifetimes = 1; outlives = []; params = shr_slice_of (0 ∷ []) tt (plain (λ _. P.row)) ∷ slots Ps; result = plain (λ _. Q.row) };
    kept = (yes, all yes (slots Ps));
  }

  abbrev staying : Stays shown.signature.params shown.kept
  staying = (stay_dropped (shr_slice_of (0 ∷ []) tt (plain (λ _. P.row))) yes, dropped 1 Ps)

  -- of the list, the arguments and the result
  abbrev pub Tells : Type 1
  Tells = (κs : Lfts 1) → List P.row.Denot → Ins 1 κs Ps → Q.row.Denot → Type 0

  module _ {M : Type 1} {𝓤 : Ura M} (𝓛 : Logic 𝓤) (φ : Tells) where
    open 𝓛 use {H}

    abbrev pub showing : Clauses 𝓤 shown
    showing κs a = record { ghost = Unit {0}; requires = λ _. emp 𝓤; ensures = λ _ r e. fact 𝓤 (φ κs a.0.now a.1 r) }

    module _ (κs : Lfts 1) (qs : Shares 1) (b o : ℕ) (ys : List P.row.Denot) (a : Ins 1 κs Ps) where
      -- what the reference owns of the run, and the token's way back once a share of it was taken
      abbrev Whole : Fml
      Whole = fhide (elements_shared P.row ys b o κs.0)

      abbrev Seen : Share → Item 𝓤
      Seen s = WayBack 𝓛 κs.0 qs.0 (row P.row s ys b o)

      seen_open : ent 𝓤 (⋆ 𝓛 (‵ Whole ∷ ‵ (flft κs.0 qs.0) ∷ [])) (H.⇛ (ex 𝓤 (λ (s : Share). ⋆ 𝓛 (‵ (row P.row s ys b o) ∷ Seen s ∷ []))))
      seen_open = qed 𝓛 (‵ Whole ∷ ‵ (flft κs.0 qs.0) ∷ []) ∵ updating ! $
          looks_slice ! tt P.row (P.copied 𝓛) ys b o (λ s. at_once ! $
          show ! (λ (s : Share). ⋆ 𝓛 (‵ (row P.row s ys b o) ∷ Seen s ∷ [])) s $ keep ! (0 ∷ 1 ∷ []) $ done !)

      abbrev from : Bor (List P.row.Denot)
      from = record { ref_ptr = (b, o); now = ys }

      abbrev uss : Valss (types_at (slots {n = 1} Ps) κs)
      uss = valss (types_at (slots {n = 1} Ps) κs) (spelled 1 κs Ps) a

      abbrev Found : (walk_of 𝓛 shown staying showing).Ghost
      Found = ((κs, qs, tt, (from, a), (shr_slice_vals from, uss)), tt)

      abbrev Then : Val → SProp 𝓤
      Then = (walk_of 𝓛 shown staying showing).post Found

      seen_shut : (s : Share) (r : Q.row.Denot) → φ κs ys a r → Is Q.row r (Q.val r ∷ []) → ent 𝓤 (⋆ 𝓛 (‵ (row P.row s ys b o) ∷ Seen s ∷ []))
          (Then (Q.val r))
      seen_shut s r said is =
          qed 𝓛 (‵ (row P.row s ys b o) ∷ Seen s ∷ []) ∵ updating ! $ shuts_slice ! tt P.row s ys b o $
          by ! (via 𝓤 _ ending (ends_at 𝓛 shown staying showing Found (Q.val r) r (tt, lastly 1 κs Ps a) (tt, fitting 1 κs Ps a)))
        where
          ending : ent 𝓤 (⋆ 𝓛 (‵ (flft κs.0 qs.0) ∷ [])) (Ending 𝓛 shown staying showing Found (Q.val r) r (tt, lastly 1 κs Ps a))
          ending = qed 𝓛 (‵ (flft κs.0 qs.0) ∷ []) ∵ says ! said $ nothing ! $ move ! (1 ∷ 0 ∷ []) $ join ! $ frame ! $
              use0 𝓛 (‵ (has_of κs (slots Ps) (all yes (slots Ps)) (dropped 1 Ps) a (lastly 1 κs Ps a) uss)) (had 1 κs 𝓛 Ps a uss) $ nothing ! $ fjoin ! $
              frame ! $
              owned ! Q.row (Is Q.row) (Q.makes 𝓛) r (Q.val r ∷ []) is $ done !

    -- what shuts the run, at the result r
    abbrev pub Shuts : (κs : Lfts 1) (b o : ℕ) (ys : List P.row.Denot) (a : Ins 1 κs Ps) → Share → (Val → SProp 𝓤) → Item 𝓤 → Type 1
    Shuts κs b o ys a s Post S = (r : Q.row.Denot) → φ κs ys a r → Is Q.row r (Q.val r ∷ []) → ent 𝓤 (⋆ 𝓛 (‵ (row P.row s ys b o) ∷ S ∷ []))
        (Post (Q.val r))

    module _ (𝓣 : Tables 𝓤 H) (f : Fn) where
      -- the same where the run is only read
      abbrev pub Look : Type 2
      Look = (κs : Lfts 1) (b o : ℕ) (ys : List P.row.Denot) (a : Ins 1 κs Ps) → Room P.row (length ys) → Good 1 κs Ps a → (s : Share)
          (Post : Val → SProp 𝓤) (S : Item 𝓤) → Shuts κs b o ys a s Post S
          → (bs : Blocks f.locals) → Sq 𝓛 (entry 𝓛 (env_of 𝓛 f.locals bs) (slice_val (b, o) (length ys) ∷ words 1 κs Ps a) ++
          (‵ (deaths 𝓛 (env_of 𝓛 f.locals bs)) ∷ ‵ (row P.row s ys b o) ∷ S ∷ []))
          (runs 𝓣.C 𝓣.Λ (env_of 𝓛 f.locals bs) f.body (at_ret (env_of 𝓛 f.locals bs) Post))

      pub looks : (rest : List Local) → f.locals ≡ of Q.ty ∷ of (slice_ty (ty_ref (named 0) imm (pointee P.row.written))) ∷ (params Ps ++ rest) → Look
          → Meets 𝓛 shown.signature (WpFn 𝓤 H 𝓣.C 𝓣.Λ f) (closing 𝓛 shown showing)
      looks rest same walk =
          walk_Meets 𝓛 shown staying (Goes-dropped 𝓛 1 (shr_slice_of (0 ∷ []) tt (plain (λ _. P.row))) yes (λ κs x f. refl), going 𝓛 1 Ps)
          showing (WpFn 𝓤 H 𝓣.C 𝓣.Λ f) (WpFn-mono 𝓤 H 𝓛.laws 𝓣 f)
          (walked 𝓛 shown staying showing (WpFn 𝓤 H 𝓣.C 𝓣.Λ f) (λ κs. (shr_slice_vals, spelled 1 κs Ps))
          (λ κs. (shr_slice_Tells (named 0) κs.0 P.row, told 1 κs Ps))
          (λ κs qs bounds a _ are. via 𝓤 _ (fst∗ 𝓤 _ (emp 𝓤)) (run κs qs a.0.ref_ptr.0 a.0.ref_ptr.1 a.0.now a.1 are.0.0.1
          are.1)))
        where
          run : (κs : Lfts 1) (qs : Shares 1) (b o : ℕ) (ys : List P.row.Denot) (a : Ins 1 κs Ps) → Room P.row (length ys) → Good 1 κs Ps a
              → ent 𝓤 (on_entry 𝓛 shown.signature κs qs (record { ref_ptr = (b, o); now = ys }, a)
              (slice_val (b, o) (length ys) ∷ [], uss κs qs b o ys a))
              (WpFn 𝓤 H 𝓣.C 𝓣.Λ f (slice_val (b, o) (length ys) ∷ words 1 κs Ps a) (Then κs qs b o ys a))
          run κs qs b o ys a gn good =
              qed 𝓛 ((‵ (flft κs.0 qs.0) ⊛ ‵ ftrue) ∷ ‵ (owns (types_at shown.signature.params κs) (from κs qs b o ys a, a)
              (slice_val (b, o) (length ys) ∷ [], uss κs qs b o ys a)) ∷ []) ∵
              split ! $ move ! (2 ∷ []) $ fsplit ! $ fsplit ! $ keep ! (1 ∷ 3 ∷ []) $
              begins ! 𝓣.C 𝓣.Λ f (slice_val (b, o) (length ys) ∷ words 1 κs Ps a) (Then κs qs b o ys a)
              (subst (λ (ls : List Local). (bs : Blocks ls) → Fits 𝓛 (env_of 𝓛 ls bs) (slice_val (b, o) (length ys) ∷ words 1 κs Ps a)) (sym same)
              (λ bs. ((tt, (tt, (record { fits = gn.0 }, tt))), fit_all 𝓛 κs Ps a good rest bs.1.1)))
              (λ bs. under tt (entry 𝓛 (env_of 𝓛 f.locals bs) (slice_val (b, o) (length ys) ∷ words 1 κs Ps a)) _ {X = Share}
              (λ s. ‵ (deaths 𝓛 (env_of 𝓛 f.locals bs)) ∷ ‵ (row P.row s ys b o) ∷ Seen κs qs b o ys a s ∷ []) (opens bs)
              (λ s. walk κs b o ys a gn good s (Then κs qs b o ys a) (Seen κs qs b o ys a s) (seen_shut κs qs b o ys a s) bs))
            where
              opens : (bs : Blocks f.locals) → ent 𝓤 (⋆ 𝓛 (‵ (deaths 𝓛 (env_of 𝓛 f.locals bs)) ∷ ‵ (Whole κs qs b o ys a) ∷ ‵
                  (flft κs.0 qs.0) ∷ []))
                  (H.⇛ (ex 𝓤 (λ (s : Share). ⋆ 𝓛 (‵ (deaths 𝓛 (env_of 𝓛 f.locals bs)) ∷ ‵ (row P.row s ys b o) ∷ Seen κs qs b o ys a s ∷
                  []))))
              opens bs =
                  qed 𝓛 (‵ (deaths 𝓛 (env_of 𝓛 f.locals bs)) ∷ raw (⋆ 𝓛 (‵ (Whole κs qs b o ys a) ∷ ‵ (flft κs.0 qs.0) ∷
                  [])) ∷ []) ∵
                  updating ! $ move ! (1 ∷ []) $ use1 𝓛 (later (some (λ (s : Share). raw
                  (⋆ 𝓛 (‵ (row P.row s ys b o) ∷ Seen κs qs b o ys a s ∷ []))))) (seen_open κs qs b o ys a) $ await ! tt $
                  pick ! (λ s. at_once ! $
                  show ! (λ (s : Share). ⋆ 𝓛 (‵ (deaths 𝓛 (env_of 𝓛 f.locals bs)) ∷ ‵ (row P.row s ys b o) ∷ Seen κs qs b o ys a s ∷ [])) s $
                  move ! (1 ∷ 0 ∷ []) $ done !)
