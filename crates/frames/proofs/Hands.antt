-- A walk hands its run on: a function over the run is called while the run is open, by its contract. Assumes nothing.
use mathlib.Core.Path.{◌≡◌, refl, sym, ap, subst}
use mathlib.Core.List.{List, [], ◌∷◌}
use mathlib.Core.Option.{some}
use Prim.Native.Nat.{ℕ, zero, suc}
use lib.Dec.{T}
use lib.ListN.{length}
use seplogic.Ra.Ura.{Ura}
use base.Fraction.{full_share}
use mir.Syntax.{Callee, Ty, Body, place, copy, seq, call, named, Opd as Operand}
use mir.Val.{Val, WT, has_ty}
use base.Logic.{ent, sep, via, id⊢, ex_e, snd∗}
use base.Fml.{Lft, GName, Share, ftrue, fat, flft, flent, Incl-refl}
use prog.Wp.{Env, Calls, Loops, spot_of}
use types.Logic.{Logic, sem}
use contract.Lifetimes.{Lfts}
use contract.Monad.{fact}
use sound.WpLaws.{FmC}
use types.Kit.{Item, ‵, raw, ◌⊛◌, later, some as exists, ⋆, nth, del, put, fill, pop, Post, runs, lands, Seq, ◌$◌, ◌∵◌, !, qed, move, drop, split, join}
use types.Kit.{fsplit, fjoin, feq_i, feq_l, use0, use1, use2, use3, frame, await, pick, done}
use types.Run.{Opd, Opds, look, load, from, stop, land}
use types.Tokens.{lft_new, lft_end, lent_back}
use types.SemTy.{cells, Arr}
use types.Share.{arr_parts}
use denote.RattleType.{owns}
use denote.Laws.{Is, shows, Ises, valss, owns_make}
use denote.Memory.{mem, shares}
use denote.Ref.{Bor, MutBor}
use denote.Slice.{slice_val, MutSlice, ShrSlice, Room}
use denote.Lend.{Held, lends_slice, lends_shr_slice, slice_back}
use denote.Index.{row, whole_in, whole_out}
use denote.Signature.{types_at}
use denote.Steps.{only, nothing, heard, facts}
use denote.Triple.Statement.{Contract, Triple}
use denote.Triple.Call.{calls_at}
use denote.Triple.Clauses.{Lasts, lasts, closing, ensured}
use denote.Triple.Spec.{triple_of}
use Rattle.frames.proofs.Frame.{key, fills}
use Rattle.frames.proofs.Rows.{Plainly, slots, Ins, spelled, made, Good, words, typed}
use Rattle.frames.proofs.Lent.{lent, Says, lending, shown, Tells, showing}

module _ {M : Type 1} {𝓤 : Ura M} {𝓛 : Logic 𝓤} {K : Type 0} {Γ : List (Item 𝓤)} {E : Env 𝓤 𝓛.H} where
  -- a local, where two entries stand before the frame
  open 𝓛 use {H}

  pub var₂ : K → {k : ℕ} {q : Share} {v : Val} → nth 𝓛 (suc (suc k)) Γ ≡ ‵ (fat q (spot_of 𝓤 H E k).0 (spot_of 𝓤 H E k).1 zero v) → Opd K 𝓛 Γ E
      (copy (place k [])) v
  var₂ t {k} e = load t (from t (stop t)) (look t (suc (suc k)) e)

module _ {M : Type 1} {𝓤 : Ura M} (𝓛 : Logic 𝓤) (P : Plainly) (Ps : List Plainly) (Q : Plainly) (φ : Says P Ps Q) where
  -- the contract of a function over a run that may be changed
  open 𝓛 use {A}

  abbrev pub Changes : Contract 𝓤
  Changes = triple_of 𝓛 (lent P Ps Q).signature (closing 𝓛 (lent P Ps Q) (lending P Ps Q 𝓛 φ))

  module _ (b o : ℕ) (ys : List P.row.Denot) (a : (κs : Lfts 1) → Ins 1 κs Ps) (κ : Lft) (γ : GName) where
    abbrev ref : MutBor (List P.row.Denot)
    ref = record { ref_ptr = (b, o); ghost_name = γ; now = ys }

    abbrev to : Changes.Ghost
    to = (
      (
        (κ, tt),
        (full_share, tt),
        tt,
        (ref, a (κ, tt)),
        (
          slice_val (b, o) (length ys) ∷ [],
          valss (types_at (slots {n = 1} Ps) (κ, tt)) (spelled 1 (κ, tt) Ps)
              (a (κ, tt)),
        ),
      ),
      tt,
    )

    goes : Good 1 (κ, tt) Ps (a (κ, tt)) → ent 𝓤 (sep 𝓤 (A.lft κ full_share)
        (sem 𝓛 ((MutSlice (named 0) κ P.row).own_val ref (slice_val (b, o) (length ys) ∷ [])))) (Changes.pre to)
    goes good =
        qed 𝓛 (‵ (flft κ full_share) ∷ ‵ ((MutSlice (named 0) κ P.row).own_val ref (slice_val (b, o) (length ys) ∷ [])) ∷ []) ∵
        use0 𝓛 (‵ (owns (types_at (slots {n = 1} Ps) (κ, tt)) (a (κ, tt)) (valss (types_at (slots {n = 1} Ps) (κ, tt)) (spelled 1 (κ, tt) Ps) (a (κ, tt)))))
        (owns_make 𝓛 (types_at (slots {n = 1} Ps) (κ, tt)) (Ises (types_at (slots {n = 1} Ps) (κ, tt))) (made 1 (κ, tt) 𝓛 Ps) (a (κ, tt)) _ good) $
        move ! (2 ∷ 0 ∷ []) $ fjoin ! $ nothing ! $ move ! (2 ∷ 0 ∷ []) $ join ! $ join ! $ frame ! $ done !

module _ {M : Type 1} {𝓤 : Ura M} {𝓛 : Logic 𝓤} {K : Type 0} {Γ : List (Item 𝓤)} {E : Env 𝓤 𝓛.H} {C : Calls 𝓤 𝓛.H} {Λ : Loops 𝓤 𝓛.H}
    {q : Post 𝓤 𝓛.H} where
  -- the run is entry r: it is lent as a `&mut` to the function, and comes back as the list that the function leaves
  open 𝓛 use {H}

  pub hands : K → FmC 𝓤 H 𝓛.laws C → {g : Callee} {xs : List Operand} {k : ℕ} {rest : Body} (P : Plainly) (Ps : List Plainly) (Q : Plainly) (φ : Says P Ps Q)
      → Triple 𝓤 (C g) (Changes 𝓛 P Ps Q φ)
      → (ys : List P.row.Denot) (b o : ℕ) → Room P.row (length ys) → (r : ℕ) → nth 𝓛 r Γ ≡ ‵ (row P.row full_share ys b o)
      → (a : (κs : Lfts 1) → Ins 1 κs Ps) → ((κs : Lfts 1) → Good 1 κs Ps (a κs)) →
      ((κs : Lfts 1) (i j : Item 𝓤) → Opds K 𝓛 (i ∷ j ∷ del 𝓛 r Γ) E xs (slice_val (b, o) (length ys) ∷ words 1 κs Ps (a κs)))
      → (spot_of 𝓤 H E k).0 ≡ Q.ty → ((i : Item 𝓤) → key 𝓛 (nth 𝓛 k (put 𝓛 r i Γ)) ≡ some (full_share, ((spot_of 𝓤 H E k).0, ((spot_of 𝓤 H E k).1, zero))))
      → ((κs : Lfts 1) (v : Q.row.Denot) (zs : List P.row.Denot) → length zs ≡ length ys → φ κs ys (a κs) v zs → Is Q.row v (Q.val v ∷ [])
      → Seq K 𝓛 (put 𝓛 k (‵ (fat full_share (spot_of 𝓤 H E k).0 (spot_of 𝓤 H E k).1 zero (Q.val v))) (put 𝓛 r (‵ (row P.row full_share zs b o)) Γ))
      (runs C Λ E rest q))
      → Seq K 𝓛 Γ (runs C Λ E (seq (call g xs (place k [])) rest) q)
  hands t fm {g} {xs} {k} {rest} P Ps Q φ met ys b o gn r at-r a good os s e go =
      move t (r ∷ []) $ subst (λ (i : Item 𝓤). Seq K 𝓛 (i ∷ del 𝓛 r Γ) (runs C Λ E (seq (call g xs (place k [])) rest) q)) (sym at-r)
      (use1 𝓛 (‵ (cells (mem P.row) ys b o)) (whole_in 𝓛 P.row ys b o) $ lft_new t tt (λ α. move t (1 ∷ []) $
      use1 𝓛 (later (exists (λ (γ : GName). ‵ ((MutSlice (named 0) (α ∷ []) P.row).own_val (ref 𝓛 P Ps Q φ b o ys a (α ∷ []) γ)
      (slice_val (b, o) (length ys) ∷ [])) ⊛ ‵ (flent (α ∷ []) (Held P.row (length ys) b o γ)))))
      (lends_slice 𝓛 P.row (named 0) (α ∷ []) ys b o gn) $ await t tt $ pick t (λ γ. split t $ move t (2 ∷ 0 ∷ []) $
      use2 𝓛 (raw ((Changes 𝓛 P Ps Q φ).pre (to 𝓛 P Ps Q φ b o ys a (α ∷ []) γ))) (goes 𝓛 P Ps Q φ b o ys a (α ∷ []) γ (good ((α ∷ []), tt))) $
      calls_at t fm (Changes 𝓛 P Ps Q φ) met (to 𝓛 P Ps Q φ b o ys a (α ∷ []) γ) (os ((α ∷ []), tt) _ _) (λ v. landed α γ v))))
    where
      landed : (α : ℕ) (γ : GName) (v : Val) → Seq K 𝓛 (raw ((Changes 𝓛 P Ps Q φ).post (to 𝓛 P Ps Q φ b o ys a (α ∷ []) γ) v) ∷ ‵
          (flent (α ∷ []) (Held P.row (length ys) b o γ)) ∷ del 𝓛 r Γ) (lands C Λ E (place k []) v rest q)
      landed α γ v =
          use1 𝓛 (later (exists (λ (u : Q.row.Denot). ((‵ (flft (α ∷ []) full_share) ⊛ ‵ ftrue) ⊛ ‵ (Q.row.own_val u (v ∷ [])))
          ⊛ raw (ensured 𝓛 (lent P Ps Q) (lending P Ps Q 𝓛 φ) ((α ∷ []), tt) (ref 𝓛 P Ps Q φ b o ys a (α ∷ []) γ, a ((α ∷ []), tt)) tt u))))
          (id⊢ 𝓤 _) $ await t tt $ pick t (λ u. split t $ move t (1 ∷ []) $
          use1 𝓛 (exists (λ (ws : Lasts (lent P Ps Q) ((α ∷ []), tt) (ref 𝓛 P Ps Q φ b o ys a (α ∷ []) γ, a ((α ∷ []), tt))). ‵
          (lasts (lent P Ps Q) ((α ∷ []), tt) (ref 𝓛 P Ps Q φ b o ys a (α ∷ []) γ, a ((α ∷ []), tt)) ws)
          ⊛ raw (fact 𝓤 (φ ((α ∷ []), tt) ys (a ((α ∷ []), tt)) u ws.0)))) (id⊢ 𝓤 _) $ pick t (λ ws. split t $ move t (1 ∷ []) $
          heard t (φ ((α ∷ []), tt) ys (a ((α ∷ []), tt)) u ws.0) (λ said. fsplit t $ fsplit t $ fsplit t $
          move t (4 ∷ []) $ split t $ move t (1 ∷ []) $ facts t Q.row (Is Q.row) (shows 𝓛 Q.row) u (v ∷ []) (λ is. split t $ lft_end t tt $
          move t (0 ∷ 6 ∷ 2 ∷ []) $
          use3 𝓛 (later (‵ ((Arr (mem P.row) (length ys)).own_at ws.0 b o))) (slice_back 𝓛 P.row (α ∷ []) γ ws.0 (length ys) b o) $ await t tt $
          fsplit t $ feq_l t (λ len.
          use1 𝓛 (‵ (row P.row full_share ws.0 b o)) (whole_out 𝓛 P.row ws.0 b o) $ move t (1 ∷ 2 ∷ 3 ∷ 4 ∷ []) $ drop t $ drop t $ drop t $ drop t $
          back ws.0 u v is (go ((α ∷ []), tt) u ws.0 len said))))))
        where
          back : (zs : List P.row.Denot) (u : Q.row.Denot) (v : Val) (is : Is Q.row u (v ∷ []))
              → (Is Q.row u (Q.val u ∷ []) → Seq K 𝓛 (put 𝓛 k (‵ (fat full_share (spot_of 𝓤 H E k).0 (spot_of 𝓤 H E k).1 zero (Q.val u)))
              (put 𝓛 r (‵ (row P.row full_share zs b o)) Γ)) (runs C Λ E rest q))
              → Seq K 𝓛 (‵ (row P.row full_share zs b o) ∷ del 𝓛 r Γ) (lands C Λ E (place k []) v rest q)
          back zs u v is h =
              let told : v ∷ [] ≡ Q.val u ∷ [] = Q.tells u (v ∷ []) is in
              let is' : Is Q.row u (Q.val u ∷ []) = subst (Is Q.row u) told is in
              subst (λ (w : Val). Seq K 𝓛 (‵ (row P.row full_share zs b o) ∷ del 𝓛 r Γ) (lands C Λ E (place k []) w rest q)) (sym (ap only told))
              (record {
                prf = via 𝓤 (⋆ 𝓛 (put 𝓛 r (‵ (row P.row full_share zs b o)) Γ))
                    (via 𝓤 (sep 𝓤 (sem 𝓛 (row P.row full_share zs b o)) (⋆ 𝓛 (del 𝓛 r Γ)))
                    (pop 𝓛 (‵ (row P.row full_share zs b o)) (del 𝓛 r Γ)) (fill 𝓛 r (‵ (row P.row full_share zs b o)) Γ))
                    (stored u is' zs h).prf;
              })
            where
              stored : (u : Q.row.Denot) (is' : Is Q.row u (Q.val u ∷ [])) (zs : List P.row.Denot)
                  → (Is Q.row u (Q.val u ∷ []) → Seq K 𝓛 (put 𝓛 k (‵ (fat full_share (spot_of 𝓤 H E k).0 (spot_of 𝓤 H E k).1 zero (Q.val u)))
                  (put 𝓛 r (‵ (row P.row full_share zs b o)) Γ)) (runs C Λ E rest q))
                  → Seq K 𝓛 (put 𝓛 r (‵ (row P.row full_share zs b o)) Γ) (lands C Λ E (place k []) (Q.val u) rest q)
              stored u is' zs h = land t (from t (stop t)) (fills t k (e (‵ (row P.row full_share zs b o)))
                  (subst (λ (τ : Ty). T (has_ty τ (Q.val u)) × WT (Q.val u)) (sym s) (typed Q 𝓛 u (Q.val u) is'))) $ h is'

module _ {M : Type 1} {𝓤 : Ura M} (𝓛 : Logic 𝓤) (P : Plainly) (Ps : List Plainly) (Q : Plainly) (φ : Tells P Ps Q) where
  -- and of one that only reads it
  open 𝓛 use {A}

  abbrev pub Answers : Contract 𝓤
  Answers = triple_of 𝓛 (shown P Ps Q).signature (closing 𝓛 (shown P Ps Q) (showing P Ps Q 𝓛 φ))

  module _ (b o : ℕ) (ys : List P.row.Denot) (a : (κs : Lfts 1) → Ins 1 κs Ps) (κ : Lft) where
    abbrev at : Bor (List P.row.Denot)
    at = record { ref_ptr = (b, o); now = ys }

    abbrev for : Answers.Ghost
    for = (
      (
        (κ, tt),
        (full_share, tt),
        tt,
        (at, a (κ, tt)),
        (
          slice_val (b, o) (length ys) ∷ [],
          valss (types_at (slots {n = 1} Ps) (κ, tt)) (spelled 1 (κ, tt) Ps)
              (a (κ, tt)),
        ),
      ),
      tt,
    )

    goes_seen : Good 1 (κ, tt) Ps (a (κ, tt)) → ent 𝓤 (sep 𝓤 (A.lft κ full_share)
        (sem 𝓛 ((ShrSlice (named 0) κ P.row).own_val at (slice_val (b, o) (length ys) ∷ [])))) (Answers.pre for)
    goes_seen good =
        qed 𝓛 (‵ (flft κ full_share) ∷ ‵ ((ShrSlice (named 0) κ P.row).own_val at (slice_val (b, o) (length ys) ∷ [])) ∷ []) ∵
        use0 𝓛 (‵ (owns (types_at (slots {n = 1} Ps) (κ, tt)) (a (κ, tt)) (valss (types_at (slots {n = 1} Ps) (κ, tt)) (spelled 1 (κ, tt) Ps) (a (κ, tt)))))
        (owns_make 𝓛 (types_at (slots {n = 1} Ps) (κ, tt)) (Ises (types_at (slots {n = 1} Ps) (κ, tt))) (made 1 (κ, tt) 𝓛 Ps) (a (κ, tt)) _ good) $
        move ! (2 ∷ 0 ∷ []) $ fjoin ! $ nothing ! $ move ! (2 ∷ 0 ∷ []) $ join ! $ join ! $ frame ! $ done !

module _ {M : Type 1} {𝓤 : Ura M} {𝓛 : Logic 𝓤} {K : Type 0} {Γ : List (Item 𝓤)} {E : Env 𝓤 𝓛.H} {C : Calls 𝓤 𝓛.H} {Λ : Loops 𝓤 𝓛.H}
    {q : Post 𝓤 𝓛.H} where
  -- the run, or a share of it, is entry r: it is lent as a `&` to the function, and comes back as it was
  open 𝓛 use {H}

  pub asks : K → FmC 𝓤 H 𝓛.laws C → {g : Callee} {xs : List Operand} {k : ℕ} {rest : Body} (P : Plainly) (Ps : List Plainly) (Q : Plainly) (φ : Tells P Ps Q)
      → Triple 𝓤 (C g) (Answers 𝓛 P Ps Q φ)
      → (p : Share) (ys : List P.row.Denot) (b o : ℕ) → Room P.row (length ys) → (r : ℕ) → nth 𝓛 r Γ ≡ ‵ (row P.row p ys b o)
      → (a : (κs : Lfts 1) → Ins 1 κs Ps) → ((κs : Lfts 1) → Good 1 κs Ps (a κs)) →
      ((κs : Lfts 1) (i j : Item 𝓤) → Opds K 𝓛 (i ∷ j ∷ del 𝓛 r Γ) E xs (slice_val (b, o) (length ys) ∷ words 1 κs Ps (a κs)))
      → (spot_of 𝓤 H E k).0 ≡ Q.ty → key 𝓛 (nth 𝓛 k (put 𝓛 r (‵ (row P.row p ys b o)) Γ)) ≡ some
      (full_share, ((spot_of 𝓤 H E k).0, ((spot_of 𝓤 H E k).1, zero)))
      → ((κs : Lfts 1) (v : Q.row.Denot) → φ κs ys (a κs) v → Is Q.row v (Q.val v ∷ [])
      → Seq K 𝓛 (put 𝓛 k (‵ (fat full_share (spot_of 𝓤 H E k).0 (spot_of 𝓤 H E k).1 zero (Q.val v))) (put 𝓛 r (‵ (row P.row p ys b o)) Γ))
      (runs C Λ E rest q))
      → Seq K 𝓛 Γ (runs C Λ E (seq (call g xs (place k [])) rest) q)
  asks t fm {g} {xs} {k} {rest} P Ps Q φ met p ys b o gn r at-r a good os s e go =
      move t (r ∷ []) $ subst (λ (i : Item 𝓤). Seq K 𝓛 (i ∷ del 𝓛 r Γ) (runs C Λ E (seq (call g xs (place k [])) rest) q)) (sym at-r)
      (feq_i t ℕ (length ys) (length ys) refl $ fjoin t $ lft_new t tt (λ α. move t (1 ∷ []) $
      use2 𝓛 (later ((‵ ((ShrSlice (named 0) (α ∷ []) P.row).own_val (at 𝓛 P Ps Q φ b o ys a (α ∷ [])) (slice_val (b, o) (length ys) ∷ []))
      ⊛ ‵ (flent (α ∷ []) ((arr_parts (shares P.row) (length ys)).part p ys b o))) ⊛ ‵ (flft (α ∷ []) full_share)))
      (lends_shr_slice 𝓛 P.row (named 0) (α ∷ []) p ys b o gn (α ∷ []) ((P.copied 𝓛).shares p (α ∷ [])) ((α ∷ [], full_share) ∷ [])
      (Incl-refl (α ∷ [])) (Incl-refl (α ∷ []))) $ await t tt $ split t $ split t $ move t (2 ∷ 0 ∷ []) $
      use2 𝓛 (raw ((Answers 𝓛 P Ps Q φ).pre (for 𝓛 P Ps Q φ b o ys a (α ∷ []))))
      (goes_seen 𝓛 P Ps Q φ b o ys a (α ∷ []) (good ((α ∷ []), tt))) $
      calls_at t fm (Answers 𝓛 P Ps Q φ) met (for 𝓛 P Ps Q φ b o ys a (α ∷ [])) (os ((α ∷ []), tt) _ _) (λ v. landed α v)))
    where
      landed : (α : ℕ) (v : Val) → Seq K 𝓛 (raw ((Answers 𝓛 P Ps Q φ).post (for 𝓛 P Ps Q φ b o ys a (α ∷ [])) v) ∷ ‵
          (flent (α ∷ []) ((arr_parts (shares P.row) (length ys)).part p ys b o)) ∷ del 𝓛 r Γ)
          (lands C Λ E (place k []) v rest q)
      landed α v =
          use1 𝓛 (later (exists (λ (u : Q.row.Denot). ((‵ (flft (α ∷ []) full_share) ⊛ ‵ ftrue) ⊛ ‵ (Q.row.own_val u (v ∷ [])))
          ⊛ raw (ensured 𝓛 (shown P Ps Q) (showing P Ps Q 𝓛 φ) ((α ∷ []), tt) (at 𝓛 P Ps Q φ b o ys a (α ∷ []), a ((α ∷ []), tt)) tt u))))
          (id⊢ 𝓤 _) $ await t tt $ pick t (λ u. split t $ move t (1 ∷ []) $
          use1 𝓛 (raw (fact 𝓤 (φ ((α ∷ []), tt) ys (a ((α ∷ []), tt)) u))) (ex_e 𝓤 _
          (λ ws. snd∗ 𝓤 (sem 𝓛 (lasts (shown P Ps Q) ((α ∷ []), tt) (at 𝓛 P Ps Q φ b o ys a (α ∷ []), a ((α ∷ []), tt)) ws))
          (fact 𝓤 (φ ((α ∷ []), tt) ys (a ((α ∷ []), tt)) u)))) $
          heard t (φ ((α ∷ []), tt) ys (a ((α ∷ []), tt)) u) (λ said. split t $ move t (1 ∷ []) $
          facts t Q.row (Is Q.row) (shows 𝓛 Q.row) u (v ∷ []) (λ is. split t $ lft_end t tt $ move t (0 ∷ 2 ∷ []) $ lent_back t tt $
          fsplit t $ drop t $ move t (1 ∷ []) $ drop t $ back u v is (go ((α ∷ []), tt) u said))))
        where
          back : (u : Q.row.Denot) (v : Val) (is : Is Q.row u (v ∷ []))
              → (Is Q.row u (Q.val u ∷ []) → Seq K 𝓛 (put 𝓛 k (‵ (fat full_share (spot_of 𝓤 H E k).0 (spot_of 𝓤 H E k).1 zero (Q.val u)))
              (put 𝓛 r (‵ (row P.row p ys b o)) Γ)) (runs C Λ E rest q))
              → Seq K 𝓛 (‵ (row P.row p ys b o) ∷ del 𝓛 r Γ) (lands C Λ E (place k []) v rest q)
          back u v is h =
              let told : v ∷ [] ≡ Q.val u ∷ [] = Q.tells u (v ∷ []) is in
              let is' : Is Q.row u (Q.val u ∷ []) = subst (Is Q.row u) told is in
              subst (λ (w : Val). Seq K 𝓛 (‵ (row P.row p ys b o) ∷ del 𝓛 r Γ) (lands C Λ E (place k []) w rest q)) (sym (ap only told))
              (record {
                prf = via 𝓤 (⋆ 𝓛 (put 𝓛 r (‵ (row P.row p ys b o)) Γ))
                    (via 𝓤 (sep 𝓤 (sem 𝓛 (row P.row p ys b o)) (⋆ 𝓛 (del 𝓛 r Γ)))
                    (pop 𝓛 (‵ (row P.row p ys b o)) (del 𝓛 r Γ)) (fill 𝓛 r (‵ (row P.row p ys b o)) Γ)) (stored u is' h).prf;
              })
            where
              stored : (u : Q.row.Denot) (is' : Is Q.row u (Q.val u ∷ []))
                  → (Is Q.row u (Q.val u ∷ []) → Seq K 𝓛 (put 𝓛 k (‵ (fat full_share (spot_of 𝓤 H E k).0 (spot_of 𝓤 H E k).1 zero (Q.val u)))
                  (put 𝓛 r (‵ (row P.row p ys b o)) Γ)) (runs C Λ E rest q))
                  → Seq K 𝓛 (put 𝓛 r (‵ (row P.row p ys b o)) Γ) (lands C Λ E (place k []) (Q.val u) rest q)
              stored u is' h = land t (from t (stop t)) (fills t k e (subst (λ (τ : Ty). T (has_ty τ (Q.val u)) × WT (Q.val u)) (sym s)
                  (typed Q 𝓛 u (Q.val u) is'))) $ h is'
