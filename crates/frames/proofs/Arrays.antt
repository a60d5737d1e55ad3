-- An array of plain values in a local: as one plain value, and as a run that a walk lends to functions while the local's entry is that run. Assumes nothing.
use mathlib.Core.Path.{◌≡◌, refl, sym, subst}
use mathlib.Core.List.{List, [], ◌∷◌}
use mathlib.Core.Option.{some}
use Prim.Native.Nat.{ℕ, zero, suc, ◌+◌, ◌^◌}
use lib.Dec.{T, ltb}
use lib.ListN.{length}
use seplogic.Ra.Ura.{Ura}
use base.Fraction.{full_share}
use mir.Syntax.{Sym, Tys, Ty, ty_struct, ty_array, field, place, copy}
use mir.Fields.{get_v, set_v}
use mir.Val.{Val, Vals, vstruct}
use base.Logic.{SProp, ent, sep, ex, via, mono_l, ex∗}
use base.Fml.{Share, fat, fsep}
use prog.Memory.{field_of, field_at}
use prog.Wp.{Env, spot_of}
use types.Logic.{Logic, sem}
use types.Kit.{Item, ‵, mean, ⋆, nth, del, put, pull, fill, Goal, Seq, Step, step, ◌$◌, ◌∵◌, !, qed, move, drop, use1, rewrite, fsplit, fjoin, fpick}
use types.Kit.{fpack, feq_i, show, done}
use types.Part.{Part, look_in, sub, whole}
use types.Run.{Opd, look, load, from, stop, fld}
use types.Share.{arr_parts}
use denote.Array.{Array, array_vals, Array-Tells, Array-Makes, Array-Lawful, array_copy}
use denote.Copied.{Array-Copied}
use denote.ArrayMemory.{Single, Array-apart, Array-whole}
use denote.Exit.{yes, unchanged}
use denote.Index.{row}
use denote.Laws.{Is, shows}
use denote.Memory.{cell_at, lone, mem, shares, part_at, part_of}
use denote.Steps.{only, owned, peeks}
use Rattle.frames.proofs.Rows.{Plainly}

-- ---- as one plain value
module _ (P : Plainly) (n : ℕ) (st : (Array P.row n).exit yes ≡ unchanged) (sm : T (ltb (mem (Array P.row n)).size (2 ^ 64))) where
  abbrev pub array : Plainly
  array = record {
    row = Array P.row n;
    ty = ty_array (lone P.row.mir) n;
    lies = refl;
    val = λ xs. only (array_vals (λ x. P.val x ∷ []) xs);
    tells = Array-Tells P.row (λ x. P.val x ∷ []) P.tells n;
    makes = λ 𝓛. Array-Makes 𝓛 P.row (P.makes 𝓛) n;
    lawful = λ 𝓛. Array-Lawful 𝓛 P.row (P.lawful 𝓛) n;
    copies = λ 𝓛. array_copy 𝓛 P.row (P.copies 𝓛) n;
    copied = λ 𝓛. Array-Copied 𝓛 P.row (P.copied 𝓛) (subst Single (sym P.lies) tt) n;
    still = st;
    small = sm;
  }

  module _ {M : Type 1} {𝓤 : Ura M} (𝓛 : Logic 𝓤) (xs : List P.row.Denot) (l : ℕ) where
    -- the array in memory is a run, and back
    apart : Is array.row xs (array.val xs ∷ []) → ent 𝓤 (sem 𝓛 (fat full_share array.ty l zero (array.val xs))) (sem 𝓛 (row P.row full_share xs l zero))
    unfolding part_of
    apart is =
        qed 𝓛 (‵ (fat full_share array.ty l zero (array.val xs)) ∷ []) ∵
        use1 𝓛 (‵ (cell_at full_share array.row.mir (array.val xs ∷ []) l zero)) (𝓛.laws.at_raw full_share array.ty l zero (array.val xs)) $
        owned ! array.row (Is array.row) (array.makes 𝓛) xs _ is $ move ! (1 ∷ 0 ∷ []) $ fjoin ! $
        fpack ! (List Val) (λ us. fsep (cell_at full_share array.row.mir us l zero) (array.row.own_val xs us)) (array.val xs ∷ []) $
        use1 𝓛 (‵ ((arr_parts (shares P.row) n).part full_share xs l zero))
        (Array-apart 𝓛 P.row full_share (subst Single (sym P.lies) tt) n xs l zero) $ fsplit ! $ drop ! $ done !

    abbrev One : Is array.row xs (array.val xs ∷ []) → SProp 𝓤
    One is = sem 𝓛 (fat full_share array.ty l zero (array.val xs))

    together : length xs ≡ n → ent 𝓤 (sem 𝓛 (row P.row full_share xs l zero)) (ex 𝓤 One)
    unfolding part_of
    together len =
        qed 𝓛 (‵ (row P.row full_share xs l zero) ∷ []) ∵ feq_i ! ℕ (length xs) n len $ fjoin ! $
        use1 𝓛 (‵ (part_at array.row full_share xs l zero)) (Array-whole 𝓛 P.row full_share n xs l zero) $ fpick ! (λ vs. fsplit ! $ move ! (1 ∷ []) $
        peeks ! array.row (Is array.row) (shows 𝓛 array.row) xs vs (λ is. drop ! $
        rewrite ! 0 (λ (us : List Val). ‵ (cell_at full_share array.row.mir us l zero)) (array.tells xs vs is) refl $
        use1 𝓛 (‵ (fat full_share array.ty l zero (array.val xs))) (𝓛.laws.raw_at full_share array.ty l zero (array.val xs)) $
        show ! One (subst (Is array.row xs) (array.tells xs vs is) is) $ done !))

-- ---- local k, whose entry is the array, as a run; and back
module _ {M : Type 1} {𝓤 : Ura M} {𝓛 : Logic 𝓤} {K : Type 0} {Γ : List (Item 𝓤)} {G : Goal 𝓤 𝓛.H} where
  pub unrolls : K → (P : Plainly) (n : ℕ) (st : (Array P.row n).exit yes ≡ unchanged) (sm : T (ltb (mem (Array P.row n)).size (2 ^ 64)))
      (xs : List P.row.Denot) (k l : ℕ) → Is (array P n st sm).row xs ((array P n st sm).val xs ∷ [])
      → nth 𝓛 k Γ ≡ ‵ (fat full_share (array P n st sm).ty l zero ((array P n st sm).val xs)) → Step K 𝓛 (put 𝓛 k (‵ (row P.row full_share xs l zero)) Γ) G Γ G
  unrolls t P n st sm xs k l is e = step (λ s. record {
    prf = via 𝓤 (sep 𝓤 (mean 𝓛 (nth 𝓛 k Γ)) (⋆ 𝓛 (del 𝓛 k Γ))) (pull 𝓛 k Γ)
        (via 𝓤 (sep 𝓤 (sem 𝓛 (row P.row full_share xs l zero)) (⋆ 𝓛 (del 𝓛 k Γ)))
        (mono_l 𝓤 (⋆ 𝓛 (del 𝓛 k Γ)) (subst (λ (i : Item 𝓤). ent 𝓤 (mean 𝓛 i) (sem 𝓛 (row P.row full_share xs l zero))) (sym e)
        (apart P n st sm 𝓛 xs l is)))
        (via 𝓤 (⋆ 𝓛 (put 𝓛 k (‵ (row P.row full_share xs l zero)) Γ)) (fill 𝓛 k (‵ (row P.row full_share xs l zero)) Γ) s.prf));
  })

  pub rolls : K → (P : Plainly) (n : ℕ) (st : (Array P.row n).exit yes ≡ unchanged) (sm : T (ltb (mem (Array P.row n)).size (2 ^ 64)))
      (xs : List P.row.Denot) (k l : ℕ) → length xs ≡ n → nth 𝓛 k Γ ≡ ‵ (row P.row full_share xs l zero)
      → (Is (array P n st sm).row xs ((array P n st sm).val xs ∷ [])
      → Seq K 𝓛 (put 𝓛 k (‵ (fat full_share (array P n st sm).ty l zero ((array P n st sm).val xs))) Γ) G) → Seq K 𝓛 Γ G
  rolls t P n st sm xs k l len e go = record {
    prf = via 𝓤 (sep 𝓤 (mean 𝓛 (nth 𝓛 k Γ)) (⋆ 𝓛 (del 𝓛 k Γ))) (pull 𝓛 k Γ)
        (via 𝓤 (sep 𝓤 (ex 𝓤 (One P n st sm 𝓛 xs l)) (⋆ 𝓛 (del 𝓛 k Γ)))
        (mono_l 𝓤 (⋆ 𝓛 (del 𝓛 k Γ)) (subst (λ (i : Item 𝓤). ent 𝓤 (mean 𝓛 i) (ex 𝓤 (One P n st sm 𝓛 xs l))) (sym e)
        (together P n st sm 𝓛 xs l len)))
        (ex∗ 𝓤 (One P n st sm 𝓛 xs l) (⋆ 𝓛 (del 𝓛 k Γ)) (λ is.
        via 𝓤 (⋆ 𝓛 (put 𝓛 k (‵ (fat full_share (array P n st sm).ty l zero ((array P n st sm).val xs))) Γ))
        (fill 𝓛 k (‵ (fat full_share (array P n st sm).ty l zero ((array P n st sm).val xs))) Γ) (go is).prf)));
  }

-- ---- a local, and its field, where one entry more stands before it
module _ {M : Type 1} {𝓤 : Ura M} {𝓛 : Logic 𝓤} {K : Type 0} {Γ : List (Item 𝓤)} {E : Env 𝓤 𝓛.H} where
  open 𝓛 use {H}

  pub var₁ : K → {k : ℕ} {q : Share} {v : Val} → nth 𝓛 (suc k) Γ ≡ ‵ (fat q (spot_of 𝓤 H E k).0 (spot_of 𝓤 H E k).1 zero v) → Opd K 𝓛 Γ E
      (copy (place k [])) v
  var₁ t {k} e = load t (from t (stop t)) (look t (suc k) e)

  pub piece₁ : K → {k n : ℕ} {q : Share} {ν : Sym} {τs : Tys} {vs : Vals} {τ : Ty} {d : ℕ} → (spot_of 𝓤 H E k).0 ≡ ty_struct ν τs
      → nth 𝓛 (suc k) Γ ≡ ‵ (fat q (ty_struct ν τs) (spot_of 𝓤 H E k).1 zero (vstruct vs)) → field_at zero τs n ≡ some (τ, d) → Opd K 𝓛 Γ E
      (copy (place k (field n ∷ []))) (get_v vs n)
  piece₁ t {k} {n} {q} {ν} {τs} {vs} {τ} {d} s e f =
      load t (from t (fld t (subst (λ (σ : Ty). field_of σ n ≡ some (τ, d)) (sym s) f) (stop t)))
      (look_in t (suc k) (subst (λ (i : Item 𝓤). Part K 𝓛 i q τ (spot_of 𝓤 H E k).1 (zero + d) (get_v vs n)
      (λ u. ‵ (fat q (ty_struct ν τs) (spot_of 𝓤 H E k).1 zero (vstruct (set_v vs n u))))) (sym e) (sub t n f (whole t))))
