-- `t[i]` in a walk, as the compiler writes it: the index scaled, the pointer moved, the element read or stored. What each asks of the context is one equation,
-- which `refl` shows. Assumes nothing.
use mathlib.Core.Path.{◌≡◌, refl, sym, ap, subst}
use mathlib.Core.Bool.{Bool, true, false}
use mathlib.Core.List.{List, [], ◌∷◌}
use mathlib.Core.Option.{some}
use Prim.Native.Nat.{ℕ, zero, ◌+◌, ◌*◌, ◌<◌, ◌^◌}
use lib.Dec.{T, ltb, leb, lit<}
use lib.ListN.{length, get_or, set}
use seplogic.Ra.Ura.{Ura}
use base.Fraction.{full_share}
use mir.Syntax.{Ty, ty_int, ty_ptr, w64, Body, place, seq, assign, op2, mul, unsigned, offset, copy, int, int_big, rv_opd, Opd as Operand, field, deref}
use mir.Syntax.{Lifetime, Mutability, ty_ref, addr_of, aggregate}
use mir.Syntax.{Rv as RValue}
use mir.Fields.{set_v}
use prog.Memory.{field_of}
use types.Part.{Part, agg, look_in, sub, whole}
use mir.Val.{vstruct, vcons, vnil, Val, WT, has_ty, vint, vptr, Fits}
use base.Logic.{via, guard_i}
use base.Fml.{Share, fat}
use prog.Wp.{Env, Calls, Loops, spot_of}
use types.Logic.{Logic}
use types.Kit.{Item, ‵, nth, put, Post, runs, Seq, Step, step, ◌$◌}
use types.Run.{addr, fld, and_then, no_more, Opd, Rv, look, lit, of_opd, bin, assigns, load, from, hop, stop}
use denote.Laws.{Is}
use denote.Memory.{mem}
use borrow.Author.Rules.{scaled_Fits}
use denote.Slice.{Room, slice_ty, slice_val}
use denote.Index.{row}
use Rattle.frames.proofs.Frame.{Key, key, var, piece, sets}
use Rattle.frames.proofs.Rows.{Plainly, typed, known, look_elem, store_elem}

-- a number, as the compiler writes it: above 1023 its bound is for a proof to show
abbrev written : Bool → ℕ → Operand
written true n = int w64 n
written false n = int_big w64 n

abbrev pub sized : ℕ → Operand
sized n = written (leb n 1023) n

module _ {M : Type 1} {𝓤 : Ura M} {𝓛 : Logic 𝓤} {K : Type 0} {Γ : List (Item 𝓤)} {E : Env 𝓤 𝓛.H} where
  literal_at : K → (y : Bool) (n : ℕ) → T (ltb n (2 ^ 64)) → Opd K 𝓛 Γ E (written y n) (vint w64 n)
  literal_at t true n h = lit t h
  literal_at t false n h = record { go = λ Kt k. via 𝓤 (Kt (vint w64 n)) k (guard_i 𝓤 (Fits w64 n) (Kt (vint w64 n)) (record { fits = lit< h })) }

  pub literal : K → (n : ℕ) → T (ltb n (2 ^ 64)) → Opd K 𝓛 Γ E (sized n) (vint w64 n)
  literal t n h = literal_at t (leb n 1023) n h

module _ {M : Type 1} {𝓤 : Ura M} (𝓛 : Logic 𝓤) (E : Env 𝓤 𝓛.H) (Γ : List (Item 𝓤)) where
  -- local k holds v
  open 𝓛 use {H}

  abbrev pub holds : ℕ → Val → Item 𝓤
  holds k v = ‵ (fat full_share (spot_of 𝓤 H E k).0 (spot_of 𝓤 H E k).1 zero v)

  abbrev pub free : ℕ → Key
  free k = some (full_share, ((spot_of 𝓤 H E k).0, ((spot_of 𝓤 H E k).1, zero)))

  abbrev pub after : ℕ → Val → List (Item 𝓤)
  after k v = put 𝓛 k (holds k v) Γ

-- what `t[i]` meets in the context, step by step: the index, room for the scaled index, the run's reference, room for the pointer, and the run itself
pub record Facts {M : Type 1} (𝓤 : Ura M) : Type 2 where
  index : Item 𝓤
  scaled_room : Key
  scaled_type : Ty
  ref_type : Ty
  ref : Item 𝓤
  scaled : Item 𝓤
  pointer_room : Key
  pointer_type : Ty
  pointer : Item 𝓤
  run : Item 𝓤

module _ {M : Type 1} {𝓤 : Ura M} (𝓛 : Logic 𝓤) (E : Env 𝓤 𝓛.H) (Γ : List (Item 𝓤)) (P : Plainly) (q : Share)
    (ys : List P.row.Denot) (i b o : ℕ) (ix s k p r m : ℕ) (ρ : Ty) where
  open 𝓛 use {H}

  abbrev size : ℕ
  size = (mem P.row).size

  abbrev pub Γ₁ : List (Item 𝓤)
  Γ₁ = after 𝓛 E Γ k (vint w64 (i * size))

  abbrev pub Γ₂ : List (Item 𝓤)
  Γ₂ = after 𝓛 E Γ₁ p (vptr b (i * size + o))

  -- the index is local ix, the run's reference s, the scaled index k, the pointer p; the run is entry r
  abbrev pub found : Facts 𝓤
  found = record {
    index = nth 𝓛 ix Γ;
    scaled_room = key 𝓛 (nth 𝓛 k Γ);
    scaled_type = (spot_of 𝓤 H E k).0;
    ref_type = (spot_of 𝓤 H E s).0;
    ref = nth 𝓛 s Γ₁;
    scaled = nth 𝓛 k Γ₁;
    pointer_room = key 𝓛 (nth 𝓛 p Γ₁);
    pointer_type = (spot_of 𝓤 H E p).0;
    pointer = nth 𝓛 p Γ₂;
    run = nth 𝓛 r Γ₂;
  }

  abbrev pub asked : Facts 𝓤
  asked = record {
    index = holds 𝓛 E Γ ix (vint w64 i);
    scaled_room = free 𝓛 E Γ k;
    scaled_type = ty_int w64;
    ref_type = slice_ty ρ;
    ref = ‵ (fat full_share (slice_ty ρ) (spot_of 𝓤 H E s).1 zero (slice_val (b, o) m));
    scaled = holds 𝓛 E Γ k (vint w64 (i * size));
    pointer_room = free 𝓛 E Γ p;
    pointer_type = ty_ptr;
    pointer = holds 𝓛 E Γ p (vptr b (i * size + o));
    run = ‵ (row P.row q ys b o);
  }

module _ {M : Type 1} {𝓤 : Ura M} {𝓛 : Logic 𝓤} {K : Type 0} {Γ : List (Item 𝓤)} {E : Env 𝓤 𝓛.H} {C : Calls 𝓤 𝓛.H} {Λ : Loops 𝓤 𝓛.H}
    {z : Post 𝓤 𝓛.H} where
  -- the pointer to element i
  open 𝓛 use {H}

  points : K → (P : Plainly) (q : Share) (ys : List P.row.Denot) (i b o : ℕ) → i < length ys → Room P.row (length ys) → {ix s k p : ℕ} (r : ℕ) {m : ℕ}
      {ρ : Ty} {rest : Body}
      → found 𝓛 E Γ P q ys i b o ix s k p r m ρ ≡ asked 𝓛 E Γ P q ys i b o ix s k p r m ρ
      → Step K 𝓛 (Γ₂ 𝓛 E Γ P q ys i b o ix s k p r m ρ) (runs C Λ E rest z) Γ
      (runs C Λ E (seq (assign (place k []) (op2 (mul unsigned) (copy (place ix [])) (sized (mem P.row).size)))
      (seq (assign (place p []) (op2 offset (copy (place s (field 0 ∷ []))) (copy (place k [])))) rest)) z)
  points t P q ys i b o l gn {ix} {s} {k} {p} r {m} {ρ} e =
      let fits : Fits w64 (i * (mem P.row).size) = scaled_Fits i (length ys) (mem P.row).size l gn.1 in step (λ h.
      sets t (bin t (var t (ap (λ (u : Facts 𝓤). u.index) e)) (literal t (mem P.row).size P.small) fits)
      (ap (λ (u : Facts 𝓤). u.scaled_room) e)
      (subst (λ (τ : Ty). T (has_ty τ (vint w64 (i * (mem P.row).size))) × WT (vint w64 (i * (mem P.row).size)))
      (sym (ap (λ (u : Facts 𝓤). u.scaled_type) e)) (tt, fits)) $
      sets t (bin t (piece t (ap (λ (u : Facts 𝓤). u.ref_type) e)
      (ap (λ (u : Facts 𝓤). u.ref) e) refl)
      (var t (ap (λ (u : Facts 𝓤). u.scaled) e)) tt)
      (ap (λ (u : Facts 𝓤). u.pointer_room) e)
      (subst (λ (τ : Ty). T (has_ty τ (vptr b (i * (mem P.row).size + o))) × WT (vptr b (i * (mem P.row).size + o)))
      (sym (ap (λ (u : Facts 𝓤). u.pointer_type) e)) (tt, tt)) $ h)

  -- `let d = t[i];`
  pub fetch : K → (P : Plainly) (q : Share) (ys : List P.row.Denot) (i : ℕ) (d : P.row.Denot) (b o : ℕ) → i < length ys → Room P.row (length ys) →
      {ix s k p n : ℕ} (r : ℕ) {m : ℕ} {ρ : Ty} {rest : Body}
      → found 𝓛 E Γ P q ys i b o ix s k p r m ρ ≡ asked 𝓛 E Γ P q ys i b o ix s k p r m ρ
      → ◌≡◌ {A = Key × Ty} (key 𝓛 (nth 𝓛 n (Γ₂ 𝓛 E Γ P q ys i b o ix s k p r m ρ)), (spot_of 𝓤 H E n).0) (free 𝓛 E Γ n, P.ty)
      → (Is P.row (get_or ys i d) (P.val (get_or ys i d) ∷ []) → Seq K 𝓛 (after 𝓛 E (Γ₂ 𝓛 E Γ P q ys i b o ix s k p r m ρ) n (P.val (get_or ys i d)))
      (runs C Λ E rest z))
      → Seq K 𝓛 Γ (runs C Λ E (seq (assign (place k []) (op2 (mul unsigned) (copy (place ix [])) (sized (mem P.row).size)))
      (seq (assign (place p []) (op2 offset (copy (place s (field 0 ∷ []))) (copy (place k []))))
      (seq (assign (place n []) (rv_opd (copy (place p (deref P.ty ∷ []))))) rest))) z)
  fetch t P q ys i d b o l gn {ix} {s} {k} {p} {n} r {m} {ρ} e c go =
      points t P q ys i b o l gn r e $ known t P q ys i d b o l r (ap (λ (u : Facts 𝓤). u.run) e) (λ is.
      sets t (of_opd t (load t (from t (hop t (look t p (ap (λ (u : Facts 𝓤). u.pointer) e)) (stop t)))
      (look_elem t P q ys i d b o l r (ap (λ (u : Facts 𝓤). u.run) e)))) (ap (λ (u : Key × Ty). u.0) c)
      (subst (λ (τ : Ty). T (has_ty τ (P.val (get_or ys i d))) × WT (P.val (get_or ys i d))) (sym (ap (λ (u : Key × Ty). u.1) c))
      (typed P 𝓛 (get_or ys i d) (P.val (get_or ys i d)) is)) $ go is)

  -- `t[i] = y;`
  pub puts : K → (P : Plainly) (ys : List P.row.Denot) (i : ℕ) (y : P.row.Denot) (b o : ℕ) → i < length ys → Room P.row (length ys) → {ix s k p : ℕ}
      (r : ℕ) {m : ℕ} {ρ : Ty} {rv : RValue} {rest : Body}
      → found 𝓛 E Γ P full_share ys i b o ix s k p r m ρ ≡ asked 𝓛 E Γ P full_share ys i b o ix s k p r m ρ → Is P.row y (P.val y ∷ [])
      → Rv K 𝓛 (Γ₂ 𝓛 E Γ P full_share ys i b o ix s k p r m ρ) E rv (P.val y)
      → Step K 𝓛 (put 𝓛 r (‵ (row P.row full_share (set ys i y) b o)) (Γ₂ 𝓛 E Γ P full_share ys i b o ix s k p r m ρ)) (runs C Λ E rest z) Γ
      (runs C Λ E (seq (assign (place k []) (op2 (mul unsigned) (copy (place ix [])) (sized (mem P.row).size)))
      (seq (assign (place p []) (op2 offset (copy (place s (field 0 ∷ []))) (copy (place k []))))
      (seq (assign (place p (deref P.ty ∷ [])) rv) rest))) z)
  puts t P ys i y b o l gn {ix} {s} {k} {p} r {m} {ρ} e is v = step (λ h.
      points t P full_share ys i b o l gn r e $
      assigns t v (from t (hop t (look t p (ap (λ (u : Facts 𝓤). u.pointer) e)) (stop t)))
      (store_elem t P ys i y b o l r (ap (λ (u : Facts 𝓤). u.run) e) is) $ h)

-- ---- `&*t` and `&mut *t`: the run's reference is made again, in local n, by way of local p
pub record Again {M : Type 1} (𝓤 : Ura M) : Type 2 where
  ref_type : Ty
  ref : Item 𝓤
  pointer_room : Key
  pointer_type : Ty
  pointer : Item 𝓤
  ref_still : Item 𝓤
  again_room : Key
  again_type : Ty

module _ {M : Type 1} {𝓤 : Ura M} (𝓛 : Logic 𝓤) (E : Env 𝓤 𝓛.H) (Γ : List (Item 𝓤)) (b o m : ℕ) (s p n : ℕ)
    (ρ ρ₁ ρ₂ : Lifetime × (Mutability × Ty)) where
  open 𝓛 use {H}

  abbrev reference : Lifetime × (Mutability × Ty) → Ty
  reference r = ty_ref r.0 r.1.0 r.1.1

  abbrev pub Δ₁ : List (Item 𝓤)
  Δ₁ = after 𝓛 E Γ p (vptr b o)

  abbrev pub Δ₂ : List (Item 𝓤)
  Δ₂ = after 𝓛 E Δ₁ n (slice_val (b, o) m)

  abbrev pub again_found : Again 𝓤
  again_found = record {
    ref_type = (spot_of 𝓤 H E s).0;
    ref = nth 𝓛 s Γ;
    pointer_room = key 𝓛 (nth 𝓛 p Γ);
    pointer_type = (spot_of 𝓤 H E p).0;
    pointer = nth 𝓛 p Δ₁;
    ref_still = nth 𝓛 s Δ₁;
    again_room = key 𝓛 (nth 𝓛 n Δ₁);
    again_type = (spot_of 𝓤 H E n).0;
  }

  abbrev pub again_asked : Again 𝓤
  again_asked = record {
    ref_type = slice_ty (reference ρ);
    ref = ‵ (fat full_share (slice_ty (reference ρ)) (spot_of 𝓤 H E s).1 zero (slice_val (b, o) m));
    pointer_room = free 𝓛 E Γ p;
    pointer_type = reference ρ₁;
    pointer = holds 𝓛 E Γ p (vptr b o);
    ref_still = ‵ (fat full_share (slice_ty (reference ρ)) (spot_of 𝓤 H E s).1 zero (slice_val (b, o) m));
    again_room = free 𝓛 E Γ n;
    again_type = slice_ty (reference ρ₂);
  }

module _ {M : Type 1} {𝓤 : Ura M} {𝓛 : Logic 𝓤} {K : Type 0} {Γ : List (Item 𝓤)} {E : Env 𝓤 𝓛.H} {C : Calls 𝓤 𝓛.H} {Λ : Loops 𝓤 𝓛.H}
    {z : Post 𝓤 𝓛.H} where
  open 𝓛 use {H}

  pub relends : K → {b o m : ℕ} {s p n : ℕ} {τ : Ty} {rest : Body} (ρ ρ₁ ρ₂ : Lifetime × (Mutability × Ty)) → m < 2 ^ 64 → again_found 𝓛 E Γ b o m s p n ρ ρ₁
      ρ₂ ≡ again_asked 𝓛 E Γ b o m s p n ρ ρ₁ ρ₂
      → Step K 𝓛 (Δ₂ 𝓛 E Γ b o m s p n ρ ρ₁ ρ₂) (runs C Λ E rest z) Γ
      (runs C Λ E (seq (assign (place p []) (addr_of (place s (field 0 ∷ deref τ ∷ []))))
      (seq (assign (place n []) (aggregate (copy (place p []) ∷ copy (place s (field 1 ∷ [])) ∷ []))) rest)) z)
  relends t {b} {o} {m} {s} {p} {n} {τ} ρ ρ₁ ρ₂ fits e = step (λ h.
      sets t (addr t (from t (fld t (subst (λ (σ : Ty). field_of σ 0 ≡ some (reference 𝓛 E Γ b o m s p n ρ ρ₁ ρ₂ ρ, 0))
      (sym (ap (λ (u : Again 𝓤). u.ref_type) e)) refl)
      (hop t (look_in t s (subst (λ (i : Item 𝓤). Part K 𝓛 i full_share (reference 𝓛 E Γ b o m s p n ρ ρ₁ ρ₂ ρ) (spot_of 𝓤 H E s).1 (zero + 0) (vptr b o)
      (λ u. ‵ (fat full_share (slice_ty (reference 𝓛 E Γ b o m s p n ρ ρ₁ ρ₂ ρ)) (spot_of 𝓤 H E s).1 zero
      (vstruct (set_v (vcons (vptr b o) (vcons (vint w64 m) vnil)) 0 u)))))
      (sym (ap (λ (u : Again 𝓤). u.ref) e)) (sub t 0 refl (whole t)))) (stop t)))))
      (ap (λ (u : Again 𝓤). u.pointer_room) e)
      (subst (λ (σ : Ty). T (has_ty σ (vptr b o)) × WT (vptr b o)) (sym (ap (λ (u : Again 𝓤). u.pointer_type) e)) (tt, tt)) $
      sets t (agg t (and_then t (var t (ap (λ (u : Again 𝓤). u.pointer) e))
      (and_then t (piece t (ap (λ (u : Again 𝓤). u.ref_type) e) (ap (λ (u : Again 𝓤). u.ref_still) e) refl)
      (no_more t))))
      (ap (λ (u : Again 𝓤). u.again_room) e)
      (subst (λ (σ : Ty). T (has_ty σ (slice_val (b, o) m)) × WT (slice_val (b, o) m))
      (sym (ap (λ (u : Again 𝓤). u.again_type) e)) (tt, (tt, (record { fits = fits }, tt)))) $ h)
