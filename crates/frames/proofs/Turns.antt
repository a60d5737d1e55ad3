-- Steps for loops in walks: `while c { b }` and what follows it, with the context at its head as a list. Assumes nothing.
use mathlib.Core.Path.{◌≡◌, ap}
use mathlib.Core.Bool.{Bool, not}
use mathlib.Core.List.{List, [], ◌∷◌, map}
use mathlib.Core.Option.{none, some}
use mathlib.Core.WellFounded.{WellFounded}
use Prim.Native.Nat.{ℕ, zero}
use lib.Dec.{T}
use seplogic.Ra.Ura.{Ura}
use base.Fraction.{full_share}
use mir.Syntax.{Callee, call, Body, place, cond, skip, exit, seq, block, loop, assign, Opd as Operand, Rv as RValue}
use mir.Val.{Val, WT, has_ty, vbool}
use base.Logic.{ent, emp, sep, id⊢, via, mono_l, all_e}
use base.Fml.{Share, ftrue, fat, froom}
use prog.Wp.{Env, Tables, Wp, spot_of, after_seq, after_block, after_turn}
use types.Logic.{Logic}
use types.Kit.{Item, ‵, mean, ⋆, nth, del, put, pull, fill, Post, any_q, post, Goal, prop, runs, settles, Seq, Step, step, ◌$◌}
use sound.WpLaws.{fm_of}
use denote.Laws.{Is}
use denote.Triple.Statement.{Triple}
use types.Run.{Opd, Opds, land_last, Rv, Below, again, loops, first, blocks, branches, skips, jumps, assigns_last, from, stop}
use Rattle.frames.proofs.Rows.{Plainly, Ins, Good, words, Gives, called_by, fitting}
use Rattle.frames.proofs.Frame.{Key, cell, key, empties, fills}

-- ---- locals are forgotten, by their numbers
module _ {M : Type 1} {𝓤 : Ura M} (𝓛 : Logic 𝓤) where
  -- room in the place of the cell of this key
  open 𝓛 use {H}

  abbrev pub room_of : Key → Item 𝓤
  room_of none = ‵ ftrue
  room_of (some k) = ‵ (froom k.1.0 k.1.1.0 k.1.1.1)

  abbrev pub share_of : Key → Share
  share_of none = full_share
  share_of (some k) = k.0

  roomed : (k : Key) → share_of k ≡ full_share → ent 𝓤 (empties 𝓛 k) (mean 𝓛 (room_of k))
  roomed none e = id⊢ 𝓤 (emp 𝓤)
  roomed (some k) e = all_e 𝓤 (λ (z : k.0 ≡ full_share). H.room k.1.0 k.1.1.0 k.1.1.1) e

  -- entry k, and entries ks, forgotten; and the shares of those cells, which must be whole
  abbrev pub forgot : ℕ → List (Item 𝓤) → List (Item 𝓤)
  forgot k Γ = put 𝓛 k (room_of (key 𝓛 (nth 𝓛 k Γ))) Γ

  abbrev pub forgotten : List ℕ → List (Item 𝓤) → List (Item 𝓤)
  forgotten [] Γ = Γ
  forgotten (k ∷ ks) Γ = forgotten ks (forgot k Γ)

  abbrev pub whole : List ℕ → List (Item 𝓤) → List Share
  whole [] Γ = []
  whole (k ∷ ks) Γ = share_of (key 𝓛 (nth 𝓛 k Γ)) ∷ whole ks (forgot k Γ)

  abbrev head : List Share → Share
  head [] = full_share
  head (s ∷ ss) = s

  abbrev tail : List Share → List Share
  tail [] = []
  tail (s ∷ ss) = ss

  forgets⊢ : (ks : List ℕ) (Γ : List (Item 𝓤)) → whole ks Γ ≡ map (λ _. full_share) ks → ent 𝓤 (⋆ 𝓛 Γ) (⋆ 𝓛 (forgotten ks Γ))
  forgets⊢ [] Γ e = id⊢ 𝓤 (⋆ 𝓛 Γ)
  forgets⊢ (k ∷ ks) Γ e =
      via 𝓤 (sep 𝓤 (mean 𝓛 (nth 𝓛 k Γ)) (⋆ 𝓛 (del 𝓛 k Γ))) (pull 𝓛 k Γ)
      (via 𝓤 (sep 𝓤 (mean 𝓛 (room_of (key 𝓛 (nth 𝓛 k Γ)))) (⋆ 𝓛 (del 𝓛 k Γ)))
      (mono_l 𝓤 (⋆ 𝓛 (del 𝓛 k Γ)) (via 𝓤 (empties 𝓛 (key 𝓛 (nth 𝓛 k Γ))) (cell 𝓛 (nth 𝓛 k Γ)).1 (roomed (key 𝓛 (nth 𝓛 k Γ)) (ap head e))))
      (via 𝓤 (⋆ 𝓛 (forgot k Γ)) (fill 𝓛 k (room_of (key 𝓛 (nth 𝓛 k Γ))) Γ) (forgets⊢ ks (forgot k Γ) (ap tail e))))

module _ {M : Type 1} {𝓤 : Ura M} {𝓛 : Logic 𝓤} {K : Type 0} {Γ : List (Item 𝓤)} where
  open 𝓛 use {H}

  pub forgets : K → {G : Goal 𝓤 H} (ks : List ℕ) → whole 𝓛 ks Γ ≡ map (λ _. full_share) ks → Step K 𝓛 (forgotten 𝓛 ks Γ) G Γ G
  forgets t ks e = step (λ s. record { prf = via 𝓤 (⋆ 𝓛 (forgotten 𝓛 ks Γ)) (forgets⊢ 𝓛 ks Γ e) s.prf })

-- ---- a loop: its states, which of two is below the other, the context at its head, the frame, what follows it and what is to hold then
pub record Loop {M : Type 1} {𝓤 : Ura M} (𝓛 : Logic 𝓤) : Type 2 where
  pub tabs : Tables 𝓤 𝓛.H
  pub State : Type 0
  pub less : State → State → Type 0
  pub head_at : State → List (Item 𝓤)
  pub env : Env 𝓤 𝓛.H
  pub rest : Body
  pub goal : Post 𝓤 𝓛.H

module _ {M : Type 1} {𝓤 : Ura M} {𝓛 : Logic 𝓤} (L : Loop 𝓛) where
  -- a turn from the state t ends in a state below t, or the rest runs
  open 𝓛 use {H}

  abbrev pub Turn : L.State → Post 𝓤 H
  Turn t = any_q (after_turn 𝓤 H (Below 𝓛 L.less L.head_at t)
      (after_block 𝓤 H (after_seq 𝓤 H (Wp 𝓤 H L.tabs.C L.tabs.Λ L.env L.rest (post 𝓤 H L.goal)) (post 𝓤 H L.goal))))

module _ {M : Type 1} {𝓤 : Ura M} {𝓛 : Logic 𝓤} {K : Type 0} where
  open 𝓛 use {H}

  pub whiles : K → (L : Loop 𝓛) → WellFounded L.less → {b : Body} → ((t : L.State) → Seq K 𝓛 (L.head_at t)
      (runs L.tabs.C L.tabs.Λ L.env b (Turn L t)))
      → (t : L.State) → Seq K 𝓛 (L.head_at t) (runs L.tabs.C L.tabs.Λ L.env (seq (block (loop b)) L.rest) L.goal)
  whiles k L wf turn t = first k $ blocks k $ loops k L.tabs L.less wf L.head_at turn t

  module _ {Γ : List (Item 𝓤)} where
    -- `while c`: the turn goes on, or the rest runs
    pub tests : K → (L : Loop 𝓛) (t : L.State) → {c : Operand} {b : Body} {y : Bool} → Opd K 𝓛 Γ L.env c (vbool y) →
        (T y → Seq K 𝓛 Γ (runs L.tabs.C L.tabs.Λ L.env b (Turn L t)))
        → (T (not y) → Seq K 𝓛 Γ (runs L.tabs.C L.tabs.Λ L.env L.rest L.goal)) → Seq K 𝓛 Γ
        (runs L.tabs.C L.tabs.Λ L.env (seq (cond c skip (exit 1)) b) (Turn L t))
    unfolding after_turn
    tests k L t o held failed = first k $ branches k o (λ h. skips k $ record { prf = (held h).prf }) (λ n. jumps k $ record { prf = (failed n).prf })

    -- the turn's last statement, an assignment or a call
    pub sets_last : K → (L : Loop 𝓛) (t : L.State) → {k : ℕ} {rv : RValue} {v : Val} → Rv K 𝓛 Γ L.env rv v
        → key 𝓛 (nth 𝓛 k Γ) ≡ some (full_share, ((spot_of 𝓤 H L.env k).0, ((spot_of 𝓤 H L.env k).1, zero))) → T (has_ty (spot_of 𝓤 H L.env k).0 v) × WT v
        → Step K 𝓛 (put 𝓛 k (‵ (fat full_share (spot_of 𝓤 H L.env k).0 (spot_of 𝓤 H L.env k).1 zero v)) Γ)
        (prop (Below 𝓛 L.less L.head_at t)) Γ
        (runs L.tabs.C L.tabs.Λ L.env (assign (place k []) rv) (Turn L t))
    unfolding after_turn
    sets_last s L t {k} r e wt = step (λ h. assigns_last s r (from s (stop s)) (fills s k e wt) $ record { prf = h.prf })

    pub calls_last : K → (L : Loop 𝓛) (t : L.State) → {g : Callee} {xs : List Operand} {k : ℕ} (Ps : List Plainly) (Q : Plainly)
        (f : Ins 0 tt Ps → Q.row.Denot) → Triple 𝓤 (L.tabs.C g) (Gives 𝓛 Ps Q f)
        → (a : Ins 0 tt Ps) → Good 0 tt Ps a → Opds K 𝓛 Γ L.env xs (words 0 tt Ps a) → (spot_of 𝓤 H L.env k).0 ≡ Q.ty
        → key 𝓛 (nth 𝓛 k Γ) ≡ some (full_share, ((spot_of 𝓤 H L.env k).0, ((spot_of 𝓤 H L.env k).1, zero)))
        → (Is Q.row (f a) (Q.val (f a) ∷ []) → Seq K 𝓛 (put 𝓛 k (‵ (fat full_share (spot_of 𝓤 H L.env k).0 (spot_of 𝓤 H L.env k).1 zero
        (Q.val (f a)))) Γ) (prop (Below 𝓛 L.less L.head_at t)))
        → Seq K 𝓛 Γ (runs L.tabs.C L.tabs.Λ L.env (call g xs (place k [])) (Turn L t))
    unfolding after_turn
    calls_last s L t {g} {xs} {k} Ps Q f met a good os z e go = record {
      prf = called_by s (fm_of 𝓤 H 𝓛.laws L.tabs) Ps Q f met a good os (λ v. settles L.env (place k []) v (Turn L t)) (λ v. tt)
          (λ is. land_last s (from s (stop s)) (fills s k e (fitting Q 𝓛 (f a) z is)) $ record { prf = (go is).prf });
    }

    -- and the state u that the turn ends in
    pub turns_to : K → (L : Loop 𝓛) (t u : L.State) → L.less u t → Step K 𝓛 Γ (prop (⋆ 𝓛 (L.head_at u))) Γ (prop (Below 𝓛 L.less L.head_at t))
    turns_to s L t u lt = step (λ h. record { prf = via 𝓤 (⋆ 𝓛 (L.head_at u)) h.prf (again {𝓛 = 𝓛} s L.less L.head_at t u lt).prf })
