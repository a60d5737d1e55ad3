-- Walks of functions of plain values: nothing is lent to them, and their contract says what they give. In the walk the context is [the locals; what frees them].
-- Assumes nothing.
use mathlib.Core.Path.{◌≡◌, sym, subst}
use mathlib.Core.List.{List, [], ◌∷◌, ◌++◌}
use seplogic.Ra.Ura.{Ura}
use mir.Syntax.{Local, Fn}
use mir.Val.{Val}
use base.Logic.{SProp, ent, emp, via, fst∗}
use base.Fml.{ftrue}
use prog.Wp.{WpFn, Tables}
use types.Logic.{Logic}
use sound.WpLaws.{WpFn-mono}
use types.Kit.{‵, runs, at_ret, Sq, ◌$◌, ◌∵◌, !, qed, drop, use0, frame, done, ⋆}
use denote.Exit.{yes}
use denote.RattleType.{Valss, owns}
use denote.Laws.{Is, valss}
use denote.Signature.{types_at}
use denote.Steps.{nothing, owned}
use denote.Triple.End.{all}
use denote.Triple.Entry.{on_entry}
use denote.Triple.Clauses.{closing}
use denote.Triple.Spec.{Meets}
use denote.Triple.Walked.{says, Stays, has_of, Ending, walk_of, ends_at, walked, walk_Meets}
use Rattle.frames.proofs.Frame.{Blocks, env_of, deaths, entry, Fit, Fits, begins}
use Rattle.frames.proofs.Rows.{Plainly, slots, Ins, spelled, told, Good, words, valued, giving, typed}
use Rattle.frames.proofs.Lent.{of, params, dropped, lastly, fitting, had, going}

module _ (Ps : List Plainly) (Q : Plainly) {M : Type 1} {𝓤 : Ura M} (𝓛 : Logic 𝓤) (f : Ins 0 tt Ps → Q.row.Denot) where
  open 𝓛 use {H}

  abbrev stayed : Stays (valued Ps Q).signature.params (valued Ps Q).kept
  stayed = dropped 0 Ps

  module _ (a : Ins 0 tt Ps) where
    abbrev vss : Valss (types_at (slots {n = 0} Ps) tt)
    vss = valss (types_at (slots {n = 0} Ps) tt) (spelled 0 tt Ps) a

    abbrev Bound : (walk_of 𝓛 (valued Ps Q) stayed (giving 𝓛 Ps Q f)).Ghost
    Bound = ((tt, tt, tt, a, vss), tt)

    abbrev Post : Val → SProp 𝓤
    Post = (walk_of 𝓛 (valued Ps Q) stayed (giving 𝓛 Ps Q f)).post Bound

    closed : (r : Q.row.Denot) → r ≡ f a → Is Q.row r (Q.val r ∷ []) → ent 𝓤 (⋆ 𝓛 []) (Post (Q.val r))
    closed r said is = via 𝓤 _ ending
        (ends_at 𝓛 (valued Ps Q) stayed (giving 𝓛 Ps Q f) Bound (Q.val r) r (lastly 0 tt Ps a) (fitting 0 tt Ps a))
      where
        ending : ent 𝓤 (⋆ 𝓛 []) (Ending 𝓛 (valued Ps Q) stayed (giving 𝓛 Ps Q f) Bound (Q.val r) r (lastly 0 tt Ps a))
        ending = qed 𝓛 [] ∵ says ! said $ nothing ! $ frame ! $
            use0 𝓛 (‵ (has_of tt (slots {n = 0} Ps) (all yes (slots {n = 0} Ps)) (dropped 0 Ps) a (lastly 0 tt Ps a) vss)) (had 0 tt 𝓛 Ps a vss) $ frame ! $
            owned ! Q.row (Is Q.row) (Q.makes 𝓛) r (Q.val r ∷ []) is $ done !

  fit_all : (Ps : List Plainly) (a : Ins 0 tt Ps) → Good 0 tt Ps a → (rest : List Local) (bs : Blocks (params Ps ++ rest))
      → Fit 𝓛 (env_of 𝓛 (params Ps ++ rest) bs) (words 0 tt Ps a)
  fit_all [] a is rest bs = tt
  fit_all (P ∷ Ps) a is rest bs = (typed P 𝓛 a.0 (P.val a.0) is.0, fit_all Ps a.1 is.1 rest bs.1)

  module _ (𝓣 : Tables 𝓤 H) (g : Fn) where
    abbrev pub Value : Type 2
    Value = (a : Ins 0 tt Ps) → Good 0 tt Ps a → (Post : Val → SProp 𝓤)
        → ((r : Q.row.Denot) → r ≡ f a → Is Q.row r (Q.val r ∷ []) → ent 𝓤 (⋆ 𝓛 []) (Post (Q.val r)))
        → (bs : Blocks g.locals) → Sq 𝓛 (entry 𝓛 (env_of 𝓛 g.locals bs) (words 0 tt Ps a) ++ (‵ (deaths 𝓛 (env_of 𝓛 g.locals bs)) ∷ []))
        (runs 𝓣.C 𝓣.Λ (env_of 𝓛 g.locals bs) g.body (at_ret (env_of 𝓛 g.locals bs) Post))

    pub values : (rest : List Local) → g.locals ≡ of Q.ty ∷ (params Ps ++ rest) → Value
        → Meets 𝓛 (valued Ps Q).signature (WpFn 𝓤 H 𝓣.C 𝓣.Λ g) (closing 𝓛 (valued Ps Q) (giving 𝓛 Ps Q f))
    values rest same walk =
        walk_Meets 𝓛 (valued Ps Q) stayed (going 𝓛 0 Ps) (giving 𝓛 Ps Q f) (WpFn 𝓤 H 𝓣.C 𝓣.Λ g) (WpFn-mono 𝓤 H 𝓛.laws 𝓣 g)
        (walked 𝓛 (valued Ps Q) stayed (giving 𝓛 Ps Q f) (WpFn 𝓤 H 𝓣.C 𝓣.Λ g) (λ κs. spelled 0 κs Ps) (λ κs. told 0 κs Ps)
        (λ κs qs bounds a _ are. via 𝓤 _ (fst∗ 𝓤 _ (emp 𝓤)) (run a are)))
      where
        run : (a : Ins 0 tt Ps) → Good 0 tt Ps a → ent 𝓤 (on_entry 𝓛 (valued Ps Q).signature tt tt a (vss a))
            (WpFn 𝓤 H 𝓣.C 𝓣.Λ g (words 0 tt Ps a) (Post a))
        run a good =
            qed 𝓛 (‵ ftrue ∷ ‵ (owns (types_at (slots {n = 0} Ps) tt) a (vss a)) ∷ []) ∵ drop ! $ drop ! $
            begins ! 𝓣.C 𝓣.Λ g (words 0 tt Ps a) (Post a)
            (subst (λ (ls : List Local). (bs : Blocks ls) → Fits 𝓛 (env_of 𝓛 ls bs) (words 0 tt Ps a)) (sym same) (λ bs. fit_all Ps a good rest bs.1))
            (λ bs. walk a good (Post a) (closed a) bs)
