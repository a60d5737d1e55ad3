-- What the proofs of walks write, under one name: the kit's notions, then the steps of this crate. Assumes nothing.
pub use mathlib.Core.Path.{◌≡◌, refl, sym, ap, subst, ◌∙◌}
pub use mathlib.Core.Bool.{true, false, cond}
pub use mathlib.Core.List.{List, [], ◌∷◌, ◌++◌}
pub use mathlib.Core.Option.{none, some}
pub use mathlib.Core.WellFounded.InvImage.{accessible as InvImage·accessible}
pub use mathlib.Core.WellFounded.{WellFounded}
pub use Prim.Native.Nat.{ℕ, ◌<◌, ◌≤◌, ◌+◌, ◌-◌, ◌^◌}
pub use native.Mathlib.Omega.{arith}
pub use borrow.Author.Tests.{ltb-true, ltb-false}
pub use lib.Dec.{eqb, ltb, lit<}
pub use lib.ListN.{length, get_or, set, length-set}
pub use lib.WfN.{lt-wf_rel as Nat·lt-wfRel}
pub use seplogic.Ra.Ura.{Ura}
pub use base.Fraction.{full_share}
pub use mir.Syntax.{Callee, w64}
pub use mir.Val.{Val, vint}
pub use base.Logic.{SProp, emp}
pub use base.Fml.{Fml}
pub use prog.Wp.{Heap, Tables}
pub use ghost.Atoms.{Atoms}
pub use sound.WpLaws.{fm_of}
pub use contract.Monad.{fact_i}
pub use contract.Running.{tables}
unfoldable pub use contract.Running.{tables_of}
pub use denote.Index.{row}
pub use denote.Slice.{Room}
pub use denote.Triple.Statement.{Triple}
pub use denote.Triple.Table.{entered, cited}
pub use types.Logic.{Logic}
pub use types.Kit.{‵, Sq, runs, at_ret, rewrite, done, ◌$◌, !, by}
pub use types.Run.{look, and_then, no_more, returns_within, lit, of_opd, bin, returns}
pub use Rattle.frames.proofs.Frame.{Blocks, env_of, deaths, frame_of, ifs, var, piece, sets, leaves}
pub use Rattle.frames.proofs.Rows.{Plainly, number, truth, struct, choice, Ins, Gives, calls_by}
pub use Rattle.frames.proofs.Elems.{fetch, puts, relends}
pub use Rattle.frames.proofs.Lent.{Says, Closes, Walk, lends, Tells, Shuts, Look, looks}
pub use Rattle.frames.proofs.Claims.{lends_as, looks_as}
pub use Rattle.frames.proofs.Turns.{Loop, Turn, whiles, tests, sets_last, calls_last, turns_to, forgets}
pub use Rattle.frames.proofs.Hands.{var₂, Changes, hands, Answers, asks}
