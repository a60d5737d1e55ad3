-- The names of the kit's library that proofs use, passed on in one place, so that a proof opens with one line of them.
pub use mathlib.Core.Path.{◌∙◌, ◌≡◌, ap, ap₂, refl, subst, subst₂, sym}
pub use mathlib.Core.Logic.{◌↔◌, ◌⊎◌, inl, inr, ⊎_elim}
pub use mathlib.Core.Bool.{Bool, beq as Bool·beq, ◌&&◌, ◌||◌, and_assoc, and-false, and-true, cond, false, not, or-true, true}
pub use mathlib.Core.Option.{Option, none-ne-some as Option·none-ne-some, some-injective as Option·some-injective, none, some}
pub use mathlib.Core.List.{List, [], ◌++◌, ◌∷◌, append_assoc, append-nil, concat-eq-append, drop_last, eq-nil-or-concat, map, map-append, reverse, reverse_aux}
pub use Prim.Native.Nat.{◌%◌, ◌*◌, ◌+◌, ◌-◌, ◌/◌, ◌<◌, ◌^◌, ◌≤◌, max, min, suc, zero, zero-le, ℕ}
pub use native.Mathlib.Nat.{add_assoc, add-mod, add-mul, add-sub_cancel_left, add-suc, add-zero, div-lt_iff_lt-mul, le-mul_of_pos_right, le_of_lt}
pub use native.Mathlib.Nat.{le_of_suc-le-suc, le_trans, lt_of_not-le, mod-eq_of_lt, mod-lt, mul_assoc, mul-le-mul_right, mul-mod_left}
pub use native.Mathlib.Nat.{not-suc-le-zero, pow-suc, sub-zero, suc-add, suc-mul, zero-add, zero-div, zero-mul}
pub use native.Mathlib.Numerals.{add-one, add-two}
pub use native.Mathlib.Omega.{arith}
pub use lib.Dec.{eqb, eqb-suc-suc as eqb·suc-suc, eqb-suc-zero as eqb·suc-zero, eqb-zero-suc as eqb·zero-suc, leb, leb-suc-suc as leb·suc-suc, leb-suc-zero as leb·suc-zero, leb-zero as leb·zero, lit<, lit≤, ltb}
pub use lib.Pow.{high, low, mod-mod-pow, mod-pow-add, ones_lt, ones_split, pow-add, pow_mono, pow_pos, shl-shr, shr_lt, shr-shr, split}
pub use lib.ListN.{drop, drop_of_length-le, get_or, get_or-replicate, length, length-append, length-drop, length-map, length-replicate, length-reverse}
pub use lib.ListN.{length-set, length-take, replicate, replicate-append-replicate, set, take, take-append-drop}
pub use lib.Seq.{append_snoc, drop_at, drop-cons, drop-drop, drop-nil, drop-set-lt, ext_get_or, get_or-drop, get_or-set_other, get_or-set_same, get_or-take}
pub use lib.Seq.{length-take-le, set_at, set-get_or, sets, sets-eq, take-add, take_all, take-append-add, take-append-le, take_at, take-length, take-nil}
pub use lib.Seq.{take-suc, take-suc-set, take-take}
pub use borrow.Author.Tests.{eq-eqb, eqb-false, eqb-true, le-leb, le-ltb, leb-false, leb-true, lt-leb, lt-ltb, ltb-false, ltb-true, ne_eqb, not-false}
pub use borrow.Author.Tests.{not-true}
pub use borrow.Author.Rules.{length_unmapped, rules}
pub use Rattle.std.specs.Prelude.{Result, Ok, Err}
