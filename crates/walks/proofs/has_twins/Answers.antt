-- `walks::has_twins` meets its contract: `any` asks each two neighbours. Assumes nothing.
use Rattle.std.proofs.Common.{◌≡◌, ap, ◌∙◌, ℕ, List, rules, tests}
use Rattle.std.specs.List.{list_any}
use Rattle.std.specs.Slice.Iter.{windows_rest, windows_size}
use Rattle.std.specs.Slice.ArrayWindows.{array_windows_parts, array_windows_steps}
use Rattle.std.proofs.lemmas.Iterator.Search.{any_from_yields_List}
use Rattle.std.proofs.lemmas.Iterator.Splits.{YieldsList-from_shown_while}
use Rattle.walks.proofs.Steps.{pairs, are_twins, pairs_end, pairs_step, twins_any}
use Rattle.walks.proofs.has_twins.Goals as goal

pub returns : goal.returns
returns c =
    any_from_yields_List are_twins _ _ _ c.any.ensures.ran
    (YieldsList-from_shown_while array_windows_steps (λ x. x.now) (λ s. pairs (windows_rest (array_windows_parts s)))
    (λ s. windows_size (array_windows_parts s) ≡ 2)
    (λ s t e h. pairs_end (windows_rest (array_windows_parts s)) _ e h.1.0)
    (λ s x t e h. (h.0 ∙ e, pairs_step (windows_rest (array_windows_parts s)) _ x.now _ e h.1.0 h.1.1 h.1.2))
    c.array_windows.result c.array_windows.ensures.size)
    (λ x b q k. search (rules, tests))
    ∙ ap (λ (n : List ℕ). list_any are_twins (pairs n)) c.array_windows.ensures.rest
    ∙ twins_any c.args.n.now
