-- `reading::is_lawful_read` meets its contract: of what makes a stamp lawful, two names that were read leave only the two questions that the
-- code asks, and on words in rising order the walks answer them. Assumes nothing.
use Rattle.laws.proofs.Library.{◌≡◌, refl, sym, ap, ap₂, ◌∙◌, Bool, true, false, not, ◌&&◌, List, ℕ, lit≤}
use Rattle.rules.specs.Limits.{narrow}
use Rattle.rules.specs.Stamps.{is_none, pair, lawful}
use Rattle.layout.proofs.Names.{named}
use Rattle.walks.specs.Walks.{strs, below_walk, has_twins}
use Rattle.walks.proofs.Tells.{below_walk_lem, twins}
use Rattle.layout.specs.Words.{stamp_of}
use Rattle.reading.specs.Reading.{AreNames}
use Rattle.reading.proofs.is_lawful_read.Goals as goal

not_not : (b : Bool) → not (not b) ≡ b
not_not true = refl
not_not false = refl

judged : (u i : List ℕ) (under alone : Bool) → AreNames u i → under ≡ below_walk u i → alone ≡ not (has_twins i)
    → (under && alone) ≡ lawful narrow (stamp_of u i)
unfolding lawful
judged u i under alone n eb et =
    ap₂ (λ (x y : Bool). x && y)
    (eb ∙ below_walk_lem 24 (lit≤ tt) u i n.update_words n.id_words (named narrow (strs u) n.update).rises (named narrow (strs i) n.id).rises)
    (et ∙ ap not (twins i (named narrow (strs i) n.id).rises) ∙ not_not (is_none (pair (strs i))))
    ∙ rw n.update (rw n.id refl)

pub returns-then-is_below : goal.returns-then-is_below
returns-then-is_below c =
    judged c.args.n.update.now c.args.n.id.now true (not c.has_twins.result) c.requires (sym c.if-is_below.true ∙ c.is_below.ensures)
    (ap not c.has_twins.ensures)

pub returns-else-is_below : goal.returns-else-is_below
returns-else-is_below c =
    c.if-is_below.false ∙ judged c.args.n.update.now c.args.n.id.now false _ c.requires (sym c.if-is_below.false ∙ c.is_below.ensures) refl
