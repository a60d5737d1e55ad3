-- What the private functions give. No public contract and no law of the crate rests on it.
use Rattle.std.specs.Prelude.{◌≡◌, ◌+◌, length}
use Rattle.std.proofs.lemmas.List.Edits.{sets}
use Rattle.rules.specs.Traces.{Text}
use Rattle.printing.specs.declared.answers.Page.{Page}

-- a text written on a page behind what stands there: in the same buffer, which is as long as it was
pub record Writes (before : Page) (text : Text) (after : Page) : Type 0 where
  pub len : after.len ≡ before.len + length text
  pub size : length after.out.now ≡ length before.out.now
  pub bytes : after.out.now ≡ sets before.out.now before.len text
  pub lent : after.out.ghost_name ≡ before.out.ghost_name
