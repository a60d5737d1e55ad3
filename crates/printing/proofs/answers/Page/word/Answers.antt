-- `printing::answers::Page::word` meets its contract: the word is copied into the place behind what stands. Assumes nothing.
use Rattle.laws.proofs.Library.{refl}
use Rattle.printing.proofs.Stores.{copied, copied_size}
use Rattle.printing.proofs.answers.Page.word.Goals as goal

pub returns : goal.returns
returns c =
    let word = c.args.word.now in
    let page = c.args.self.now in
    record {
      len = refl;
      size = rw c.copy_from_slice.ensures.after (copied_size word page.out.now page.len c.requires);
      bytes = rw c.copy_from_slice.ensures.after (copied word page.out.now page.len c.requires);
      lent = refl;
    }
