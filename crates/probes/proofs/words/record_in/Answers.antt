-- `probes::words::record_in` meets its contract: both copies fill their 16 words. Assumes nothing.
use Rattle.probes.specs.Handed.{record_in}
use Rattle.std.proofs.Common.{rules}
use Rattle.probes.proofs.words.record_in.Goals as goal

pub returns : goal.returns
unfolding record_in
returns c = rw (c.copy_from_slice.ensures.after, c.copy_from_slice-2.ensures.after) (search rules)
