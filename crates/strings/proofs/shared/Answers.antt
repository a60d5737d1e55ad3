-- `strings::shared` meets its contract: the law of leading zeros at width 64. Assumes nothing.
use Rattle.laws.proofs.Words.{lead}
use Rattle.strings.proofs.shared.Goals as goal

pub returns : goal.returns
returns c = lead 64 c.args.a c.args.b c.ranges.a.fits c.ranges.b.fits
