-- `probes::words::put_record` meets its contract: what it stores, one behind the other, are all 34 words. Assumes nothing.
use Rattle.laws.proofs.Library.{◌≡◌, length}
use Rattle.probes.proofs.Whole.{put}
use Rattle.std.proofs.Common.{rules}
use Rattle.probes.proofs.words.put_record.Goals as goal

pub returns : goal.returns
returns c =
    let u : length c.args.r.update.words ≡ 16 = search rules in
    let v : length c.args.r.id.words ≡ 16 = search rules in
    let l : length c.args.out.now ≡ 34 = search rules in
    put c.args.r c.args.out.now u v l _ _ c.copy_from_slice.ensures.after c.copy_from_slice-2.ensures.after
