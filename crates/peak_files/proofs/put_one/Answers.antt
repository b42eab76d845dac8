-- `peak_files::put_one` meets its contract: one line. Assumes nothing.
use borrow.Author.Rules.{rules}
use Prim.Native.Nat.{◌<◌}
use Rattle.peak_files.proofs.Put.{puts_one}
use Rattle.peak_files.proofs.put_one.Goals as goal

pub returns : goal.returns
returns c =
    let file-small : c.args.file < 18446744073709551616 = search rules in
    puts_one c.args.file c.args.p c.args.out.now (file-small) c.requires c.write-n.ensures.value c.write-n.ensures.out_after
