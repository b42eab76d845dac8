-- `reach_files::hand_on` meets its contract: the peaks of the block are the first of what it hands over. Assumes nothing.
use Prim.Native.Nat.{ℕ}
use mathlib.Core.Path.{◌∙◌}
use lib.ListN.{length-replicate}
use Rattle.reach_files.proofs.Keeping.{block_kept}
use Rattle.reach_files.proofs.hand_on.Goals as goal

pub returns : goal.returns
returns c =
    let a = c.args in
    let k = block_kept a.ramp a.lines a.h a.peaks a.samples.now a.list.now _ _
    (length-replicate {A = ℕ} 1024 0) (length-replicate {A = ℕ} 1024 0)
    c.hand-a.ensures in
    let f = c.kept_by.ensures in
    record { value = f.value ∙ k.0; list_after = f.list_after ∙ k.1 }
