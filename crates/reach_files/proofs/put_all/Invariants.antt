-- `reach_files::put_all` meets its contract. The invariant: putting the peaks that are left into what the list holds
-- now gives what putting all of them gave. Assumes nothing.
use Prim.Native.Nat.{◌+◌, ◌≤◌}
use mathlib.Core.Path.{◌≡◌}
use lib.ListN.{drop, length}
use lib.Seq.{sets}
use Rattle.reach_files.proofs.put_all.Given as goal

abbrev pub invariant-loop-i : goal.invariant-loop-i
invariant-loop-i l = (l.i ≤ length l.sizes) × (length l.list ≡ length l.initial.list) × (sets l.list (l.at + l.i) (drop l.i l.sizes) ≡ sets l.initial.list l.at l.sizes)
