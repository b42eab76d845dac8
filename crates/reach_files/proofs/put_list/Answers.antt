-- `reach_files::put_list` meets its contract: the first peaks of the list are sorted, and what they come to is put. Assumes nothing.
use Prim.Native.Nat.{ℕ, ◌≤◌}
use mathlib.Core.Path.{ap, ◌∙◌}
use mathlib.Core.List.{List, ◌++◌}
use native.Mathlib.Omega.{arith}
use lib.ListN.{length, take, drop}
use Rattle.desk_line.specs.Said.{putting, put_left}
use Rattle.reach_files.specs.Down.{downwards}
use Rattle.reach_files.specs.Line.{list_said}
use Rattle.reach_files.specs.Gathering.{first_of}
use Rattle.reach_files.proofs.Down.{sorted_front, front_is}
use Rattle.reach_files.proofs.put_list.Goals as goal

pub returns : goal.returns
returns c =
    let a = c.args in
    let list = a.list.now in
    let n = c.min-n.result in
    let S = c.sort.new.s in
    let m = c.min-n.ensures in
    let h : n ≤ length list = omega (arith, m) in
    let s = sorted_front n list S h c.sort.ensures ∙ ap (λ (k : ℕ). downwards (take k list)) m in
    let e = front_is n list S h c.sort.ensures ∙ s in
    let f = c.put.ensures in
    record { value = f.value ∙ ap (λ (l : List ℕ). putting (list_said a.j a.g.files a.g.samples l) a.out.now) e; out_after = f.out_after ∙ ap (λ (l : List ℕ). put_left (list_said a.j a.g.files a.g.samples l) a.out.now) e; list_after = ap (λ (l : List ℕ). l ++ drop n list) s ∙ ap (λ (k : ℕ). downwards (take (first_of a.g list) list) ++ drop k list) m }
