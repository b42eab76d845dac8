-- `peak_files::lines` meets its contract: what is left after the lines that were taken. Assumes nothing.
use borrow.Author.Rules.{rules}
use mathlib.Core.Path.{◌≡◌, sym}
use Prim.Native.Nat.{◌≤◌}
use native.Mathlib.Omega.{arith}
use mathlib.Core.List.{List}
use lib.IntN.{ℤ, pos}
use lib.ListN.{length, replicate, length-replicate}
use lib.Seq.{length-take-le}
use Rattle.peak_files.proofs.Laws.{lines_few_enough, calls_refused, calls_taken}
use Rattle.peak_files.proofs.lines.Goals as goal

pub returns-in_default : goal.returns-in_default
returns-in_default c =
    let a = c.args in
    rw c.ended.ensures (calls_refused a.p a.text.now a.more a.out.now c.requires.0 c.requires.1 c.take.ensures.value c.in_default.is)

pub slice_bounds-samples-end : goal.slice_bounds-samples-end
slice_bounds-samples-end c =
    let later : List ℤ = c.take.new.samples in
    let later-long : length later ≡ 1024 = search rules in
    let few : c.in-Ok.n ≤ 1024 = lines_few_enough 1024 c.in-Ok.is (omega (arith, c.take.ensures.result_in_bounds, length-replicate 1024 (pos 0))) in
    omega (arith, few, later-long)

pub slice_bounds-with_samples-end : goal.slice_bounds-with_samples-end
slice_bounds-with_samples-end c =
    let later : List ℤ = c.take.new.samples in
    let later-long : length later ≡ 1024 = search rules in
    let few : c.in-Ok.n ≤ 1024 = lines_few_enough 1024 c.in-Ok.is (omega (arith, c.take.ensures.result_in_bounds, length-replicate 1024 (pos 0))) in
    sym (length-take-le _ _ (omega (arith, few, later-long)))

pub returns : goal.returns
returns c =
    let a = c.args in
    calls_taken a.p a.text.now a.more a.out.now c.requires.0 c.requires.1 (replicate 1024 (pos 0))
    (length-replicate 1024 (pos 0)) c.take.ensures.value c.take.ensures.samples_after c.in-Ok.is
    c.with_samples-passed.ensures c.rest_of.ensures c.rested.ensures
