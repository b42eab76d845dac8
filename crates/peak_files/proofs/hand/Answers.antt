-- `peak_files::hand` meets its contract: the figures of the peaks stand at the start of the slices. Assumes nothing.
use borrow.Author.Rules.{rules}
use mathlib.Core.Path.{◌≡◌, sym}
use Prim.Native.Nat.{ℕ, ◌≤◌, ◌<◌}
use native.Mathlib.Omega.{arith}
use mathlib.Core.List.{List}
use lib.ListN.{length, replicate, length-replicate}
use lib.Seq.{length-take-le}
use Rattle.peak_stream.specs.Hands.{HandsOver}
use Rattle.comma_peaks.specs.Timed.{timed_of}
use Rattle.peak_files.proofs.Laws.{number_few, gives}
use Rattle.peak_files.proofs.hand.Goals as goal

pub slice_bounds-sizes-end : goal.slice_bounds-sizes-end
slice_bounds-sizes-end c =
    let sizes-later : List ℕ = c.hand-handing.new.sizes in
    let times-later : List ℕ = c.hand-handing.new.times in
    let sizes_long : length sizes-later ≡ 1024 = search rules in
    let over : (HandsOver c.args.h (timed_of c.args.ramp c.args.lines c.args.h.reading
    c.args.samples.now) (replicate 1024 0) (replicate 1024 0) c.hand-handing.result sizes-later times-later) = c.hand-handing.ensures in
    let number : c.number_of-k.result ≤ 1024 = (omega (
      arith,
      c.number_of-k.ensures,
      number_few c.args.h c.args.ramp c.args.lines
          c.args.samples.now (replicate 1024 0) (replicate 1024 0) (length-replicate {A = ℕ} 1024 0)
          (length-replicate {A = ℕ} 1024 0) c.requires.0 c.hand-handing.result over,
    )) in
    omega (arith, number, sizes_long)

pub slice_bounds-write-end : goal.slice_bounds-write-end
slice_bounds-write-end c =
    let sizes-later : List ℕ = c.hand-handing.new.sizes in
    let times-later : List ℕ = c.hand-handing.new.times in
    let sizes_long : length sizes-later ≡ 1024 = search rules in
    let over : (HandsOver c.args.h (timed_of c.args.ramp c.args.lines c.args.h.reading
    c.args.samples.now) (replicate 1024 0) (replicate 1024 0) c.hand-handing.result sizes-later times-later) = c.hand-handing.ensures in
    let number : c.number_of-k.result ≤ 1024 = (omega (
      arith,
      c.number_of-k.ensures,
      number_few c.args.h c.args.ramp c.args.lines
          c.args.samples.now (replicate 1024 0) (replicate 1024 0) (length-replicate {A = ℕ} 1024 0)
          (length-replicate {A = ℕ} 1024 0) c.requires.0 c.hand-handing.result over,
    )) in
    sym (length-take-le _ _ (omega (arith, number, sizes_long)))

pub slice_bounds-times-end : goal.slice_bounds-times-end
slice_bounds-times-end c =
    let sizes-later : List ℕ = c.hand-handing.new.sizes in
    let times-later : List ℕ = c.hand-handing.new.times in
    let times_long : length times-later ≡ 1024 = search rules in
    let over : (HandsOver c.args.h (timed_of c.args.ramp c.args.lines c.args.h.reading
    c.args.samples.now) (replicate 1024 0) (replicate 1024 0) c.hand-handing.result sizes-later times-later) = c.hand-handing.ensures in
    let number : c.number_of-k.result ≤ 1024 = (omega (
      arith,
      c.number_of-k.ensures,
      number_few c.args.h c.args.ramp c.args.lines
          c.args.samples.now (replicate 1024 0) (replicate 1024 0) (length-replicate {A = ℕ} 1024 0)
          (length-replicate {A = ℕ} 1024 0) c.requires.0 c.hand-handing.result over,
    )) in
    omega (arith, number, times_long)

pub slice_bounds-write-end-2 : goal.slice_bounds-write-end-2
slice_bounds-write-end-2 c =
    let sizes-later : List ℕ = c.hand-handing.new.sizes in
    let times-later : List ℕ = c.hand-handing.new.times in
    let times_long : length times-later ≡ 1024 = search rules in
    let over : (HandsOver c.args.h (timed_of c.args.ramp c.args.lines c.args.h.reading
    c.args.samples.now) (replicate 1024 0) (replicate 1024 0) c.hand-handing.result sizes-later times-later) = c.hand-handing.ensures in
    let number : c.number_of-k.result ≤ 1024 = (omega (
      arith,
      c.number_of-k.ensures,
      number_few c.args.h c.args.ramp c.args.lines
          c.args.samples.now (replicate 1024 0) (replicate 1024 0) (length-replicate {A = ℕ} 1024 0)
          (length-replicate {A = ℕ} 1024 0) c.requires.0 c.hand-handing.result over,
    )) in
    sym (length-take-le _ _ (omega (arith, number, times_long)))

pub returns : goal.returns
returns c =
    let file-small : c.args.file < 18446744073709551616 = search rules in
    let sizes-later : List ℕ = c.hand-handing.new.sizes in
    let times-later : List ℕ = c.hand-handing.new.times in
    let sizes_long : length sizes-later ≡ 1024 = search rules in
    let times_long : length times-later ≡ 1024 = search rules in
    let over : (HandsOver c.args.h (timed_of c.args.ramp c.args.lines c.args.h.reading
    c.args.samples.now) (replicate 1024 0) (replicate 1024 0) c.hand-handing.result sizes-later times-later) = c.hand-handing.ensures in
    let a = c.args in
    gives a.h a.ramp a.lines a.samples.now (replicate 1024 0) (replicate 1024 0)
    (length-replicate {A = ℕ} 1024 0) (length-replicate {A = ℕ} 1024 0) c.requires.0 a.file a.out.now
    c.hand-handing.result (file-small) c.requires.1 (sizes_long) (times_long) (over)
    (rw c.number_of-k.ensures at c.write-put.ensures.value) (rw c.number_of-k.ensures at c.write-put.ensures.out_after)
