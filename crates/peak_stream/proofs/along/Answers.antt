use Prim.Native.Nat.{◌+◌, ◌-◌}
use mathlib.Core.Path.{◌≡◌, sym, ap, ◌∙◌}
use mathlib.Core.List.{foldl}
use native.Mathlib.Omega.{arith}
use borrow.Author.Rules.{rules}
use lib.ListN.{length, get_or, drop}
use lib.IntN.{pos}
use mir.Val.{SFits}
use mir.Syntax.{w32}
use mir.Facts.{to_z-of_z}
use Rattle.sample_size.proofs.Turn.{turn}
use Rattle.peak_stream.specs.declared.Surveying.{Surveying}
use Rattle.peak_stream.specs.Survey.{surveyed}
use Rattle.peak_stream.proofs.Passing.{good_next}
use Rattle.peak_stream.proofs.along.Goals as goal
use Rattle.peak_stream.proofs.along.Goals.{Start}

pub loop-x-preserved : goal.loop-x-preserved
loop-x-preserved c =
    let start : Start = search rules in let d = start in
    let p = d.args.samples.now in
    let i = c.loop-x.x-index in
    let s = c.loop-x.at in
    let v = c.loop-x.invariant in
    let x = get_or p i (pos 0) in
    let f : SFits w32 x = search rules in
    let e : c.add-at.result ≡ surveyed s x = c.add-at.ensures.0 ∙ ap (surveyed s) (to_z-of_z f) in (
      omega arith,
      good_next s c.add-at.result x (length p - i) (length p - (i + 1)) e c.add-at.ensures.1 (omega
          arith) v.1,
      ap (λ (t : Surveying). foldl surveyed t (drop (i + 1) p)) e ∙ sym (turn (foldl surveyed s) p i
          (omega arith)) ∙ v.2,
    )
