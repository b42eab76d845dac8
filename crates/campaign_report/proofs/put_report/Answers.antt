-- `campaign_report::put_report` meets its contract: the lines are put, and the last one after them. Assumes nothing.
use Prim.Native.Nat.{ℕ, ◌+◌, ◌≤◌}
use mathlib.Core.List.{List, ◌++◌}
use native.Mathlib.Omega.{arith}
use lib.ListN.{length, length-append, take}
use Rattle.text.proofs.Parts.{Left, left_all, left-fits, left_last, left_next}
use Rattle.campaign_report.specs.Report.{lines_from, total_text}
use Rattle.campaign_report.proofs.put_report.Goals as goal

-- before the lines all of the text is left
all_left : (out lines last : List ℕ) → length lines + length last ≤ length out → Left out 0 (lines ++ last) (lines ++ last) out 0
all_left out lines last h = left_all out 0 (lines ++ last) (omega (arith, length-append lines last))

pub put_total-requires : goal.put_total-requires
put_total-requires c =
    let a = c.args in
    let lines = lines_from 1 (take a.number a.campaigns) in
    left-fits (left_next lines (total_text a.t a.letter) (all_left _ lines _ c.requires.2) (c.put_lines-last.ensures.value, c.put_lines-last.ensures.out_after))

pub returns : goal.returns
returns c =
    let a = c.args in
    let lines = lines_from 1 (take a.number a.campaigns) in
    (left_last (left_next lines (total_text a.t a.letter) (all_left _ lines _ c.requires.2) (c.put_lines-last.ensures.value, c.put_lines-last.ensures.out_after))
    (c.put_total.ensures.value, c.put_total.ensures.out_after)).1
