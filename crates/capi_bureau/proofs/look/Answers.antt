-- One row more is surveyed, and at the end the survey is whole.
use Rattle.std.proofs.Common.{◌+◌, arith, ap, sym, drop, ◌∙◌}
use Rattle.bureau_survey.specs.declared.Seen.{Seen}
use Rattle.bureau_survey.specs.Survey.{looked, surveyed}
use Rattle.capi_bureau.specs.Rows.{places_of}
use Rattle.capi_bureau.proofs.Rows.{look_all, look_row}
use Rattle.capi_bureau.proofs.look.Goals as goal

pub loop-i-preserved : goal.loop-i-preserved
loop-i-preserved c =
    let rows = c.args.table.now in
    let i = c.loop-i.i in
    let s = c.loop-i.s in (
      omega arith,
      ap (λ (u : Seen). looked u (i + 1) (drop (i + 1) (places_of rows)))
          (c.look-s.ensures ∙ ap (surveyed s i) c.place_of.ensures)
          ∙ sym (look_row s i rows _ (omega arith))
          ∙ c.loop-i.invariant.1,
    )

pub returns : goal.returns
returns c = sym (look_all c.loop-i.s c.loop-i.i c.args.table.now (omega arith)) ∙ c.loop-i.invariant.1
