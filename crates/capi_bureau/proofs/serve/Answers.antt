-- By whether a place was chosen.
use Rattle.std.proofs.Common.{cond, ap, set, ◌∙◌}
use Rattle.bureau_table.specs.declared.Place.{Place}
use Rattle.bureau_choice.specs.Steps.{acted}
use Rattle.capi_bureau.specs.Rows.{of_place, same_place}
use Rattle.capi_bureau.proofs.Rows.{none_chosen, one_chosen}
use Rattle.capi_bureau.proofs.serve.Goals as goal

pub returns-then-at-n : goal.returns-then-at-n
returns-then-at-n c =
    let rows = c.args.table.now in
    let d = c.choose-d.result in
    let w = c.act-w.result in
    let said = one_chosen rows c.args.c c.look.result d c.look.ensures c.choose-d.ensures _ c.if-at-n.true w
    (c.act-w.ensures ∙ ap (λ (p : Place). acted c.args.c d p) c.place_of-p.ensures) in (
      said.0,
      c.put.ensures
          ∙ ap (λ (p : Place). cond (same_place p w.place) rows (set rows d.at (of_place w.place))) c.place_of-p.ensures
          ∙ said.1,
    )

pub returns : goal.returns
returns c =
    none_chosen c.args.table.now c.args.c c.look.result c.choose-d.result c.look.ensures c.choose-d.ensures c.if-at-n.false
