-- `peak_envelope::hand_out` meets its contract: a pass into no lasting place tells the number needed, and another
-- writes. Assumes nothing.
use mathlib.Core.Path.{◌≡◌, sym, ap, ◌∙◌}
use mathlib.Core.List.{List, map}
use lib.ListN.{length}
use lib.Seq.{sets}
use Rattle.peak_groups.specs.declared.Peak.{Peak}
use Rattle.peak_groups.specs.Groups.{tops}
use Rattle.peak_groups.specs.Runs.{peaks}
use Rattle.peak_groups.specs.Peaks.{kept, close}
use Rattle.peak_machine.specs.Step.{size_of, moment_of}
use Rattle.peak_envelope.specs.Step.{chosen}
use Rattle.peak_envelope.proofs.Answered.{chosen_kept, no_room, all_placed}
use Rattle.peak_envelope.proofs.hand_out.Goals as goal

pub returns-then-short : goal.returns-then-short
returns-then-short c =
    let Whole : List Peak = (let a = c.args in
    tops (close a.decorrelation) (kept (peaks a.step a.timed.now))) in
    let whole : (let r = c.count-all.result in let a = c.args in
    chosen r.number r.sum a.step a.decorrelation a.timed.now ≡ Whole) = (let e = c.count-all.ensures in chosen_kept _ _ _ _ _ (e.0 _) (e.1 _)) in
    let needed : c.pass-needed.result ≡ length (Whole) = c.pass-needed.ensures.0 ∙ ap length (whole) in
    let d = needed in
    rw d (no_room _ _ _ (rw d at (sym c.short.ensures ∙ c.if-short.true)))

pub returns : goal.returns
returns c =
    let Whole : List Peak = (let a = c.args in
    tops (close a.decorrelation) (kept (peaks a.step a.timed.now))) in
    let whole : (let r = c.count-all.result in let a = c.args in
    chosen r.number r.sum a.step a.decorrelation a.timed.now ≡ Whole) = (let e = c.count-all.ensures in chosen_kept _ _ _ _ _ (e.0 _) (e.1 _)) in
    let needed : c.pass-needed.result ≡ length (Whole) = c.pass-needed.ensures.0 ∙ ap length (whole) in
    let a = c.args in
    let w = whole in
    let d = needed in
    let s = c.pass.ensures.1 ∙ ap (λ (l : List Peak). sets a.sizes.now 0 (map size_of l)) w in
    let t = c.pass.ensures.2 ∙ ap (λ (l : List Peak). sets a.times.now 0 (map moment_of l)) w in
    rw (d, s, t) (all_placed (Whole) _ _ (rw d at (sym c.short.ensures ∙ c.if-short.false)))
