-- `peak_stream::onward` meets its contract, by its test; groups that fit move on. Assumes nothing.
use borrow.Author.Rules.{rules}
use mathlib.Core.Path.{◌≡◌, sym, ap, ◌∙◌}
use native.Mathlib.Omega.{arith}
use mir.Facts.{to_z-of_z}
use Rattle.peak_machine.specs.Step.{Fits}
use Rattle.peak_machine.proofs.Fits.{advanced_fits}
use Rattle.peak_stream.specs.Reading.{read}
use Rattle.peak_stream.proofs.Bounds.{most_few}
use Rattle.peak_stream.proofs.Coming.{moved_yes, moved_no}
use Rattle.peak_stream.proofs.onward.Goals as goal
use Rattle.peak_stream.proofs.onward.Goals.{After-closes, After-read-next, Start}

-- the reading with the sample
next : (c : After-read-next) → let s = c.before.before.before in c.read-next.result ≡ read s.args.h.reading s.args.x
next c =
    let b : Start = search rules in
    let s = b in c.read-next.ensures ∙ ap (read s.args.h.reading) (to_z-of_z s.ranges.x)

fit : (c : Start) → Fits 19999999 c.args.h.envelope
fit c =
    let m = most_few c.args.h.reading.step in
    (omega (arith, c.requires.0, c.requires.2.0, m), omega (arith, c.requires.0, c.requires.2.1, m))

pub returns-then-closes : goal.returns-then-closes
returns-then-closes c =
    let after-closes : After-closes = search rules in let after_read : After-read-next = search rules in
    let d = after-closes in
    let e = after_read in
    let r = e in
    let s : Start = search rules in
    let h = s.args.h in
    let a = c.advance-on.ensures ∙ advanced_fits h.number h.sum h.decorrelation h.envelope h.reading.best (fit s) in
    rw a (moved_yes h s.args.x r.read-next.result (next r) (sym d.closes.ensures ∙ c.if-closes.true))

pub returns : goal.returns
returns c =
    let b : After-read-next = search rules in
    let r = b in
    moved_no c.args.h c.args.x r.read-next.result (next r) (sym c.closes.ensures ∙ c.if-closes.false)
