-- `peak_stream::survey` meets its contract, by its test. Assumes nothing.
use mathlib.Core.Path.{sym, ap, ◌∙◌}
use Rattle.peak_stream.specs.declared.Reading.{Reading}
use Rattle.peak_stream.specs.Survey.{started}
use Rattle.peak_stream.proofs.survey.Goals as goal
use Rattle.std.specs.Prelude.{Ok}

pub returns-then-both : goal.returns-then-both
unfolding started
returns-then-both c =
    rw (sym c.both.ensures ∙ c.if-both.true) (ap (λ (r : Reading). Ok (record {
      reading = r;
      number =
          0;
      sum = 0;
    })) c.fresh-reading.ensures)

pub returns : goal.returns
unfolding started
returns c = rw (sym c.both.ensures ∙ c.if-both.false)
