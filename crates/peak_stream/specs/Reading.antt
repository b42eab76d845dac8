-- Runs found sample by sample, whoever hands the samples over: where a reading stands between two samples, and when a
-- run that is not the first is closed. Assumes nothing.
use Rattle.std.specs.Prelude.{ℕ, ◌+◌, ◌*◌, Bool, cond, not, ◌&&◌, ltb, leb, eqb, ℤ, nat_abs}
use Rattle.peak_groups.specs.declared.Peak.{Peak}
use Rattle.peak_groups.specs.Groups.{larger, nothing}
use Rattle.sample_items.specs.Limits.{most_in_range}
use Rattle.peak_groups.specs.Runs.{same, side, point}
use Rattle.peak_stream.specs.declared.Reading.{Reading}

-- before the first timed sample
abbrev pub fresh : ℕ → Reading
fresh D = record { step = D; n = 0; opened = 0; best = nothing }

-- the sample x that comes next
abbrev pub here : Reading → ℤ → Peak
here r x = point r.best.below (r.n * r.step) x

-- a zero before all runs
abbrev pub waits : Reading → ℤ → Bool
waits r x = eqb r.opened 0 && eqb (nat_abs x) 0

-- the open run goes on
abbrev pub stays : Reading → ℤ → Bool
stays r x = ltb 0 r.opened && same r.best.below (side r.best.below x)

-- with o runs opened, and b the largest of the open one
abbrev pub grown : Reading → ℕ → Peak → Reading
grown r o b = record { step = r.step; n = r.n + 1; opened = o; best = b }

unfoldable pub read : Reading → ℤ → Reading
read r x = cond (waits r x) (grown r r.opened r.best) (cond (stays r x) (grown r r.opened (larger r.best (here r x))) (grown r (r.opened + 1) (here r x)))

-- from r to s a run was closed that is not the first: its peak is due
abbrev pub closes : Reading → Reading → Bool
closes r s = ltb 1 r.opened && not (eqb r.opened s.opened)

-- no more samples than a record may have, and no more runs than samples
abbrev pub readable : Reading → Bool
readable r = leb r.n (most_in_range r.step 0) && leb r.opened r.n
