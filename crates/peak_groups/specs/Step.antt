-- A run found sample by sample. Assumes nothing.
use Rattle.std.specs.Prelude.{◌+◌, false, cond, ltb, ℤ, nat_abs}
use Rattle.peak_groups.specs.declared.Run.{Run}
use Rattle.peak_groups.specs.Runs.{side}

-- the run of the sample x alone
abbrev pub opened : ℤ → Run
opened x = record { below = side false x; length = 1; place = 0; size = nat_abs x }

-- with the sample x more, which becomes the peak only if it is larger
abbrev pub longer : Run → ℤ → Run
longer r x = record { below = r.below; length = r.length + 1; place = cond (ltb r.size (nat_abs x)) r.length r.place; size = cond (ltb r.size (nat_abs x)) (nat_abs x) r.size }
