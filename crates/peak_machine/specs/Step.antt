-- One more: what a pass becomes with the next peak. Assumes nothing.
use Rattle.std.specs.Prelude.{ℕ, ◌≤◌, Bool, cond, ◌&&◌, ltb}
use Rattle.peak_groups.specs.declared.Peak.{Peak}
use Rattle.peak_groups.specs.declared.Group.{Group}
use Rattle.peak_groups.specs.Machine.{empty, turned, gave}
use Rattle.peak_groups.specs.Peaks.{high, alike, close}
use Rattle.peak_machine.specs.declared.Envelope.{Envelope}

-- a peak's magnitude, and its time
abbrev pub size_of : Peak → ℕ
size_of p = p.size

abbrev pub moment_of : Peak → ℕ
moment_of p = p.time

-- the stretches with the peak p; n and s are the peaks' number and sum
abbrev pub met : ℕ → ℕ → Group → Peak → Group
met n s g p = turned (alike n s g.last p) g p

-- the chains with the kept peak p
abbrev pub chained : ℕ → Group → Peak → Group
chained τ g p = turned (close τ g.last p) g p

-- the chains where the stretches have become h
abbrev pub chains_after : ℕ → ℕ → ℕ → Envelope → Group → Group
chains_after n s τ e h = cond (gave e.stretches h && high n s e.stretches.best) (chained τ e.chains e.stretches.best) e.chains

-- both with the peak p
unfoldable pub stepped : ℕ → ℕ → ℕ → Envelope → Peak → Envelope
stepped n s τ e p =
    let h = met n s e.stretches p in
    record { stretches = h; chains = chains_after n s τ e h }

-- before the first peak
abbrev pub fresh : Envelope
fresh = record { stretches = empty; chains = empty }

-- no group may be numbered higher, so that their number fits
abbrev pub Fits : ℕ → Envelope → Type 0
Fits k e = (e.stretches.opened ≤ k) × (e.chains.opened ≤ k)

-- fewer groups of either kind than twice the samples of the longest record
abbrev pub roomy : Envelope → Bool
roomy e = ltb e.stretches.opened 20000000 && ltb e.chains.opened 20000000

-- so a pass that a record leads to moves on; another stays as it is
unfoldable pub advanced : ℕ → ℕ → ℕ → Envelope → Peak → Envelope
advanced n s τ e p = cond (roomy e) (stepped n s τ e p) e
