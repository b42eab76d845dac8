-- One timed sample more: D is the step, a the levels, τ the decorrelation time. Assumes nothing.
use Rattle.std.specs.Prelude.{ℕ, ◌+◌, ◌*◌, ◌≤◌, Bool, true, false, cond, not, ◌&&◌, List, set, leb}
use Rattle.sample_channels.specs.declared.Levels.{Levels}
use Rattle.sample_channels.specs.declared.Moment.{Moment}
use Rattle.sample_channels.specs.Channels.{above}
use Rattle.record_list.specs.declared.Walk.{Walk}

-- before the first timed sample; any crossing starts a group
abbrev pub start : Walk
start = record { below = false; time = 0; count = 0; due = 0 }

-- a level is crossed at a sample that is above or not
abbrev pub crosses : Walk → Bool → Bool
crosses w up = w.below && up

-- a crossing at the walk's time starts a group
abbrev pub starts : Walk → Bool
starts w = leb w.due w.time

-- a group starts there, which is counted
abbrev pub counts : Walk → Bool → Bool
counts w up = crosses w up && starts w

-- the walk after it; each crossing puts the next group off by τ
unfoldable pub stepped : ℕ → ℕ → Walk → Bool → Walk
stepped D τ w up =
    record {
      below = not up;
      time = w.time + D;
      count = cond (counts w up) (w.count + 1) w.count;
      due = cond (crosses w up) (w.time + τ) w.due;
    }

-- the walk after k samples above in neither channel
abbrev pub passed : ℕ → Walk → ℕ → Walk
passed D w k = record { below = true; time = w.time + k * D; count = w.count; due = w.due }

-- the walk, and a slice of times
pub record Noting : Type 0 where
  pub walk : Walk
  pub times : List ℕ

abbrev pub noting : Walk → List ℕ → Noting
noting w ts = record { walk = w; times = ts }

-- one counted has its time in the next place
abbrev pub marked : ℕ → ℕ → Noting → Bool → Noting
marked D τ s up =
    noting (stepped D τ s.walk up) (cond (counts s.walk up) (set s.times s.walk.count s.walk.time) s.times)

-- after the sample x
unfoldable pub noted : ℕ → Levels → ℕ → Noting → Moment → Noting
noted D a τ s x = marked D τ s (above a x)

-- n more samples stay within the longest record
pub record Ready (D τ : ℕ) (w : Walk) (n : ℕ) : Type 0 where
  pub step : 1 ≤ D
  pub decorrelation : τ ≤ 10000000
  pub counted : w.count ≤ w.time
  pub room : w.time + n * D ≤ 20000000
