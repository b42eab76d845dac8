-- A reader on its way through the right lines of a text, with the time that is due: plain lines together or a line of
-- any form bring it on, and where there is no place left or no right line it has what the promise says. Assumes nothing.
use Rattle.std.proofs.Common.{◌≡◌, ℕ, ◌+◌, ◌*◌, ◌<◌, ◌≤◌, Bool, true, false, cond, ◌&&◌, eqb, leb, List, length, drop, set, ℤ, pos, mul-le-mul, arith}
use Rattle.sample_items.specs.Limits.{step_in_range}
use Rattle.sample_items.proofs.Ranges.{low, high}
use Rattle.degrees.specs.Degrees.{signed, largest_size}
use Rattle.comma_line.specs.Line.{right}
use Rattle.comma_line.proofs.At.{LineRead}
use Rattle.comma_read.specs.Plain.{PlainPut}
use Rattle.comma_read.specs.Taken.{lines_taken, taken_of, put_by}
use Rattle.comma_read.proofs.Lines.{turn}
use Rattle.comma_read.proofs.Puts.{put_lines, lines_early}
use Rattle.comma_read.proofs.Going.{Going, set_out, going_read, going_run, going_full, going_stopped, going_taken, going_put}
use Rattle.std.specs.Prelude.{Ok}

pub record Way (D before : ℕ) (text : List ℕ) (slice : List ℤ) (at count due sound : ℕ) (samples : List ℤ) : Type 0 where
  pub going : Going D (before * D) text slice at count sound samples
  pub when : due ≡ before * D + count * D
  pub few : before + count ≤ due
  pub early : due ≤ 10000000000010000
  pub room : count ≤ length slice

-- by another name for what was noted
pub way_as : {D before : ℕ} {text : List ℕ} {slice samples : List ℤ} {at count due sound s : ℕ} → s ≡ sound → Way D before text slice at count due sound samples
    → Way D before text slice at count due s samples
way_as e w = rw e w

module _ (D before : ℕ) (text : List ℕ) (slice : List ℤ) (step : step_in_range D ≡ true) where
  -- no number is more than so many times it
  times : (k : ℕ) → k ≤ k * D
  times k = omega (arith, mul-le-mul {n₁ = k} {m₁ = 1} {n₂ = k} {m₂ = D} (omega arith) (low 1 10000 D step))

  pub way_start : before ≤ 1000000000000 → Way D before text slice 0 0 (before * D) 0 slice
  way_start h =
      record {
        going = set_out D (before * D) text slice;
        when = omega arith;
        few = omega (arith, times before);
        early = omega (arith, mul-le-mul {n₁ = before} {m₁ = D} {n₂ = 1000000000000} {m₂ = 10000} h (high 1 10000 D step));
        room = omega arith;
      }

  module _ {at count due sound : ℕ} {samples : List ℤ} (w : Way D before text slice at count due sound samples) where
    pub way_run : {end lines : ℕ} {later : List ℤ} → PlainPut text D at due samples count end lines later → count + lines ≤ length slice
        → Way D before text slice end (count + lines) (due + lines * D) (cond (eqb sound count) (sound + lines) sound) later
    way_run {end} {lines} p room =
        record {
          going = going_run w.going p w.when room;
          when = omega (arith, w.when);
          few = omega (arith, w.few, times lines);
          early = lines_early (put_lines p) (high 1 10000 D step) w.early;
          room = room;
        }

    pub way_line : {b : Bool} {n next later : ℕ} {x : ℤ} → LineRead text at due b n next → count < length slice
        → later ≡ cond (eqb sound count && leb n largest_size) (sound + 1) sound → x ≡ cond (leb n largest_size) (signed b n) (pos 0)
        → Way D before text slice next (count + 1) (due + D) later (set samples count x)
    way_line l room o z =
        record {
          going = going_read w.going w.when l room o z;
          when = omega (arith, w.when);
          few = omega (arith, w.few, low 1 10000 D step);
          early = omega (arith, (turn due (drop at text) l.is).small, high 1 10000 D step);
          room = omega arith;
        }

    -- what the promise says
    abbrev Said : Type 0
    Said = (Ok (count, at, sound) ≡ lines_taken D before text (length slice)) × ((samples ≡ put_by (Ok (count, at, sound)) text slice)
        × (before + taken_of (Ok (count, at, sound)) < 18446744073709551616))

    fits : before + taken_of (Ok (count, at, sound)) < 18446744073709551616
    unfolding taken_of
    fits = omega (arith, w.few, w.early)

    pub way_full : length slice ≤ count → Said
    way_full h =
        let all = going_full before w.going (length slice) (omega (arith, w.room)) in
        (going_taken before w.going (length slice) step all, (going_put before w.going (length slice) step all, fits))

    pub way_stopped : right due (drop at text) ≡ false → Said
    way_stopped r =
        let all = going_stopped before w.going (length slice) w.room (rw (← w.when) r) in
        (going_taken before w.going (length slice) step all, (going_put before w.going (length slice) step all, fits))
