-- The samples of plain lines put one after the other: each is what its line says, and the slice stays as long. Assumes
-- nothing.
use Rattle.std.proofs.Common.{◌≡◌, ℕ, ◌+◌, ◌*◌, ◌≤◌, true, List, length, drop, set, ℤ, refl, ◌∙◌, arith, length-set, get_or-drop}
use Rattle.degrees.specs.Degrees.{sample_of}
use Rattle.comma_line.specs.Line.{roll, right}
use Rattle.comma_read.specs.Roll.{PlainRoll, roll_sample}
use Rattle.comma_read.specs.Plain.{Narrow, RollLine, PlainLines, none, more, PlainPut, as_it_stood, one_more}
use Rattle.comma_read.proofs.Lines.{turn}
use Rattle.comma_read.proofs.Times.{as_wide}
use Rattle.comma_read.proofs.PlainLine.{roll_read}

-- the sample of plain degrees is that of the line
pub roll_sample_lem : (s : List ℕ) (at width time : ℕ) {k : ℕ} → PlainRoll s (at + width) k → right time (drop at s) ≡ true → Narrow width time
    → roll_sample s (at + width) k ≡ sample_of (roll (drop at s))
roll_sample_lem s at width time {k} p r n =
    let l = roll_read s at width p time r (as_wide time (drop at s) width n.few (rw get_or-drop p.mark) r) in
    rw (l.value, l.sign)

module _ {s : List ℕ} {D at time : ℕ} {slice : List ℤ} {from : ℕ} where
  pub put_on : {place lines end when : ℕ} {samples : List ℤ} {x : ℤ} → PlainPut s D at time slice from place lines samples → when ≡ time + lines * D
      → RollLine s place when end → x ≡ sample_of (roll (drop place s)) → PlainPut s D at time slice from end (lines + 1) (set samples (from + lines) x)
  put_on {end = end} p due l e = rw e (one_more {end = end} p (rw (← due) l))

  pub put_length : {end lines : ℕ} {samples : List ℤ} → PlainPut s D at time slice from end lines samples → length samples ≡ length slice
  put_length as_it_stood = refl
  put_length (one_more {samples = xs} p l) = length-set xs _ _ ∙ put_length p

  -- the lines by themselves
  pub put_lines : {end lines : ℕ} {samples : List ℤ} → PlainPut s D at time slice from end lines samples → PlainLines s D at time end lines
  put_lines as_it_stood = none
  put_lines (one_more p l) = more (put_lines p) l

-- the time of a right line has 12 digits, so that no sum of times wraps
pub lines_early : {s : List ℕ} {D at time end lines : ℕ} → PlainLines s D at time end lines → D ≤ 10000 → time ≤ 10000000000010000 → time + lines * D ≤ 10000000000010000
lines_early none small early = omega arith
lines_early {s} {D} {at} {time} (more {next = n} {lines = k} ls l) small early = omega (arith, (turn (time + k * D) (drop n s) l.line.is).small)
