-- The plain lines that a text starts with: runs of them one after the other, and from the first to the last. Assumes
-- nothing.
use Rattle.std.proofs.Common.{◌≡◌, ℕ, ◌+◌, ◌*◌, ◌<◌, ◌≤◌, List, refl, subst, add-zero, add_assoc, arith}
use Rattle.comma_read.specs.Plain.{RollLine, PlainLines, none, more}

-- a run after a run
pub run_after_run : {s : List ℕ} {D next lines end more_lines : ℕ} → PlainLines s D 0 0 next lines → PlainLines s D next (lines * D) end more_lines → PlainLines s D 0 0 end (lines + more_lines)
run_after_run ls none = rw add-zero ls
run_after_run {s} {D} {next} {lines} ls (more {next = n} {lines = k} {end = e} ks l) =
    let time : lines * D + k * D ≡ 0 + (lines + k) * D = omega arith in
    rw (← add_assoc lines k 1) (more (run_after_run ls ks) (subst (λ (t : ℕ). RollLine s n t e) time l))

-- from the first to the last: from a place and its time to a place and its time
pub data Ahead (s : List ℕ) (D : ℕ) : ℕ → ℕ → ℕ → ℕ → Type 0 where
  done : {at time : ℕ} → Ahead s D at time at time
  line : {at time next end when : ℕ} → RollLine s at time next → Ahead s D next (time + D) end when → Ahead s D at time end when

last : {s : List ℕ} {D at time next when end : ℕ} → Ahead s D at time next when → RollLine s next when end → Ahead s D at time end (when + D)
last done l = line l done
last (line k ks) l = line k (last ks l)

pub forward : {s : List ℕ} {D at time end lines : ℕ} → PlainLines s D at time end lines → Ahead s D at time end (time + lines * D)
forward {s} {D} {at} {time} none = subst (λ (t : ℕ). Ahead s D at time at t) (omega arith) done
forward {s} {D} {at} {time} (more {lines = k} {end = e} ls l) = subst (λ (t : ℕ). Ahead s D at time e t) (omega arith) (last (forward ls) l)

-- the first of them
pub record First (s : List ℕ) (D at time end when : ℕ) : Type 0 where
  pub next : ℕ
  pub this : RollLine s at time next
  pub others : Ahead s D next (time + D) end when

pub first : {s : List ℕ} {D at time end when : ℕ} → Ahead s D at time end when → time < when → First s D at time end when
first done h = absurd (omega arith)
first (line {next = n} l ls) h = record { next = n; this = l; others = ls }

not_late : {s : List ℕ} {D at time end when : ℕ} → Ahead s D at time end when → time ≤ when
not_late done = omega arith
not_late (line l ls) = omega (arith, not_late ls)

pub arrived : {s : List ℕ} {D at time end when : ℕ} → Ahead s D at time end when → when ≤ time → 1 ≤ D → at ≡ end
arrived done h some = refl
arrived (line l ls) h some = absurd (omega (arith, not_late ls))
