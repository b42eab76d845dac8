-- Plain lines one after the other: the digits of the time that is due are those of the line, if eight bytes are the
-- same number; and they are moved on with the time. Assumes nothing.
use Rattle.std.proofs.Common.{◌≡◌, ℕ, zero, suc, ◌+◌, ◌-◌, ◌*◌, ◌/◌, ◌^◌, ◌<◌, ◌≤◌, true, List, length, take, drop, sym, ap, ◌∙◌, add-zero, add-suc, arith, length-drop, length-take-le, get_or-drop, shr-shr}
use Rattle.decimal.specs.Decimal.{all_digits, value_of}
use Rattle.comma_word.specs.Word.{word, Small}
use Rattle.comma_word.proofs.Bytes.{bytes_from, word_front}
use Rattle.comma_word.specs.Dial.{dial, each, turned}
use Rattle.comma_word.proofs.Turn.{moved}
use Rattle.comma_word.proofs.Shown.{shown_wide}
use Rattle.comma_read.specs.Roll.{PlainRoll}
use Rattle.comma_read.specs.Plain.{Narrow, RollLine, PlainLines, none, more}
use Rattle.comma_read.proofs.Times.{narrow_on}
use Rattle.comma_read.proofs.PlainLine.{whole_roll, roll_within}

-- a shift to the right leaves the zeros in front
zeros_front : (k j : ℕ) → each 48 (k + j) / 2 ^ (8 * j) ≡ each 48 k
unfolding each
zeros_front k zero = rw add-zero (omega arith)
zeros_front k (suc j) =
    let wide : 8 * suc j ≡ 8 + 8 * j = omega arith in
    rw (add-suc, wide, ← shr-shr) (ap (λ (v : ℕ). v / 2 ^ (8 * j)) (omega arith) ∙ zeros_front k j)

module _ (width : ℕ) (some : 1 ≤ width) (few : width ≤ 8) where
  eight : width + (8 - width) ≡ 8
  eight = omega arith

  shift : 64 - 8 * width ≡ 8 * (8 - width)
  shift = omega arith

  -- as many zeros as the time is wide
  zeros_are : 0x3030303030303030 / 2 ^ (64 - 8 * width) ≡ each 48 width
  unfolding each
  zeros_are = rw shift (rw eight at (zeros_front width (8 - width)))

  -- the bytes in front of eight
  front : (s : List ℕ) (at : ℕ) → at + 8 ≤ length s → Small s at 8 → word (take 8 (drop at s)) / 2 ^ (64 - 8 * width) ≡ word (take width (drop at s))
  front s at room small =
      rw shift (rw eight at (word_front (drop at s) width (8 - width) (λ i l. rw get_or-drop (small i (omega arith))) (omega (arith, length-drop at s))))

  pub due_stands : (s : List ℕ) (at time : ℕ) → at + 8 ≤ length s → Small s at 8 → time < 10 ^ 8
      → word (take 8 (drop at s)) / 2 ^ (64 - 8 * width) ≡ dial 8 time + 0x3030303030303030 / 2 ^ (64 - 8 * width)
      → (all_digits (take width (drop at s)) ≡ true) × (value_of (take width (drop at s)) ≡ time)
  due_stands s at time room small early e =
      let wide : length (take width (drop at s)) ≡ width = length-take-le width (drop at s) (omega (arith, length-drop at s)) in
      shown_wide (take width (drop at s)) time (bytes_from s at 8 width few small) (omega arith)
      (sym (front s at room small) ∙ e ∙ ap (λ (z : ℕ). dial 8 time + z) (zeros_are ∙ ap (each 48) (sym wide)))
      early

-- the lines so far
pub record Running (s : List ℕ) (D at due width digits time place lines : ℕ) : Type 0 where
  pub are : PlainLines s D at due place lines
  pub when : time ≡ due + lines * D
  pub dials : digits ≡ dial 8 time
  pub narrow : Narrow width time
  pub within : place ≤ length s
  pub count : lines ≤ place

module _ (s : List ℕ) (D at due width : ℕ) where
  pub set_out : (digits : ℕ) → digits ≡ dial 8 due → Narrow width due → at ≤ length s → Running s D at due width digits due at 0
  set_out digits e n inside = record { are = none; when = omega arith; dials = e; narrow = n; within = inside; count = omega arith }

-- where the digits that are due stand and plain degrees after them, the line of the time does
pub due_line : (s : List ℕ) (D at due width : ℕ) {digits time place lines : ℕ} → Running s D at due width digits time
    place lines → width ≤ 8 → place + 17 ≤ length s → Small s place 8 → time < 99990000
    → word (take 8 (drop place s)) / 2 ^ (64 - 8 * width) ≡ digits + 0x3030303030303030 / 2 ^ (64 - 8 * width)
    → {roll : ℕ} → PlainRoll s (place + width) roll → RollLine s place time (place + width + roll / 2)
due_line s D at due width {digits} {time} {place} {lines} r few room small early e {roll} p =
    let t = due_stands width r.narrow.some few s place time (omega arith) small (omega arith) (e ∙ ap (λ (q : ℕ). q + 0x3030303030303030 / 2 ^ (64 - 8 * width)) r.dials) in
    whole_roll s place width p time r.narrow (omega arith) t.0 t.1

-- one line more
pub on_line : (s : List ℕ) (D at due width : ℕ) {digits time place lines : ℕ} → Running s D at due width digits time
    place lines → width ≤ 8 → place + 17 ≤ length s → Small s place 8 → time < 99990000 → D ≤ 10000
    → word (take 8 (drop place s)) / 2 ^ (64 - 8 * width) ≡ digits + 0x3030303030303030 / 2 ^ (64 - 8 * width)
    → {roll : ℕ} → PlainRoll s (place + width) roll → Running s D at due width (turned digits (dial 8 D + each 246 8)) (time + D) (place + width + roll / 2) (lines + 1)
on_line s D at due width {digits} {time} {place} {lines} r few room small early step e {roll} p =
    let l = due_line s D at due width r few room small early e p in
    record {
      are = more {end = place + width + roll / 2} r.are (rw (← r.when) l);
      when = omega (arith, r.when);
      dials = ap (λ (q : ℕ). turned q (dial 8 D + each 246 8)) r.dials ∙ moved time D (omega arith);
      narrow = narrow_on D r.narrow;
      within = roll_within s place width p;
      count = omega (arith, r.count, r.narrow.some);
    }
