-- What pieces of both files come to: the tests that pick the case, that no more is used than there is, and that less
-- than a line is left of the file that has to be read. Assumes nothing.
use Prim.Native.Nat.{ℕ, ◌+◌, ◌-◌, ◌≤◌, ◌<◌, min}
use mathlib.Core.Path.{◌≡◌, refl, sym, ap, ◌∙◌}
use mathlib.Core.Bool.{Bool, true, false, cond, ◌&&◌}
use mathlib.Core.List.{List}
use native.Mathlib.Omega.{arith}
use lib.Dec.{eqb, ltb}
use lib.ListN.{length, take, drop, length-drop, length-take}
use borrow.Author.Tests.{eqb-true, le-leb, ltb-true}
use Rattle.truth.proofs.Cases.{by_test}
use Rattle.truth.proofs.Laws.{and-true, both_true, impossible}
use Rattle.refusal.specs.declared.Refusal.TheVariants.{BrokenState}
use Rattle.comma_stream.specs.declared.Follow.{Follow}
use Rattle.comma_stream.specs.declared.Rest.{Rest}
use Rattle.comma_stream.specs.declared.Rest.TheVariants.{Waits, Over, Wrong}
use Rattle.comma_stream.specs.Follow.{longest_comma_line, unended, may_begin, bytes_of, right_lines, after_lines, resting}
use Rattle.comma_count.specs.declared.Counting.{Counting}
use Rattle.comma_count.specs.declared.Took as one
use Rattle.comma_count.specs.Taking as count
use Rattle.comma_count.specs.Taking.{sound_follow, agrees, with_lines}
use Rattle.comma_count.proofs.Piece.{sound_step, sound_lines, NearlyAll, used}
use Rattle.comma_pair.specs.declared.Watching.{Watching}
use Rattle.comma_pair.specs.declared.Abreast.{Abreast}
use Rattle.comma_pair.specs.declared.Took.{Took}
use Rattle.comma_pair.specs.Taking.{pairs_of, side_by_side, shared, agreeing, stopped, ended, alone, roll_alone, acceleration_alone, acceleration_behind, roll_behind, judged, taking, left_over}
use Rattle.comma_pair.proofs.Front.{within, some, all_within}
use Rattle.refusal.specs.declared.Refusal.{Refusal}
use Rattle.record_state.specs.declared.Record.{Record}
use Rattle.std.specs.Prelude.{Result, Err}

-- ---- what is left after right lines and waits is less than a line
pub waits_few : (text : List ℕ) (more : Bool) {n : ℕ} → resting text more ≡ Waits n → length text < 31
unfolding resting may_begin
waits_few text more e =
    by_test (eqb (length text) 0)
    (λ z. let none = eqb-true (length text) 0 z in omega arith)
    (λ z.
    by_test (more && (ltb (length text) longest_comma_line && unended text))
    (λ m. ltb-true (length text) longest_comma_line (and-true _ _ (and-true more _ m).1).0)
    (λ m. impossible (cc (sym (rw (z, m) at e)))))

-- ---- a file that goes on alone uses nearly all
pub nearly : (c : Counting) (text : List ℕ) (more : Bool) → NearlyAll text (count.taking c text more)
unfolding count.taking
nearly c text more =
    let lines = right_lines c.follow text in
    by_test c.over
    (λ o. rw o (omega arith, omega arith))
    (λ o.
    by_test (agrees c.follow c.answer)
    (λ s. rw (o, s) (used (resting (drop (bytes_of lines) text) more) (with_lines c lines) text (bytes_of lines) more (all_within c.follow text) refl))
    (λ s. rw (o, s) (omega arith, omega arith)))

-- ---- no more is used than there is, and less than a line is left of the file that has to be read
abbrev pub Spare : List ℕ → List ℕ → Took → Type 0
Spare x y t = ((t.roll ≤ length x) × (t.acceleration ≤ length y)) × (left_over t.next t x y < 31)

pub spare_ended : (x y : List ℕ) → ((length x ≤ length x) × (length y ≤ length y)) × (0 < 31)
spare_ended x y = ((omega arith, omega arith), omega arith)

module _ (x y : List ℕ) (s : Abreast) (more : Bool) where
  roll_alone_spare : (t : one.Took) → NearlyAll (drop s.at x) t → s.at ≤ length x → s.beside ≤ length y → Spare x y (roll_alone t s more (length x) (length y))
  roll_alone_spare t n h k =
      by_test t.counting.over
      (λ o. rw o (spare_ended x y))
      (λ o.
      let all : s.at + t.used ≤ length x = omega (arith, n.0, length-drop s.at x) in
      by_test more
      (λ m. rw (o, m) ((all, k), omega (arith, n.1, length-drop s.at x)))
      (λ m. rw (o, m) ((all, k), omega arith)))

  acceleration_alone_spare : (t : one.Took) → NearlyAll (drop s.beside y) t → s.at ≤ length x → s.beside ≤ length y → Spare x y (acceleration_alone t s more (length x) (length y))
  acceleration_alone_spare t n h k =
      by_test t.counting.over
      (λ o. rw o (spare_ended x y))
      (λ o.
      let all : s.beside + t.used ≤ length y = omega (arith, n.0, length-drop s.beside y) in
      by_test more
      (λ m. rw (o, m) ((h, all), omega (arith, n.1, length-drop s.beside y)))
      (λ m. rw (o, m) ((h, all), omega arith)))

module _ (x y : List ℕ) (s : Abreast) (h : s.at ≤ length x) (k : s.beside ≤ length y) (more other : Bool) where
  pub acceleration_spare : (rest : Rest) → rest ≡ resting (drop s.beside y) other → Spare x y (acceleration_behind rest s x more (length y))
  acceleration_spare (Waits n) e = ((h, k), omega (arith, waits_few (drop s.beside y) other (sym e), length-drop s.beside y))
  acceleration_spare Over e = roll_alone_spare x y s more (count.taking (alone s.roll) (drop s.at x) more) (nearly (alone s.roll) (drop s.at x) more) h k
  acceleration_spare Wrong e = spare_ended x y

  pub roll_spare : (rest : Rest) → rest ≡ resting (drop s.at x) other → Spare x y (roll_behind rest s (length x) y more)
  roll_spare (Waits n) e = ((h, k), omega (arith, waits_few (drop s.at x) other (sym e), length-drop s.at x))
  roll_spare Over e = acceleration_alone_spare x y s more (count.taking (alone s.acceleration) (drop s.beside y) more) (nearly (alone s.acceleration) (drop s.beside y) more) h k
  roll_spare Wrong e = spare_ended x y

-- ---- where lines and answer agree, both files stand where one may, and so does one with the lines that both have
pub both_stand : (f g : Follow) (a : Result Record Refusal) → agreeing f g a ≡ true → (sound_follow f ≡ true) × (sound_follow g ≡ true)
both_stand f g a e = and-true (sound_follow f) (sound_follow g) (and-true (eqb f.step g.step) _ (and-true (agrees (shared f g) a) _ e).1).1

pub shared_stands : (f g : Follow) → sound_follow f ≡ true → sound_follow (shared f g) ≡ true
shared_stands f g s =
    both_true (sound_step f s)
    (both_true (le-leb (min f.lines g.lines) 1000000000000 (omega (arith, sound_lines f s))) (le-leb 0 (min f.lines g.lines) (omega arith)))

-- ---- the tests in their order
module _ (w : Watching) (x : List ℕ) (xMore : Bool) (y : List ℕ) (yMore : Bool) where
  pub taking_over : w.over ≡ true → ended w (length x) (length y) ≡ taking w x xMore y yMore
  unfolding taking
  taking_over o = rw o

  module _ (o : w.over ≡ false) where
    pub taking_broken : agreeing w.roll w.acceleration w.answer ≡ false
        → ended (stopped w.roll w.acceleration (Err BrokenState) 0) (length x) (length y) ≡ taking w x xMore y yMore
    unfolding taking
    taking_broken s = rw (o, s)

    module _ (well : agreeing w.roll w.acceleration w.answer ≡ true) {s : Abreast} (is : s ≡ side_by_side w.roll w.acceleration w.answer x y) where
      taking_judged : judged s x xMore y yMore ≡ taking w x xMore y yMore
      unfolding taking
      taking_judged = rw (o, well) (ap (λ a. judged a x xMore y yMore) is)

      pub taking_ahead : {rest : Rest} → s.ahead ≡ true → rest ≡ resting (drop s.beside y) yMore → acceleration_behind rest s x xMore (length y) ≡ taking w x xMore y yMore
      unfolding judged
      taking_ahead {rest} a r = ap (λ q. acceleration_behind q s x xMore (length y)) r ∙ rw (sym taking_judged) (rw a)

      pub taking_not_ahead : {rest : Rest} → s.ahead ≡ false → rest ≡ resting (drop s.at x) xMore → roll_behind rest s (length x) y yMore ≡ taking w x xMore y yMore
      unfolding judged
      taking_not_ahead {rest} a r = ap (λ q. roll_behind q s (length x) y yMore) r ∙ rw (sym taking_judged) (rw a)

-- ---- the lines so far
lines_few : (f : Follow) (text : List ℕ) (k : ℕ) → (after_lines f (take k (right_lines f text))).lines ≤ f.lines + length text
unfolding after_lines
lines_few f text k = omega (arith, within f text k, some f text k)

pub few_lines : (f g : Follow) (a : Result Record Refusal) (x y : List ℕ) {s : Abreast} → s ≡ side_by_side f g a x y → (s.roll.lines ≤ f.lines + length x) × (s.acceleration.lines ≤ g.lines + length y)
unfolding side_by_side
few_lines f g a x y e = rw e (lines_few f x (pairs_of f g x y), lines_few g y (pairs_of f g x y))

-- ---- and so of every call
side_within : (f g : Follow) (a : Result Record Refusal) (x y : List ℕ) → ((side_by_side f g a x y).at ≤ length x) × ((side_by_side f g a x y).beside ≤ length y)
unfolding side_by_side
side_within f g a x y = (within f x (pairs_of f g x y), within g y (pairs_of f g x y))

pub either_way : (P : Took → Type 0) (b : Bool) (t u : Took) → P t → P u → P (cond b t u)
either_way P true t u p q = p
either_way P false t u p q = q

judged_spare : (s : Abreast) (x : List ℕ) (xMore : Bool) (y : List ℕ) (yMore : Bool) → s.at ≤ length x → s.beside ≤ length y → Spare x y (judged s x xMore y yMore)
unfolding judged
judged_spare s x xMore y yMore h k =
    either_way (Spare x y) s.ahead (acceleration_behind (resting (drop s.beside y) yMore) s x xMore (length y)) (roll_behind (resting (drop s.at x) xMore) s (length x) y yMore)
    (acceleration_spare x y s h k xMore yMore (resting (drop s.beside y) yMore) refl)
    (roll_spare x y s h k yMore xMore (resting (drop s.at x) xMore) refl)

pub spare : (w : Watching) (x : List ℕ) (xMore : Bool) (y : List ℕ) (yMore : Bool) → Spare x y (taking w x xMore y yMore)
unfolding taking
spare w x xMore y yMore =
    by_test w.over
    (λ o. rw o (spare_ended x y))
    (λ o.
    by_test (agreeing w.roll w.acceleration w.answer)
    (λ s.
    let t = side_within w.roll w.acceleration w.answer x y in
    rw (o, s) (judged_spare (side_by_side w.roll w.acceleration w.answer x y) x xMore y yMore t.0 t.1))
    (λ s. rw (o, s) (spare_ended x y)))
