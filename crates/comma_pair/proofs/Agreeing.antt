-- Refusal 8 of two files: where lines and answer agree, no call is answered by it (`never_eight`). A file that goes on
-- alone stands where one may, since its lines are right. Assumes nothing.
use Prim.Native.Nat.{ℕ}
use mathlib.Core.Path.{◌≡◌}
use mathlib.Core.Bool.{Bool, true}
use mathlib.Core.List.{List}
use lib.IntN.{ℤ}
use lib.ListN.{length, drop}
use Rattle.truth.proofs.Laws.{and-true, impossible}
use Rattle.refusal.specs.declared.Refusal.TheVariants.{BrokenState, Unequal}
use Rattle.record_state.specs.State.{sound}
use Rattle.record_feed.proofs.Fed.{not_broken}
use Rattle.comma_stream.specs.declared.Follow.{Follow}
use Rattle.comma_stream.specs.declared.Rest.{Rest}
use Rattle.comma_stream.specs.declared.Rest.TheVariants.{Waits, Over, Wrong}
use Rattle.comma_stream.specs.Follow.{resting}
use Rattle.comma_count.specs.declared.Took as one
use Rattle.comma_count.specs.Taking as count
use Rattle.comma_count.specs.Taking.{sound_follow, agrees}
use Rattle.comma_count.proofs.Agreeing.{stands_after}
use Rattle.comma_count.proofs.Agreeing as one-file
use Rattle.comma_pair.specs.declared.Abreast.{Abreast}
use Rattle.comma_pair.specs.declared.Took.{Took}
use Rattle.comma_pair.specs.Taking.{onward, pairs_of, side_by_side, shared, agreeing, watched, alone, roll_alone, acceleration_alone, acceleration_behind, roll_behind, judged, taking}
use Rattle.comma_pair.proofs.Piece.{both_stand, either_way}
use Rattle.refusal.specs.declared.Refusal.{Refusal}
use Rattle.record_state.specs.declared.Record.{Record}
use Rattle.std.specs.Prelude.{Result, Ok, Err}

abbrev Eight : Result Record Refusal → Type 0
Eight a = a ≡ Err BrokenState

abbrev NotEight : Took → Type 0
NotEight t = Eight t.watching.answer → ⊥

-- ---- the record
onward_not : (f : Follow) (a : Result Record Refusal) → agrees f a ≡ true → (Eight a → ⊥) → (xs ys : List ℤ) → Eight (onward a xs ys) → ⊥
onward_not f (Ok r) ok other xs ys e = not_broken r xs ys (and-true (sound r) _ ok).0 e
onward_not f (Err q) ok other xs ys e = other e

-- ---- a file alone
alone_not : (f : Follow) (text : List ℕ) (more : Bool) → sound_follow f ≡ true → Eight (count.taking (alone f) text more).counting.answer → ⊥
alone_not f text more s = one-file.never_eight f (Err Unequal) s (λ e. impossible (cc)) text more

-- ---- both, after the lines side by side
module _ (s : Abreast) (other : Eight s.answer → ⊥) where
  roll_alone_not : (t : one.Took) (more : Bool) (x y : ℕ) → (Eight t.counting.answer → ⊥) → NotEight (roll_alone t s more x y)
  roll_alone_not t more x y n = either_way NotEight t.counting.over _ _ n other

  acceleration_alone_not : (t : one.Took) (more : Bool) (x y : ℕ) → (Eight t.counting.answer → ⊥) → NotEight (acceleration_alone t s more x y)
  acceleration_alone_not t more x y n = either_way NotEight t.counting.over _ _ n other

  acceleration_behind_not : sound_follow s.roll ≡ true → (q : Rest) (x : List ℕ) (more : Bool) (y : ℕ) → NotEight (acceleration_behind q s x more y)
  acceleration_behind_not well (Waits n) x more y = other
  acceleration_behind_not well Over x more y =
      roll_alone_not (count.taking (alone s.roll) (drop s.at x) more) more (length x) y (alone_not s.roll (drop s.at x) more well)
  acceleration_behind_not well Wrong x more y = λ e. impossible (cc)

  roll_behind_not : sound_follow s.acceleration ≡ true → (q : Rest) (x : ℕ) (y : List ℕ) (more : Bool) → NotEight (roll_behind q s x y more)
  roll_behind_not well (Waits n) x y more = other
  roll_behind_not well Over x y more =
      acceleration_alone_not (count.taking (alone s.acceleration) (drop s.beside y) more) more x (length y) (alone_not s.acceleration (drop s.beside y) more well)
  roll_behind_not well Wrong x y more = λ e. impossible (cc)

  judged_not : sound_follow s.roll ≡ true → sound_follow s.acceleration ≡ true → (x : List ℕ) (xMore : Bool) (y : List ℕ) (yMore : Bool) → NotEight (judged s x xMore y yMore)
  unfolding judged
  judged_not well-a well-b x xMore y yMore =
      either_way NotEight s.ahead _ _
      (acceleration_behind_not well-a (resting (drop s.beside y) yMore) x xMore (length y))
      (roll_behind_not well-b (resting (drop s.at x) xMore) (length x) y yMore)

-- ---- A CALL
module _ (f g : Follow) (a : Result Record Refusal) (ok : agreeing f g a ≡ true) (other : Eight a → ⊥) where
  abbrev both : (sound_follow f ≡ true) × (sound_follow g ≡ true)
  both = both_stand f g a ok

  side_not : (x : List ℕ) (xMore : Bool) (y : List ℕ) (yMore : Bool) → NotEight (judged (side_by_side f g a x y) x xMore y yMore)
  unfolding side_by_side
  side_not x xMore y yMore =
      judged_not (side_by_side f g a x y) (onward_not (shared f g) a (and-true (agrees (shared f g) a) _ ok).0 other _ _)
      (stands_after f both.0 x (pairs_of f g x y)) (stands_after g both.1 y (pairs_of f g x y)) x xMore y yMore

  pub never_eight : (x : List ℕ) (xMore : Bool) (y : List ℕ) (yMore : Bool) → (taking (watched f g a) x xMore y yMore).watching.answer ≡ Err BrokenState → ⊥
  unfolding taking
  never_eight x xMore y yMore e = side_not x xMore y yMore (rw ok at e)
