-- What a step keeps, and what a quiet block does. Assumes nothing.
use Prim.Native.Nat.{ℕ, suc, ◌+◌, ◌≤◌}
use mathlib.Core.Path.{◌≡◌, refl, ap, ◌∙◌}
use mathlib.Core.Bool.{Bool, true, false, cond, ◌&&◌}
use mathlib.Core.List.{List, [], ◌∷◌, foldl, map}
use native.Mathlib.Nat.{mul-le-mul_right, zero-add}
use native.Mathlib.Omega.{arith}
use lib.ListN.{length, set, length-set}
use lib.IntN.{ℤ}
use Rattle.sample_channels.specs.declared.Levels.{Levels}
use Rattle.sample_channels.specs.declared.Moment.{Moment}
use Rattle.sample_channels.specs.Channels.{above, moment, moments, any_above}
use Rattle.sample_channels.proofs.Quiet.{first_quiet}
use Rattle.record_list.specs.declared.Walk.{Walk}
use Rattle.record_list.specs.Walk.{counts, stepped, passed, Noting, noting, marked, noted, Ready}

-- ready for several samples is ready for fewer, and after the first for the others
pub ready_less : {D τ : ℕ} {w : Walk} {m n : ℕ} → m ≤ n → Ready D τ w n → Ready D τ w m
ready_less {D} {m = m} {n = n} l r = record { step = r.step; decorrelation = r.decorrelation; counted = r.counted; room = omega (arith, r.room, mul-le-mul_right {m = m} {n = n} D l) }

counted_next : (b : Bool) (c t D : ℕ) → c ≤ t → 1 ≤ D → cond b (c + 1) c ≤ t + D
counted_next true c t D l h = omega arith
counted_next false c t D l h = omega arith

pub ready_next : {D τ : ℕ} {w : Walk} (up : Bool) {n : ℕ} → Ready D τ w (suc n) → Ready D τ (stepped D τ w up) n
unfolding stepped
ready_next {D} {τ} {w} up {n} r =
    record {
      step = r.step;
      decorrelation = r.decorrelation;
      counted = counted_next (counts w up) w.count w.time D r.counted r.step;
      room = omega (arith, r.room);
    }

pub ready_after : {D τ : ℕ} (a : Levels) {w : Walk} (ts : List ℕ) (xs : List Moment) (n : ℕ) {m : ℕ} → m ≡ length xs + n → Ready D τ w m → Ready D τ (foldl (noted D a τ) (noting w ts) xs).walk n
unfolding noted
ready_after {D = D} {τ = τ} a ts [] n e r = rw (e ∙ zero-add n) at r
ready_after {D = D} {τ = τ} a {w = w} ts (x ∷ xs) n {m = m} e r =
    let f : m ≡ suc (length xs + n) = omega arith in
    ready_after {D = D} {τ = τ} a {w = stepped D τ w (above a x)} (cond (counts w (above a x)) (set ts w.count w.time) ts) xs n refl (ready_next (above a x) (rw f at r))

-- noting leaves the slice's length
pub marked_length : (D τ : ℕ) (s : Noting) (up : Bool) → length (marked D τ s up).times ≡ length s.times
marked_length D τ s up = go (counts s.walk up)
  where
    go : (b : Bool) → length (cond b (set s.times s.walk.count s.walk.time) s.times) ≡ length s.times
    go true = length-set s.times s.walk.count s.walk.time
    go false = refl

pub walked_length : (D : ℕ) (a : Levels) (τ : ℕ) (s : Noting) (xs : List Moment) → length (foldl (noted D a τ) s xs).times ≡ length s.times
unfolding noted
walked_length D a τ s [] = refl
walked_length D a τ s (x ∷ xs) = walked_length D a τ (noted D a τ s x) xs ∙ marked_length D τ s (above a x)

-- ---- a block whose samples were looked at first
pub noted_marks : (D : ℕ) (a : Levels) (τ : ℕ) (s : Noting) (xs : List Moment) → foldl (noted D a τ) s xs ≡ foldl (marked D τ) s (map (above a) xs)
unfolding noted
noted_marks D a τ s [] = refl
noted_marks D a τ s (x ∷ xs) = noted_marks D a τ (noted D a τ s x) xs

-- ---- a quiet block
and_quiet : (b : Bool) → (b && false) ≡ false
and_quiet true = refl
and_quiet false = refl

module _ (D : ℕ) (a : Levels) (τ : ℕ) (ts : List ℕ) where
  noted_quiet : (w : Walk) (x : Moment) → above a x ≡ false → noted D a τ (noting w ts) x ≡ noting (passed D w 1) ts
  unfolding noted stepped
  noted_quiet w x e = rw (e, and_quiet w.below) (ap (λ (t : ℕ). noting (record { below = true; time = t; count = w.count; due = w.due }) ts) (omega arith))

  quiet_from : (w : Walk) (xs ys : List ℤ) (k : ℕ) → any_above a xs ys ≡ false → foldl (noted D a τ) (noting (passed D w k) ts) (moments xs ys) ≡ noting (passed D w (k + length (moments xs ys))) ts
  unfolding moments
  quiet_from w [] ys k e = ap (λ (n : ℕ). noting (passed D w n) ts) (omega arith)
  quiet_from w (x ∷ xs) [] k e = ap (λ (n : ℕ). noting (passed D w n) ts) (omega arith)
  quiet_from w (x ∷ xs) (y ∷ ys) k e =
      let q = first_quiet a x y xs ys e in
      ap (λ (s : Noting). foldl (noted D a τ) s (moments xs ys)) (noted_quiet (passed D w k) (moment x y) q.0 ∙
      ap (λ (t : ℕ). noting (record { below = true; time = t; count = w.count; due = w.due }) ts) (omega arith))
      ∙ quiet_from w xs ys (k + 1) q.1 ∙ ap (λ (n : ℕ). noting (passed D w n) ts) (omega arith)

  -- only the time moves
  pub quiet_block : (w : Walk) (xs ys : List ℤ) → any_above a xs ys ≡ false → 1 ≤ length (moments xs ys) →
      foldl (noted D a τ) (noting w ts) (moments xs ys) ≡ noting (passed D w (length (moments xs ys))) ts
  unfolding moments
  quiet_block w [] ys e l = absurd (omega arith)
  quiet_block w (x ∷ xs) [] e l = absurd (omega arith)
  quiet_block w (x ∷ xs) (y ∷ ys) e l =
      let q = first_quiet a x y xs ys e in
      ap (λ (s : Noting). foldl (noted D a τ) s (moments xs ys)) (noted_quiet w (moment x y) q.0) ∙ quiet_from w xs ys 1 q.1 ∙ ap (λ (n : ℕ). noting (passed D w n) ts) (omega arith)
