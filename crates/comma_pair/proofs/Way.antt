-- Lines of both files, as many of each. Some of them at once (`short`, `even`); and all of them, some at a time: after k
-- of each (`Way`) a turn takes n more (`way_on`), and one that finds fewer than it has places is the last (`way_ends`).
-- Assumes nothing.
use Prim.Native.Nat.{ℕ, ◌+◌, ◌-◌, ◌≤◌, ◌<◌, min}
use mathlib.Core.Path.{◌≡◌, refl, sym, ap, subst, ◌∙◌}
use mathlib.Core.Bool.{Bool, true, false}
use mathlib.Core.List.{List, [], ◌∷◌, ◌++◌, map, append_assoc}
use native.Mathlib.Nat.{add-zero}
use native.Mathlib.Omega.{arith}
use lib.Dec.{eqb, ltb}
use lib.IntN.{ℤ}
use lib.ListN.{length, take, drop, length-take, length-drop, take-append-drop}
use lib.Seq.{take_all, take_at, take-take, take-append-le, length-take-le}
use borrow.Author.Tests.{lt-ltb, le-ltb}
use Rattle.truth.proofs.Cases.{by_test, by_order}
use Rattle.sample_items.specs.Limits.{step_in_range}
use Rattle.sample_range.specs.Range.{first_bad}
use Rattle.comma_line.specs.Text.{samples_of}
use Rattle.comma_stream.specs.declared.Follow.{Follow}
use Rattle.comma_stream.specs.Follow.{bytes_of, right_lines, after_lines, held, taking, leaving}
use Rattle.comma_count.proofs.Way as one
use Rattle.comma_pair.specs.declared.Abreast.{Abreast}
use Rattle.comma_pair.specs.Taking.{onward, held_of, pairs_of, side_by_side}
use Rattle.comma_pair.specs.Step.{Some, Both}
use Rattle.comma_pair.proofs.Front.{by_length, held_many, within, some, after_them, lines_on, bytes_on, held_on}
use Rattle.comma_pair.proofs.Joining.{Good, held_good, good_join, onward_join}
use Rattle.refusal.specs.declared.Refusal.{Refusal}
use Rattle.record_state.specs.declared.Record.{Record}
use Rattle.std.specs.Prelude.{Result, Ok}

-- ---- some lines of one file
module _ (f : Follow) (text : List ℕ) (slice : List ℤ) (step : step_in_range f.step ≡ true) where
  pub told : {r : (Result (Follow × ℕ × ℕ) Refusal)} {g : Follow} {bytes n : ℕ} {later : List ℤ}
      → r ≡ taking f text (length slice) → later ≡ leaving r text slice → r ≡ Ok (g, bytes, n) → Some f text slice g bytes n later
  told {r} {g} {bytes} {n} {later} e l is =
      let t = one.took f text slice step refl e l is in
      let same : take n (right_lines f text) ≡ take (length slice) (right_lines f text) = ap (λ k. take k (right_lines f text)) t.number ∙ by_length (length slice) (right_lines f text) in
      record {
        number = t.number ∙ length-take (length slice) (right_lines f text);
        stands = t.stands ∙ ap (after_lines f) (sym same);
        place = t.place ∙ ap bytes_of (sym same);
        samples = t.samples ∙ ap held_of (sym same);
      }

-- ---- as many of both
module _ {f g : Follow} {x y : List ℕ} {rolls accelerations : List ℤ} {f₁ g₁ : Follow} {b₁ b₂ n m : ℕ} {later₁ later₂ : List ℤ} (full : length rolls ≡ 1024) (places : length accelerations ≡ n)
    (first : Some f x rolls f₁ b₁ n later₁) (second : Some g y accelerations g₁ b₂ m later₂) where
  pub m_few : m ≤ n
  m_few = omega (arith, second.number, places)

  pub n_few : n ≤ 1024
  n_few = omega (arith, first.number, full)

  m_is : m ≡ min 1024 (pairs_of f g x y)
  m_is = omega (arith, second.number, places, first.number, full)

  -- the acceleration has fewer
  pub short : {slice : List ℤ} {f₂ : Follow} {b₃ k : ℕ} {later₃ : List ℤ} {a b : (Result Record Refusal)} {xs ys : List ℤ} → length slice ≡ m → m < n → Some f x slice f₂ b₃ k later₃
      → b ≡ onward a xs ys → xs ≡ take m later₃ → ys ≡ take m later₂ → Both f g a x y f₂ g₁ b b₃ b₂ m true
  short {k = k} {later₃ = later₃} {a = a} {ys = ys} size less again says e e₂ =
      let same : k ≡ m = omega (arith, again.number, size, first.number) in
      record {
        number = m_is;
        roll = again.stands ∙ ap (λ j. after_lines f (take j (right_lines f x))) same;
        acceleration = second.stands;
        says =
            says
            ∙ ap (λ l. onward a l ys) (e ∙ ap (λ j. take j later₃) (sym same) ∙ again.samples ∙ ap (λ j. held_of (take j (right_lines f x))) same)
            ∙ ap (onward a (held_of (take m (right_lines f x)))) (e₂ ∙ second.samples);
        place = again.place ∙ ap (λ j. bytes_of (take j (right_lines f x))) same;
        other = second.place;
        more = sym (lt-ltb m (min 1024 (length (right_lines f x))) (omega (arith, first.number, full)));
      }

  -- both have as many
  pub even : {a b : (Result Record Refusal)} {xs ys : List ℤ} → n ≤ m → b ≡ onward a xs ys → xs ≡ take m later₁ → ys ≡ take m later₂ → Both f g a x y f₁ g₁ b b₁ b₂ m false
  even {a = a} {ys = ys} least says e e₂ =
      let same : n ≡ m = omega (arith, m_few) in
      record {
        number = m_is;
        roll = first.stands ∙ ap (λ j. after_lines f (take j (right_lines f x))) same;
        acceleration = second.stands;
        says =
            says
            ∙ ap (λ l. onward a l ys) (e ∙ ap (λ j. take j later₁) (sym same) ∙ first.samples ∙ ap (λ j. held_of (take j (right_lines f x))) same)
            ∙ ap (onward a (held_of (take m (right_lines f x)))) (e₂ ∙ second.samples);
        place = first.place ∙ ap (λ j. bytes_of (take j (right_lines f x))) same;
        other = second.place;
        more = sym (le-ltb m (min 1024 (length (right_lines f x))) (omega (arith, first.number, full)));
      }

-- ---- all of them, some at a time
-- after k lines of each; what is fed then is fed after these
pub record Way (f g : Follow) (a : Result Record Refusal) (x y : List ℕ) (r s : Follow) (b : Result Record Refusal) (at beside : ℕ) : Type 0 where
  pub k : ℕ
  pub roll_few : k ≤ length (right_lines f x)
  pub acceleration_few : k ≤ length (right_lines g y)
  pub roll : r ≡ after_lines f (take k (right_lines f x))
  pub acceleration : s ≡ after_lines g (take k (right_lines g y))
  pub says : (xs ys : List ℤ) → Good xs ys → onward b xs ys ≡ onward a (held_of (take k (right_lines f x)) ++ xs) (held_of (take k (right_lines g y)) ++ ys)
  pub place : at ≡ bytes_of (take k (right_lines f x))
  pub other : beside ≡ bytes_of (take k (right_lines g y))

pub after_none : (f : Follow) → after_lines f [] ≡ f
unfolding after_lines first_bad
after_none f =
    by_test (eqb f.outside 0) (λ e. rw e (λ j. record {
      step = f.step;
      lines = add-zero f.lines j;
      outside = f.outside;
    })) (λ e. rw e (λ j. record {
      step = f.step;
      lines = add-zero f.lines j;
      outside = f.outside;
    }))

-- lines of both, as many of each, are fed in range
pub good : (us vs : List (List ℕ)) → length us ≡ length vs → Good (held_of us) (held_of vs)
good us vs e = record { equal = held_many us ∙ e ∙ sym (held_many vs); roll = held_good (samples_of us); acceleration = held_good (samples_of vs) }

module _ {f g : Follow} {a : (Result Record Refusal)} {x y : List ℕ} {r s : Follow} {b : (Result Record Refusal)} {at beside : ℕ} (w : Way f g a x y r s b at beside)
    {r' s' : Follow} {b' : (Result Record Refusal)} {at' beside' n : ℕ} {ahead : Bool} (t : Both r s b (drop at x) (drop beside y) r' s' b' at' beside' n ahead) where
  abbrev us : List (List ℕ)
  us = right_lines f x

  abbrev vs : List (List ℕ)
  vs = right_lines g y

  -- what is still to come of each
  rolls_left : right_lines r (drop at x) ≡ drop w.k us
  rolls_left = rw (w.roll, w.place) (after_them f x w.k w.roll_few)

  accelerations_left : right_lines s (drop beside y) ≡ drop w.k vs
  accelerations_left = rw (w.acceleration, w.other) (after_them g y w.k w.acceleration_few)

  U-left : length (right_lines r (drop at x)) ≡ length us - w.k
  U-left = ap length rolls_left ∙ length-drop w.k us

  V-left : length (right_lines s (drop beside y)) ≡ length vs - w.k
  V-left = ap length accelerations_left ∙ length-drop w.k vs

  number_is : n ≡ min 1024 (min (length us - w.k) (length vs - w.k))
  number_is = omega (arith, t.number, U-left, V-left)

  abbrev us_here : List (List ℕ)
  us_here = take n (drop w.k us)

  abbrev vs_here : List (List ℕ)
  vs_here = take n (drop w.k vs)

  here_good : Good (held_of us_here) (held_of vs_here)
  here_good = good us_here vs_here (omega (arith, number_is, length-take n (drop w.k us), length-drop w.k us, length-take n (drop w.k vs), length-drop w.k vs))

  says_is : b' ≡ onward b (held_of us_here) (held_of vs_here)
  says_is =
      t.says
      ∙ ap (λ l. onward b (held_of (take n l)) (held_of (take n (right_lines s (drop beside y))))) rolls_left
      ∙ ap (λ l. onward b (held_of us_here) (held_of (take n l))) accelerations_left

  says_all : b' ≡ onward a (held_of (take (w.k + n) us)) (held_of (take (w.k + n) vs))
  says_all =
      says_is
      ∙ w.says (held_of us_here) (held_of vs_here) here_good
      ∙ ap (λ l. onward a l (held_of (take w.k vs) ++ held_of vs_here)) (held_on f x w.k n)
      ∙ ap (onward a (held_of (take (w.k + n) us))) (held_on g y w.k n)

  says_on : (xs ys : List ℤ) → Good xs ys → onward b' xs ys ≡ onward a (held_of (take (w.k + n) us) ++ xs) (held_of (take (w.k + n) vs) ++ ys)
  says_on xs ys h =
      ap (λ c. onward c xs ys) says_is
      ∙ onward_join b (held_of us_here) (held_of vs_here) xs ys here_good h
      ∙ w.says (held_of us_here ++ xs) (held_of vs_here ++ ys) (good_join (held_of us_here) (held_of vs_here) xs ys here_good h)
      ∙ ap (λ l. onward a l (held_of (take w.k vs) ++ (held_of vs_here ++ ys))) (sym (append_assoc (held_of (take w.k us)) (held_of us_here) xs) ∙ ap (λ l. l ++ xs) (held_on f x w.k n))
      ∙ ap (onward a (held_of (take (w.k + n) us) ++ xs)) (sym (append_assoc (held_of (take w.k vs)) (held_of vs_here) ys) ∙ ap (λ l. l ++ ys) (held_on g y w.k n))

  roll_on : r' ≡ after_lines f (take (w.k + n) us)
  roll_on = t.roll ∙ rw rolls_left (ap (λ h. after_lines h us_here) w.roll ∙ lines_on f x w.k n)

  acceleration_on : s' ≡ after_lines g (take (w.k + n) vs)
  acceleration_on = t.acceleration ∙ rw accelerations_left (ap (λ h. after_lines h vs_here) w.acceleration ∙ lines_on g y w.k n)

  place_on : at + at' ≡ bytes_of (take (w.k + n) us)
  place_on = omega (arith, w.place, t.place ∙ ap (λ l. bytes_of (take n l)) rolls_left, bytes_on f x w.k n)

  other_on : beside + beside' ≡ bytes_of (take (w.k + n) vs)
  other_on = omega (arith, w.other, t.other ∙ ap (λ l. bytes_of (take n l)) accelerations_left, bytes_on g y w.k n)

  pub way_on : Way f g a x y r' s' b' (at + at') (beside + beside')
  way_on =
      record {
        k = w.k + n;
        roll_few = omega (arith, number_is, w.roll_few);
        acceleration_few = omega (arith, number_is, w.acceleration_few);
        roll = roll_on;
        acceleration = acceleration_on;
        says = says_on;
        place = place_on;
        other = other_on;
      }

  pub on_within : (at + at' ≤ length x) × (beside + beside' ≤ length y)
  on_within = (omega (arith, place_on, within f x (w.k + n)), omega (arith, other_on, within g y (w.k + n)))

  -- a full turn moves on
  pub on_falls : 1024 ≤ n → length x - (at + at') < length x - at
  on_falls h =
      omega (arith, on_within.0, t.place, some r (drop at x) n, length-take n (right_lines r (drop at x)), t.number)

  -- and one that is not full was the last
  pub way_ends : n < 1024 → record { roll = r'; acceleration = s'; answer = b'; at = at + at'; beside = beside + beside'; ahead = ahead } ≡ side_by_side f g a x y
  unfolding side_by_side
  way_ends h =
      let all : w.k + n ≡ pairs_of f g x y = omega (arith, number_is, w.roll_few, w.acceleration_few) in
      let more : ahead ≡ ltb (length vs) (length us) =
      t.more
      ∙ by_order (length vs) (length us)
      (λ l. lt-ltb n (min 1024 (length (right_lines r (drop at x)))) (omega (arith, number_is, U-left, w.acceleration_few)) ∙ sym (lt-ltb (length vs) (length us) l))
      (λ l. le-ltb n (min 1024 (length (right_lines r (drop at x)))) (omega (arith, number_is, U-left)) ∙ sym (le-ltb (length vs) (length us) l)) in
      rw (← all) (λ j. record { roll = roll_on j; acceleration = acceleration_on j; answer = says_all j; at = place_on j; beside = other_on j; ahead = more j })

pub way_start : (f g : Follow) (a : Result Record Refusal) (x y : List ℕ) → Way f g a x y f g a 0 0
unfolding bytes_of
way_start f g a x y =
    record {
      k = 0;
      roll_few = omega arith;
      acceleration_few = omega arith;
      roll = sym (after_none f);
      acceleration = sym (after_none g);
      says = λ xs ys h. refl;
      place = refl;
      other = refl;
    }

-- lines do not change the step
pub step_same : (f : Follow) (lines : List (List ℕ)) → (after_lines f lines).step ≡ f.step
unfolding after_lines
step_same f lines = refl
