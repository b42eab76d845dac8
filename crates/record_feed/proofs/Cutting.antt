-- A piece cut in two: both parts are taken exactly if the piece is, and end in the same state. What is handed out is
-- sound. The room that a piece needs is that of its parts together, and its samples are in range if theirs are. Assumes
-- nothing.
use Prim.Native.Nat.{◌+◌, ◌≤◌}
use mathlib.Core.Path.{◌≡◌, refl, sym, ap, ◌∙◌}
use mathlib.Core.Bool.{true}
use mathlib.Core.List.{List, [], ◌∷◌, ◌++◌, foldl, foldl-append}
use native.Mathlib.Nat.{add-zero}
use native.Mathlib.Omega.{arith}
use lib.ListN.{length, length-append}
use lib.IntN.{ℤ}
use Rattle.sample_channels.specs.declared.Moment.{Moment}
use Rattle.sample_channels.specs.Channels.{moments, AllInRange}
use Rattle.sample_channels.proofs.Moments.{moments_length, moments_append}
use Rattle.sample_channels.proofs.Range.{all_in}
use Rattle.record_state.specs.declared.Record.{Record}
use Rattle.sample_items.specs.Limits.{most_samples}
use Rattle.record_state.specs.State.{sound}
use Rattle.record_step.specs.Step.{stepped}
use Rattle.sample_range.specs.Range.{first_bad}
use Rattle.record_feed.specs.Answers.{fed}
use Rattle.record_step.proofs.Steps.{stepped_sound, stepped_n, stepped_most}
use Rattle.sample_range.proofs.Bad.{good_left, bad_append}
use Rattle.record_feed.proofs.Fed.{taken, fed_taken}
use Rattle.std.specs.Prelude.{Ok}

pub run_n : (r : Record) (p : List Moment) → (foldl stepped r p).n ≡ r.n + length p
run_n r [] = sym (add-zero r.n)
run_n r (x ∷ p) = omega (arith, run_n (stepped r x) p, stepped_n r x)

pub run_most : (r : Record) (p : List Moment) → most_samples (foldl stepped r p).items.step (foldl stepped r p).items.ramp ≡ most_samples r.items.step r.items.ramp
run_most r [] = refl
run_most r (x ∷ p) = run_most (stepped r x) p ∙ stepped_most r x

pub run_sound : (r : Record) (p : List Moment) → sound r ≡ true → AllInRange p → r.n + length p ≤ most_samples r.items.step r.items.ramp → sound (foldl stepped r p) ≡ true
unfolding AllInRange
run_sound r [] s g m = s
run_sound r (x ∷ p) s g m =
    run_sound (stepped r x) p (stepped_sound r x s g.0 (omega arith)) g.1 (omega (arith, stepped_n r x, stepped_most r x))

-- xs and ys are the slices of a piece, us and vs those of the next
module _ (r : Record) (xs ys us vs : List ℤ) where
  pub joins : {s t : Record} → fed r xs ys ≡ Ok s → fed s us vs ≡ Ok t → fed r (xs ++ us) (ys ++ vs) ≡ Ok t
  joins {s} {t} e f =
      let a = taken r xs ys s e in
      let b = taken s us vs t f in
      let m = ap (λ (u : Record). most_samples u.items.step u.items.ramp) (sym a.end) ∙ run_most r (moments xs ys) in
      let n = ap (λ (u : Record). u.n) (sym a.end) ∙ run_n r (moments xs ys) in
      let k = moments_length xs ys a.equal in
      fed_taken r (xs ++ us) (ys ++ vs) a.state (omega (arith, length-append xs us, length-append ys vs, a.equal, b.equal))
      (omega (arith, length-append xs us, bad_append xs us a.roll, b.roll)) (omega (
        arith,
        length-append ys vs,
        bad_append ys vs a.acceleration,
        b.acceleration,
      )) (omega (arith, length-append xs us, b.room))
      ∙ ap Ok (ap (foldl stepped r) (moments_append xs ys us vs a.equal) ∙ foldl-append stepped r
      (moments xs ys) (moments us vs) ∙ ap (λ (u : Record). foldl stepped u (moments us vs)) a.end ∙ b.end)

  -- both slices cut at the same place
  pub splits : {t : Record} → length xs ≡ length ys → fed r (xs ++ us) (ys ++ vs) ≡ Ok t →
      (fed r xs ys ≡ Ok (foldl stepped r (moments xs ys))) × (fed (foldl stepped r (moments xs ys)) us vs ≡ Ok t)
  splits {t} i e =
      let a = taken r (xs ++ us) (ys ++ vs) t e in
      let l = length-append xs us in
      let m = length-append ys vs in
      let k = moments_length xs ys i in
      let g : first_bad xs ≡ length xs = good_left xs us a.roll in
      let h : first_bad ys ≡ length ys = good_left ys vs a.acceleration in
      let g₂ : first_bad us ≡ length us = omega (arith, bad_append xs us g, a.roll) in
      let h₂ : first_bad vs ≡ length vs = omega (arith, bad_append ys vs h, a.acceleration) in
      let s = run_sound r (moments xs ys) a.state (all_in xs ys g h) (omega (arith, a.room)) in (
        fed_taken r xs ys a.state i g h (omega (arith, a.room)),
        fed_taken (foldl stepped r (moments xs ys)) us vs s (omega (arith, a.equal)) g₂ h₂ (omega (arith, a.room, run_n r (moments xs ys), run_most r (moments xs ys)))
            ∙ ap Ok (sym (foldl-append stepped r (moments xs ys) (moments us vs)) ∙ sym (ap (foldl stepped r) (moments_append xs ys us vs i)) ∙ a.end),
      )
