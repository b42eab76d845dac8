use Prim.Native.Nat.{ℕ}
use mathlib.Core.Path.{◌≡◌, refl, ap, ◌∙◌}
use mathlib.Core.List.{List, [], ◌∷◌, ◌++◌}
use native.Mathlib.Omega.{arith}
use lib.ListN.{length}
use Rattle.std.proofs.Common.{Iter, ◌⊎◌, inl, inr}
use Rattle.std.specs.declared.iter.Zip.{Zip}
use Rattle.text.proofs.Parts.{Left, left_all, left_wrote, left_next, left_room}
use Rattle.peak_lines.specs.Lines.{peak_line, peak_lines}
use Rattle.peak_lines.proofs.Laws.{lines_next}
use Rattle.peak_lines.proofs.put_peaks.Goals as goal
use Rattle.peak_lines.proofs.put_peaks.Goals.{In-Some}

-- an iterator that has ended has no magnitude left or no time
ended : (file : ℕ) (sizes times : List ℕ) (i j : Iter ℕ)
    → ((x : Iter ℕ) × ((length sizes ≡ 0) × (x ≡ i))) ⊎ ((x : Iter ℕ) × ((length times ≡ 0) × (x ≡ j))) → peak_lines file sizes times ≡ []
unfolding peak_lines
ended file [] times i j h = refl
ended file (s ∷ sizes) [] i j h = refl
ended file (s ∷ sizes) (t ∷ times) i j (inl w) = absurd (omega (arith, w.1.0))
ended file (s ∷ sizes) (t ∷ times) i j (inr w) = absurd (omega (arith, w.1.0))

pub loop-size-init : goal.loop-size-init
loop-size-init c =
    let a = c.args in
    let gives = c.into_iter-size-iterator.ensures.into_iter_gives in
    let sizes : c.into_iter-size-iterator.result.a.rest.now ≡ a.sizes.now =
    ap (λ (z : Zip (Iter ℕ) (Iter ℕ)). z.a.rest.now) gives ∙ ap (λ (i : Iter ℕ). i.rest.now) c.zip-size-items.ensures.first ∙ c.iter.ensures.rest
    in
    let times : c.into_iter-size-iterator.result.b.rest.now ≡ a.times.now =
    ap (λ (z : Zip (Iter ℕ) (Iter ℕ)). z.b.rest.now) gives ∙ c.zip-size-items.ensures.second.0
    in
    rw (sizes, times) (left_all _ _ _ c.requires.1)

-- the line that is due, and the lines after it
module _ (c : In-Some) where
  abbrev Line : List ℕ
  Line = peak_line c.args.file c.in-Some.size.now c.in-Some.time.now

  abbrev More : List ℕ
  More = peak_lines c.args.file c.next.new.self.a.rest.now c.next.new.self.b.rest.now

  here : let a = c.args in Left a.out.now a.from (peak_lines a.file a.sizes.now a.times.now) (Line ++ More) c.loop-size.out c.loop-size.at
  here =
      let s = c.in-Some.ensures.steps in
      rw (s.0, s.1, lines_next c.args.file c.in-Some.size.now c.in-Some.time.now c.next.new.self.a.rest.now c.next.new.self.b.rest.now) at c.loop-size.invariant

pub put_peak-at-requires : goal.put_peak-at-requires
put_peak-at-requires c =
    let l = (goal.at.put_peak-at-requires c).In-Some in
    left_room (Line l) (More l) (here l)

pub loop-size-preserved : goal.loop-size-preserved
loop-size-preserved c =
    let l = (goal.at.loop-size-preserved c).In-Some in
    left_next (Line l) (More l) (here l) (c.put_peak-at.ensures.value, c.put_peak-at.ensures.out_after)

pub returns : goal.returns
returns c =
    let i = c.loop-size.size-iterator in
    let none : peak_lines c.args.file i.a.rest.now i.b.rest.now ≡ [] =
    ended c.args.file i.a.rest.now i.b.rest.now i.a i.b c.in-None.ensures.steps
    in
    let whole = left_wrote (rw none at c.loop-size.invariant) in
    record { value = whole.0; out_after = whole.1 }
