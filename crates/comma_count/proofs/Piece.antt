-- What a piece comes to: the tests that pick its case, and that fewer bytes than a line has are left unused. Assumes
-- nothing.
use Prim.Native.Nat.{ℕ, ◌+◌, ◌-◌, ◌≤◌, ◌<◌, min}
use mathlib.Core.Path.{◌≡◌, refl, sym, ap, ◌∙◌}
use mathlib.Core.Bool.{Bool, true, false, ◌&&◌}
use mathlib.Core.List.{List}
use mathlib.Core.Logic.{◌⊎◌, inl, inr}
use native.Mathlib.Omega.{arith}
use lib.Dec.{eqb, leb, ltb}
use native.Mathlib.Nat.{min-eq_left}
use lib.ListN.{length, take, drop, length-drop}
use lib.Seq.{take_all, length-take-le}
use borrow.Author.Tests.{eqb-true, leb-true, ltb-true}
use Rattle.truth.proofs.Cases.{by_test, by_order}
use Rattle.truth.proofs.Laws.{and-true, impossible}
use Rattle.refusal.specs.declared.Refusal.TheVariants.{BrokenState}
use Rattle.sample_items.specs.Limits.{step_in_range}
use Rattle.text.specs.Front.{kept}
use Rattle.comma_stream.specs.declared.Follow.{Follow}
use Rattle.comma_stream.specs.declared.Rest.{Rest}
use Rattle.comma_stream.specs.declared.Rest.TheVariants.{Waits, Over, Wrong}
use Rattle.comma_stream.specs.Follow.{longest_comma_line, unended, may_begin, resting}
use Rattle.comma_count.specs.declared.Counting.{Counting}
use Rattle.comma_count.specs.declared.Took.{Took}
use Rattle.comma_count.specs.Taking.{Leads, going, over, rested, sound_follow, agrees, taking, turning, turn_left}
use Rattle.refusal.specs.declared.Refusal.{Refusal}
use Rattle.record_state.specs.declared.Record.{Record}
use Rattle.std.specs.Prelude.{Result}

-- where a reading may stand
pub sound_step : (f : Follow) → sound_follow f ≡ true → step_in_range f.step ≡ true
sound_step f s = (and-true (step_in_range f.step) _ s).0

pub sound_lines : (f : Follow) → sound_follow f ≡ true → f.lines ≤ 1000000000000
sound_lines f s = leb-true f.lines 1000000000000 (and-true (leb f.lines 1000000000000) _ (and-true (step_in_range f.step) _ s).1).0

pub sound_noted : (f : Follow) → sound_follow f ≡ true → f.outside ≤ f.lines
sound_noted f s = leb-true f.outside f.lines (and-true (leb f.lines 1000000000000) _ (and-true (step_in_range f.step) _ s).1).1

-- what is left is wrong, or less than a line
rest_few : (text : List ℕ) (more : Bool) → (resting text more ≡ Wrong) ⊎ (length text < 31)
unfolding resting may_begin
rest_few text more =
    by_test (eqb (length text) 0)
    (λ e. inr (let z = eqb-true (length text) 0 e in omega arith))
    (λ e.
    by_test (more && (ltb (length text) longest_comma_line && unended text))
    (λ m. let h = and-true more _ m in inr (ltb-true (length text) longest_comma_line (and-true _ _ h.1).0))
    (λ m. inl (rw (e, m))))

-- nearly all of a piece is used
abbrev pub NearlyAll : List ℕ → Took → Type 0
NearlyAll text t = (t.used ≤ length text) × (length text - t.used < 31)

pub used : (rest : Rest) (c : Counting) (text : List ℕ) (at : ℕ) (more : Bool) → at ≤ length text → rest ≡ resting (drop at text) more → NearlyAll text (rested rest c at (length text))
used Wrong c text at more h e = (omega arith, omega arith)
used Over c text at more h e = by_few (rest_few (drop at text) more)
  where
    by_few : (resting (drop at text) more ≡ Wrong) ⊎ (length (drop at text) < 31) → (at ≤ length text) × (length text - at < 31)
    by_few (inl w) = impossible (cc)
    by_few (inr l) = (h, omega (arith, length-drop at text))
used (Waits n) c text at more h e = by_few (rest_few (drop at text) more)
  where
    by_few : (resting (drop at text) more ≡ Wrong) ⊎ (length (drop at text) < 31) → (at ≤ length text) × (length text - at < 31)
    by_few (inl w) = impossible (cc)
    by_few (inr l) = (h, omega (arith, length-drop at text))

module _ (c : Counting) (text : List ℕ) (more : Bool) where
  pub taking_over : c.over ≡ true → record { counting = c; used = length text } ≡ taking c text more
  unfolding taking
  taking_over o = rw o

  module _ (o : c.over ≡ false) where
    pub taking_broken : agrees c.follow c.answer ≡ false → record { counting = over c.follow BrokenState; used = length text } ≡ taking c text more
    unfolding taking
    taking_broken s = rw (o, s)

    pub taking_on : {g : Follow} {b : (Result Record Refusal)} {at : ℕ} {rest : Rest} → agrees c.follow c.answer ≡ true → Leads c.follow c.answer text g b at → rest ≡ resting (drop at text) more
        → rested rest (going g b) at (length text) ≡ taking c text more
    unfolding taking
    taking_on s l r = rw (o, s, r, l.stands, l.says, l.place)

-- ---- a turn through a buffer: the piece is its first bytes, as far as it has them
module _ (c : Counting) (text : List ℕ) (end : ℕ) (more : Bool) {n : ℕ} (stop : n ≡ min end (length text)) where
  piece_is : take n text ≡ take end text
  piece_is = by_order end (length text) (λ h. ap (λ k. take k text) (stop ∙ min-eq_left (omega arith))) (λ h. take_all n text (omega (arith, stop)) ∙ sym (take_all end text h))

  pub piece_long : length (take n text) ≡ n
  piece_long = length-take-le n text (omega (arith, stop))

  pub turned : {t : Took} {later : List ℕ} → t ≡ taking c (take n text) more → NearlyAll (take n text) t → later ≡ kept t.used (n - t.used) text
      → (record { counting = t.counting; kept = n - t.used } ≡ turning c (take end text) more) × (later ≡ turn_left c end more text) × (n - t.used < 31)
  turned {t} {later} e u l =
      let long : n ≡ length (take end text) = sym piece_long ∙ ap length piece_is in
      let same : t ≡ taking c (take end text) more = e ∙ ap (λ p. taking c p more) piece_is in
      let kept-is : n - t.used ≡ length (take end text) - (taking c (take end text) more).used = ap (λ k. k - t.used) long ∙ ap (λ k. length (take end text) - k.used) same in (
        (λ j. record { counting = (same j).counting; kept = kept-is j }),
        l ∙ (λ j. kept (same j).used (kept-is j) text),
        omega (arith, u.1, piece_long),
      )
