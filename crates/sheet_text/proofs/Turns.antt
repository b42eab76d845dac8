-- A reader's turn, by what it finds: the reading of what stands at a place is that of what stands after the line, or
-- it ends. Assumes nothing.
use Prim.Native.Nat.{ℕ, ◌+◌, ◌^◌, ◌≤◌, ◌<◌}
use mathlib.Core.Path.{◌≡◌, refl, ap, ◌∙◌}
use mathlib.Core.Bool.{Bool, true, false, cond, not, ◌&&◌}
use mathlib.Core.List.{List}
use native.Mathlib.Omega.{arith}
use lib.Dec.{ltb}
use lib.ListN.{length, drop, length-drop}
use lib.Seq.{drop-drop}
use borrow.Author.Tests.{ltb-true}
use Rattle.truth.proofs.Laws.{and-true, impossible}
use Rattle.refusal.specs.declared.Refusal.{Refusal}
use Rattle.sheet_text.specs.declared.LineFound.TheVariants.{Taken, Waits, Bad}
use Rattle.sheet_text.specs.declared.Reading.TheVariants.{Stopped, Waiting}
use Rattle.sheet_line.specs.declared.Sheet.{Sheet}
use Rattle.sheet_line.specs.Form.{ends_line, longest_sheet_line}
use Rattle.sheet_line.specs.Line.{sound_sheet, stepping}
use Rattle.decimal.specs.Lines.{lines_of}
use Rattle.sheet_text.specs.Sheet.{Account, prefixed, ended, after_step, text_of, waits, reading_sheet}
use Rattle.sheet_text.specs.Cut.{first_line, found_at, found}
use Rattle.sheet_text.proofs.Lines.{cut_within, cut_some, length_first, reading_turn}
use Rattle.sheet_text.proofs.Steps.{most, step_led, step_line}
use Rattle.std.specs.Prelude.{Result, Ok, Err}

-- the three cases are apart, and each holds what it was made of
not_taken : {n : ℕ} {t : Sheet} {next : ℕ} → ¬ (Waits n ≡ Taken t next)
not_taken e = impossible (cc)

not_taken' : {l k : ℕ} {r : Refusal} {t : Sheet} {next : ℕ} → ¬ (Bad l k r ≡ Taken t next)
not_taken' e = impossible (cc)

not_waits : {t : Sheet} {next n : ℕ} → ¬ (Taken t next ≡ Waits n)
not_waits e = impossible (cc)

not_waits' : {l k : ℕ} {r : Refusal} {n : ℕ} → ¬ (Bad l k r ≡ Waits n)
not_waits' e = impossible (cc)

not_bad : {n l k : ℕ} {r : Refusal} → ¬ (Waits n ≡ Bad l k r)
not_bad e = impossible (cc)

not_bad' : {t : Sheet} {next l k : ℕ} {r : Refusal} → ¬ (Taken t next ≡ Bad l k r)
not_bad' e = impossible (cc)

module _ (more : Bool) (text : List ℕ) (at : ℕ) (s : Sheet) where
  -- the reading of what stands at the place
  abbrev pub here : Account
  here = reading_sheet more (lines_of (drop at text)) s

  -- a line was taken
  pub record Took (t : Sheet) (next : ℕ) : Type 0 where
    pub reads : here ≡ prefixed (text_of t) (reading_sheet more (lines_of (drop next text)) t)
    pub further : at < next
    pub within : next ≤ length text
    pub sound : sound_sheet t ≡ true
    pub grows : most s + length (text_of t) ≤ most t

  module _ (inside : at < length text) where
    abbrev part : List ℕ
    part = first_line (drop at text)

    turn : here ≡ cond (waits more part) (ended (Waiting s (length part))) (after_step (stepping s part) (reading_sheet more (lines_of (drop (at + length part) text))))
    turn =
        let some : 0 < length (drop at text) = omega (arith, length-drop at text) in
        reading_turn more (drop at text) s some ∙ rw (← length_first (drop at text), drop-drop)

    ends : at + length part ≤ length text
    ends = omega (arith, length_first (drop at text), cut_within longest_sheet_line (drop at text), length-drop at text)

    starts : at < at + length part
    starts = omega (arith, length_first (drop at text), cut_some 63 (drop at text) (omega (arith, length-drop at text)))

    pub found_taken : {t : Sheet} {next : ℕ} → sound_sheet s ≡ true → found more text at s ≡ Taken t next → Took t next
    unfolding found
    found_taken {t} {next} g e = go (waits more part) (stepping s part) refl refl e
      where
        go : (w : Bool) (step : Result Sheet (ℕ × ℕ × Refusal)) → waits more part ≡ w → stepping s part ≡ step → cond w (Waits (length part)) (found_at (at + length part) step) ≡ Taken t next → Took t next
        go true step w f e = absurd (not_taken e)
        go false (Err (l, k, r)) w f e = absurd (not_taken' e)
        go false (Ok u) w f e =
            let sheet : u ≡ t = cc (e) in
            let place : at + length part ≡ next = cc (e) in
            let led = step_led s part g (f ∙ ap Ok sheet) in
            record {
              reads = turn ∙ rw (w, f, sheet, place);
              further = rw (← place) starts;
              within = rw (← place) ends;
              sound = led.sound;
              grows = led.grows;
            }

    pub found_waits : {n : ℕ} → found more text at s ≡ Waits n → (here ≡ ended (Waiting s n)) × (n ≤ length text) × (n < longest_sheet_line)
    unfolding found
    found_waits {n} e = go (waits more part) (stepping s part) refl refl e
      where
        go : (w : Bool) (step : Result Sheet (ℕ × ℕ × Refusal)) → waits more part ≡ w → stepping s part ≡ step → cond w (Waits (length part)) (found_at (at + length part) step) ≡ Waits n
            → (here ≡ ended (Waiting s n)) × (n ≤ length text) × (n < longest_sheet_line)
        go true step w f e =
            let bytes : length part ≡ n = cc (e) in
            let open-line = (and-true more (not (ends_line part) && ltb (length part) longest_sheet_line) w).1 in
            let short = ltb-true (length part) longest_sheet_line (and-true (not (ends_line part)) (ltb (length part) longest_sheet_line) open-line).1 in
            (turn ∙ rw (w, bytes), omega (arith, ends), omega arith)
        go false (Err (l, k, r)) w f e = absurd (not_waits' e)
        go false (Ok u) w f e = absurd (not_waits e)

    pub found_bad : {l k : ℕ} {r : Refusal} → sound_sheet s ≡ true → found more text at s ≡ Bad l k r → (here ≡ ended (Stopped l k r)) × (l < 10 ^ 20) × (k < 1000)
    unfolding found
    found_bad {l} {k} {r} g e = go (waits more part) (stepping s part) refl refl e
      where
        go : (w : Bool) (step : Result Sheet (ℕ × ℕ × Refusal)) → waits more part ≡ w → stepping s part ≡ step → cond w (Waits (length part)) (found_at (at + length part) step) ≡ Bad l k r
            → (here ≡ ended (Stopped l k r)) × (l < 10 ^ 20) × (k < 1000)
        go true step w f e = absurd (not_bad e)
        go false (Ok u) w f e = absurd (not_bad' e)
        go false (Err (m, n, q)) w f e =
            let line : m ≡ l = cc (e) in
            let column : n ≡ k = cc (e) in
            let why : q ≡ r = cc (e) in
            let small = step_line s part {l = l} {k = k} {r = r} g (f ∙ rw (line, column, why)) in
            (turn ∙ rw (w, f, line, column, why), small.0, small.1)
