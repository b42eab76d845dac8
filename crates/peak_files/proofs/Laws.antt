-- What is handed out of some samples and written: the lines stand at the start of what is lent, which has room for
-- them; and what a call answers, case by case. Assumes nothing.
use Prim.Native.Nat.{ℕ, ◌+◌, ◌*◌, ◌-◌, ◌≤◌, ◌<◌}
use mathlib.Core.Path.{◌≡◌, refl, sym, ap, subst, ◌∙◌}
use mathlib.Core.Bool.{Bool, true, false, cond, not}
use mathlib.Core.List.{List, [], ◌++◌, map, foldl}
use native.Mathlib.Nat.{zero-add}
use native.Mathlib.Omega.{arith}
use lib.Dec.{ltb}
use lib.IntN.{ℤ, pos}
use lib.ListN.{length, take, drop, replicate, length-take, length-drop, length-map}
use lib.Seq.{take_at, length-take-le}
use borrow.Author.Tests.{lt-ltb, le-ltb, le-leb}
use Rattle.truth.proofs.Cases.{by_test}
use Rattle.truth.proofs.Laws.{impossible}
use Rattle.refusal.specs.declared.Refusal.{Refusal}
use Rattle.sample_items.specs.Limits.{step_in_range, most_in_range}
use Rattle.text.specs.Write.{laid}
use Rattle.text.proofs.Laws.{laid_none, after_fits, written_fits}
use Rattle.peak_groups.specs.declared.Peak.{Peak}
use Rattle.peak_machine.specs.Step.{size_of, moment_of}
use Rattle.peak_lines.specs.Lines.{peak_lines, peaks_text, lines_place, lines_left, roomy}
use Rattle.peak_lines.proofs.Laws.{lines_few, lines_of, lines_none, all_room}
use Rattle.peak_stream.specs.declared.Handing.{Handing}
use Rattle.peak_stream.specs.Hands.{hands_on, moved, ready, closed_by, noted, HandsOver}
use Rattle.peak_groups.specs.Peaks.{short}
use Rattle.refusal.specs.declared.Refusal.TheVariants.{Item, TooLong, Room, BrokenState}
use Rattle.comma_stream.specs.declared.Follow.{Follow}
use Rattle.comma_stream.specs.declared.Rest.{Rest}
use Rattle.comma_stream.specs.declared.Rest.TheVariants.{Waits, Over, Wrong}
use Rattle.comma_line.specs.Text.{samples_of}
use Rattle.comma_stream.specs.Follow.{bytes_of, held, right_lines, after_lines, resting, taking, leaving}
use Rattle.comma_count.proofs.Way.{took, never_refused}
use Rattle.comma_peaks.specs.Timed.{timed_of}
use Rattle.peak_files.specs.declared.Pass.{Pass}
use Rattle.peak_files.specs.declared.Took.{Took}
use Rattle.peak_files.specs.Passing.{hands_over, hands_out, unless_refused, number_of, Gives, Passes, with_samples, given_text, ended_as}
use Rattle.peak_files.specs.Passing.{Called, rested, took_by, lines_in, samples_in, rest_of, calling, Calls}
use Rattle.std.specs.Prelude.{Result, Ok, Err}
use Rattle.truth.proofs.Answers.{err_not_ok, same_ok, same_second}

-- ---- lines written from the start, with room for each
module _ (file : ℕ) (sizes times out : List ℕ) (same : length sizes ≡ length times) (room : length sizes * 48 ≤ length out) (small : file < 18446744073709551616) where
  all_fit : length (peak_lines file sizes times) ≤ length out
  all_fit = omega (arith, lines_few file sizes times small)

  roomy_so : roomy sizes times out 0 ≡ true
  roomy_so = all_room file sizes times out 0 same (le-leb (0 + length sizes * 48) (length out) (omega arith))

  pub lines_put : {n : ℕ} {later : List ℕ} → n ≡ lines_place file sizes times out 0 → later ≡ lines_left file sizes times out 0
      → (n ≡ length (peak_lines file sizes times)) × (later ≡ laid out 0 (peak_lines file sizes times)) × (length (peak_lines file sizes times) ≤ length out)
  unfolding lines_place lines_left
  lines_put {n} {later} e l =
      let w = peak_lines file sizes times in (
        rw roomy_so at e ∙ after_fits out 0 w (omega (arith, all_fit)) ∙ zero-add (length w),
        rw roomy_so at l ∙ written_fits out 0 w (omega (arith, all_fit)),
        all_fit,
      )

pub nothing_out : (file : ℕ) → peaks_text file [] ≡ []
unfolding peaks_text
nothing_out file = refl

-- ---- what a second reading hands out of some samples
tests : (a b c : Bool) (x y z : Refusal) (g f : Handing) (i k : ℕ) → ◌≡◌ {A = Result (Handing × ℕ) Refusal} (cond a (Err x) (cond b (Err y) (cond c (Err z) (Ok (g, i))))) (Ok (f, k)) → i ≡ k
tests true b c x y z g f i k e = absurd (err_not_ok e)
tests false true c x y z g f i k e = absurd (err_not_ok e)
tests false false true x y z g f i k e = absurd (err_not_ok e)
tests false false false x y z g f i k e = same_second (same_ok e)

-- the number told is that of the peaks that were closed
taken_number : (h f : Handing) (xs : List ℤ) (k m n : ℕ) → hands_on h xs m n ≡ Ok (f, k) → k ≡ length (closed_by h xs)
unfolding hands_on
taken_number h f xs k m n e =
    sym (tests (not (ready h)) (ltb (most_in_range h.reading.step 0) (h.reading.n + length xs))
    (short m n (length xs)) BrokenState TooLong (Room (length xs)) (foldl moved h xs) f (length (closed_by h xs)) k e)

module _ (h : Handing) (R lines : ℕ) (xs : List ℤ) where
  abbrev T : List ℤ
  T = timed_of R lines h.reading xs

  timed_few : length T ≤ length xs
  timed_few = omega (arith, length-take (most_in_range h.reading.step 0 - h.reading.n) (drop (R - lines) xs), length-drop (R - lines) xs)

  front_of : (f : Peak → ℕ) (k : ℕ) (slice : List ℕ) → k ≡ length (closed_by h T) → take k (map f (closed_by h T) ++ drop k slice) ≡ map f (closed_by h T)
  front_of f k slice e = take_at (map f (closed_by h T)) (drop k slice) k (length-map (closed_by h T) f ∙ sym e)

  module _ (sizes times : List ℕ) (ns : length sizes ≡ 1024) (nt : length times ≡ 1024) (few : length xs ≤ 1024) where
    asked : {a : (Result (Handing × ℕ) Refusal)} → a ≡ hands_on h T (length sizes) (length times) → a ≡ hands_over h R lines xs
    asked e = e ∙ ap (λ m. hands_on h T m (length times)) ns ∙ ap (λ m. hands_on h T 1024 m) nt

    pub number_few : (a : Result (Handing × ℕ) Refusal) {s t : List ℕ} → HandsOver h T sizes times a s t → number_of a ≤ 1024
    number_few (Ok (f, k)) o = omega (arith, taken_number h f T k _ _ (sym o.answers), o.few, timed_few)
    number_few (Err q) o = omega arith

    pub lines_out : (file : ℕ) (a : Result (Handing × ℕ) Refusal) {s t : List ℕ} → HandsOver h T sizes times a s t
        → peak_lines file (take (number_of a) s) (take (number_of a) t) ≡ peaks_text file (hands_out h R lines xs)
    unfolding noted
    lines_out file (Ok (f, k)) o =
        let n = taken_number h f T k _ _ (sym o.answers) in
        let a = ap (take k) o.sizes_left ∙ front_of size_of k sizes n in
        let b = ap (take k) o.times_left ∙ front_of moment_of k times n in
        (λ j. peak_lines file (a j) (b j))
        ∙ lines_of file (closed_by h T)
        ∙ ap (λ x. peaks_text file (unless_refused x (closed_by h T))) (asked o.answers)
    lines_out file (Err q) o =
        lines_none file _ ∙ sym (nothing_out file) ∙ ap (λ x. peaks_text file (unless_refused x (closed_by h T))) (asked o.answers)

    pub gives : (file : ℕ) (out : List ℕ) (a : Result (Handing × ℕ) Refusal) {s t : List ℕ} {n : ℕ} {later : List ℕ} → file < 18446744073709551616 → 49152 ≤ length out
        → length s ≡ 1024 → length t ≡ 1024 → HandsOver h T sizes times a s t
        → n ≡ lines_place file (take (number_of a) s) (take (number_of a) t) out 0 → later ≡ lines_left file (take (number_of a) s) (take (number_of a) t) out 0
        → Gives (hands_over h R lines xs) (peaks_text file (hands_out h R lines xs)) out a n later
    gives file out a {s} {t} small room ls lt o e l =
        let k = number_of a in
        let i = length-take-le k s (omega (arith, number_few a o)) in
        let j = length-take-le k t (omega (arith, number_few a o)) in
        let p = lines_put file (take k s) (take k t) out (i ∙ sym j) (omega (arith, number_few a o)) small e l in
        let w = lines_out file a o in
        record {
          next-is = asked o.answers;
          put_is = p.0 ∙ ap length w;
          left = p.1 ∙ ap (laid out 0) w;
          fits = subst (λ x. length x ≤ length out) w p.2;
        }

pub gives_none : (file : ℕ) (out : List ℕ) (q : Refusal) → Gives (Err q) (peaks_text file []) out (Err q) 0 out
unfolding peaks_text
gives_none file out q = record { next-is = refl; put_is = refl; left = sym (laid_none out 0); fits = omega arith }

-- ---- a call
-- what a reading that goes on comes to
pub going_on : (p : Pass) (text : List ℕ) (more : Bool) (room : ℕ) → p.over ≡ false → 49152 ≤ room → step_in_range p.follow.step ≡ true
    → calling p text more room
    ≡ rested (rest_of (length (lines_in p text)) (drop (bytes_of (lines_in p text)) text) more)
    (with_samples p (after_lines p.follow (lines_in p text)) (samples_in p text)) (bytes_of (lines_in p text))
    (length text) (given_text p (samples_in p text))
unfolding calling
going_on p text more room o h s = rw (o, le-ltb room 49152 h, s) refl

pub staying : (p : Pass) (text : List ℕ) (more : Bool) (room : ℕ) → p.over ≡ true → calling p text more room ≡ record { pass = p; used = length text; bytes = [] }
unfolding calling
staying p text more room o = rw o refl

-- no more lines than places
pub lines_few_enough : {r : (Result (Follow × ℕ × ℕ) Refusal)} {f : Follow} {bytes n : ℕ} (m : ℕ) → r ≡ Ok (f, bytes, n) → Rattle.comma_stream.specs.Follow.number_of r ≤ m → n ≤ m
unfolding Rattle.comma_stream.specs.Follow.number_of
lines_few_enough m i h = let g = rw i at h in g

module _ (p : Pass) (text : List ℕ) (more : Bool) (out : List ℕ) where
  abbrev C : Called
  C = calling p text more (length out)

  -- what it comes to writes nothing
  silent : (c : Called) (t : Took) → C ≡ c → c.bytes ≡ [] → t.pass ≡ c.pass → t.used ≡ c.used → t.put ≡ 0 → Calls C out t out
  silent c t e n p u z =
      subst (λ x. Calls x out t out) (sym e)
      (record { pass_is = p; used_is = u; put_is = z ∙ sym (ap length n); left = sym (ap (laid out 0) n ∙ laid_none out 0); fits = rw n (omega arith) })

  pub calls_over : p.over ≡ true → Calls C out (record { pass = p; used = length text; put = 0 }) out
  unfolding calling
  calls_over o = silent (record { pass = p; used = length text; bytes = [] }) _ (rw o refl) refl refl refl refl

  module _ (o : p.over ≡ false) where
    pub calls_room : length out < 49152 → Calls C out (record { pass = p; used = 0; put = 0 }) out
    unfolding calling
    calls_room h = silent (record { pass = p; used = 0; bytes = [] }) _ (rw (o, lt-ltb (length out) 49152 h) refl) refl refl refl refl

    module _ (room : 49152 ≤ length out) where
      step_out : step_in_range p.follow.step ≡ false → C ≡ record { pass = ended_as true p; used = length text; bytes = [] }
      unfolding calling
      step_out s = rw (o, le-ltb (length out) 49152 room, s) refl

      pub calls_refused : {r : (Result (Follow × ℕ × ℕ) Refusal)} {q : Refusal} → r ≡ taking p.follow text (length (replicate 1024 (pos 0))) → r ≡ Err q
          → Calls C out (record { pass = ended_as true p; used = length text; put = 0 }) out
      calls_refused e i =
          by_test (step_in_range p.follow.step)
          (λ s. absurd (never_refused p.follow text (replicate 1024 (pos 0)) s refl e i))
          (λ s. silent (record { pass = ended_as true p; used = length text; bytes = [] }) _ (step_out s) refl refl refl refl)

      -- by what is left
      rests : (rest : Rest) (q : Pass) (at put : ℕ) (bytes : List ℕ) {later : List ℕ} → put ≡ length bytes → later ≡ laid out 0 bytes → length bytes ≤ length out
          → Calls (rested rest q at (length text) bytes) out (took_by rest q at (length text) put) later
      rests (Waits n) q at put bytes e l f = record { pass_is = refl; used_is = refl; put_is = e; left = l; fits = f }
      rests Over q at put bytes e l f = record { pass_is = refl; used_is = refl; put_is = e; left = l; fits = f }
      rests Wrong q at put bytes e l f = record { pass_is = refl; used_is = refl; put_is = e; left = l; fits = f }

      never_taken : (places : ℕ) {r : (Result (Follow × ℕ × ℕ) Refusal)} {f : Follow} {bytes n : ℕ} → step_in_range p.follow.step ≡ false → r ≡ taking p.follow text places → r ≡ Ok (f, bytes, n) → ⊥
      unfolding taking
      never_taken places s e i = let u : taking p.follow text places ≡ Err (Item 1) = rw s refl in impossible (cc (sym i ∙ e ∙ u))

      pub calls_taken : (slice : List ℤ) →
          length slice ≡ 1024 → {r : (Result (Follow × ℕ × ℕ) Refusal)} {f : Follow} {bytes n put : ℕ}
          {later : List ℤ} {q : Pass} {rest : Rest} {t : Took} {outLater : List ℕ}
          → r ≡ taking p.follow text (length slice) → later ≡ leaving r text slice → r ≡ Ok (f, bytes, n)
          → Passes p f (take n later) out q put outLater → rest ≡ rest_of n (drop bytes text) more → t ≡ took_by rest q bytes (length text) put
          → Calls C out t outLater
      calls_taken slice long {r} {f} {bytes} {n} {put} {later} {q} {rest} {t} {outLater} e l i w g h =
          by_test (step_in_range p.follow.step)
          (λ s.
          let k = took p.follow text slice s refl e l i in
          let L = lines_in p text in
          let same : take (length slice) (right_lines p.follow text) ≡ L = ap (λ m. take m (right_lines p.follow text)) long in
          let f-is : f ≡ after_lines p.follow L = k.stands ∙ ap (after_lines p.follow) same in
          let at-is : bytes ≡ bytes_of L = k.place ∙ ap bytes_of same in
          let n-is : n ≡ length L = k.number ∙ ap length same in
          let xs-is : take n later ≡ samples_in p text = k.samples ∙ ap (λ us. map held (samples_of us)) same in
          let q-is : q ≡ with_samples p (after_lines p.follow L) (samples_in p text) = w.pass_is ∙ ap
          (λ x. with_samples p x (take n later)) f-is ∙ ap (with_samples p (after_lines p.follow L)) xs-is in
          let rest-is : rest ≡ rest_of (length L) (drop (bytes_of L) text) more = g ∙ ap (λ m. rest_of m (drop bytes text) more) n-is ∙ ap (λ m. rest_of (length L) (drop m text) more) at-is in
          let text_is = ap (given_text p) xs-is in
          let t-is : t ≡ took_by (rest_of (length L) (drop (bytes_of L) text) more) (with_samples p (after_lines p.follow L) (samples_in p text)) (bytes_of L) (length text) put =
          h ∙ (λ j. took_by (rest-is j) (q-is j) (at-is j) (length text) put) in
          let rest₁ = rest_of (length L) (drop (bytes_of L) text) more in
          let next = with_samples p (after_lines p.follow L) (samples_in p text) in
          subst (λ x. Calls x out t outLater) (sym (going_on p text more (length out) o room s))
          (subst (λ x. Calls (rested rest₁ next (bytes_of L) (length text) (given_text p (samples_in p text))) out x outLater) (sym t-is)
          (rests rest₁ next (bytes_of L) put (given_text p (samples_in p text)) (w.put_is ∙ ap length text_is)
          (w.left ∙ ap (laid out 0) text_is) (subst (λ x. length x ≤ length out) text_is w.fits))))
          (λ s. absurd (never_taken (length slice) s e i))
