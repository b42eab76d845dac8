-- What was noted of lines that were taken, joined; and that a piece comes to what `comma_read` takes of it. Assumes
-- nothing.
use Prim.Native.Nat.{ℕ, ◌+◌, ◌≤◌, ◌<◌}
use mathlib.Core.Path.{◌≡◌, refl, sym, ap, ◌∙◌}
use mathlib.Core.Bool.{cond, ◌&&◌}
use mathlib.Core.List.{List, ◌++◌}
use native.Mathlib.Omega.{arith}
use lib.Dec.{eqb, ltb}
use lib.IntN.{ℤ}
use lib.ListN.{length, length-append, length-take, length-map}
use borrow.Author.Tests.{ne_eqb, lt-ltb, le-ltb}
use Rattle.truth.proofs.Cases.{by_test, by_order}
use Rattle.sample_items.specs.Limits.{step_in_range}
use Rattle.sample_range.specs.Range.{first_bad}
use Rattle.sample_range.proofs.Bad.{bad_append, bad_left, bad_within}
use Rattle.degrees.specs.Degrees.{sample_of}
use Rattle.comma_line.specs.Line.{roll}
use Rattle.comma_line.specs.Text.{samples_of}
use Rattle.comma_read.specs.Taken.{lines_taken, taken_of, put_by}
use Rattle.comma_stream.specs.declared.Follow.{Follow}
use Rattle.comma_stream.specs.Follow.{right_lines, after_lines, taken_by, taking, number_of, leaving}
use Rattle.refusal.specs.declared.Refusal.{Refusal}
use Rattle.std.specs.Prelude.{Result, Ok, Err}

-- the line of the first sample out of range, by the samples
abbrev pub Outside : Follow → List ℤ → ℕ
Outside f xs = cond (eqb f.outside 0 && ltb (first_bad xs) (length xs)) (f.lines + first_bad xs + 1) f.outside

pub outside_is : (f : Follow) (lines : List (List ℕ)) → (after_lines f lines).outside ≡ Outside f (samples_of lines)
unfolding after_lines
outside_is f lines = rw (length-map lines (λ line. sample_of (roll line)))

-- after more samples
pub outside_join : (f : Follow) (xs ys : List ℤ)
    → Outside f (xs ++ ys) ≡ cond (eqb (Outside f xs) 0 && ltb (first_bad ys) (length ys)) (f.lines + length xs + first_bad ys + 1) (Outside f xs)
outside_join f xs ys =
    by_test (eqb f.outside 0)
    (λ o.
    by_order (first_bad xs) (length xs)
    (λ h. rw (
      o,
      lt-ltb (first_bad xs) (length xs) h,
      ne_eqb (f.lines + first_bad xs + 1) 0 (λ z. omega arith),
      bad_left xs ys h,
      length-append,
      lt-ltb (first_bad xs) (length xs + length ys) (omega arith),
    ))
    (λ h.
    rw (bad_append xs ys (omega (arith, bad_within xs)), o, le-ltb (first_bad xs) (length xs) h, o, length-append)
    (by_order (first_bad ys) (length ys)
    (λ l. rw (lt-ltb (first_bad ys) (length ys) l, lt-ltb (length xs + first_bad ys) (length xs + length ys) (omega arith)) (omega arith))
    (λ l. rw (le-ltb (first_bad ys) (length ys) l, le-ltb (length xs + first_bad ys) (length xs + length ys) (omega arith))))))
    (λ o. rw (o, o))

-- ---- what `comma_read` takes of a piece, as the reading stands after it
unfoldable pub follows : Follow → Result (ℕ × ℕ × ℕ) Refusal → Result (Follow × ℕ × ℕ) Refusal
follows f (Ok (n, bytes, sound)) =
    Ok (record { step = f.step; lines = f.lines + n; outside = cond (eqb f.outside 0 && ltb sound n) (f.lines + sound + 1) f.outside }, bytes, n)
follows f (Err r) = Err r

pub taken_follows : (f : Follow) (text : List ℕ) (places : ℕ) → follows f (lines_taken f.step f.lines text places) ≡ taking f text places
unfolding follows lines_taken taking taken_by right_lines after_lines
taken_follows f text places = by_test (step_in_range f.step) (λ s. rw s) (λ s. rw s)

pub left_follows : (f : Follow) (r : Result (ℕ × ℕ × ℕ) Refusal) (text : List ℕ) (slice : List ℤ) → put_by r text slice ≡ leaving (follows f r) text slice
unfolding put_by taken_of leaving number_of follows
left_follows f (Ok (n, bytes, sound)) text slice = refl
left_follows f (Err r) text slice = refl

-- no more lines are taken than there are places
pub taken_few : (f : Follow) (text : List ℕ) (places : ℕ) → number_of (taking f text places) ≤ places
unfolding taking taken_by number_of
taken_few f text places =
    by_test (step_in_range f.step)
    (λ s. rw (s, length-take) (omega arith))
    (λ s. rw s (omega arith))

-- so that this is promised
pub said : (f : Follow) (text : List ℕ) (slice : List ℤ) {later : List ℤ} {r : (Result (ℕ × ℕ × ℕ) Refusal)} {q : (Result (Follow × ℕ × ℕ) Refusal)} → follows f r ≡ q → r ≡ lines_taken f.step f.lines text (length slice)
    → later ≡ put_by r text slice → (q ≡ taking f text (length slice)) × ((later ≡ leaving q text slice) × (number_of q ≤ length slice))
said f text slice {later} {r} {q} e t p =
    let same : q ≡ taking f text (length slice) = sym e ∙ ap (follows f) t ∙ taken_follows f text (length slice) in
    (same, (p ∙ left_follows f r text slice ∙ ap (λ x. leaving x text slice) e, rw same (taken_few f text (length slice))))

pub number_fits : {r : (Result (ℕ × ℕ × ℕ) Refusal)} (before : ℕ) {n bytes sound : ℕ} → r ≡ Ok (n, bytes, sound) → before + taken_of r < 18446744073709551616 → before + n < 18446744073709551616
unfolding taken_of
number_fits before e h = rw e at h
