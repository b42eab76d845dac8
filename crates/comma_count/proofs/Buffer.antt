-- A turn through a buffer does what `carrying` says: after it the bytes that its piece left unused stand at the
-- buffer's start (`kept_first`), where the next piece is read after them. Assumes nothing.
use Prim.Native.Nat.{ℕ, zero, suc, ◌+◌, ◌-◌, ◌≤◌, ◌<◌}
use mathlib.Core.Path.{◌≡◌, refl, sym, ap, subst, ◌∙◌}
use mathlib.Core.Bool.{Bool, true, false, cond}
use mathlib.Core.List.{List, [], ◌∷◌, ◌++◌}
use native.Mathlib.Omega.{arith}
use lib.ListN.{length, take, drop, length-take, length-drop}
use lib.Seq.{take-length, take-take, take_at, take-nil, drop-nil, length-take-le}
use borrow.Author.Tests.{le-leb}
use Rattle.truth.proofs.Cases.{by_test}
use Rattle.text.specs.Front.{kept}
use Rattle.comma_stream.specs.declared.Rest.{Rest}
use Rattle.comma_stream.specs.declared.Rest.TheVariants.{Waits, Over, Wrong}
use Rattle.comma_stream.specs.Follow.{bytes_of, right_lines, resting}
use Rattle.comma_count.specs.declared.Counting.{Counting}
use Rattle.comma_count.specs.Taking.{with_lines, rested, agrees, taking, turning, turn_left}
use Rattle.comma_count.proofs.Way.{some_parts}

-- ---- no more than a piece is used
rested_used : (r : Rest) (c : Counting) (at all : ℕ) → at ≤ all → (rested r c at all).used ≤ all
rested_used (Waits n) c at all h = h
rested_used Over c at all h = h
rested_used Wrong c at all h = omega arith

taking_used : (c : Counting) (text : List ℕ) (more : Bool) → (taking c text more).used ≤ length text
unfolding taking
taking_used c text more =
    let lines = right_lines c.follow text in
    let within : bytes_of lines ≤ length text = subst (λ x. bytes_of x ≤ length text) (take-length lines) (some_parts c.follow text (length lines)).within in
    by_test c.over
    (λ o. rw o (omega arith))
    (λ o.
    by_test (agrees c.follow c.answer)
    (λ s. rw (o, s) (rested_used (resting (drop (bytes_of lines) text) more) (with_lines c lines) (bytes_of lines) (length text) within))
    (λ s. rw (o, s) (omega arith)))

-- ---- a part of a text
drop-take : {A : Type 0} (u n : ℕ) (l : List A) → drop u (take n l) ≡ take (n - u) (drop u l)
drop-take zero n l = let e : n - 0 ≡ n = omega arith in rw e
drop-take (suc u) zero l = let e : 0 - suc u ≡ 0 = omega arith in rw e
drop-take (suc u) (suc n) [] = drop-nil (suc u) ∙ sym (take-nil (suc n - suc u))
drop-take (suc u) (suc n) (x ∷ l) = let e : suc n - suc u ≡ n - u = omega arith in rw e (drop-take u n l)

front_kept : (text : List ℕ) (u k : ℕ) → u + k ≤ length text → take k (kept u k text) ≡ take k (drop u text)
unfolding kept
front_kept text u k h =
    rw (le-leb (u + k) (length text) h)
    (take_at (take k (drop u text)) (drop k text) k (length-take-le k (drop u text) (omega (arith, length-drop u text))))

-- the first n bytes are those that there are
by_length : {A : Type 0} (n : ℕ) (l : List A) → take (length (take n l)) l ≡ take n l
by_length zero l = refl
by_length (suc n) [] = refl
by_length (suc n) (x ∷ l) = ap (λ y. x ∷ y) (by_length n l)

part_of : (text : List ℕ) (end u : ℕ) → take (length (take end text) - u) (drop u text) ≡ drop u (take end text)
part_of text end u = sym (drop-take u (length (take end text)) text) ∙ ap (drop u) (by_length end text)

pub kept_first : (c : Counting) (text : List ℕ) (end : ℕ) (more : Bool)
    → take (turning c (take end text) more).kept (turn_left c end more text) ≡ drop (taking c (take end text) more).used (take end text)
kept_first c text end more =
    let p = take end text in
    let u = (taking c p more).used in
    front_kept text u (length p - u) (omega (arith, taking_used c p more, length-take end text)) ∙ part_of text end u
