-- A text written part by part: `Left` says that all but the rest of a text stands in the lent bytes. Each part that is
-- written takes itself off the rest (`left_next`), has room (`left_room`), and with the last one the whole text is
-- written (`left_last`). Assumes nothing.
use mathlib.Core.Path.{◌≡◌, refl, sym, ap, ◌∙◌}
use mathlib.Core.List.{List, [], ◌++◌, append_assoc, append-nil}
use Prim.Native.Nat.{ℕ, ◌+◌, ◌≤◌}
use native.Mathlib.Nat.{add-zero, add_assoc}
use native.Mathlib.Omega.{arith}
use lib.ListN.{length, length-append}
use Rattle.text.specs.Write.{laid}
use Rattle.text.proofs.Laws.{Wrote, laid_none, laid_join, length_laid, written_fits, after_fits, wrote_laid}

-- of `whole`, to be written into `out` at `at`, the rest is left; the lent bytes are `middle`, and the rest goes to
-- `here`
pub record Left (out : List ℕ) (at : ℕ) (whole rest middle : List ℕ) (here : ℕ) : Type 0 where
  pub front : List ℕ
  pub parts : front ++ rest ≡ whole
  pub place : here ≡ at + length front
  pub bytes : middle ≡ laid out at front
  pub fits : at + length whole ≤ length out

pub left_all : (out : List ℕ) (at : ℕ) (whole : List ℕ) → at + length whole ≤ length out → Left out at whole whole out at
left_all out at whole h = record { front = []; parts = refl; place = sym (add-zero at); bytes = sym (laid_none out at); fits = h }

module _ {out : List ℕ} {at : ℕ} {whole middle : List ℕ} {here : ℕ} where
  -- with nothing left the whole text stands there
  pub left_done : Left out at whole [] middle here → middle ≡ laid out at whole
  left_done l = l.bytes ∙ ap (laid out at) (sym (append-nil l.front) ∙ l.parts)

  pub left_wrote : Left out at whole [] middle here → Wrote out at whole middle here
  left_wrote l =
      let all : l.front ≡ whole = sym (append-nil l.front) ∙ l.parts in
      wrote_laid out at whole middle here l.fits (left_done l) (rw all at l.place)

module _ {out : List ℕ} {at : ℕ} {whole : List ℕ} {middle : List ℕ} {here : ℕ} where
  inside : {rest : List ℕ} (l : Left out at whole rest middle here) → here + length rest ≤ length out
  inside {rest} l = omega (arith, l.place, l.fits, simp length-append at (ap length l.parts))

  -- the lent bytes stay as many
  pub left_length : {rest : List ℕ} → Left out at whole rest middle here → length middle ≡ length out
  left_length l = rw l.bytes (length_laid out at l.front (omega (arith, l.place, inside l)))

  pub left-fits : {rest : List ℕ} → Left out at whole rest middle here → here + length rest ≤ length middle
  left-fits l = rw (left_length l) (inside l)

  pub left_room : (part rest : List ℕ) → Left out at whole (part ++ rest) middle here → here + length part ≤ length middle
  left_room part rest l = omega (arith, simp length-append at (left-fits l))

  pub left_next : (part rest : List ℕ) {later : List ℕ} {next : ℕ}
      → Left out at whole (part ++ rest) middle here → Wrote middle here part later next → Left out at whole rest later next
  left_next part rest {later} {next} l (e, f) =
      let room = left_room part rest l in
      record {
        front = l.front ++ part;
        parts = append_assoc l.front part rest ∙ l.parts;
        place = e ∙ after_fits middle here part room ∙ rw (l.place, length-append) (add_assoc at (length l.front) (length part));
        bytes = f ∙ written_fits middle here part room ∙ rw (l.bytes, l.place) (laid_join out at l.front part (omega (arith, l.place, inside l)));
        fits = l.fits;
      }

  pub left_last : {part : List ℕ} {later : List ℕ} {next : ℕ} → Left out at whole part middle here → Wrote middle here part later next → Wrote out at whole later next
  left_last {part} {later} {next} l w =
      left_wrote (left_next part [] (rw (sym (append-nil part)) at l) w)

-- a text of no bytes is written where there is a place for it
pub wrote_none : (out : List ℕ) (at : ℕ) → at ≤ length out → Wrote out at [] out at
wrote_none out at h = wrote_laid out at [] out at (omega arith) (sym (laid_none out at)) (sym (add-zero at))
