-- A line that was written whole to the start of lent bytes, and what that says of a writer's promise. Assumes nothing.
use Prim.Native.Nat.{ℕ, ◌≤◌, ◌<◌}
use mathlib.Core.Path.{◌≡◌, refl, ap, subst, ◌∙◌}
use mathlib.Core.List.{List}
use native.Mathlib.Nat.{zero-add}
use lib.ListN.{length}
use borrow.Author.Tests.{lt-ltb, le-ltb}
use Rattle.text.proofs.Laws.{Wrote, after_fits}
use Rattle.text.proofs.Parts.{Left}
use Rattle.desk_line.specs.declared.Finished.{Finished}
use Rattle.desk_line.specs.Said.{Said, longest_said, Puts, failed_digit, putting, put_left}

pub puts : (s : Said) {out later : List ℕ} {f : Finished} → Left out 0 s.line s.line out 0 → f.end ≡ s.end → Wrote out 0 s.line later f.put → Puts s out f later
puts s {out} l e (place, bytes) =
    record { bytes = place ∙ after_fits out 0 s.line l.fits ∙ zero-add (length s.line); how = e; left = bytes }

pub puts_same : {s u : Said} {out later : List ℕ} {f : Finished} → s ≡ u → Puts s out f later → Puts u out f later
puts_same {out = out} {later = later} {f = f} e p = subst (λ x. Puts x out f later) e p

-- with room: the two ways to say it
pub finished : (s : Said) {out later : List ℕ} {f : Finished} → longest_said ≤ length out → Puts s out f later → (f ≡ putting s out) × (later ≡ put_left s out)
unfolding putting put_left
finished s {out} h p = rw (le-ltb (length out) longest_said h) ((λ i. record { put = p.bytes i; end = p.how i }), p.left)

pub with_room : (s : Said) {out later : List ℕ} {f : Finished} → longest_said ≤ length out → f ≡ putting s out → later ≡ put_left s out → Puts s out f later
unfolding putting put_left
with_room s {out} h e l =
    let e2 = rw (le-ltb (length out) longest_said h) at e in
    let l2 = rw (le-ltb (length out) longest_said h) at l in
    record { bytes = ap (λ x. x.put) e2; how = ap (λ x. x.end) e2; left = l2 }

-- and without room
pub without : (s : Said) (out : List ℕ) → length out < longest_said → (record { put = 0; end = failed_digit } ≡ putting s out) × (out ≡ put_left s out)
unfolding putting put_left
without s out h = rw (lt-ltb (length out) longest_said h) (refl, refl)
