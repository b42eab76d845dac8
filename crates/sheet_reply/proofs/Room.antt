-- A writer that asks for room first: with room the text is written and the place after it answered, without it refusal
-- 7 and the bytes needed. Assumes nothing.
use Prim.Native.Nat.{ℕ, ◌+◌, ◌≤◌}
use mathlib.Core.Path.{◌≡◌, ap}
use mathlib.Core.Bool.{Bool, true, false, not}
use mathlib.Core.List.{List}
use lib.Dec.{leb}
use lib.ListN.{length}
use borrow.Author.Tests.{le-leb, leb-true, leb-false}
use Rattle.refusal.specs.declared.Refusal.TheVariants.{Room}
use Rattle.truth.proofs.Laws.{said_no, said_yes}
use Rattle.text.specs.Write.{written}
use Rattle.text.proofs.Laws.{Wrote, wrote_short, after_fits}
use Rattle.sheet_reply.specs.Written.{writing_reply}
use Rattle.std.specs.Prelude.{Ok, Err}

module _ (out : List ℕ) (at : ℕ) (text : List ℕ) {n : ℕ} {r : Bool} (asked : r ≡ leb (at + n) (length out)) (needed : n ≡ length text) where
  fitting : r ≡ leb (at + length text) (length out)
  fitting = rw needed at asked

  pub has_room : not r ≡ false → at + length text ≤ length out
  has_room h = leb-true _ _ (said_yes fitting h)

  pub no_room : not r ≡ true → (Err (Room n) ≡ writing_reply out at text) × (out ≡ written out at text)
  unfolding writing_reply
  no_room h = (rw (said_no fitting h, needed), (wrote_short out at text (leb-false _ _ (said_no fitting h))).1)

module _ (out : List ℕ) (at : ℕ) (text : List ℕ) where
  pub upto : {later : List ℕ} {next : ℕ} → at + length text ≤ length out → Wrote out at text later next → (Ok next ≡ writing_reply out at text) × (later ≡ written out at text)
  unfolding writing_reply
  upto h (e, f) = (rw (le-leb _ _ h, e) (ap Ok (after_fits out at text h)), f)
