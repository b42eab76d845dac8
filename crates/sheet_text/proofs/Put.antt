-- The place after a text that a writer was to write is the same with room and without, and a text of no bytes changes
-- nothing. Assumes nothing.
use Prim.Native.Nat.{ℕ, ◌+◌}
use mathlib.Core.Path.{◌≡◌, sym, ◌∙◌}
use mathlib.Core.List.{List, []}
use native.Mathlib.Nat.{add-zero}
use lib.ListN.{length}
use Rattle.truth.proofs.Cases.{by_order, by_test}
use Rattle.text.specs.Write.{fits, written}
use Rattle.text.proofs.Laws.{laid_none, written_fits, wrote_short}
use Rattle.sheet_reply.specs.Written.{writing_reply}
use Rattle.sheet_text.specs.Cut.{place_counted}
use Rattle.refusal.specs.declared.Refusal.{Refusal}
use Rattle.std.specs.Prelude.{Result}

pub counted_writing : (out : List ℕ) (at : ℕ) (text : List ℕ) {w : (Result ℕ Refusal)} → w ≡ writing_reply out at text → place_counted at w ≡ at + length text
unfolding writing_reply
counted_writing out at text e = by_test (fits out at text) (λ f. rw (e, f)) (λ f. rw (e, f))

pub none_written : (out : List ℕ) (at : ℕ) → (at ≡ at + length {A = ℕ} []) × (out ≡ written out at [])
none_written out at =
    (sym (add-zero at), by_order (length out) (at + 0) (λ short. (wrote_short out at [] short).1) (λ room. sym (written_fits out at [] room ∙ laid_none out at)))
