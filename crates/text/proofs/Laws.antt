-- Laws of writing a text, for the writers here and above. A writer stores from the text's end to its front: `laid_last`
-- takes the last byte off, and `laid_none` says that nothing is left to do. Assumes nothing.
use mathlib.Core.Path.{◌≡◌}
use mathlib.Core.List.{List, [], ◌∷◌, ◌++◌, append_assoc}
use Prim.Native.Nat.{ℕ, suc, ◌+◌, ◌≤◌, ◌<◌}
use native.Mathlib.Nat.{add-zero, add-suc, add_assoc, zero-add}
use native.Mathlib.Numerals.{add-one}
use native.Mathlib.Omega.{arith}
use lib.ListN.{length, take, drop, set, length-append, length-drop, take-append-drop}
use lib.Seq.{length-take-le, take_at, drop_at, drop-drop, take-set-le, set_split}
use borrow.Author.Tests.{le-leb, lt-leb}
use Rattle.truth.proofs.Cases.{by_order}
use Rattle.text.specs.Write.{laid, laid_by, written, place_after}
use Rattle.std.specs.Prelude.{Ok}

-- the promise of a writer: the place that it answers and the bytes that it leaves
abbrev pub Wrote : List ℕ → ℕ → List ℕ → List ℕ → ℕ → Type 0
Wrote out at text later next = (next ≡ place_after out at text) × (later ≡ written out at text)

pub laid_none : (out : List ℕ) (at : ℕ) → laid out at [] ≡ out
unfolding laid
laid_none out at = rw (add-zero, take-append-drop)

module _ (out : List ℕ) (at : ℕ) (text : List ℕ) where
  pub laid_last : (b : ℕ) → at + length text < length out → laid out at (text ++ (b ∷ [])) ≡ laid (set out (at + length text) b) at text
  unfolding laid
  laid_last b h =
      let n = at + length text in
      simp (length-append, append_assoc)
      (rw (
        take-set-le at out n b (omega arith),
        set_split out n b h,
        drop_at (take n out) (b ∷ drop (suc n) out) n (length-take-le n out (omega arith)),
      )
      (rw (add-one, add-suc)))

  pub laid_join : (more : List ℕ) → at + length text ≤ length out → laid (laid out at text) (at + length text) more ≡ laid out at (text ++ more)
  unfolding laid
  laid_join more h =
      let front = take at out ++ text in
      let n = at + length text in
      let e : length front ≡ n = simp length-append (omega (arith, length-take-le at out (omega arith))) in
      rw (
        ← append_assoc (take at out) text (drop n out),
        take_at front (drop n out) n e,
        ← drop-drop (length more) n (front ++ drop n out),
        drop_at front (drop n out) n e,
      )
      (simp (drop-drop, append_assoc, length-append, add_assoc))

  pub length_laid : at + length text ≤ length out → length (laid out at text) ≡ length out
  unfolding laid
  length_laid h = simp (length-append, length-drop) (omega (arith, length-take-le at out (omega arith)))

  pub written_fits : at + length text ≤ length out → written out at text ≡ laid out at text
  unfolding written
  written_fits h = rw (le-leb _ _ h)

  written_short : length out < at + length text → written out at text ≡ out
  unfolding written
  written_short h = rw (lt-leb _ _ h)

  pub after_fits : at + length text ≤ length out → place_after out at text ≡ at + length text
  unfolding place_after
  after_fits h = rw (le-leb _ _ h)

  after_short : length out < at + length text → place_after out at text ≡ at
  unfolding place_after
  after_short h = rw (lt-leb _ _ h)

-- a writer's two ends: it has laid the text, or it had no room
pub wrote_laid : (out : List ℕ) (at : ℕ) (text : List ℕ) (later : List ℕ) (next : ℕ)
    → at + length text ≤ length out → later ≡ laid out at text → next ≡ at + length text → Wrote out at text later next
wrote_laid out at text later next room e f = (rw (after_fits out at text room) f, rw (written_fits out at text room) e)

pub wrote_short : (out : List ℕ) (at : ℕ) (text : List ℕ) → length out < at + length text → Wrote out at text out at
wrote_short out at text short = (rw (after_short out at text short), rw (written_short out at text short))

-- a text of one byte is one store
pub laid_one : (out : List ℕ) (at b : ℕ) → at < length out → laid out at (b ∷ []) ≡ set out at b
laid_one out at b h = rw (laid_last out at [] b (omega arith), laid_none, add-zero)

-- writing never changes how many bytes there are
pub length_written : (out : List ℕ) (at : ℕ) (text : List ℕ) → length (written out at text) ≡ length out
length_written out at text =
    by_order (length out) (at + length text)
    (λ short. rw (written_short out at text short))
    (λ room. rw (written_fits out at text room) (length_laid out at text room))

-- a whole paper is a text from the first byte on
pub laid_front : (out text : List ℕ) → laid out 0 text ≡ laid_by (Ok (length text)) text out
unfolding laid laid_by
laid_front out text = rw zero-add
