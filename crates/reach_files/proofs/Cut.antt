-- However each of several files is cut into pieces, at either of its two readings, where the right lines of a piece are
-- taken at most 1,024 at a time: what is said is what is said of the texts (`reach_cut`). The blocks hold the samples of the
-- reading, and none is too long. Assumes nothing.
use Prim.Native.Nat.{ℕ, zero, suc, ◌≤◌}
use mathlib.Core.Path.{◌≡◌, refl, sym, ap, ◌∙◌}
use mathlib.Core.List.{List, [], ◌∷◌, ◌++◌, map, map-append, append_assoc, append-nil}
use native.Mathlib.Omega.{arith}
use lib.Dec.{eqb}
use lib.IntN.{ℤ}
use lib.ListN.{length, take, drop, take-append-drop, length-take, length-drop}
use borrow.Author.Tests.{eqb-true, eqb-false}
use Rattle.truth.proofs.Cases.{by_test}
use Rattle.crossing_sets.specs.Parting.{together}
use Rattle.text.specs.Pieces.{joined}
use Rattle.comma_line.specs.Text.{samples_of}
use Rattle.peak_stream.specs.Hands.{Pieces}
use Rattle.comma_stream.specs.Follow.{held, right_lines}
use Rattle.comma_stream.specs.Pieces.{Passed, nothing, passing, with_piece}
use Rattle.peak_tail.specs.Fitting.{longest_list}
use Rattle.reach_files.specs.declared.Job.{Job}
use Rattle.reach_files.specs.Files.{reach_said}
use Rattle.reach_files.specs.Gathering.{block, opened, gathered_said}
use Rattle.reach_files.specs.Readings.{AllRead, files_after, chunks, held_of, blocks_in, Cut, readings_of, AllCut}
use Rattle.reach_files.proofs.Anywhere.{reach_anywhere, text_of}

none_of : (xs : List ℤ) → length xs ≡ 0 → [] ≡ xs
none_of [] e = refl
none_of (x ∷ xs) e = absurd (omega arith)

together_join : (us vs : List (List ℤ)) → together (us ++ vs) ≡ together us ++ together vs
together_join [] vs = refl
together_join (a ∷ us) vs = ap (λ (l : List ℤ). a ++ l) (together_join us vs) ∙ sym (append_assoc a (together us) (together vs))

pieces_join : (n : ℕ) (us vs : List (List ℤ)) → Pieces n us → Pieces n vs → Pieces n (us ++ vs)
pieces_join n [] vs p q = q
pieces_join n (a ∷ us) vs p q = (p.0, pieces_join n us vs p.1 q)

-- in blocks they are the same samples
chunks_together : (turns n : ℕ) (xs : List ℤ) → 1 ≤ n → length xs ≤ turns → together (chunks turns n xs) ≡ xs
unfolding chunks
chunks_together zero n xs h l = none_of xs (omega arith)
chunks_together (suc turns) n xs h l =
    by_test (eqb (length xs) 0)
    (λ e. rw e (none_of xs (eqb-true (length xs) 0 e)))
    (λ e.
    let some = eqb-false (length xs) 0 e in
    rw e
    (ap (λ (z : List ℤ). take n xs ++ z) (chunks_together turns n (drop n xs) h (omega (arith, l, length-drop n xs, some)))
    ∙ take-append-drop n xs))

chunks_few : (turns n : ℕ) (xs : List ℤ) → Pieces n (chunks turns n xs)
unfolding chunks
chunks_few zero n xs = tt
chunks_few (suc turns) n xs =
    by_test (eqb (length xs) 0) (λ e. rw e tt) (λ e. rw e (omega (arith, length-take n xs), chunks_few turns n (drop n xs)))

-- piece by piece
blocks_are : (pieces : List (List ℕ)) (p : Passed) → map held p.samples ++ together (blocks_in p pieces) ≡ map held (passing p pieces).samples
unfolding blocks_in passing
blocks_are [] p = append-nil (map held p.samples)
blocks_are (piece ∷ pieces) p =
    let xs = held_of p piece in
    let more = samples_of (right_lines p.stands (p.left ++ piece)) in
    ap (λ (l : List ℤ). map held p.samples ++ l)
    (together_join (chunks (length xs) block xs) (blocks_in (with_piece p piece) pieces)
    ∙ ap (λ (l : List ℤ). l ++ together (blocks_in (with_piece p piece) pieces)) (chunks_together (length xs) block xs (omega arith) (omega arith)))
    ∙ sym (append_assoc (map held p.samples) xs (together (blocks_in (with_piece p piece) pieces)))
    ∙ ap (λ (l : List ℤ). l ++ together (blocks_in (with_piece p piece) pieces)) (sym (map-append held p.samples more))
    ∙ blocks_are pieces (with_piece p piece)

blocks_few : (pieces : List (List ℕ)) (p : Passed) → Pieces block (blocks_in p pieces)
unfolding blocks_in
blocks_few [] p = tt
blocks_few (piece ∷ pieces) p =
    pieces_join block (chunks (length (held_of p piece)) block (held_of p piece)) (blocks_in (with_piece p piece) pieces)
    (chunks_few (length (held_of p piece)) block (held_of p piece)) (blocks_few pieces (with_piece p piece))

all_read : (D : ℕ) (cs : List Cut) → AllCut cs → AllRead D (map (readings_of D) cs)
all_read D [] ok = tt
all_read D (c ∷ cs) ok = (
  record {
    same = ok.0.0;
    samples = blocks_are c.pieces (nothing D);
    samples_again = blocks_are c.again (nothing D);
    few = blocks_few c.again (nothing D);
    lines = ok.0.1;
  },
  all_read D cs ok.1,
)

texts_are : (D : ℕ) (cs : List Cut) → map text_of (map (readings_of D) cs) ≡ map (λ c. joined c.pieces) cs
texts_are D [] = refl
texts_are D (c ∷ cs) = ap (λ (l : List (List ℕ)). joined c.pieces ∷ l) (texts_are D cs)

-- WHAT IS SAID OF SEVERAL FILES, however each is cut into pieces at either reading
pub reach_cut : (j : Job) (list : List ℕ) → longest_list ≤ length list → (cs : List Cut) → AllCut cs
    → let d = files_after j 1 (record { gathered = opened j; list = list }) (map (readings_of j.step) cs) in
    gathered_said j d.gathered d.list ≡ reach_said j (map (λ c. joined c.pieces) cs)
reach_cut j list room cs ok =
    reach_anywhere j list room (map (readings_of j.step) cs) (all_read j.step cs ok)
    ∙ ap (reach_said j) (texts_are j.step cs)
