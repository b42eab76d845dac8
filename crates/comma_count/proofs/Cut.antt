-- However a file is cut into pieces, what is said of the count is what is said of the whole text (`cut_anywhere`). The
-- count after a text so far is the one after its right lines, and what is kept is what they leave; a piece keeps this
-- so (`piece_on`), or a line is wrong and stays wrong. Assumes nothing.
use Prim.Native.Nat.{ℕ, ◌+◌, ◌*◌, ◌-◌, ◌^◌, ◌≤◌, ◌<◌}
use mathlib.Core.Path.{◌≡◌, refl, sym, ap, subst, ◌∙◌}
use mathlib.Core.Bool.{Bool, true, false, cond, not, ◌&&◌}
use mathlib.Core.List.{List, [], ◌∷◌, ◌++◌, append-nil, append_assoc}
use native.Mathlib.Nat.{zero-add}
use native.Mathlib.Omega.{arith}
use lib.Dec.{eqb, ltb}
use lib.ListN.{length, drop, length-append}
use borrow.Author.Tests.{eq-eqb, ne_eqb, eqb-true, eqb-false}
use Rattle.truth.proofs.Cases.{by_test}
use Rattle.truth.proofs.Laws.{impossible}
use Rattle.refusal.specs.declared.Refusal.TheVariants.{Item}
use Rattle.sample_items.specs.Limits.{item_outside}
use Rattle.record_state.specs.Answers.{opened}
use Rattle.record_feed.specs.Answers.{fed}
use Rattle.record_feed.proofs.Theorems.{empty_taken}
use Rattle.decimal.specs.Decimal.{longest}
use Rattle.decimal.specs.Lines.{lines_of}
use Rattle.sample_range.specs.Range.{first_bad}
use Rattle.comma_line.specs.Text.{first_wrong, samples_of}
use Rattle.comma_stream.specs.declared.Follow.{Follow}
use Rattle.comma_stream.specs.declared.Rest.{Rest}
use Rattle.comma_stream.specs.declared.Rest.TheVariants.{Waits, Over, Wrong}
use Rattle.comma_stream.specs.Follow.{bytes_of, right_lines, after_lines, may_begin, resting}
use Rattle.comma_stream.specs.Pieces.{Passed, with_piece}
use Rattle.text.specs.Pieces.{joined}
use Rattle.comma_stream.proofs.Pieces.{Rights, Left, Level, level_on}
use Rattle.comma_stream.proofs.Whole.{all_right, one_wrong, stays}
use Rattle.sample_items.specs.declared.Items.{Items}
use Rattle.comma_count.specs.declared.Counting.{Counting}
use Rattle.comma_count.specs.declared.Took.{Took}
use Rattle.comma_count.specs.Line.{count_said, end_of_lines, end_of_text}
use Rattle.comma_count.specs.Taking.{is_refused, fresh, opening, going, answering, with_lines, rested, agrees, taking, end_of, said_end, saying}
use Rattle.comma_count.specs.Pieces.{carrying}
use Rattle.comma_count.proofs.Joining.{answering_join}
use Rattle.comma_count.proofs.Piece.{taking_over}
use Rattle.comma_count.proofs.Whole.{start, standing, wrong_after, opens, start_sound, end_wrong, end_right, said_end_lem}
use Rattle.comma_count.proofs.Agreeing.{standing_agrees}
use Rattle.std.specs.Prelude.{Ok}

-- ---- what is over stays
over_stays : (c : Counting) (kept : List ℕ) (pieces : List (List ℕ)) → c.over ≡ true → carrying c kept pieces ≡ c
unfolding carrying
over_stays c kept [] o = ap (λ t. t.counting) (sym (taking_over c kept false o))
over_stays c kept (piece ∷ pieces) o =
    ap (λ t. carrying t.counting (drop t.used (kept ++ piece)) pieces) (sym (taking_over c (kept ++ piece) true o)) ∙ over_stays c _ pieces o

-- ---- what is left, and is wrong
left_wrong : (text : List ℕ) (more : Bool) → resting text more ≡ Wrong → (1 ≤ length text) × (more ≡ true → may_begin text ≡ false)
unfolding resting
left_wrong text more e =
    by_test (eqb (length text) 0)
    (λ z. absurd (none more (sym (rw z at e))))
    (λ z.
    let some = eqb-false (length text) 0 z in
    (omega arith, λ m. by_test (may_begin text) (λ b. absurd (waits (sym (rw (z, m, b) at e)))) (λ b. b)))
  where
    none : (b : Bool) → Wrong ≡ cond b (Waits 0) Over → ⊥
    none true f = impossible (cc)
    none false f = impossible (cc)

    waits : {n : ℕ} → Wrong ≡ Waits n → ⊥
    waits f = impossible (cc)

-- at the end of a file nothing waits
left_over : (text : List ℕ) → 1 ≤ length text → resting text false ≡ Wrong
unfolding resting
left_over text some = rw (ne_eqb (length text) 0 (λ z. omega arith))

rest_none : (text : List ℕ) → (resting text false ≡ Wrong → ⊥) → text ≡ []
rest_none [] f = refl
rest_none (b ∷ text) f = absurd (f (left_over (b ∷ text) (omega arith)))

module _ (i : Items) (ok : item_outside i ≡ 0) where
  abbrev D : ℕ
  D = i.step

  -- ---- a piece
  module _ (text piece : List ℕ) where
    abbrev us : List (List ℕ)
    us = Rights D 0 text

    abbrev stand : Follow
    stand = after_lines (fresh D) us

    abbrev more_lines : List (List ℕ)
    more_lines = right_lines stand (Left D 0 text ++ piece)

    abbrev passed : Passed
    passed = record { stands = stand; samples = samples_of us; left = Left D 0 text }

    level : Level D (with_piece passed piece) (text ++ piece)
    level = level_on D passed text piece (record { stands = refl; samples = refl; left = refl })

    left_is : drop (bytes_of more_lines) (Left D 0 text ++ piece) ≡ Left D 0 (text ++ piece)
    left_is = level.left

    lines_on : with_lines (standing i us) more_lines ≡ standing i (Rights D 0 (text ++ piece))
    lines_on =
        ap (going (after_lines stand more_lines)) (answering_join (fresh D) (Ok (start i)) us more_lines)
        ∙ ap (λ f. going f (answering f (Ok (start i)) (samples_of us ++ samples_of more_lines))) level.stands
        ∙ ap (λ xs. going (after_lines (fresh D) (Rights D 0 (text ++ piece))) (answering (after_lines (fresh D) (Rights D 0 (text ++ piece))) (Ok (start i)) xs)) level.samples

    stands_well : agrees (standing i us).follow (standing i us).answer ≡ true
    stands_well = standing_agrees i ok text

    abbrev used_bytes : ℕ
    used_bytes = bytes_of more_lines

    piece_on : (more : Bool) → taking (standing i us) (Left D 0 text ++ piece) more
        ≡ rested (resting (Left D 0 (text ++ piece)) more) (standing i (Rights D 0 (text ++ piece))) used_bytes (length (Left D 0 text ++ piece))
    unfolding taking
    piece_on more =
        rw stands_well
        (ap (λ l. rested (resting l more) (with_lines (standing i us) more_lines) used_bytes (length (Left D 0 text ++ piece))) left_is
        ∙ ap (λ c. rested (resting (Left D 0 (text ++ piece)) more) c used_bytes (length (Left D 0 text ++ piece))) lines_on)

  -- ---- from the start
  starts : opening i ≡ standing i (Rights D 0 [])
  unfolding opening lines_of first_wrong after_lines first_bad answering
  starts =
      rw (opens i ok) (ap (going (fresh D)) (sym (empty_taken (start i) (start_sound i ok))))

  -- ---- what is read off a count: P of it is Q of a text that is all right, and of one with a wrong line
  module _ {X : Type 0} (P : Counting → X) (Q : List ℕ → X)
      (right_end : (text : List ℕ) → Left D 0 text ≡ [] → P (standing i (Rights D 0 text)) ≡ Q text)
      (wrong-end : (text : List ℕ) → 1 ≤ length (Left D 0 text) → P (wrong_after i (Rights D 0 text)) ≡ Q text) where
    -- a line that is wrong on the way
    wrong_on : (a b : List ℕ) → resting (Left D 0 a) true ≡ Wrong → P (wrong_after i (Rights D 0 a)) ≡ Q (a ++ b)
    wrong_on a b e =
        let l = left_wrong (Left D 0 a) true e in
        let s = stays D a b (l.1 refl) in
        ap (λ us. P (wrong_after i us)) (sym s.0) ∙ wrong-end (a ++ b) (rw (s.1, length-append) (omega (arith, l.0)))

    -- the end of a file
    ended_by : (text : List ℕ) (at all : ℕ) (r : Rest) → resting (Left D 0 text) false ≡ r → P (rested r (standing i (Rights D 0 text)) at all).counting ≡ Q text
    ended_by text at all Wrong e = wrong-end text (left_wrong (Left D 0 text) false e).0
    ended_by text at all Over e = right_end text (rest_none (Left D 0 text) (λ w. impossible (cc)))
    ended_by text at all (Waits n) e = right_end text (rest_none (Left D 0 text) (λ w. impossible (cc)))

    ends : (text : List ℕ) → P (carrying (standing i (Rights D 0 text)) (Left D 0 text) []) ≡ Q text
    unfolding carrying
    ends text =
        ap (λ k. P (taking (standing i (Rights D 0 text)) k false).counting) (sym (append-nil (Left D 0 text)))
        ∙ ap (λ t. P t.counting) (piece_on text [] false)
        ∙ ap (λ x. P (rested (resting (Left D 0 x) false) (standing i (Rights D 0 x)) (used_bytes text []) (length (Left D 0 text ++ []))).counting) (append-nil text)
        ∙ ended_by text (used_bytes text []) (length (Left D 0 text ++ [])) (resting (Left D 0 text) false) refl

    -- piece after piece: the text so far, and what is kept of it with the last piece
    gone_on : (pieces : List (List ℕ)) (text kept : List ℕ) (at : ℕ) (r : Rest) → drop at kept ≡ Left D 0 text → resting (Left D 0 text) true ≡ r
        → P (carrying (standing i (Rights D 0 text)) (Left D 0 text) pieces) ≡ Q (text ++ joined pieces)
        → let t = rested r (standing i (Rights D 0 text)) at (length kept) in P (carrying t.counting (drop t.used kept) pieces) ≡ Q (text ++ joined pieces)
    gone_on pieces text kept at (Waits n) l e ih = ap (λ k. P (carrying (standing i (Rights D 0 text)) k pieces)) l ∙ ih
    gone_on pieces text kept at Over l e ih = ap (λ k. P (carrying (standing i (Rights D 0 text)) k pieces)) l ∙ ih
    gone_on pieces text kept at Wrong l e ih = ap P (over_stays (wrong_after i (Rights D 0 text)) (drop (length kept) kept) pieces refl) ∙ wrong_on text (joined pieces) e

    all_pieces : (pieces : List (List ℕ)) (text : List ℕ) → P (carrying (standing i (Rights D 0 text)) (Left D 0 text) pieces) ≡ Q (text ++ joined pieces)
    unfolding carrying joined
    all_pieces [] text = ends text ∙ ap Q (sym (append-nil text))
    all_pieces (piece ∷ pieces) text =
        ap (λ t. P (carrying t.counting (drop t.used (Left D 0 text ++ piece)) pieces)) (piece_on text piece true)
        ∙ gone_on pieces (text ++ piece) (Left D 0 text ++ piece) (used_bytes text piece) (resting (Left D 0 (text ++ piece)) true) (left_is text piece) refl (all_pieces pieces (text ++ piece))
        ∙ ap Q (append_assoc text piece (joined pieces))

    from_start : (pieces : List (List ℕ)) → P (carrying (opening i) [] pieces) ≡ Q (joined pieces)
    unfolding lines_of first_wrong bytes_of
    from_start pieces = ap (λ c. P (carrying c [] pieces)) starts ∙ all_pieces pieces []

  end_items : (pieces : List (List ℕ)) → end_of (carrying (opening i) [] pieces) ≡ end_of_text i (joined pieces)
  end_items =
      from_start end_of (end_of_text i)
      (λ text e. let a = all_right D text e in ap (λ us. end_of (standing i us)) a.0 ∙ end_right i ok (lines_of text) a.1)
      (λ text some. let w = one_wrong D text some in end_wrong i ok (Rights D 0 text) (lines_of text) w.0 (omega (arith, w.0, w.1)))

-- an item out of range
module _ (i : Items) (pieces : List (List ℕ)) (e : eqb (item_outside i) 0 ≡ false) where
  over_first : carrying (opening i) [] pieces ≡ opening i
  unfolding opening opened
  over_first = over_stays (opening i) [] pieces (rw e)

  end_first : end_of (opening i) ≡ end_of_text i (joined pieces)
  unfolding opening opened end_of_lines
  end_first = rw e

-- WHAT A FILE COMES TO, however it is cut, is what the whole text comes to
pub end_anywhere : (i : Items) (pieces : List (List ℕ)) → end_of (carrying (opening i) [] pieces) ≡ end_of_text i (joined pieces)
end_anywhere i pieces =
    by_test (eqb (item_outside i) 0)
    (λ e. end_items i (eqb-true (item_outside i) 0 e) pieces)
    (λ e. ap end_of (over_first i pieces e) ∙ end_first i pieces e)

-- and so is WHAT IS FINISHED WITH
pub cut_anywhere : (i : Items) (pieces : List (List ℕ)) → saying (carrying (opening i) [] pieces) ≡ count_said i (joined pieces)
unfolding saying
cut_anywhere i pieces = ap said_end (end_anywhere i pieces) ∙ said_end_lem i (lines_of (joined pieces))

-- two cuttings of a file come to the same
pub cut_alike : (i : Items) (ps qs : List (List ℕ)) → joined ps ≡ joined qs → saying (carrying (opening i) [] ps) ≡ saying (carrying (opening i) [] qs)
cut_alike i ps qs e = cut_anywhere i ps ∙ ap (count_said i) e ∙ sym (cut_anywhere i qs)
