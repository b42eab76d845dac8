-- However a sheet's text is cut into pieces, reading it piece by piece comes to what its meaning says (`cut_anywhere`).
-- One cut first, by induction along the lines of the piece before it: a line that is complete there is the same line in
-- the whole text, and one that is not is read again with what follows. Assumes nothing.
use Prim.Native.Nat.{ℕ, zero, suc, ◌+◌, ◌-◌, ◌≤◌, ◌<◌}
use mathlib.Core.Path.{◌≡◌, refl, sym, ap, ◌∙◌}
use mathlib.Core.Bool.{Bool, true, false, not}
use mathlib.Core.List.{List, [], ◌∷◌, ◌++◌, append_assoc, append-nil}
use mathlib.Core.Logic.{◌⊎◌, inl, inr}
use native.Mathlib.Omega.{arith}
use lib.Dec.{ltb}
use lib.ListN.{length, drop, length-drop, length-append}
use lib.Seq.{drop-drop, drop-append-le, take-append-le}
use borrow.Author.Tests.{ltb-true, ltb-false, not-true}
use Rattle.truth.proofs.Cases.{by_test}
use Rattle.truth.proofs.Laws.{and-true}
use Rattle.refusal.specs.declared.Refusal.{Refusal}
use Rattle.sheet_text.specs.declared.Reading.{Reading}
use Rattle.sheet_text.specs.declared.Reading.TheVariants.{Read, Stopped, Waiting}
use Rattle.sheet_line.specs.declared.Sheet.{Sheet}
use Rattle.sheet_line.specs.declared.Sheet.TheVariants.{Fresh}
use Rattle.sheet_line.specs.Form.{longest_sheet_line, ends_line}
use Rattle.sheet_line.specs.Line.{stepping}
use Rattle.decimal.specs.Lines.{lines_of}
use Rattle.sheet_text.specs.Sheet.{Account, prefixed, ended, after_step, text_of, waits, reading_sheet, left_in, meaning}
use Rattle.sheet_text.specs.Cut.{cut, first_line}
use Rattle.text.specs.Pieces.{joined}
use Rattle.sheet_text.specs.Pieces.{last_bytes, onward, feeding}
use Rattle.sheet_text.proofs.Lines.{cut_within, cut_some, cut-append, cut-whole, length_first, reading_turn}
use Rattle.std.specs.Prelude.{Result, Ok, Err}

-- a text that has come to its end at this line, or a line that is complete
module _ (text : List ℕ) where
  waits_whole : waits true (first_line text) ≡ true → length (first_line text) ≡ length text
  unfolding first_line
  waits_whole w =
      let (unended, short) = and-true (not (ends_line (first_line text))) (ltb (length (first_line text)) longest_sheet_line) w in
      length_first text ∙ cut-whole longest_sheet_line text (not-true (ends_line (first_line text)) unended) (omega (arith, length_first text, ltb-true (length (first_line text)) longest_sheet_line short))

  complete : waits true (first_line text) ≡ false → (ends_line (first_line text) ≡ true) ⊎ (longest_sheet_line ≤ cut longest_sheet_line text)
  complete w =
      by_test (ends_line (first_line text))
      (λ e. inl e)
      (λ e. inr (omega (arith, length_first text, ltb-false (length (first_line text)) longest_sheet_line (rw e at w))))

  module _ (more : List ℕ) (w : waits true (first_line text) ≡ false) where
    same_cut : cut longest_sheet_line (text ++ more) ≡ cut longest_sheet_line text
    unfolding first_line
    same_cut = cut-append longest_sheet_line text more (complete w)

    same_line : first_line (text ++ more) ≡ first_line text
    unfolding first_line
    same_line = rw same_cut (take-append-le (cut longest_sheet_line text) text more (cut_within longest_sheet_line text))

    same_rest : drop (cut longest_sheet_line (text ++ more)) (text ++ more) ≡ drop (cut longest_sheet_line text) text ++ more
    same_rest = rw same_cut (drop-append-le (cut longest_sheet_line text) text more (cut_within longest_sheet_line text))

no_wait : (more : Bool) (line : List ℕ) → waits true line ≡ false → waits more line ≡ false
no_wait true line w = w
no_wait false line w = refl

-- one cut: what is read before it goes on with what follows, and leaves no more unread than there is
record Cut (more : Bool) (text after : List ℕ) (s : Sheet) : Type 0 where
  goes : onward (reading_sheet true (lines_of text) s) (reading_sheet true (lines_of text) s).end text
      (λ t kept. reading_sheet more (lines_of (kept ++ after)) t) ≡ reading_sheet more (lines_of (text ++ after)) s
  left : left_in (reading_sheet true (lines_of text) s).end ≤ length text

module _ (more : Bool) (text after : List ℕ) (s : Sheet) (some : 0 < length text) where
  abbrev line : List ℕ
  line = first_line text

  abbrev rest : List ℕ
  rest = drop (cut longest_sheet_line text) text

  abbrev turn : waits true line ≡ false → reading_sheet true (lines_of text) s ≡ after_step (stepping s line) (reading_sheet true (lines_of rest))
  turn w = reading_turn true text s some ∙ rw w

  turn_after : waits true line ≡ false → reading_sheet more (lines_of (text ++ after)) s ≡ after_step (stepping s line) (reading_sheet more (lines_of (rest ++ after)))
  turn_after w =
      let some' : 0 < length (text ++ after) = rw length-append (omega arith) in
      reading_turn more (text ++ after) s some' ∙ rw (same_line text after w, no_wait more line w, same_rest text after w)

  -- the line waits: it is all there is
  cut_waits : waits true line ≡ true → Cut more text after s
  cut_waits w =
      let e : reading_sheet true (lines_of text) s ≡ ended (Waiting s (length line)) = reading_turn true text s some ∙ rw w in
      let all : length text - length line ≡ 0 = omega (arith, waits_whole text w) in
      record { goes = rw (e, all); left = rw e (omega (arith, waits_whole text w)) }

  cut_stops : {l k : ℕ} {r : Refusal} → waits true line ≡ false → stepping s line ≡ Err (l, k, r) → Cut more text after s
  cut_stops w f = record { goes = rw (turn w, f) (sym (turn_after w ∙ rw f)); left = rw (turn w, f) (omega arith) }

  cut_next : {t : Sheet} → waits true line ≡ false → stepping s line ≡ Ok t → Cut more rest after t → Cut more text after s
  unfolding reading_sheet
  cut_next {t} w f c = record {
    goes = rw (turn w, f) (by_end (reading_sheet true (lines_of rest) t).end refl ∙
        sym (turn_after w ∙ rw f));
    left = rw (turn w, f) (omega (
      arith,
      c.left,
      length-drop (cut longest_sheet_line
          text) text,
    ));
  }
    where
      A : Account
      A = reading_sheet true (lines_of rest) t

      go : Sheet → List ℕ → Account
      go u kept = reading_sheet more (lines_of (kept ++ after)) u

      by_end : (e : Reading) → A.end ≡ e → onward (prefixed (text_of t) A) e text go ≡ prefixed (text_of t) (reading_sheet more (lines_of (rest ++ after)) t)
      by_end (Waiting u n) f =
          let few : n ≤ length rest = rw f at c.left in
          let place : cut longest_sheet_line text + (length rest - n) ≡ length text - n = omega (arith, length-drop (cut longest_sheet_line text) text, cut_within longest_sheet_line text) in
          let kept : last_bytes n rest ≡ last_bytes n text = rw (drop-drop, place) in
          sym (ap (prefixed (text_of t)) (sym (rw (f, kept) at c.goes)) ∙ rw append_assoc)
      by_end (Stopped l k r) f = ap (prefixed (text_of t)) (rw f at c.goes)
      by_end (Read d) f = ap (prefixed (text_of t)) (rw f at c.goes)

-- a text of no bytes, or one with a line, from what holds of shorter texts
module _ (more : Bool) (after : List ℕ) where
  cut_none : (s : Sheet) → Cut more [] after s
  unfolding reading_sheet lines_of
  cut_none s = record { goes = refl; left = omega arith }

  cut_line : (n : ℕ) (text : List ℕ) (s : Sheet) → 0 < length text → length text ≤ suc n
      → ((rest : List ℕ) (t : Sheet) → length rest ≤ n → Cut more rest after t) → Cut more text after s
  cut_line n text s some h shorter =
      by_test (waits true (first_line text)) (cut_waits more text after s some) (λ w. by_step w (stepping s (first_line text)) refl)
    where
      less : length (drop (cut longest_sheet_line text) text) ≤ n
      less = rw length-drop (omega (arith, cut_some 63 text some))

      by_step : waits true (first_line text) ≡ false → (step : Result Sheet (ℕ × ℕ × Refusal)) → stepping s (first_line text) ≡ step → Cut more text after s
      by_step w (Ok t) f = cut_next more text after s some w f (shorter _ t less)
      by_step w (Err (l, k, r)) f = cut_stops more text after s some w f

  cut_text : (n : ℕ) (text : List ℕ) (s : Sheet) → length text ≤ suc n → ((rest : List ℕ) (t : Sheet) → length rest ≤ n → Cut more rest after t) → Cut more text after s
  cut_text n [] s h shorter = cut_none s
  cut_text n (b ∷ text) s h shorter = cut_line n (b ∷ text) s (omega arith) h shorter

  cuts : (n : ℕ) (text : List ℕ) (s : Sheet) → length text ≤ n → Cut more text after s
  cuts zero text s h = cut_text 0 text s (omega arith) (λ rest t l. nothing rest t l)
    where
      nothing : (rest : List ℕ) (t : Sheet) → length rest ≤ 0 → Cut more rest after t
      nothing [] t l = cut_none t
      nothing (b ∷ rest) t l = absurd (omega arith)
  cuts (suc n) text s h = cut_text n text s h (cuts n)

pub one_cut : (more : Bool) (text after : List ℕ) (s : Sheet)
    → onward (reading_sheet true (lines_of text) s) (reading_sheet true (lines_of text) s).end text
    (λ t kept. reading_sheet more (lines_of (kept ++ after)) t) ≡ reading_sheet more (lines_of (text ++ after)) s
one_cut more text after s = (cuts more after (length text) text s (omega arith)).goes

-- ---- the theorem, for any number of cuts
onward_same : (a : Account) (e : Reading) (text : List ℕ) {go other : Sheet → List ℕ → Account} → ((s : Sheet) (kept : List ℕ) → go s kept ≡ other s kept) → onward a e text go ≡ onward a e text other
onward_same a (Waiting s n) text h = ap (prefixed a.text) (h s (last_bytes n text))
onward_same a (Stopped line column r) text h = refl
onward_same a (Read c) text h = refl

fed : (pieces : List (List ℕ)) (s : Sheet) (kept : List ℕ) → feeding pieces s kept ≡ reading_sheet false (lines_of (kept ++ joined pieces)) s
unfolding feeding joined
fed [] s kept = rw append-nil
fed (piece ∷ pieces) s kept =
    onward_same _ (reading_sheet true (lines_of (kept ++ piece)) s).end (kept ++ piece) (fed pieces)
    ∙ one_cut false (kept ++ piece) (joined pieces) s
    ∙ rw append_assoc

pub cut_anywhere : (pieces : List (List ℕ)) → feeding pieces Fresh [] ≡ meaning (joined pieces)
unfolding meaning
cut_anywhere pieces = fed pieces Fresh []
