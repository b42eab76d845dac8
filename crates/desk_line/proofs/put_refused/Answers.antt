use Prim.Native.Nat.{ℕ, ◌+◌, ◌<◌, ◌≤◌}
use mir.Syntax.{w64}
use mir.Val.{Fits}
use mathlib.Core.Path.{◌≡◌, refl, ◌∙◌}
use mathlib.Core.List.{List, ◌++◌}
use native.Mathlib.Numerals.{add-one}
use native.Mathlib.Omega.{arith}
use borrow.Author.Rules.{rules}
use lib.ListN.{length, get_or, drop, drop_of_length-le}
use lib.Seq.{drop-cons}
use Rattle.refusal.specs.Numbers.{number_of, value_of}
use Rattle.decimal.specs.Field.{tab, ending, field_text}
use Rattle.text.proofs.Parts.{left_all, left_next, left_last}
use Rattle.desk_line.specs.Said.{refused_word, why_text, places_then, refused_line, refused}
use Rattle.desk_line.proofs.Few.{Small, refused_few}
use Rattle.desk_line.proofs.Put.{puts}
use Rattle.desk_line.proofs.put_refused.Goals as goal

small : (n : ℕ) → Fits w64 n → Small n
small n h = search rules

-- with a place left its number comes next, and with none the reason
one_place : (places why : List ℕ) (i : ℕ) → i < length places
    → places_then (drop i places) why ≡ field_text (get_or places i 0) tab ++ places_then (drop (i + 1) places) why
unfolding places_then
one_place places why i h = rw (drop-cons places i 0 h, add-one)

no_place : (places why : List ℕ) (i : ℕ) → length places ≤ i → places_then (drop i places) why ≡ why
unfolding places_then
no_place places why i h = rw (drop_of_length-le places h)

pub loop-place-init : goal.loop-place-init
unfolding refused_line
loop-place-init c =
    let a = c.args in
    let value : Small c.carried.result = search rules in
    let fits = refused_few a.places.now a.r (λ i. small (get_or a.places.now i 0) (c.type_inv.places i)) c.requires.1 (rw c.carried.ensures at value) in
    let word = c.write_bytes-at.ensures in
    left_next refused_word _ (left_all a.out.now 0 (refused_line a.places.now a.r) (omega (arith, c.requires.0, fits))) (word.value, word.out_after)

pub loop-place-preserved : goal.loop-place-preserved
loop-place-preserved c =
    let a = c.args in
    let l = c.loop-place in
    let field = c.write_field-at.ensures in
    let why = why_text (number_of a.r) (value_of a.r) in
    left_next (field_text (get_or a.places.now l.place-index 0) tab) _
    (rw (one_place a.places.now why l.place-index c.loop-place-test.true) at l.invariant) (field.value, field.out_after)

pub returns : goal.returns
returns c =
    let a = c.args in
    let l = c.loop-place in
    let why = why_text (number_of a.r) (value_of a.r) in
    let last = rw (no_place a.places.now why l.place-index (omega arith)) at l.invariant in
    let told : why_text c.number-number.result c.carried.result ≡ why = rw (c.number-number.ensures, c.carried.ensures) in
    let text : ending c.number-number.result c.item-item.result ≡ why = c.item-item.ensures ∙ told in
    let value = rw text at c.end_line-put.ensures.value in
    let bytes = rw text at c.end_line-put.ensures.out_after in
    let whole = left_last last (value, bytes) in
    let room = left_all a.out.now 0 (refused_line a.places.now a.r) l.invariant.fits in
    puts (refused a.places.now a.r) room refl whole
