-- `sheet_pairs::put_channel` meets its contract: the word, the record's number, the line's, the refusal's, the channel.
-- Assumes nothing.
use Prim.Native.Nat.{ℕ}
use mathlib.Core.Path.{◌≡◌, refl}
use mathlib.Core.List.{List, ◌++◌}
use native.Mathlib.Omega.{arith}
use Rattle.refusal.specs.Numbers.{number_of}
use Rattle.decimal.specs.Field.{tab, line_feed, field_text}
use Rattle.text.proofs.Parts.{Left, left_all, left_next, left_last}
use Rattle.desk_line.specs.Said.{refused_word}
use Rattle.desk_line.proofs.Few.{Small}
use Rattle.desk_line.proofs.Put.{puts}
use Rattle.sheet_pairs.specs.Files.{channel_record, refused_record_of}
use Rattle.sheet_pairs.proofs.Few.{record_few}
use borrow.Author.Rules.{rules}
use Rattle.sheet_pairs.proofs.put_channel.Goals as goal

pub returns : goal.returns
unfolding channel_record
returns c =
    let Whole : List ℕ = channel_record c.args.number c.args.line c.args.r c.args.channel in
    let Stands : List ℕ → List ℕ → ℕ → Type 0 = λ rest out at. Left c.args.out.now 0 (Whole) rest out at in
    let room : Stands (Whole) c.args.out.now 0 = let number : Small c.args.number = search rules in
    let line : Small c.args.line = search rules in
    let channel : Small c.args.channel = search rules in
    left_all _ 0 _ (omega (arith, c.requires, record_few c.args.number c.args.line c.args.r c.args.channel number line channel)) in
    let Number : ℕ → List ℕ = λ n. field_text n tab ++ field_text c.args.channel line_feed in
    let left3 : Stands (Number (number_of c.args.r)) c.write_field-why.new.out c.write_field-why.result = left_next (field_text c.args.line tab) _
    (left_next (field_text c.args.number tab) _
    (left_next refused_word _ (room) (c.write_bytes-first.ensures.value, c.write_bytes-first.ensures.out_after))
    (c.write_field-place.ensures.value, c.write_field-place.ensures.out_after))
    (c.write_field-why.ensures.value, c.write_field-why.ensures.out_after) in
    let asked : (n : ℕ) → n ≡ number_of c.args.r → Stands (Number n) c.write_field-why.new.out c.write_field-why.result = λ n e. rw e (left3) in
    let left4 : Stands (field_text c.args.channel line_feed) c.write_field-which.new.out c.write_field-which.result = left_next (field_text c.number.result tab) _ (asked _ c.number.ensures) (c.write_field-which.ensures.value, c.write_field-which.ensures.out_after) in
    let a = c.args in
    puts (refused_record_of a.number a.line a.r a.channel) (room) refl (left_last (left4) (c.write_field-end.ensures.value, c.write_field-end.ensures.out_after))
