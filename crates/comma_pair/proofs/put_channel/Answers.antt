-- `comma_pair::put_channel` meets its contract: the word, the line's number, the refusal's, the channel. Assumes nothing.
use Prim.Native.Nat.{ℕ}
use mathlib.Core.Path.{◌≡◌, refl}
use mathlib.Core.List.{List, ◌++◌}
use native.Mathlib.Omega.{arith}
use Rattle.refusal.specs.Numbers.{number_of}
use Rattle.decimal.specs.Field.{tab, line_feed, field_text}
use Rattle.text.proofs.Parts.{Left, left_all, left_next, left_last}
use Rattle.desk_line.specs.Said.{refused_word}
use Rattle.desk_line.proofs.Few.{Small}
use Rattle.desk_line.proofs.Put.{puts}
use Rattle.comma_pair.specs.Line.{channel_line, refused_of}
use Rattle.comma_pair.proofs.Few.{channel_few}
use borrow.Author.Rules.{rules}
use Rattle.comma_pair.proofs.put_channel.Goals as goal
use Rattle.comma_pair.proofs.put_channel.Goals.{After-write_field-which}

abbrev Whole : After-write_field-which → List ℕ
Whole c = channel_line c.args.line c.args.r c.args.channel

-- of the refused line so much is left, and the lent bytes are these
abbrev Stands : After-write_field-which → List ℕ → List ℕ → ℕ → Type 0
Stands c rest out at = Left c.args.out.now 0 (Whole c) rest out at

room : (c : After-write_field-which) → Stands c (Whole c) c.args.out.now 0
room c =
    let line : Small c.args.line = search rules in
    let channel : Small c.args.channel = search rules in
    left_all _ 0 _ (omega (arith, c.requires, channel_few c.args.line c.args.r c.args.channel line channel))

abbrev Number : After-write_field-which → ℕ → List ℕ
Number c n = field_text n tab ++ field_text c.args.channel line_feed

left2 : (c : After-write_field-which) → Stands c (Number c (number_of c.args.r)) c.write_field-number.new.out c.write_field-number.result
unfolding channel_line
left2 c =
    left_next (field_text c.args.line tab) _
    (left_next refused_word _ (room c) (c.write_bytes-place.ensures.value, c.write_bytes-place.ensures.out_after))
    (c.write_field-number.ensures.value, c.write_field-number.ensures.out_after)

-- by the number that was asked for
asked : (c : After-write_field-which) {n : ℕ} → n ≡ number_of c.args.r → Stands c (Number c n) c.write_field-number.new.out c.write_field-number.result
asked c e = rw e (left2 c)

left3 : (c : After-write_field-which) → Stands c (field_text c.args.channel line_feed) c.write_field-which.new.out c.write_field-which.result
left3 c = left_next (field_text c.number.result tab) _ (asked c c.number.ensures) (c.write_field-which.ensures.value, c.write_field-which.ensures.out_after)

pub returns : goal.returns
returns c =
    let d = (goal.at.returns c).After-write_field-which in
    let a = c.args in
    puts (refused_of a.line a.r a.channel) (room d) refl (left_last (left3 d) (c.write_field-end.ensures.value, c.write_field-end.ensures.out_after))
