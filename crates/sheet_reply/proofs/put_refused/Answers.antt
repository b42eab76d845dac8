-- `sheet_reply::put_refused` meets its contract: the word, then the line's number and the reason. Assumes nothing.
use mathlib.Core.List.{List, ◌++◌}
use Prim.Native.Nat.{ℕ}
use mathlib.Core.Path.{◌≡◌, ap, ◌∙◌}
use Rattle.refusal.specs.Numbers.{number_of}
use Rattle.decimal.specs.Field.{tab, ending, field_text}
use Rattle.text.proofs.Parts.{Left, left_all, left_next, left_last}
use Rattle.sheet_reply.specs.Written.{reason_text, refused_word, refused_text}
use Rattle.sheet_reply.proofs.put_refused.Goals as goal
use Rattle.sheet_reply.proofs.put_refused.Goals.{After-write_field-reason}

-- of the refused line so much is left, and the lent bytes are these
abbrev Stands : After-write_field-reason → List ℕ → List ℕ → ℕ → Type 0
Stands c rest out at = Left c.args.out.now c.args.at (refused_text c.args.line c.args.column c.args.r) rest out at

abbrev Why : After-write_field-reason → List ℕ
Why c = reason_text (number_of c.args.r) c.args.column

left1 : (c : After-write_field-reason) → Stands c (field_text c.args.line tab ++ Why c) c.write_bytes-place.new.out c.write_bytes-place.result
unfolding refused_text
left1 c =
    left_next refused_word _ (left_all _ _ (refused_text c.args.line c.args.column c.args.r) c.requires) (c.write_bytes-place.ensures.value, c.write_bytes-place.ensures.out_after)

left2 : (c : After-write_field-reason) → Stands c (Why c) c.write_field-reason.new.out c.write_field-reason.result
left2 c =
    left_next (field_text c.args.line tab) _ (left1 c) (c.write_field-reason.ensures.value, c.write_field-reason.ensures.out_after)

pub returns : goal.returns
returns c =
    let d = (goal.at.returns c).After-write_field-reason in
    let why : ending c.number-number.result c.told.result ≡ Why d = c.told.ensures ∙ ap (λ n. reason_text n c.args.column) c.number-number.ensures in
    let value = rw why at c.end_line.ensures.value in
    let bytes = rw why at c.end_line.ensures.out_after in
    let whole = left_last (left2 d) (value, bytes) in
    record { value = whole.0; out_after = whole.1 }
