-- `sheet_text::put_sheet` meets its contract: before line 1 nothing is written, and after a line the record's. Assumes
-- nothing.
use Prim.Native.Nat.{◌+◌}
use mathlib.Core.Path.{◌≡◌, ap, ◌∙◌}
use native.Mathlib.Omega.{arith}
use lib.ListN.{length}
use Rattle.sheet_reply.specs.Written.{record_text, record_left, record_writing}
use Rattle.sheet_text.specs.Cut.{place_counted}
use Rattle.sheet_text.specs.Sheet.{text_of}
use Rattle.sheet_text.proofs.Put.{counted_writing, none_written}
use Rattle.sheet_text.proofs.put_sheet.Goals as goal
use Rattle.sheet_text.proofs.put_sheet.Goals.{After-write_record}

place : (c : After-write_record) → place_counted c.args.at c.write_record.result ≡ c.args.at + length (record_text c.in-Open.c)
unfolding record_writing
place c =
    counted_writing c.args.out.now c.args.at _ (rw (rw c.in-Open.is at c.requires.0) at c.write_record.ensures.value)

pub returns-in_default : goal.returns-in_default
returns-in_default c =
    rw c.in_default.is (let whole = none_written _ _ in record { value = whole.0; out_after = whole.1 })

pub place_counted-requires : goal.place_counted-requires
place_counted-requires c =
    omega (arith, place (goal.at.place_counted-requires c).After-write_record, ap (λ s. length (text_of s)) c.in-Open.is, c.requires.1)

pub returns : goal.returns
unfolding record_left
returns c =
    rw c.in-Open.is (record { value = c.place_counted.ensures ∙ place (goal.at.returns c).After-write_record; out_after = rw (rw c.in-Open.is at c.requires.0) at c.write_record.ensures.out_after })
