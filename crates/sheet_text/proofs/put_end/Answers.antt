-- `sheet_text::put_end` meets its contract: a refusal has its line, and the other ends have none. Assumes nothing.
use Prim.Native.Nat.{◌+◌}
use mathlib.Core.Path.{◌≡◌, ap, ◌∙◌}
use native.Mathlib.Omega.{arith}
use lib.ListN.{length}
use Rattle.sheet_reply.specs.Written.{refused_text}
use Rattle.sheet_text.specs.Cut.{place_counted}
use Rattle.sheet_text.specs.Sheet.{end_text}
use Rattle.sheet_text.proofs.Put.{counted_writing, none_written}
use Rattle.sheet_text.proofs.put_end.Goals as goal
use Rattle.sheet_text.proofs.put_end.Goals.{After-write_refused}

place : (c : After-write_refused) → place_counted c.args.at c.write_refused.result ≡ c.args.at + length (refused_text c.in-Stopped.line c.in-Stopped.column c.in-Stopped.r)
place c =
    counted_writing c.args.out.now c.args.at _ c.write_refused.ensures.value

pub place_counted-requires : goal.place_counted-requires
place_counted-requires c =
    omega (arith, place (goal.at.place_counted-requires c).After-write_refused, ap (λ e. length (end_text e)) c.in-Stopped.is, c.requires)

pub returns-in-Read : goal.returns-in-Read
returns-in-Read c =
    rw c.in-Read.is (let whole = none_written _ _ in record { value = whole.0; out_after = whole.1 })

pub returns-in-Stopped : goal.returns-in-Stopped
returns-in-Stopped c =
    rw c.in-Stopped.is (record { value = c.place_counted.ensures ∙ place (goal.at.returns-in-Stopped c).After-write_refused; out_after = c.write_refused.ensures.out_after })

pub returns-in-Waiting : goal.returns-in-Waiting
returns-in-Waiting c =
    rw c.in-Waiting.is (let whole = none_written _ _ in record { value = whole.0; out_after = whole.1 })
