-- `sheet_text::find` meets its contract: the part that it hands over is the first line of what stands at `at`. Assumes
-- nothing.
use native.Mathlib.Omega.{arith}
use lib.ListN.{length, take, drop}
use Prim.Native.Nat.{ℕ, ◌+◌, ◌-◌, ◌≤◌}
use mathlib.Core.Path.{◌≡◌, sym, ◌∙◌}
use mathlib.Core.List.{List}
use Rattle.sheet_line.specs.Form.{longest_sheet_line}
use Rattle.sheet_line.specs.Line.{stepping}
use Rattle.sheet_text.specs.Sheet.{waits}
use Rattle.sheet_text.specs.Cut.{cut, first_line, found}
use Rattle.sheet_text.proofs.Lines.{end_within, part_length, part_end, part_first}
use Rattle.sheet_text.proofs.find.Goals as goal
use Rattle.sheet_text.proofs.find.Goals.{After-line, After-line_end-end, After-waits}

-- what is handed over: the part from `at` to the end that was found
abbrev Rest : After-line_end-end → List ℕ
Rest c = let a = c.args in drop a.at a.text.now

abbrev Rest₂ : After-waits → List ℕ
Rest₂ c = let a = c.args in drop a.at a.text.now

abbrev Rest₃ : After-line → List ℕ
Rest₃ c = let a = c.args in drop a.at a.text.now

end_is : (c : After-line_end-end) → c.line_end-end.result ≡ c.args.at + cut longest_sheet_line (Rest c)
end_is c = c.line_end-end.ensures

end_is₂ : (c : After-waits) → c.line_end-end.result ≡ c.args.at + cut longest_sheet_line (Rest₂ c)
end_is₂ c = c.line_end-end.ensures

end_is₃ : (c : After-line) → c.line_end-end.result ≡ c.args.at + cut longest_sheet_line (Rest₃ c)
end_is₃ c = c.line_end-end.ensures

first : (c : After-waits) → take (c.line_end-end.result - c.args.at) (Rest₂ c) ≡ first_line (Rest₂ c)
first c = part_first _ _ c.line_end-end.result (end_is₂ c)

first₂ : (c : After-line) → take (c.line_end-end.result - c.args.at) (Rest₃ c) ≡ first_line (Rest₃ c)
first₂ c = part_first _ _ c.line_end-end.result (end_is₃ c)

within : (c : After-line_end-end) → c.line_end-end.result ≤ length c.args.text.now
within c = end_within _ _ c.line_end-end.result (end_is c) (omega arith)

waits-is : (c : After-waits) → waits c.args.more (first_line (Rest₂ c)) ≡ c.waits.result
waits-is c =
    rw (← first c) (sym c.waits.ensures)

step_is : (c : After-line) →
    stepping c.args.s (first_line (Rest₃ c)) ≡ c.line.result
step_is c =
    rw (← first₂ c) (sym c.line.ensures)

pub slice_bounds-waits-end : goal.slice_bounds-waits-end
slice_bounds-waits-end c = within c

pub returns-then-waits : goal.returns-then-waits
unfolding found
returns-then-waits c =
    rw (waits-is (goal.at.returns-then-waits c).After-waits ∙ c.if-waits.true, part_length _ _ c.line_end-end.result (end_is (goal.at.returns-then-waits c).After-line_end-end))

pub returns-in-Ok : goal.returns-in-Ok
unfolding found
returns-in-Ok c =
    rw (waits-is (goal.at.returns-in-Ok c).After-waits ∙ c.if-waits.false, step_is (goal.at.returns-in-Ok c).After-line ∙ c.in-Ok.is, ← part_end _ _ c.line_end-end.result (end_is (goal.at.returns-in-Ok c).After-line_end-end))

pub returns-in-Err : goal.returns-in-Err
unfolding found
returns-in-Err c =
    rw (waits-is (goal.at.returns-in-Err c).After-waits ∙ c.if-waits.false, step_is (goal.at.returns-in-Err c).After-line ∙ c.in-Err.is)
