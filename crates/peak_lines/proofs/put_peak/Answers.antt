-- `peak_lines::put_peak` meets its contract: the line is written part by part, each taking itself off what is left of
-- it. Assumes nothing.
use Prim.Native.Nat.{ℕ}
use mathlib.Core.List.{List, [], ◌∷◌, ◌++◌}
use mir.Facts.{to_z-of_z}
use mir.Syntax.{w32}
use mir.Val.{SFits}
use borrow.Author.Rules.{rules}
use Rattle.text.proofs.Parts.{Left, left_all, left_next, left_last}
use Rattle.decimal.specs.Field.{tab, line_feed, field_text}
use Rattle.degrees.specs.Degrees.{degrees_text}
use Rattle.peak_lines.specs.Lines.{file_text, shown, shown_time, peak_line}
use Rattle.peak_lines.proofs.put_peak.Goals as goal
use Rattle.peak_lines.proofs.put_peak.Goals.{After-write_byte-after_tab}

-- of the line so much is left, and the lent bytes are these
abbrev Stands : After-write_byte-after_tab → List ℕ → List ℕ → ℕ → Type 0
Stands c rest out at =
    let a = c.args in
    Left a.out.now a.at (peak_line a.file a.size a.time) rest out at

abbrev Time : After-write_byte-after_tab → List ℕ
Time c = field_text (shown_time c.args.time) line_feed

left1 : (c : After-write_byte-after_tab) → Stands c (degrees_text (shown c.args.size) ++ (tab ∷ Time c)) c.put_file-after_file.new.out c.put_file-after_file.result
unfolding peak_line
left1 c =
    let a = c.args in
    left_next (file_text a.file) _ (left_all _ _ (peak_line a.file a.size a.time) c.requires) (c.put_file-after_file.ensures.value, c.put_file-after_file.ensures.out_after)

left2 : (c : After-write_byte-after_tab) → Stands c (tab ∷ Time c) c.write_degrees-after_size.new.out c.write_degrees-after_size.result
left2 c =
    let x = c.sample in
    let f : SFits w32 x.result = search rules in
    left_next (degrees_text (shown c.args.size)) _ (left1 c)
    (rw (to_z-of_z f, x.ensures) at c.write_degrees-after_size.ensures.value, rw (to_z-of_z f, x.ensures) at c.write_degrees-after_size.ensures.out_after)

left3 : (c : After-write_byte-after_tab) → Stands c (Time c) c.write_byte-after_tab.new.out
    c.write_byte-after_tab.result
left3 c = left_next (tab ∷ []) _ (left2 c) (c.write_byte-after_tab.ensures.value, c.write_byte-after_tab.ensures.out_after)

pub returns : goal.returns
returns c =
    let whole = left_last (left3 (goal.at.returns c).After-write_byte-after_tab) (rw c.moment.ensures at c.write_field.ensures.value, rw c.moment.ensures at c.write_field.ensures.out_after) in record { value = whole.0; out_after = whole.1 }
