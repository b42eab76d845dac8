-- `campaign_report::put_line` meets its contract: four numbers, the letter, a tab and the blocks, each taking itself
-- off what is left. Assumes nothing.
use Prim.Native.Nat.{ℕ}
use mathlib.Core.Path.{◌≡◌}
use mathlib.Core.List.{List, [], ◌∷◌, ◌++◌}
use Rattle.truth.proofs.Laws.{holds}
use Rattle.text.proofs.Parts.{Left, left_all, left_last, left_next, left_room}
use Rattle.decimal.specs.Field.{field_text, line_feed, tab}
use Rattle.campaign_state.proofs.Relations.{kept_from}
use Rattle.campaign_report.specs.Report.{four_text, situation_text}
use Rattle.campaign_report.proofs.Texts.{line_parts}
use Rattle.campaign_report.proofs.put_line.Goals as goal

pub blocks-billed-requires : goal.blocks-billed-requires
blocks-billed-requires c =
    (kept_from c.args.c (holds c.requires.0)).failures_rows

pub put_four-fifth-requires : goal.put_four-fifth-requires
put_four-fifth-requires c =
    let Four : List ℕ = four_text c.args.number c.args.c.failures c.censored-censors.result c.args.c.exposure in
    let Blocks : List ℕ = field_text c.blocks-billed.result line_feed in
    let Mark : ℕ = c.letter-mark.result in
    let Stands : List ℕ → List ℕ → ℕ → Type 0 = λ rest out at. Left c.args.out.now c.args.at (Four ++ (Mark ∷ tab ∷ Blocks)) rest out at in
    let whole : situation_text c.args.number c.args.c ≡ Four ++ (Mark ∷ tab ∷ Blocks) = line_parts c.args.number c.args.c c.censored-censors.ensures c.letter-mark.ensures c.blocks-billed.ensures in
    let left0 : Stands (Four ++ (Mark ∷ tab ∷ Blocks)) c.args.out.now c.args.at = left_all _ _ _ (rw whole at c.requires.1) in
    left_room (Four) _ (left0)

pub returns : goal.returns
returns c =
    let Four : List ℕ = four_text c.args.number c.args.c.failures c.censored-censors.result c.args.c.exposure in
    let Blocks : List ℕ = field_text c.blocks-billed.result line_feed in
    let Mark : ℕ = c.letter-mark.result in
    let whole : situation_text c.args.number c.args.c ≡ Four ++ (Mark ∷ tab ∷ Blocks) = line_parts c.args.number c.args.c c.censored-censors.ensures c.letter-mark.ensures c.blocks-billed.ensures in
    let Stands : List ℕ → List ℕ → ℕ → Type 0 = λ rest out at. Left c.args.out.now c.args.at (Four ++ (Mark ∷ tab ∷ Blocks)) rest out at in
    let left0 : Stands (Four ++ (Mark ∷ tab ∷ Blocks)) c.args.out.now c.args.at = left_all _ _ _ (rw whole at c.requires.1) in
    let left1 : Stands (Mark ∷ tab ∷ Blocks) c.put_four-fifth.new.out c.put_four-fifth.result = left_next (Four) _ (left0) (c.put_four-fifth.ensures.value, c.put_four-fifth.ensures.out_after) in
    let left2 : Stands (tab ∷ Blocks) c.write_byte-tab.new.out c.write_byte-tab.result = left_next (Mark ∷ []) _ (left1) (c.write_byte-tab.ensures.value, c.write_byte-tab.ensures.out_after) in
    let left3 : Stands (Blocks) c.write_byte-sixth.new.out c.write_byte-sixth.result = left_next (tab ∷ []) _ (left2) (c.write_byte-sixth.ensures.value, c.write_byte-sixth.ensures.out_after) in
    let last = left_last left3 (c.write_field.ensures.value, c.write_field.ensures.out_after) in
    rw whole (record { value = last.0; out_after = last.1 })
