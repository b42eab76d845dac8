-- `campaign_report::put_total` meets its contract: the word, the four sums, the letter and the LF, each taking itself
-- off what is left. Assumes nothing.
use Prim.Native.Nat.{ℕ}
use mathlib.Core.List.{List, [], ◌∷◌, ◌++◌}
use Rattle.text.proofs.Parts.{Left, left_all, left_last, left_next, left_room}
use Rattle.decimal.specs.Field.{line_feed}
use Rattle.campaign_report.specs.Report.{four_text, total_text, total_word}
use Rattle.campaign_report.proofs.put_total.Goals as goal

pub put_four-mark-requires : goal.put_four-mark-requires
unfolding total_text
put_four-mark-requires c =
    let Sums : List ℕ = four_text c.args.t.records c.args.t.failures c.args.t.exposure c.args.t.blocks in
    let Mark : List ℕ = c.args.letter ∷ line_feed ∷ [] in
    let Stands : List ℕ → List ℕ → ℕ → Type 0 = λ rest out at. Left c.args.out.now c.args.at (total_text c.args.t c.args.letter) rest out at in
    let left0 : Stands (total_word ++ (Sums ++ Mark)) c.args.out.now c.args.at = left_all _ _ _ c.requires in
    let left1 : Stands (Sums ++ Mark) c.write_bytes-sums.new.out c.write_bytes-sums.result = left_next total_word _ (left0) (c.write_bytes-sums.ensures.value, c.write_bytes-sums.ensures.out_after) in
    left_room (Sums) _ (left1)

pub returns : goal.returns
unfolding total_text
returns c =
    let Stands : List ℕ → List ℕ → ℕ → Type 0 = λ rest out at. Left c.args.out.now c.args.at (total_text c.args.t c.args.letter) rest out at in
    let Mark : List ℕ = c.args.letter ∷ line_feed ∷ [] in
    let Sums : List ℕ = four_text c.args.t.records c.args.t.failures c.args.t.exposure c.args.t.blocks in
    let left0 : Stands (total_word ++ (Sums ++ Mark)) c.args.out.now c.args.at = left_all _ _ _ c.requires in
    let left1 : Stands (Sums ++ Mark) c.write_bytes-sums.new.out c.write_bytes-sums.result = left_next total_word _ (left0) (c.write_bytes-sums.ensures.value, c.write_bytes-sums.ensures.out_after) in
    let left2 : Stands (Mark) c.put_four-mark.new.out c.put_four-mark.result = left_next (Sums) _ (left1) (c.put_four-mark.ensures.value, c.put_four-mark.ensures.out_after) in
    let left3 : Stands (line_feed ∷ []) c.write_byte-feed.new.out c.write_byte-feed.result = left_next (c.args.letter ∷ []) _ (left2) (c.write_byte-feed.ensures.value, c.write_byte-feed.ensures.out_after) in
    let whole = left_last (left3) (c.write_byte.ensures.value, c.write_byte.ensures.out_after) in record { value = whole.0; out_after = whole.1 }
