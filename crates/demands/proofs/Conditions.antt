-- The desk: what `bin/condition` writes, over the bytes of the sheets that it is handed, one for each design situation.
-- Its text and the digit by which it ends are those of a definition over whole texts, however the sheets come. Assumes
-- nothing.
use mathlib.Core.Path.{◌≡◌, refl}
use mathlib.Core.Bool.{cond, false, not, true}
use mathlib.Core.List.{List, [], ◌∷◌, ◌++◌, map}
use Prim.Native.Nat.{ℕ, ◌+◌, ◌≤◌}
use lib.ListN.{length, drop}
use Rattle.refusal.specs.declared.Refusal.{Refusal}
use Rattle.refusal.specs.declared.Refusal.TheVariants.{Situations}
use Rattle.campaign_state.specs.declared.Campaign.{Campaign}
use Rattle.campaign_condition.specs.Answers.{situations_in_range}
use Rattle.campaign_report.specs.Report.{report_text}
use Rattle.text.specs.Pieces.{joined}
use Rattle.sheet_text.specs.declared.Reading.TheVariants.{Read, Stopped}
use Rattle.sheet_text.specs.Sheet.{meaning}
use Rattle.desk_line.specs.Said.{longest_said}
use Rattle.condition_sheets.specs.Report.{condition_from, condition_said, refused_situation}
use Rattle.condition_sheets.specs.Taking.{finishing, finish_left}
use Rattle.condition_sheets.proofs.Anywhere.{condition_anywhere, taken_of}

-- ---- the statement
pub record Conditions : Type 0 where
  -- 18 goes before all sheets, and is no situation's
  pub number : (texts : List (List ℕ)) → situations_in_range (length texts) ≡ false → condition_said texts ≡ refused_situation 0 0 0 Situations
  pub in_range : (texts : List (List ℕ)) → situations_in_range (length texts) ≡ true → condition_said texts ≡ condition_from [] texts
  -- then sheet by sheet, after the campaigns of those before: one that is refused is named by its situation, its line
  -- and its refusal, and nothing of the report is written; one that is read leaves its campaign
  pub fault : (cs : List Campaign) (text : List ℕ) (texts : List (List ℕ)) {line column : ℕ} {r : Refusal}
      → (meaning text).end ≡ Stopped line column r → condition_from cs (text ∷ texts) ≡ refused_situation (length cs + 1) line column r
  pub read : (cs : List Campaign) (text : List ℕ) (texts : List (List ℕ)) {c : Campaign}
      → (meaning text).end ≡ Read c → condition_from cs (text ∷ texts) ≡ condition_from (cs ++ (c ∷ [])) texts
  -- after the last sheet it is the report on their campaigns
  pub end : (cs : List Campaign) → condition_from cs [] ≡ record { line = report_text cs; end = 48 }
  -- what is written does not depend on the pieces in which each sheet comes; it is put whole where there is room for it
  pub pieces : (sheets : List (List (List ℕ))) (places : List Campaign) (out : List ℕ)
      → let s = condition_said (map joined sheets) in
      let t = taken_of places sheets in
      length places ≡ 64 → longest_said ≤ length out → length s.line ≤ length out
      → (finishing t.situations t.places out ≡ record { put = length s.line; end = s.end })
      × (finish_left t.situations t.places out ≡ s.line ++ drop (length s.line) out)

-- ---- the proof
pub conditions : Conditions
unfolding condition_said condition_from
conditions =
    record {
      number = λ texts e. rw e;
      in_range = λ texts e. rw e;
      fault = λ cs text texts e. rw e;
      read = λ cs text texts e. rw e;
      end = λ cs. refl;
      pieces = condition_anywhere;
    }
