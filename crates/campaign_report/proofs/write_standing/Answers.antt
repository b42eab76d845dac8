-- `campaign_report::write_standing` meets its contract: the report is its lines and its last line, whose bytes were
-- counted. Assumes nothing.
use Prim.Native.Nat.{ℕ, ◌+◌, ◌≤◌}
use mathlib.Core.Path.{◌≡◌, refl, ap, sym, ◌∙◌}
use mathlib.Core.List.{List, ◌++◌}
use native.Mathlib.Omega.{arith}
use lib.ListN.{length, length-append, take}
use Rattle.text.specs.Write.{laid_by, written}
use Rattle.text.proofs.Laws.{laid_front, written_fits}
use Rattle.campaign_state.specs.declared.Campaign.{Campaign}
use Rattle.campaign_condition.specs.Answers.{judging}
use Rattle.campaign_condition.specs.declared.Standing.{Standing}
use Rattle.campaign_condition.proofs.Whole.{stood}
use Rattle.campaign_report.specs.declared.Total.{Total}
use Rattle.campaign_report.specs.Report.{lines_from, report_text, standing_letter, total_of, total_text}
use Rattle.campaign_report.proofs.Texts.{all_written, no_room, report_parts}
use Rattle.campaign_report.proofs.write_standing.Goals as goal
use Rattle.std.specs.Prelude.{Ok}

-- the report of a condition that stands so, and the bytes of its parts
parts : (number : ℕ) (cs : List Campaign) (s : Standing) (t : Total) (letter : ℕ) → judging number cs ≡ Ok s → t ≡ total_of cs → letter ≡ standing_letter s
    → report_text cs ≡ lines_from 1 cs ++ total_text t letter
parts number cs s t letter given is marked = report_parts cs t s letter is (stood number cs s given).is marked

bytes : (number : ℕ) (cs : List Campaign) (s : Standing) (t : Total) (letter lines last : ℕ) → judging number cs ≡ Ok s → t ≡ total_of cs → letter ≡ standing_letter s
    → lines ≡ length (lines_from 1 cs) → last ≡ length (total_text t letter) → lines + last ≡ length (report_text cs)
bytes number cs s t letter lines last given is marked e f =
    omega (arith, e, f, ap length (parts number cs s t letter given is marked) ∙ length-append (lines_from 1 cs) (total_text t letter))

pub sum-t-requires : goal.sum-t-requires
sum-t-requires c = let s = stood _ _ _ c.requires in (s.few, s.whole)

pub lines_length-requires : goal.lines_length-requires
lines_length-requires c = let s = stood _ _ _ c.requires in (s.few, s.whole)

pub returns-then-out-needed : goal.returns-then-out-needed
unfolding laid_by
returns-then-out-needed c =
    let a = c.args in
    let b = bytes a.number (take a.number a.campaigns) a.s _ _ _ _ c.requires c.sum-t.ensures c.standing_letter-letter.ensures c.lines_length.ensures.0 c.total_length.ensures.0 in
    record { value = rw b (no_room a.number (take a.number a.campaigns) a.out.now c.requires (omega (arith, b, c.if-out-needed.true))); out_after = refl }

pub put_report-requires : goal.put_report-requires
put_report-requires c =
    let s = stood _ _ _ c.requires in
    (s.few, s.whole, omega (arith, c.lines_length.ensures.0, c.total_length.ensures.0, c.if-out-needed.false))

pub returns : goal.returns
unfolding laid_by
returns c =
    let a = c.args in
    let cs = take a.number a.campaigns in
    let whole = parts a.number cs a.s _ _ c.requires c.sum-t.ensures c.standing_letter-letter.ensures in
    let b = bytes a.number cs a.s _ _ _ _ c.requires c.sum-t.ensures c.standing_letter-letter.ensures c.lines_length.ensures.0 c.total_length.ensures.0 in
    let room : length (report_text cs) ≤ length a.out.now = omega (arith, b, c.if-out-needed.false) in
    record {
      value = rw b (all_written a.number cs a.out.now c.requires room);
      out_after = rw b (c.put_report.ensures ∙ ap (written a.out.now 0) (sym whole) ∙ written_fits a.out.now 0 (report_text cs) (omega (arith, room)) ∙ laid_front a.out.now (report_text cs));
    }
