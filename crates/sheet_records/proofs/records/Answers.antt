-- `sheet_records::records` meets its contract: the first pass tells whether the sheet reads cleanly; then there is room
-- or not, and the second pass puts the records. Of any other sheet its own reader tells. Assumes nothing.
use mathlib.Core.Path.{refl, sym, ap, subst, ◌∙◌}
use mathlib.Core.List.{List}
use Prim.Native.Nat.{ℕ}
use lib.IntN.{ℤ}
use lib.ListN.{length}
use Rattle.sheet_text.specs.Sheet.{meaning, reading_end}
use Rattle.sheet_records.specs.Pass.{CleanPass, Passes, stopped_from}
use Rattle.sheet_records.specs.Records.{filled_by, records_of}
use Rattle.sheet_records.proofs.Answered.{all_read, no_room, put_front, stopped_kept, unclean}
use Rattle.sheet_records.proofs.records.Goals as goal
use Rattle.sheet_records.proofs.records.Goals.{After-pass, In-Some}
use Rattle.refusal.specs.declared.Refusal.{Refusal}
use Rattle.std.specs.Prelude.{Result}

-- what the first pass found
module _ (c : After-pass) where
  abbrev Text : List ℕ
  Text = c.args.text.now

  abbrev Places : List ℤ
  Places = c.args.places.now

module _ (c : In-Some) where
  abbrev Text₂ : List ℕ
  Text₂ = c.args.text.now

  abbrev Places₂ : List ℤ
  Places₂ = c.args.places.now

module _ (c : In-Some) where
  abbrev Q : ℕ
  Q = c.in-Some.q

  abbrev Count : ℕ
  Count = c.in-Some.count

  abbrev Begin : ℕ
  Begin = c.in-Some.begin

  clean : CleanPass (Text₂ c) Q Count Begin
  unfolding Passes
  clean = subst (Passes (Text₂ c)) c.in-Some.is c.pass.ensures

pub returns-then-places-count : goal.returns-then-places-count
unfolding filled_by
returns-then-places-count c =
    record { value = no_room (clean (goal.at.returns-then-places-count c).In-Some) (length (Places (goal.at.returns-then-places-count c).After-pass)) c.if-places-count.true; places_after = refl }

pub put_all-requires : goal.put_all-requires
put_all-requires c = (clean (goal.at.put_all-requires c).In-Some).from

pub returns-in_default : goal.returns-in_default
unfolding Passes reading_end meaning
returns-in_default c =
    let p = (goal.at.returns-in_default c).After-pass in
    let never = subst (Passes (Text p)) c.in_default.is c.pass.ensures in
    let is = c.stopped.ensures ∙ ap stopped_from c.read.ensures ∙ unclean (Text p) (length (Places p)) never in
    record { value = is; places_after = sym (ap (λ (r : Result (ℕ × ℕ) (ℕ × ℕ × Refusal)). filled_by r (records_of (Text p)) (Places p)) c.stopped.ensures ∙ stopped_kept c.read.result (records_of (Text p)) (Places p)) }

pub returns : goal.returns
returns c =
    let k = (goal.at.returns c).In-Some in
    let p = (goal.at.returns c).After-pass in
    record { value = all_read (clean k) (length (Places p)) c.if-places-count.false; places_after = c.put_all.ensures ∙ put_front (records_of (Text p)) (Places p) (Q k) (Count k) (clean k).number c.if-places-count.false }
