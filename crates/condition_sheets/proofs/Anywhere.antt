-- However each sheet of a loading condition is cut into pieces, what is written for them is what is written for their
-- texts (`condition_anywhere`). The campaigns that were taken stand at the front of the places and are sound (`Well`), so
-- that the report's writer writes them; what is said of the sheets so far and of those after them is the definition's,
-- sheet by sheet (`from`). Assumes nothing.
use Prim.Native.Nat.{ℕ, zero, suc, ◌+◌, ◌≤◌, ◌<◌}
use mathlib.Core.Path.{◌≡◌, refl, sym, ap, subst, ◌∙◌}
use mathlib.Core.Bool.{Bool, true, false, cond, not}
use mathlib.Core.List.{List, [], ◌∷◌, ◌++◌, map}
use native.Mathlib.Numerals.{add-one}
use native.Mathlib.Omega.{arith}
use lib.Dec.{eqb, leb, ltb}
use lib.ListN.{length, take, drop, set, length-append, length-set}
use lib.Seq.{length-take-le}
use borrow.Author.Tests.{le-ltb, leb-true, lt-leb, lt-ltb}
use Rattle.truth.proofs.Cases.{by_test}
use Rattle.truth.proofs.Laws.{and-true, impossible, is_true}
use Rattle.refusal.specs.declared.Refusal.{Refusal}
use Rattle.refusal.specs.declared.Refusal.TheVariants.{BrokenState}
use Rattle.refusal.specs.declared.Refusal.TheVariants as refusal
use Rattle.campaign_state.specs.declared.Campaign.{Campaign}
use Rattle.campaign_state.specs.State.{sound}
use Rattle.campaign_condition.specs.Answers.{broken_from, judging, lowest_broken, situations_in_range}
use Rattle.campaign_report.specs.Answers.{after_judging, writing_report}
use Rattle.campaign_report.specs.Report.{report_text}
use Rattle.text.specs.Pieces.{joined}
use Rattle.text.specs.Write.{laid_by}
use Rattle.text.proofs.Laws.{laid_front, written_fits}
use Rattle.sheet_line.specs.declared.Sheet.TheVariants.{Fresh}
use Rattle.sheet_text.specs.declared.Reading.{Reading}
use Rattle.sheet_text.specs.declared.Reading.TheVariants.{Read, Stopped, Waiting}
use Rattle.sheet_text.specs.Pieces.{feeding}
use Rattle.sheet_text.specs.Sheet.{Account, meaning}
use Rattle.sheet_text.proofs.Pieces.{cut_anywhere}
use Rattle.sheet_records.specs.Records.{records_of}
use Rattle.sheet_records.proofs.Clean.{written_again}
use Rattle.sheet_records.proofs.Entered.{judged_sound}
use Rattle.desk_line.specs.declared.Finished.{Finished}
use Rattle.desk_line.specs.Said.{Said, longest_said, putting, put_left}
use Rattle.condition_sheets.specs.Report.{after_sheet, condition_from, condition_said, refused_situation, reported}
use Rattle.condition_sheets.specs.Taking.{Taken, by_reading, finishing, finish_left, is_over, opened_condition, place_read, placed, places_after}
use Rattle.condition_sheets.specs.Taking.{report_kept, report_told, step_of, taken_after, with_sheet}
use Rattle.std.specs.Prelude.{Result, Ok, Err}
use Rattle.truth.proofs.Answers.{same_ok}

-- ---- campaigns that are all sound are broken nowhere
pub data AllSound : List Campaign → Type 0 where
  done : AllSound []
  next : {c : Campaign} {cs : List Campaign} → sound c ≡ true → AllSound cs → AllSound (c ∷ cs)

sound_more : (cs : List Campaign) (c : Campaign) → AllSound cs → sound c ≡ true → AllSound (cs ++ (c ∷ []))
sound_more [] c done g = next g done
sound_more (d ∷ cs) c (next h s) g = next h (sound_more cs c s g)

none_broken : (cs : List Campaign) (n : ℕ) → AllSound cs → broken_from n cs ≡ 0
unfolding broken_from
none_broken [] n done = refl
none_broken (c ∷ cs) n (next g s) = rw g (none_broken cs (n + 1) s)

-- a sheet that was read has a sound campaign
read_sound : (text : List ℕ) (c : Campaign) → (meaning text).end ≡ Read c → sound c ≡ true
read_sound text c e = is_true _ (judged_sound c.standard (records_of text) c (written_again text c e).0)

-- ---- the next campaign stands after the others
take_next : (xs : List Campaign) (n : ℕ) (c : Campaign) → n < length xs → take (suc n) (set xs n c) ≡ take n xs ++ (c ∷ [])
take_next [] n c h = absurd (omega arith)
take_next (y ∷ xs) zero c h = refl
take_next (y ∷ xs) (suc n) c h = ap (λ l. y ∷ l) (take_next xs n c (omega arith))

-- ---- what was taken stands at the front, and is sound
pub record Kept (n : ℕ) (places : List Campaign) : Type 0 where
  pub size : length places ≡ 64
  pub few : n ≤ 64
  pub good : AllSound (take n places)

abbrev pub Well : Result ℕ (ℕ × ℕ × ℕ × Refusal) → List Campaign → Type 0
Well (Ok n) places = Kept n places
Well (Err (situation, line, column, r)) places = Unit {0}

-- ---- what is said of what was taken
abbrev pub taken_said : Result ℕ (ℕ × ℕ × ℕ × Refusal) → List Campaign → Said
taken_said (Ok n) places = reported (take n places)
taken_said (Err (situation, line, column, r)) places = refused_situation situation line column r

abbrev stood : Result ℕ (ℕ × ℕ × ℕ × Refusal) → List Campaign → Taken
stood s places = record { situations = s; places = places }

refused_stays : (sheets : List (List (List ℕ))) (situation line column : ℕ) (r : Refusal) (places : List Campaign)
    → taken_after (stood (Err (situation, line, column, r)) places) sheets ≡ stood (Err (situation, line, column, r)) places
unfolding taken_after
refused_stays [] situation line column r places = refl
refused_stays (pieces ∷ sheets) situation line column r places = refused_stays sheets situation line column r places

-- what is said in the end, with all that it needs to be written
pub record Comes (s : Said) (t : Taken) : Type 0 where
  pub says : taken_said t.situations t.places ≡ s
  pub well : Well t.situations t.places
  pub many : (n : ℕ) → t.situations ≡ Ok n → situations_in_range n ≡ true

comes_refused : (sheets : List (List (List ℕ))) (situation line column : ℕ) (r : Refusal) (places : List Campaign)
    → Comes (refused_situation situation line column r) (taken_after (stood (Err (situation, line, column, r)) places) sheets)
comes_refused sheets situation line column r places =
    subst (Comes (refused_situation situation line column r)) (sym (refused_stays sheets situation line column r places))
    (record { says = refl; well = tt; many = λ n e. impossible (cc) })

in_few : (n : ℕ) → situations_in_range n ≡ true → n ≤ 64
in_few n t = leb-true n 64 (and-true (leb 1 n) (leb n 64) t).1

-- what is said after so many campaigns, whatever they are
abbrev Later : ℕ → List (List (List ℕ)) → Type 0
Later number sheets =
    (n : ℕ) (places : List Campaign) → Kept n places → number ≡ n + length sheets → situations_in_range number ≡ true
    → Comes (condition_from (take n places) (map joined sheets)) (taken_after (stood (Ok n) places) sheets)

-- one sheet and those after it
module _ (sheets : List (List (List ℕ))) (number n : ℕ) (places : List Campaign) (again : Later number sheets) (k : Kept n places)
    (e : number ≡ n + 1 + length sheets) (few : situations_in_range number ≡ true) where
  long : length (take n places) ≡ n
  long = length-take-le n places (omega (arith, k.size, k.few))

  inside : n < 64
  inside = omega (arith, e, in_few number few)

  is : (c : Campaign) → take (n + 1) (set places n c) ≡ take n places ++ (c ∷ [])
  is c = ap (λ m. take m (set places n c)) (add-one n) ∙ take_next places n c (omega (arith, k.size, inside))

  kept_next : (c : Campaign) → sound c ≡ true → Kept (n + 1) (set places n c)
  kept_next c g =
      record {
        size = length-set places n c ∙ k.size;
        few = omega (arith, inside);
        good = subst AllSound (sym (is c)) (sound_more (take n places) c k.good g);
      }

  abbrev S : Reading → Said
  S r = after_sheet r (length (take n places) + 1) (λ c. condition_from (take n places ++ (c ∷ [])) (map joined sheets))

  read_next : (c : Campaign) → sound c ≡ true → Comes (S (Read c)) (taken_after (stood (Ok (n + 1)) (set places n c)) sheets)
  read_next c g =
      subst (λ l. Comes (condition_from l (map joined sheets)) (taken_after (stood (Ok (n + 1)) (set places n c)) sheets)) (is c)
      (again (n + 1) (set places n c) (kept_next c g) e few)

  bad_next : (line column : ℕ) (r : Refusal) → Comes (refused_situation (length (take n places) + 1) line column r)
      (taken_after (stood (Err (n + 1, line, column, r)) places) sheets)
  bad_next line column r =
      subst (λ m. Comes (refused_situation (m + 1) line column r) (taken_after (stood (Err (n + 1, line, column, r)) places) sheets)) (sym long)
      (comes_refused sheets (n + 1) line column r places)

  sheet_taken : (r : Reading) → ((c : Campaign) → r ≡ Read c → sound c ≡ true) → Comes (S r) (taken_after (stood (by_reading n r) (place_read n r places)) sheets)
  unfolding placed
  sheet_taken (Read c) g =
      subst (λ b. Comes (S (Read c)) (taken_after (stood (Ok (n + 1)) (cond b (set places n c) places)) sheets)) (sym (lt-ltb n 64 inside))
      (read_next c (g c refl))
  sheet_taken (Stopped line column r) g = bad_next line column r
  sheet_taken (Waiting s left) g = bad_next 0 0 BrokenState

  abbrev Came : Bool → Reading → Reading → Type 0
  Came b r x = Comes (S r) (taken_after (stood (cond b (Err (0, 0, 0, refusal.Situations)) (by_reading n x)) (place_read n x places)) sheets)

  one : (pieces : List (List ℕ)) → Came (leb 64 n) (meaning (joined pieces)).end (feeding pieces Fresh []).end
  one pieces =
      let r = (meaning (joined pieces)).end in
      subst (Came (leb 64 n) r) (sym (ap (λ (a : Account). a.end) (cut_anywhere pieces)))
      (subst (λ b. Came b r r) (sym (lt-leb 64 n inside)) (sheet_taken r (read_sound (joined pieces))))

from : (sheets : List (List (List ℕ))) (number : ℕ) → Later number sheets
unfolding taken_after condition_from
from [] number n places k e few =
    let all : n ≡ number = omega (arith, e) in
    record { says = refl; well = k; many = λ m f. ap situations_in_range (sym (same_ok f) ∙ all) ∙ few }
from (pieces ∷ sheets) number n places k e few = one sheets number n places (from sheets number) k (omega (arith, e)) few pieces

-- WHAT IS SAID OF THE SHEETS, however each is cut, is what is said of their texts
abbrev pub taken_of : List Campaign → List (List (List ℕ)) → Taken
taken_of places sheets = taken_after (stood (opened_condition (length sheets)) places) sheets

same_many : (sheets : List (List (List ℕ))) → length (map joined sheets) ≡ length sheets
same_many [] = refl
same_many (x ∷ sheets) = ap suc (same_many sheets)

pub sheets_said : (sheets : List (List (List ℕ))) (places : List Campaign) → length places ≡ 64 → Comes (condition_said (map joined sheets)) (taken_of places sheets)
unfolding opened_condition condition_said
sheets_said sheets places size =
    rw (same_many sheets)
    (by_test (situations_in_range (length sheets))
    (λ t. rw t (from sheets (length sheets) 0 places (record { size = size; few = omega arith; good = done }) (omega arith) t))
    (λ t. rw t (comes_refused sheets 0 0 0 refusal.Situations places)))

-- ---- and with room it is written so
abbrev pub Writes : Said → List ℕ → Finished → List ℕ → Type 0
Writes s out f later = (f ≡ record { put = length s.line; end = s.end }) × (later ≡ s.line ++ drop (length s.line) out)

-- campaigns that are all sound are reported
report_written : (n : ℕ) (cs : List Campaign) (out : List ℕ) → situations_in_range n ≡ true → AllSound cs → length (report_text cs) ≤ length out
    → writing_report n cs out ≡ Ok (length (report_text cs))
unfolding writing_report judging
report_written n cs out t g h = rw (t, none_broken cs 1 g, le-ltb (length out) (length (report_text cs)) h)

well_finished : (a : Result ℕ (ℕ × ℕ × ℕ × Refusal)) (places : List Campaign) (out : List ℕ) → Well a places → ((n : ℕ) → a ≡ Ok n → situations_in_range n ≡ true)
    → longest_said ≤ length out → length (taken_said a places).line ≤ length out
    → Writes (taken_said a places) out (finishing a places out) (finish_left a places out)
unfolding putting put_left report_told report_kept laid_by
well_finished (Err (situation, line, column, r)) places out w m room h =
    let text = (refused_situation situation line column r).line in
    rw (le-ltb (length out) longest_said room) (refl, written_fits out 0 text (omega (arith, h)) ∙ laid_front out text)
well_finished (Ok n) places out w m room h =
    rw (report_written n (take n places) out (m n refl) w.good h) (refl, refl)

-- WHAT IS WRITTEN FOR THE SHEETS OF A LOADING CONDITION, however each is cut, is what is written for their texts
pub condition_anywhere : (sheets : List (List (List ℕ))) (places : List Campaign) (out : List ℕ)
    → let s = condition_said (map joined sheets) in
    let t = taken_of places sheets in
    length places ≡ 64 → longest_said ≤ length out → length s.line ≤ length out
    → Writes s out (finishing t.situations t.places out) (finish_left t.situations t.places out)
condition_anywhere sheets places out size room fits =
    let t = taken_of places sheets in
    let c = sheets_said sheets places size in
    subst (λ s. Writes s out (finishing t.situations t.places out) (finish_left t.situations t.places out)) c.says
    (well_finished t.situations t.places out c.well c.many room (subst (λ s. length s.line ≤ length out) (sym c.says) fits))
