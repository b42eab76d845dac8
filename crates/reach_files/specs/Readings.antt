-- Two readings of each of several files, as a program makes them: a file comes in pieces, which may be others at the
-- second reading, and its samples in blocks, cut anywhere. Assumes nothing.
use Rattle.std.specs.Prelude.{ℕ, zero, suc, ◌+◌, ◌<◌, ◌≡◌, cond, not, List, [], ◌∷◌, ◌++◌, map, eqb, ℤ, length, take, drop, Result, Ok, Err}
use Rattle.crossing_sets.specs.Parting.{together}
use Rattle.text.specs.Pieces.{joined}
use Rattle.decimal.specs.Lines.{lines_of}
use Rattle.peak_stream.specs.declared.Surveying.{Surveying}
use Rattle.peak_stream.specs.Survey.{none}
use Rattle.peak_stream.specs.Hands.{begun, Pieces}
use Rattle.comma_line.specs.Text.{samples_of}
use Rattle.comma_stream.specs.Follow.{held, right_lines}
use Rattle.comma_stream.specs.Pieces.{Passed, nothing, passing, with_piece}
use Rattle.comma_peaks.specs.Timed.{blocks}
use Rattle.comma_peaks.specs.Judged.{judging}
use Rattle.reach_files.specs.declared.Job.{Job}
use Rattle.reach_files.specs.declared.Kept.{Kept}
use Rattle.reach_files.specs.Files.{judged_then}
use Rattle.reach_files.specs.Gathering.{block, kept_by, list_by, last_sizes, counted_to, put_from, added_in}
use Rattle.refusal.specs.declared.Refusal.{Refusal}
use Rattle.reach_files.specs.declared.Gathered.{Gathered}

pub record Readings : Type 0 where
  pub pieces : List (List ℕ)
  pub again : List (List ℕ)
  pub blocks : List (List ℤ)
  pub blocks_again : List (List ℤ)

-- they are of one text, each block has at most 1,024 samples, and the text no more lines than 64 bits count
pub record Read (D : ℕ) (r : Readings) : Type 0 where
  pub same : joined r.pieces ≡ joined r.again
  pub samples : together r.blocks ≡ map held (passing (nothing D) r.pieces).samples
  pub samples_again : together r.blocks_again ≡ map held (passing (nothing D) r.again).samples
  pub few : Pieces block r.blocks_again
  pub lines : length (lines_of (joined r.pieces)) < 18446744073709551615

abbrev pub AllRead : ℕ → List Readings → Type 0
AllRead D [] = Unit {0}
AllRead D (r ∷ rs) = Read D r × AllRead D rs

-- ---- a file cut into pieces at each reading, whose right lines are taken as a program does,
-- in blocks: at most n at a time
unfoldable pub chunks : ℕ → ℕ → List ℤ → List (List ℤ)
chunks zero n xs = []
chunks (suc turns) n xs = cond (eqb (length xs) 0) [] (take n xs ∷ chunks turns n (drop n xs))

-- the samples of the right lines of what is left and a piece, one out of range as a 0
abbrev pub held_of : Passed → List ℕ → List ℤ
held_of p piece = map held (samples_of (right_lines p.stands (p.left ++ piece)))

unfoldable pub blocks_in : Passed → List (List ℕ) → List (List ℤ)
blocks_in p [] = []
blocks_in p (piece ∷ pieces) =
    chunks (length (held_of p piece)) block (held_of p piece) ++ blocks_in (with_piece p piece) pieces

pub record Cut : Type 0 where
  pub pieces : List (List ℕ)
  pub again : List (List ℕ)

abbrev pub readings_of : ℕ → Cut → Readings
readings_of D c =
    record {
      pieces = c.pieces;
      again = c.again;
      blocks = blocks_in (nothing D) c.pieces;
      blocks_again = blocks_in (nothing D) c.again;
    }

abbrev pub AllCut : List Cut → Type 0
AllCut [] = Unit {0}
AllCut (c ∷ cs) =
    ((joined c.pieces ≡ joined c.again) × (length (lines_of (joined c.pieces)) < 18446744073709551615))
    × AllCut cs

-- ---- the second reading, block after block: how many peaks the list has then, and the list
pub record Stands : Type 0 where
  pub peaks : ℕ
  pub list : List ℕ

unfoldable pub second_from : ℕ → ℕ → Kept → List ℕ → List (List ℤ) → Stands
second_from R lines k list [] =
    record {
      peaks = counted_to k.peaks (length (last_sizes k.handed));
      list = put_from k.peaks (last_sizes k.handed) list;
    }
second_from R lines k list (xs ∷ bs) =
    second_from R (lines + length xs) (kept_by R lines k xs) (list_by R lines k xs list) bs

-- ---- a file: the first reading is judged, and only if it has peaks there is a second
abbrev pub passed : Job → Readings → Passed
passed j r = passing (nothing j.step) r.pieces

abbrev pub came_to : Job → Readings → Result (Unit {0}) (ℕ × Refusal)
came_to j r = judging (passed j r).stands j.ramp (not (eqb (length (passed j r).left) 0))

abbrev pub counted : Job → Readings → Surveying
counted j r = blocks j.ramp 0 (none j.step) r.blocks

abbrev pub second : Job → ℕ → List ℕ → Readings → Stands
second j peaks list r =
    second_from j.ramp 0
    (record { handed = begun j.step j.decorrelation (counted j r).number (counted j r).sum; peaks = peaks })
    list r.blocks_again

abbrev pub second_if : Job → ℕ → List ℕ → Readings → Stands
second_if j peaks list r =
    judged_then (λ line q. record { peaks = peaks; list = list }) (second j peaks list r) (came_to j r)

-- ---- the gathering and the list
pub record Desk : Type 0 where
  pub gathered : Result Gathered (ℕ × ℕ × Refusal)
  pub list : List ℕ

abbrev pub peaks_in : Result Gathered (ℕ × ℕ × Refusal) → ℕ
peaks_in (Ok g) = g.peaks
peaks_in (Err (file, line, q)) = 0

abbrev pub with_file : Job → ℕ → Desk → Readings → Desk
with_file j file d r =
    let s = second_if j (peaks_in d.gathered) d.list r in
    record {
      gathered = added_in j file d.gathered (came_to j r) (passed j r).stands.lines s.peaks;
      list = s.list;
    }

-- file after file, from this number on
unfoldable pub files_after : Job → ℕ → Desk → List Readings → Desk
files_after j file d [] = d
files_after j file d (r ∷ rs) = files_after j (file + 1) (with_file j file d r) rs
