-- What `bin/peaks` writes, over the bytes of its files: it makes no difference how either reading of a file is cut; an
-- item goes before all files; a file is refused by the first of 10, 2, 3, 4, or its envelope peaks are written, line by
-- line; and of several files the first that is refused ends it. Assumes nothing.
use mathlib.Core.Path.{◌≡◌, refl, ap, ◌∙◌}
use mathlib.Core.Bool.{cond, false, not, true, ◌&&◌}
use mathlib.Core.List.{List, [], ◌∷◌, ◌++◌, map}
use Prim.Native.Nat.{ℕ, ◌+◌}
use lib.Dec.{eqb, ltb}
use lib.ListN.{length}
use Rattle.refusal.specs.declared.Refusal.{Refusal}
use Rattle.refusal.specs.declared.Refusal.TheVariants.{CommaLine, Item, Sample, TooLong, TooShort}
use Rattle.sample_items.specs.Limits.{item_outside, most_in_range}
use Rattle.sample_range.specs.Range.{first_bad}
use Rattle.crossing_places.specs.Reading.{too_few}
use Rattle.decimal.specs.Lines.{lines_of}
use Rattle.comma_line.specs.Text.{first_wrong, samples_of}
use Rattle.peak_groups.specs.Peaks.{handed}
use Rattle.peak_lines.specs.Lines.{peaks_text}
use Rattle.desk_line.specs.Said.{Said, refused}
use Rattle.comma_peaks.specs.Judged.{comes_to}
use Rattle.peak_files.specs.Said.{places_of, peaks_read, judged_said, file_said, then_said, files_from, searched, items_said, peaks_said, files_said}
use Rattle.peak_stream.specs.declared.Surveying.{Surveying}
use Rattle.peak_files.specs.declared.Pass.{Pass}
use Rattle.peak_files.specs.Passing.{finishing, last_by}
use Rattle.peak_files.specs.Reading.{Twice, ReadTwice, AllTwice, both_wrote, files_wrote}
use Rattle.peak_files.proofs.Anywhere.{file_anywhere, files_anywhere}
use Rattle.demands.proofs.Demand1.{Test, ◌gives◌, decide}
use Rattle.demands.proofs.Desk.{fault_line}
use Rattle.std.specs.Prelude.{Ok, Err}

-- ---- the statement
-- a file's tests, each over all its lines: 10, 2, 3, 4
abbrev pub peaks_tests : ℕ → ℕ → List (List ℕ) → List Test
peaks_tests D R lines =
    ltb (first_wrong D 0 lines) (length lines) gives CommaLine (first_wrong D 0 lines + 1)
    ∷ (ltb (first_bad (samples_of lines)) (length lines) gives Sample (first_bad (samples_of lines))
    ∷ (ltb (most_in_range D R) (length lines) gives TooLong
    ∷ (too_few R (length lines) gives TooShort
    ∷ [])))

pub record DeskPeaks : Type 0 where
  -- two readings of a text, each cut anywhere and called until it is over, write what is said of the text; and of
  -- several files one after the other
  pub peaks_pieces : (D R τ : ℕ) (t : Twice) → ReadTwice D R τ 0 t → then_said (items_said D R τ) (both_wrote D R τ 0 t) ≡ peaks_said D R τ t.text
  pub files_pieces : (D R τ : ℕ) (ts : List Twice) → AllTwice D R τ 1 ts → then_said (items_said D R τ) (files_wrote D R τ 1 ts) ≡ files_said D R τ (map (λ t. t.text) ts)
  -- the lowest item outside its range is told before any file, as of one file
  pub peaks_item : (D R τ : ℕ) (text : List ℕ) → eqb (item_outside (searched D R τ)) 0 ≡ false → peaks_said D R τ text ≡ refused (0 ∷ []) (Item (item_outside (searched D R τ)))
  pub files_item : (D R τ : ℕ) (texts : List (List ℕ)) → eqb (item_outside (searched D R τ)) 0 ≡ false → files_said D R τ texts ≡ refused (0 ∷ []) (Item (item_outside (searched D R τ)))
  pub peaks_none : (D R τ : ℕ) (text : List ℕ) → eqb (item_outside (searched D R τ)) 0 ≡ true → peaks_said D R τ text ≡ file_said D R τ 0 text
  pub files_none : (D R τ : ℕ) (texts : List (List ℕ)) → eqb (item_outside (searched D R τ)) 0 ≡ true → files_said D R τ texts ≡ files_from D R τ 1 texts
  -- what a file comes to: the first test that holds, and its line or 0
  pub peaks_order : (D R : ℕ) (lines : List (List ℕ)) → comes_to D R lines ≡ decide (λ r. Err (fault_line r, r)) (peaks_tests D R lines) (Ok (tt {0}))
  -- a file: refused with its line or 0, after its number where there are several, or its envelope peaks in order
  pub peaks_refused : (D R τ file : ℕ) (text : List ℕ) (line : ℕ) (r : Refusal) → comes_to D R (lines_of text) ≡ Err (line, r) → file_said D R τ file text ≡ refused (places_of file line) r
  pub peaks_written : (D R τ file : ℕ) (text : List ℕ) → comes_to D R (lines_of text) ≡ (Ok (tt {0}))
      → file_said D R τ file text ≡ record { line = peaks_text file (handed D R τ (samples_of (lines_of text))); end = 48 }
  -- one file after the other, until one is refused
  pub files_on : (D R τ file : ℕ) (text : List ℕ) (texts : List (List ℕ)) → eqb (file_said D R τ file text).end 48 ≡ true
      → files_from D R τ file (text ∷ texts) ≡ record { line = (file_said D R τ file text).line ++ (files_from D R τ (file + 1) texts).line; end = (files_from D R τ (file + 1) texts).end }
  pub files_stop : (D R τ file : ℕ) (text : List ℕ) (texts : List (List ℕ)) → eqb (file_said D R τ file text).end 48 ≡ false
      → files_from D R τ file (text ∷ texts) ≡ file_said D R τ file text
  -- a file that has changed between its readings: they differ in their lines, in the first sample out of range, in the
  -- number of peaks or in their sum, or the second has a wrong line. Nothing more is written, and '2'
  pub peaks_changed : (a b : Pass) (s t : Surveying) → a.counted ≡ Ok s → b.counted ≡ Ok t
      → let f = a.follow in
      let g = b.follow in
      finishing a b
      ≡ cond (((eqb f.lines g.lines && eqb f.outside g.outside) && (eqb s.number t.number && eqb s.sum t.sum)) && not b.wrong)
      (peaks_read b.file (last_by b.handing)) (record { line = []; end = 50 })
  pub files_end : (D R τ file : ℕ) → files_from D R τ file [] ≡ record { line = []; end = 48 }

-- ---- the proof
by_tests : (D R : ℕ) (lines : List (List ℕ)) → comes_to D R lines ≡ decide (λ r. Err (fault_line r, r)) (peaks_tests D R lines) (Ok (tt {0}))
unfolding comes_to decide
by_tests D R lines = refl

first-item : (D R τ : ℕ) (s : Said) → eqb (item_outside (searched D R τ)) 0 ≡ false → then_said (items_said D R τ) s ≡ refused (0 ∷ []) (Item (item_outside (searched D R τ)))
unfolding then_said items_said
first-item D R τ s e = rw e

no_item : (D R τ : ℕ) (s : Said) → eqb (item_outside (searched D R τ)) 0 ≡ true → then_said (items_said D R τ) s ≡ s
unfolding then_said items_said
no_item D R τ s e = rw e

by_changed : (a b : Pass) (s t : Surveying) → a.counted ≡ Ok s → b.counted ≡ Ok t
    → let f = a.follow in
    let g = b.follow in
    finishing a b
    ≡ cond (((eqb f.lines g.lines && eqb f.outside g.outside) && (eqb s.number t.number && eqb s.sum t.sum)) && not b.wrong)
    (peaks_read b.file (last_by b.handing)) (record { line = []; end = 50 })
unfolding finishing
by_changed a b s t e h = rw (e, h)

pub desk_peaks : DeskPeaks
unfolding peaks_said files_said file_said files_from then_said
desk_peaks =
    record {
      peaks_pieces = file_anywhere;
      files_pieces = files_anywhere;
      peaks_item = λ D R τ text e. first-item D R τ (file_said D R τ 0 text) e;
      files_item = λ D R τ texts e. first-item D R τ (files_from D R τ 1 texts) e;
      peaks_none = λ D R τ text e. no_item D R τ (file_said D R τ 0 text) e;
      files_none = λ D R τ texts e. no_item D R τ (files_from D R τ 1 texts) e;
      peaks_order = by_tests;
      peaks_refused = λ D R τ file text line r e. ap (judged_said file (peaks_read file (handed D R τ (samples_of (lines_of text))))) e;
      peaks_written = λ D R τ file text e. ap (judged_said file (peaks_read file (handed D R τ (samples_of (lines_of text))))) e;
      files_on = λ D R τ file text texts e. rw e;
      files_stop = λ D R τ file text texts e. rw e;
      peaks_changed = by_changed;
      files_end = λ D R τ file. refl;
    }
