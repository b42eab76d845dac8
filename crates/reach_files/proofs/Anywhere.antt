-- However each of several files is cut into pieces and blocks, at either reading, what is said of them is what is said of
-- their texts (`reach_anywhere`). File by file it is `comma_peaks`' theorem: a file is judged as its text is, and its peaks
-- are those of its text; the list holds the peaks of all files before; and what was refused stays. Assumes nothing.
use Prim.Native.Nat.{ℕ, ◌+◌, ◌≤◌, ◌<◌, min}
use mathlib.Core.Path.{◌≡◌, refl, sym, ap, subst, ◌∙◌}
use mathlib.Core.Bool.{Bool, true, false, cond}
use mathlib.Core.List.{List, [], ◌∷◌, ◌++◌, map}
use native.Mathlib.Omega.{arith}
use lib.Dec.{eqb, ltb}
use lib.IntN.{ℤ}
use lib.ListN.{length, take, drop, replicate, length-append, length-replicate}
use lib.Seq.{sets, sets-eq, length-sets, take-append_seam}
use borrow.Author.Tests.{eqb-true, lt-ltb, le-ltb, le-leb}
use Rattle.truth.proofs.Cases.{by_test, by_order}
use Rattle.truth.proofs.Laws.{impossible, both_true}
use Rattle.refusal.specs.declared.Refusal.{Refusal}
use Rattle.refusal.specs.declared.Refusal.TheVariants.{Item, Tail, TimedSamples}
use Rattle.sample_items.specs.Limits.{item_outside, step_in_range, decorrelation_in_range, most_in_range}
use Rattle.sample_items.proofs.Ranges.{within_ranges}
use Rattle.sample_range.specs.Range.{first_bad}
use Rattle.crossing_sets.specs.Parting.{together}
use Rattle.peak_groups.specs.Peaks.{handed}
use Rattle.peak_machine.specs.Step.{size_of}
use Rattle.peak_stream.specs.Hands.{begun}
use Rattle.text.specs.Pieces.{joined}
use Rattle.decimal.specs.Lines.{lines_of}
use Rattle.comma_line.specs.Text.{first_wrong, samples_of}
use Rattle.comma_read.specs.Answers.{reading_lines}
use Rattle.comma_stream.specs.Pieces.{nothing, passing, ending}
use Rattle.comma_stream.proofs.Pieces.{followed_whole}
use Rattle.comma_peaks.specs.Judged.{comes_to}
use Rattle.comma_peaks.specs.Timed.{handing_blocks}
use Rattle.comma_peaks.proofs.Files.{file_judged}
use Rattle.comma_peaks.proofs.Peaks.{Fine, fine, samples_are, samples_few, file_peaks}
use Rattle.desk_line.specs.Said.{Said}
use Rattle.peak_tail.specs.Fitting.{longest_list, tail_outside}
use Rattle.peak_reach.specs.Answers.{standard_in_range}
use Rattle.reach_files.specs.declared.Job.{Job}
use Rattle.reach_files.specs.declared.Gathered.{Gathered}
use Rattle.reach_files.specs.Down.{downwards}
use Rattle.reach_files.specs.Line.{list_said}
use Rattle.reach_files.specs.Files.{items_of, most_timed, refused_in, peaks_of, timed_of, judged_then, grown_then, reach_from, reach_said}
use Rattle.reach_files.specs.Gathering.{block, opened, grown_by, first_of, gathered_said}
use Rattle.reach_files.specs.Readings.{Readings, Read, AllRead, Stands, Desk, passed, came_to, counted, second, files_after}
use Rattle.reach_files.proofs.Second.{Gathers, gathers_begun}
use Rattle.std.specs.Prelude.{Result, Ok, Err}

abbrev pub text_of : Readings → List ℕ
text_of r = joined r.pieces

abbrev said_of : Job → Desk → Said
said_of j d = gathered_said j d.gathered d.list

-- what was refused stays
refused_said : (j : Job) (rs : List Readings) (file first line : ℕ) (q : Refusal) (list : List ℕ)
    → said_of j (files_after j file (record { gathered = Err (first, line, q); list = list }) rs) ≡ refused_in first line q
unfolding files_after
refused_said j [] file first line q list = refl
refused_said j (r ∷ rs) file first line q list = refused_said j rs (file + 1) first line q _

-- ---- the lines of a file of which nothing is refused are all counted
read_fine : (D R : ℕ) (lines : List (List ℕ)) → step_in_range D ≡ true → Fine D R lines → reading_lines D lines (length lines) ≡ Ok (length lines)
unfolding reading_lines
read_fine D R lines d ok =
    rw (d, le-ltb (first_wrong D 0 lines) (length lines) ok.right, le-ltb (first_bad (samples_of lines)) (length lines) ok.good, le-ltb (length lines) (length lines) (omega arith))

counted_by : (b c : Bool) (m n : ℕ) (x y : Refusal) → cond b (cond c (Ok m) (Err x)) (Err y) ≡ Ok n → m ≡ n
counted_by true true m n x y e = cc
counted_by true false m n x y e = impossible (cc)
counted_by false c m n x y e = impossible (cc)

lines_counted : (D R : ℕ) (pieces : List (List ℕ)) → step_in_range D ≡ true → Fine D R (lines_of (joined pieces))
    → (passing (nothing D) pieces).stands.lines ≡ length (lines_of (joined pieces))
unfolding ending
lines_counted D R pieces d ok =
    let p = passing (nothing D) pieces in
    let n = length (lines_of (joined pieces)) in
    counted_by (eqb (length p.left) 0) (eqb p.stands.outside 0) p.stands.lines n _ _ (followed_whole D n pieces d (omega arith) ∙ read_fine D R (lines_of (joined pieces)) d ok)

-- ---- the list holds the peaks of the files before
pub record Holds (ys list : List ℕ) : Type 0 where
  pub front : take (length ys) list ≡ ys
  pub room : longest_list ≤ length list

holds_more : (ys figures list : List ℕ) → Holds ys list → length ys + length figures ≤ longest_list → Holds (ys ++ figures) (sets list (length ys) figures)
holds_more ys figures list h l =
    let n = length ys + length figures in
    let rest = drop n list in
    let e : sets list (length ys) figures ≡ (ys ++ figures) ++ rest =
    sets-eq figures list (length ys) (omega (arith, h.room)) ∙ ap (λ (z : List ℕ). z ++ figures ++ rest) h.front in
    record {
      front = ap (take (length (ys ++ figures))) e ∙ take-append_seam (ys ++ figures) rest;
      room = omega (arith, h.room, length-sets list (length ys) figures);
    }

holds_all : (ys list : List ℕ) (n P : ℕ) → Holds ys list → length ys ≤ longest_list → take (first_of (record { files = n; peaks = length ys; samples = P }) list) list ≡ ys
holds_all ys list n P h l =
    let m : min (length ys) (length list) ≡ length ys = omega (arith, h.room) in
    ap (λ (k : ℕ). take k list) m ∙ h.front

module _ (j : Job) (d : step_in_range j.step ≡ true) (t : decorrelation_in_range j.decorrelation ≡ true) where
  -- ---- the peaks of a file
  module _ (r : Readings) (ok : Read j.step r) where
    abbrev lines : List (List ℕ)
    lines = lines_of (text_of r)

    judged_is : came_to j r ≡ comes_to j.step j.ramp lines
    judged_is = file_judged j.step r.pieces d j.ramp ok.lines

    module _ (e : comes_to j.step j.ramp lines ≡ (Ok (tt {0}))) where
      again : comes_to j.step j.ramp (lines_of (joined r.again)) ≡ (Ok (tt {0}))
      again = subst (λ (text : List ℕ). comes_to j.step j.ramp (lines_of text) ≡ (Ok (tt {0}))) ok.same e

      abbrev Z : List ℕ
      Z = replicate {A = ℕ} block 0

      peaks_are : map size_of (handing_blocks j.ramp block block 0 r.blocks_again (begun j.step j.decorrelation (counted j r).number (counted j r).sum)) ≡ peaks_of j lines
      peaks_are =
          let z = length-replicate {A = ℕ} block 0 in
          ap (map size_of)
          (subst (λ (n : ℕ). handing_blocks j.ramp n n 0 r.blocks_again
          (begun j.step j.decorrelation (counted j r).number (counted j r).sum) ≡ handed j.step j.ramp
          j.decorrelation (samples_of lines)) z
          (file_peaks block Z Z (omega (arith, z)) (omega (arith, z)) j.step j.ramp j.decorrelation
          r.pieces r.again r.blocks r.blocks_again ok.same d t e ok.samples ok.samples_again
          ok.few))

      few_samples : length (drop j.ramp (together r.blocks_again)) ≤ most_in_range j.step 0
      few_samples =
          let o = fine j.step j.ramp (lines_of (joined r.again)) again in
          let x = ok.samples_again ∙ samples_are j.step j.ramp r.again d o in
          subst (λ (l : List ℤ). length (drop j.ramp l) ≤ most_in_range j.step 0) (sym x) (samples_few j.step j.ramp r.again d o)

      pub file_gathers : (at : ℕ) (list : List ℕ) → let s = second j at list r in Gathers at list (peaks_of j lines) s.peaks s.list
      file_gathers at list =
          subst (λ (l : List ℕ). Gathers at list l (second j at list r).peaks (second j at list r).list) peaks_are
          (gathers_begun j.ramp j.step j.decorrelation (counted j r).number (counted j r).sum r.blocks_again at list d t few_samples ok.few)

      pub file_lines : (passed j r).stands.lines ≡ length lines
      file_lines = lines_counted j.step j.ramp r.pieces d (fine j.step j.ramp lines e)

  -- ---- file after file
  abbrev Later : ℕ → List Readings → Type 0
  Later files rs =
      (ys : List ℕ) (P : ℕ) (list : List ℕ) → Holds ys list → length ys ≤ longest_list
      → said_of j (files_after j (files + 1) (record { gathered = Ok (record { files = files; peaks = length ys; samples = P }); list = list }) rs)
      ≡ reach_from j files ys P (map text_of rs)

  module _ (r : Readings) (rs : List Readings) (ok : Read j.step r) (files : ℕ) (after : Later (files + 1) rs)
      (ys : List ℕ) (P : ℕ) (list : List ℕ) (h : Holds ys list) (l : length ys ≤ longest_list) where
    abbrev g : Gathered
    g = record { files = files; peaks = length ys; samples = P }

    abbrev more : List ℕ
    more = ys ++ peaks_of j (lines r ok)

    abbrev time : ℕ
    time = P + timed_of j (lines r ok)

    -- the list and the gathering after a file that came to this
    abbrev stands : Result (Unit {0}) (ℕ × Refusal) → Stands
    stands came = judged_then (λ line q. record { peaks = length ys; list = list }) (second j (length ys) list r) came

    abbrev desk : Result (Unit {0}) (ℕ × Refusal) → Desk
    desk came =
        record {
          gathered = judged_then ((λ a b. Err ((files + 1), a, b))) (grown_by j (files + 1) g (passed j r).stands.lines (stands came).peaks) came;
          list = (stands came).list;
        }

    abbrev later : Desk → Said
    later x = said_of j (files_after j (files + 1 + 1) x rs)

    abbrev proper : Said
    proper = grown_then (refused_in (files + 1)) (length more) time (reach_from j (files + 1) more time (map text_of rs))

    module _ (e : comes_to j.step j.ramp (lines r ok) ≡ (Ok (tt {0}))) where
      abbrev s : Stands
      s = second j (length ys) list r

      abbrev G : Gathers (length ys) list (peaks_of j (lines r ok)) s.peaks s.list
      G = file_gathers r ok e (length ys) list

      long : length more ≡ length ys + length (peaks_of j (lines r ok))
      long = length-append ys (peaks_of j (lines r ok))

      too_long : longest_list < length more → later (desk (Ok (tt {0}))) ≡ proper
      too_long k =
          rw (lt-ltb longest_list (length more) k, lt-ltb longest_list s.peaks (G.many (omega (arith, k, long))))
          (refused_said j rs (files + 1 + 1) (files + 1) 0 Tail s.list)

      module _ (k : length more ≤ longest_list) where
        f : (s.peaks ≡ length more) × (s.list ≡ sets list (length ys) (peaks_of j (lines r ok)))
        f = let x = G.few (omega (arith, k, long)) in (x.0 ∙ sym long, x.1)

        -- the figures of the program are those of the text
        stands_so : grown_by j (files + 1) g (passed j r).stands.lines s.peaks
            ≡ grown_then ((λ a b. Err ((files + 1), a, b))) (length more) time (Ok (record { files = files + 1; peaks = length more; samples = time }))
        stands_so =
            ap (λ (n : ℕ). grown_by j (files + 1) g n s.peaks) (file_lines r ok e)
            ∙ ap (λ (n : ℕ). grown_by j (files + 1) g (length (lines r ok)) n) f.0

        by_time : (b : Bool) → ltb most_timed time ≡ b
            → later (record { gathered = cond b (Err (files + 1, 0, TimedSamples)) (Ok (record { files = files + 1; peaks = length more; samples = time })); list = s.list })
            ≡ cond b (refused_in (files + 1) 0 TimedSamples) (reach_from j (files + 1) more time (map text_of rs))
        by_time true x = refused_said j rs (files + 1 + 1) (files + 1) 0 TimedSamples s.list
        by_time false x =
            ap (λ (z : List ℕ). later (record { gathered = Ok (record { files = files + 1; peaks = length more; samples = time }); list = z })) f.1
            ∙ after more time (sets list (length ys) (peaks_of j (lines r ok))) (holds_more ys (peaks_of j (lines r ok)) list h (omega (arith, k, long))) k

        in_order : later (desk (Ok (tt {0}))) ≡ proper
        in_order =
            ap (λ (x : Result Gathered (ℕ × ℕ × Refusal)). later (record { gathered = x; list = s.list })) stands_so
            ∙ rw (le-ltb longest_list (length more) k) (by_time (ltb most_timed time) refl)

      with_peaks : later (desk (Ok (tt {0}))) ≡ proper
      with_peaks = by_order longest_list (length more) too_long in_order

    by_came : (came : Result (Unit {0}) (ℕ × Refusal)) → comes_to j.step j.ramp (lines r ok) ≡ came → later (desk came) ≡ judged_then (refused_in (files + 1)) proper came
    by_came (Err (line, q)) e = refused_said j rs (files + 1 + 1) (files + 1) line q list
    by_came (Ok tt) e = with_peaks e

    one : later (desk (came_to j r)) ≡ judged_then (refused_in (files + 1)) proper (comes_to j.step j.ramp (lines r ok))
    one = ap (λ (x : Result (Unit {0}) (ℕ × Refusal)). later (desk x)) (judged_is r ok) ∙ by_came (comes_to j.step j.ramp (lines r ok)) refl

  from : (rs : List Readings) → AllRead j.step rs → (files : ℕ) → Later files rs
  unfolding files_after reach_from
  from [] ok files ys P list h l = ap (λ (z : List ℕ). list_said j files P (downwards z)) (holds_all ys list files P h l)
  from (r ∷ rs) ok files ys P list h l = one r rs ok.0 files (from rs ok.1 (files + 1)) ys P list h l

-- WHAT IS SAID OF SEVERAL FILES, however each is cut at either reading, is what is said of their texts
pub reach_anywhere : (j : Job) (list : List ℕ) → longest_list ≤ length list → (rs : List Readings) → AllRead j.step rs
    → let d = files_after j 1 (record { gathered = opened j; list = list }) rs in gathered_said j d.gathered d.list ≡ reach_said j (map text_of rs)
unfolding opened reach_said
reach_anywhere j list room rs ok =
    by_test (eqb (item_outside (items_of j)) 0)
    (λ e.
    let w = within_ranges (items_of j) (eqb-true (item_outside (items_of j)) 0 e) in
    let d : step_in_range j.step ≡ true = both_true (le-leb 1 j.step w.step_low) (le-leb j.step 10000 w.step-high) in
    let t : decorrelation_in_range j.decorrelation ≡ true = both_true (le-leb 0 j.decorrelation (omega arith)) (le-leb j.decorrelation 10000000 w.decorrelation) in
    by_test (standard_in_range j.standard)
    (λ s.
    by_test (tail_outside longest_list j.tail)
    (λ k. rw (e, s, k) (refused_said j rs 1 0 0 Tail list))
    (λ k. rw (e, s, k) (from j d t rs ok 0 [] 0 list (record { front = refl; room = room }) (omega arith))))
    (λ s. rw (e, s) (refused_said j rs 1 0 0 (Item 5) list)))
    (λ e. rw e (refused_said j rs 1 0 0 (Item (item_outside (items_of j))) list))
