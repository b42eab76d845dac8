-- What keeping peaks answers and leaves: nothing past the longest list, nothing of no peaks, and the figures of a block
-- that a pass has closed. Assumes nothing.
use Prim.Native.Nat.{ℕ, ◌+◌, ◌≤◌, ◌<◌, min}
use mathlib.Core.Path.{◌≡◌, refl, sym, ap, ◌∙◌}
use mathlib.Core.Bool.{Bool, true, false, cond, not}
use mathlib.Core.List.{List, [], ◌++◌, map}
use native.Mathlib.Nat.{add-zero}
use native.Mathlib.Omega.{arith}
use lib.Dec.{ltb}
use lib.IntN.{ℤ}
use lib.ListN.{length, take, drop, length-append, length-map}
use lib.Seq.{sets, take-append_seam}
use borrow.Author.Tests.{lt-ltb, le-ltb}
use Rattle.truth.proofs.Cases.{by_test}
use Rattle.refusal.specs.declared.Refusal.{Refusal}
use Rattle.refusal.specs.declared.Refusal.TheVariants.{TooLong, Room, BrokenState}
use Rattle.sample_items.specs.Limits.{most_in_range}
use Rattle.peak_groups.specs.Peaks.{short}
use Rattle.peak_machine.specs.Step.{size_of}
use Rattle.peak_stream.specs.declared.Handing.{Handing}
use Rattle.peak_stream.specs.Hands.{ready, closed_by, at_end, last_of, hands_on, noted, HandsOver}
use Rattle.comma_peaks.specs.Timed as timed
use Rattle.peak_tail.specs.Fitting.{longest_list}
use Rattle.reach_files.specs.Gathering.{counted_to, put_from, block, out_of, last_one}
use Rattle.reach_files.specs.Steps.{kept_with, list_with, kept_on, list_on}
use Rattle.std.specs.Prelude.{Result, Ok, Err}

module _ (at : ℕ) (sizes list : List ℕ) where
  pub keep_none : longest_list < at → (at ≡ counted_to at (length sizes)) × (list ≡ put_from at sizes list)
  unfolding put_from
  keep_none h = rw (lt-ltb longest_list at h) (refl, refl)

  pub keep_all : {later : List ℕ} → at ≤ longest_list → later ≡ sets list at sizes → (at + length sizes ≡ counted_to at (length sizes)) × (later ≡ put_from at sizes list)
  unfolding put_from
  keep_all h e = rw (le-ltb longest_list at h) (refl, e)

pub counted_none : (at : ℕ) → at ≡ counted_to at 0
counted_none at = by_test (ltb longest_list at) (λ e. rw e refl) (λ e. rw e (sym (add-zero at)))

pub put_none : (at : ℕ) (list : List ℕ) → list ≡ put_from at [] list
unfolding put_from
put_none at list = by_test (ltb longest_list at) (λ e. rw e refl) (λ e. rw e refl)

-- ---- a block
first_part : (figures Z : List ℕ) (n : ℕ) → n ≡ length figures → let l = figures ++ drop n Z in take (min n (length l)) l ≡ figures
first_part figures Z n e =
    let l = figures ++ drop n Z in
    let m : min n (length l) ≡ length figures = omega (arith, e, length-append figures (drop n Z)) in
    ap (λ (k : ℕ). take k l) m ∙ take-append_seam figures (drop n Z)

-- by the answer
module _ (peaks : ℕ) (figures Z list : List ℕ) (a : Result (Handing × ℕ) Refusal) where
  abbrev Keeps : Type 0
  Keeps =
      (kept_with a peaks (noted a figures Z) ≡ record { handed = a; peaks = counted_to peaks (length (out_of a figures)) })
      × (list_with a peaks (noted a figures Z) list ≡ put_from peaks (out_of a figures) list)

keeps_refused : (peaks : ℕ) (figures Z list : List ℕ) (f : Refusal) → Keeps peaks figures Z list (Err f)
unfolding noted
keeps_refused peaks figures Z list f = (ap (λ (n : ℕ). record { handed = Err f; peaks = n }) (counted_none peaks), put_none peaks list)

keeps_taken : (peaks : ℕ) (figures Z list : List ℕ) (h : Handing) (n : ℕ) → n ≡ length figures → Keeps peaks figures Z list (Ok (h, n))
unfolding noted
keeps_taken peaks figures Z list h n e =
    let p = first_part figures Z n e in (
      ap (λ (l : List ℕ). record { handed = Ok (h, n); peaks = counted_to peaks (length l) }) p,
      ap (λ (l : List ℕ). put_from peaks l list) p,
    )

keeps_by : (peaks : ℕ) (figures Z list : List ℕ) (b c d : Bool) (q r s : Refusal) (h : Handing) (n : ℕ) → n ≡ length figures
    → Keeps peaks figures Z list (cond b (Err q) (cond c (Err r) (cond d (Err s) (Ok (h, n)))))
keeps_by peaks figures Z list true c d q r s h n e = keeps_refused peaks figures Z list q
keeps_by peaks figures Z list false true d q r s h n e = keeps_refused peaks figures Z list r
keeps_by peaks figures Z list false false true q r s h n e = keeps_refused peaks figures Z list s
keeps_by peaks figures Z list false false false q r s h n e = keeps_taken peaks figures Z list h n e

module _ (R lines : ℕ) (h : Handing) (peaks : ℕ) (xs : List ℤ) (list : List ℕ) where
  abbrev t : List ℤ
  t = timed.timed_of R lines h.reading xs

  abbrev figures_of_lem : List ℕ
  figures_of_lem = map size_of (closed_by h t)

  keeps : (Z : List ℕ) → Keeps peaks figures_of_lem Z list (hands_on h t block block)
  unfolding hands_on
  keeps Z =
      keeps_by peaks figures_of_lem Z list (not (ready h))
      (ltb (most_in_range h.reading.step 0) (h.reading.n + length t)) (short block block (length t)) BrokenState
      TooLong (Room (length t)) _ (length (closed_by h t)) (sym (length-map (closed_by h t) size_of))

  pub block_kept : (Z W : List ℕ) → length Z ≡ block → length W ≡ block → {a : (Result (Handing × ℕ) Refusal)} {sizes times : List ℕ} → HandsOver h t Z W a sizes times
      → (kept_with a peaks sizes ≡ kept_on R lines h peaks xs) × (list_with a peaks sizes list ≡ list_on R lines h peaks xs list)
  block_kept Z W z w {a} {sizes} {times} o =
      let e : a ≡ hands_on h t block block = o.answers ∙ ap (λ (n : ℕ). hands_on h t n (length W)) z ∙ ap (λ (n : ℕ). hands_on h t block n) w in
      let s : sizes ≡ noted (hands_on h t block block) figures_of_lem Z = o.sizes_left ∙ ap (λ (x : Result (Handing × ℕ) Refusal). noted x figures_of_lem Z) e in
      let k = keeps Z in (
        ap (λ (x : Result (Handing × ℕ) Refusal). kept_with x peaks sizes) e ∙ ap (λ (l : List ℕ). kept_with (hands_on h t block block) peaks l) s ∙ k.0,
        ap (λ (x : Result (Handing × ℕ) Refusal). list_with x peaks sizes list) e ∙ ap (λ (l : List ℕ). list_with (hands_on h t block block) peaks l list) s ∙ k.1,
      )

-- ---- the end
pub last-is : (h : Handing) → last_one (last_of h) ≡ map size_of (at_end h)
unfolding last_of at_end
last-is h = by_test (ltb 0 h.envelope.chains.opened) (λ e. rw e refl) (λ e. rw e refl)
