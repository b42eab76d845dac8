-- The second reading of a file, block after block, puts the peaks that it hands out into the list, after those that stand
-- there; and where they are more than the longest list, their number says so (`Gathers`). Assumes nothing.
use Prim.Native.Nat.{ℕ, suc, ◌+◌, ◌-◌, ◌≤◌, ◌<◌}
use mathlib.Core.Path.{◌≡◌, refl, sym, ap, subst, ◌∙◌}
use mathlib.Core.Bool.{true}
use mathlib.Core.List.{List, [], ◌∷◌, ◌++◌, map, map-append, foldl}
use native.Mathlib.Nat.{add-zero}
use native.Mathlib.Omega.{arith}
use lib.IntN.{ℤ}
use lib.ListN.{length, drop, set, replicate, length-append, length-drop, length-replicate}
use lib.Seq.{sets, take_all}
use borrow.Author.Tests.{lt-ltb, le-ltb}
use Rattle.truth.proofs.Cases.{by_order}
use Rattle.crossing_sets.specs.Parting.{together}
use Rattle.sample_items.specs.Limits.{most_in_range, step_in_range, decorrelation_in_range}
use Rattle.peak_groups.specs.declared.Peak.{Peak}
use Rattle.peak_machine.specs.Step.{size_of}
use Rattle.peak_stream.specs.declared.Handing.{Handing}
use Rattle.peak_stream.specs.Hands.{waiting, begun, moved, closed_by, at_end, hands_on, Pieces}
use Rattle.peak_stream.proofs.Coming.{Set, set_out, ready_set}
use Rattle.peak_stream.proofs.Over.{no_refusal}
use Rattle.peak_stream.proofs.Anywhere.{set_fold, both_long, fresh_ready}
use Rattle.comma_peaks.specs.Timed.{timed_of, handing_blocks}
use Rattle.comma_peaks.proofs.Blocks.{drop_join}
use Rattle.peak_tail.specs.Fitting.{longest_list}
use Rattle.reach_files.specs.Gathering.{block, counted_to, put_from, out_of}
use Rattle.reach_files.specs.Readings.{Stands, second_from}
use Rattle.refusal.specs.declared.Refusal.{Refusal}
use Rattle.std.specs.Prelude.{Result, Ok}

-- figures put into a list that has `at` already
pub record Gathers (at : ℕ) (list figures : List ℕ) (peaks : ℕ) (later : List ℕ) : Type 0 where
  pub few : at + length figures ≤ longest_list → (peaks ≡ at + length figures) × (later ≡ sets list at figures)
  pub many : longest_list < at + length figures → longest_list < peaks

gathers_one : (at : ℕ) (list figures : List ℕ) → Gathers at list figures (counted_to at (length figures)) (put_from at figures list)
unfolding put_from
gathers_one at list figures =
    record {
      few = λ h. rw (le-ltb longest_list at (omega arith)) (refl, refl);
      many =
          λ h.
          by_order longest_list at
          (λ l. rw (lt-ltb longest_list at l) l)
          (λ l. rw (le-ltb longest_list at l) h);
    }

sets_join : (list : List ℕ) (at : ℕ) (f g : List ℕ) → sets list at (f ++ g) ≡ sets (sets list at f) (at + length f) g
sets_join list at [] g = ap (λ (k : ℕ). sets list k g) (sym (add-zero at))
sets_join list at (x ∷ f) g =
    let e : suc at + length f ≡ at + suc (length f) = omega arith in
    sets_join (set list at x) (suc at) f g ∙ ap (λ (k : ℕ). sets (sets (set list at x) (suc at) f) k g) e

gathers_on : (at : ℕ) (list f : List ℕ) (p : ℕ) (l g : List ℕ) (q : ℕ) (m : List ℕ) → Gathers at list f p l → Gathers p l g q m → Gathers at list (f ++ g) q m
gathers_on at list f p l g q m a b =
    let n = length-append f g in
    record {
      few =
          λ h.
          let (x, y) = a.few (omega (arith, h, n)) in
          let (u, v) = b.few (omega (arith, h, n, x)) in (
            omega (arith, u, x, n),
            v ∙ ap (λ (k : ℕ). sets l k g) x ∙ ap (λ (z : List ℕ). sets z (at + length f) g) y ∙ sym (sets_join list at f g),
          );
      many =
          λ h.
          by_order longest_list (at + length f)
          (λ k. b.many (omega (arith, a.many k)))
          (λ k. b.many (omega (arith, h, n, (a.few k).0)));
    }

-- ---- block after block
no_block_refused : (h : Handing) (A : List ℤ) (k : ℕ) → Set h (length A + k) → length A ≤ block
    → Ok (foldl moved h A, length (closed_by h A)) ≡ hands_on h A block block
no_block_refused h A k s l =
    let Z = replicate {A = ℕ} block 0 in
    let z = length-replicate {A = ℕ} block 0 in
    let r = no_refusal h A Z Z (ready_set h (length A + k) s) (omega (arith, s.room)) (both_long block (length Z) (length Z) (length A) l (omega (arith, z)) (omega (arith, z))) in
    r ∙ ap (λ (n : ℕ). hands_on h A n n) z

module _ (R : ℕ) where
  abbrev Second : ℕ → List (List ℤ) → Result (Handing × ℕ) Refusal → ℕ → List ℕ → Stands
  Second lines bs a at list = second_from R lines (record { handed = a; peaks = at }) list bs

  pub gathers_blocks : (bs : List (List ℤ)) (lines : ℕ) (h : Handing) (k at : ℕ) (list : List ℕ) → Pieces block bs → Set h (length (drop (R - lines) (together bs)))
      → let s = Second lines bs (Ok (h, k)) at list in Gathers at list (map size_of (handing_blocks R block block lines bs (Ok (h, k)))) s.peaks s.list
  unfolding second_from handing_blocks
  gathers_blocks [] lines h k at list w g = gathers_one at list (map size_of (at_end h))
  gathers_blocks (x ∷ bs) lines h k at list w g =
      let A = drop (R - lines) x in
      let B = drop (R - (lines + length x)) (together bs) in
      let T = timed_of R lines h.reading x in
      let i : R - (lines + length x) ≡ R - lines - length x = omega arith in
      let j : length (drop (R - lines) (x ++ together bs)) ≡ length A + length B =
      ap length (drop_join (R - lines) x (together bs)) ∙ length-append A (drop (R - lines - length x) (together bs)) ∙ ap (λ (m : ℕ). length A + length (drop m (together bs))) (sym i) in
      let s : Set h (length A + length B) = subst (Set h) j g in
      let t : T ≡ A = take_all (most_in_range h.reading.step 0 - h.reading.n) A (omega (arith, s.room)) in
      let r : Ok (foldl moved h T, length (closed_by h T)) ≡ hands_on h T block block =
      subst (λ (l : List ℤ). Ok (foldl moved h l, length (closed_by h l)) ≡ hands_on h l block block) (sym t)
      (no_block_refused h A (length B) s (omega (arith, w.0, length-drop (R - lines) x))) in
      let next : Set (foldl moved h T) (length B) = subst (λ (l : List ℤ). Set (foldl moved h l) (length B)) (sym t) (set_fold h A (length B) s) in
      let F = map size_of (closed_by h T) in
      let rest = gathers_blocks bs (lines + length x) (foldl moved h T) (length (closed_by h T)) (counted_to at (length F)) (put_from at F list) w.1 next in
      subst (λ (a : Result (Handing × ℕ) Refusal).
      let u = Second (lines + length x) bs a (counted_to at (length (out_of a F))) (put_from at (out_of a F) list) in
      Gathers at list (map size_of (closed_by h T ++ handing_blocks R block block (lines + length x) bs a)) u.peaks u.list) r
      (joined_up at list (closed_by h T) (handing_blocks R block block (lines + length x) bs (Ok (foldl moved h T, length (closed_by h T)))) _ _ rest)
    where
      joined_up : (at : ℕ) (list : List ℕ) (f g : List Peak) (q : ℕ) (m : List ℕ)
          → Gathers (counted_to at (length (map size_of f))) (put_from at (map size_of f) list) (map size_of g) q m → Gathers at list (map size_of (f ++ g)) q m
      joined_up at list f g q m b =
          subst (λ (l : List ℕ). Gathers at list l q m) (sym (map-append size_of f g))
          (gathers_on at list (map size_of f) (counted_to at (length (map size_of f))) (put_from at (map size_of f) list) (map size_of g) q m (gathers_one at list (map size_of f)) b)

  -- from the start
  pub gathers_begun : (D τ N S : ℕ) (cs : List (List ℤ)) (at : ℕ) (list : List ℕ) → step_in_range D ≡ true → decorrelation_in_range τ ≡ true
      → length (drop R (together cs)) ≤ most_in_range D 0 → Pieces block cs
      → let s = Second 0 cs (begun D τ N S) at list in Gathers at list (map size_of (handing_blocks R block block 0 cs (begun D τ N S))) s.peaks s.list
  unfolding begun
  gathers_begun D τ N S cs at list d t l w =
      let z : R - 0 ≡ R = omega arith in
      let h = waiting D τ N S in
      let g : Set h (length (drop (R - 0) (together cs))) = set_out h (length (drop (R - 0) (together cs))) (fresh_ready D τ N S) (rw z (omega arith)) in
      rw (d, t) (gathers_blocks cs 0 h 0 at list w g)
