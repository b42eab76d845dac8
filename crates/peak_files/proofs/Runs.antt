-- A whole reading, call after call until it is over (`ran`): its samples came in blocks, of which it has counted what
-- they count and written the lines of what they hand out. Assumes nothing.
use Prim.Native.Nat.{ℕ, zero, suc, ◌+◌, ◌≤◌}
use mathlib.Core.Path.{◌≡◌, refl, sym, ap, subst, ◌∙◌}
use mathlib.Core.Logic.{◌⊎◌, inl, inr}
use mathlib.Core.Bool.{Bool, true, false}
use mathlib.Core.List.{List, [], ◌∷◌, ◌++◌, map, append-nil, append_assoc, map-append}
use native.Mathlib.Omega.{arith}
use lib.IntN.{ℤ}
use lib.ListN.{length, drop, length-map, length-take}
use Rattle.truth.proofs.Laws.{true≢false}
use Rattle.crossing_sets.specs.Parting.{together}
use Rattle.sample_items.specs.Limits.{step_in_range}
use Rattle.text.specs.Pieces.{joined}
use Rattle.degrees.specs.Degrees.{sample_of}
use Rattle.comma_line.specs.Line.{roll}
use Rattle.comma_line.specs.Text.{samples_of}
use Rattle.comma_stream.specs.declared.Rest.{Rest}
use Rattle.comma_stream.specs.declared.Rest.TheVariants.{Waits, Over, Wrong}
use Rattle.comma_stream.specs.Follow.{bytes_of, held, right_lines, after_lines}
use Rattle.peak_groups.specs.declared.Peak.{Peak}
use Rattle.peak_lines.specs.Lines.{peaks_text}
use Rattle.peak_lines.proofs.Laws.{text_append}
use Rattle.peak_stream.specs.Hands.{Pieces}
use Rattle.comma_peaks.specs.Timed.{blocks}
use Rattle.peak_files.specs.declared.Pass.{Pass}
use Rattle.peak_files.specs.Passing.{counted_on, handed_on, given_by, last_by, with_samples, given_text, Called, rested, lines_in, samples_in, rest_of, calling, room_asked}
use Rattle.peak_files.specs.Reading.{Run, on_call, at_last, running}
use Rattle.peak_files.proofs.Laws.{staying}
use Rattle.peak_files.proofs.Front.{At, Done, call, on_is}
use Rattle.refusal.specs.declared.Refusal.{Refusal}
use Rattle.peak_stream.specs.declared.Surveying.{Surveying}
use Rattle.peak_stream.specs.declared.Handing.{Handing}
use Rattle.std.specs.Prelude.{Result, Ok, Err}

-- ---- blocks, one after the other, from so many lines on
abbrev pub on_blocks : ℕ → ℕ → List (List ℤ) → Result Surveying Refusal → Result Surveying Refusal
on_blocks R lines cs (Ok s) = Ok (blocks R lines s cs)
on_blocks R lines cs (Err q) = Err q

blocks_none : (R lines : ℕ) (a : Result Surveying Refusal) → a ≡ on_blocks R lines [] a
unfolding blocks
blocks_none R lines (Ok s) = refl
blocks_none R lines (Err q) = refl

blocks_next : (R lines : ℕ) (x : List ℤ) (cs : List (List ℤ)) (a : Result Surveying Refusal) → on_blocks R (lines + length x) cs (counted_on a R lines x) ≡ on_blocks R lines (x ∷ cs) a
unfolding blocks
blocks_next R lines x cs (Ok s) = refl
blocks_next R lines x cs (Err q) = refl

unfoldable pub given_all : ℕ → ℕ → List (List ℤ) → Result (Handing × ℕ) Refusal → List Peak
given_all R lines [] a = last_by a
given_all R lines (x ∷ cs) a = given_by a R lines x ++ given_all R (lines + length x) cs (handed_on a R lines x)

-- ---- what a reading came to, from a place on
pub record Ran (D file R lines : ℕ) (counted : Result Surveying Refusal) (handing : Result (Handing × ℕ) Refusal) (bytes text : List ℕ) (us : List (List ℕ)) (r : Run) : Type 0 where
  pub cs : List (List ℤ)
  pub vs : List (List ℕ)
  pub end : Done D r.pass text (us ++ vs)
  pub few : Pieces 1024 cs
  pub samples : together cs ≡ map held (samples_of vs)
  pub file_is : r.pass.file ≡ file
  pub ramp_is : r.pass.ramp ≡ R
  pub counts : r.pass.counted ≡ on_blocks R lines cs counted
  pub gives : r.bytes ++ peaks_text file (last_by r.pass.handing) ≡ bytes ++ peaks_text file (given_all R lines cs handing)

module _ (D : ℕ) where
  abbrev pub RanOf : Pass → List ℕ → List ℕ → List (List ℕ) → Run → Type 0
  RanOf p bytes text us r = Ran D p.file p.ramp p.follow.lines p.counted p.handing bytes text us r

  -- it is over
  ran_over : (text : List ℕ) (us : List (List ℕ)) (r : Run) → Done D r.pass text us → RanOf r.pass r.bytes text us r
  unfolding given_all
  ran_over text us r d =
      record {
        cs = [];
        vs = [];
        end = subst (Done D r.pass text) (sym (append-nil us)) d;
        few = tt;
        samples = refl;
        file_is = refl;
        ramp_is = refl;
        counts = blocks_none r.pass.ramp r.pass.follow.lines r.pass.counted;
        gives = refl;
      }

  over_so : (p : Pass) (bytes text : List ℕ) (us : List (List ℕ)) (r : Run) → r.pass ≡ p → r.bytes ≡ bytes → Done D p text us → RanOf p bytes text us r
  over_so p bytes text us r e f d =
      subst (λ q. RanOf q bytes text us r) e (subst (λ b. RanOf r.pass b text us r) f (ran_over text us r (subst (λ q. Done D q text us) (sym e) d)))

  -- a block more before it
  module _ (file R lines : ℕ) (counted : Result Surveying Refusal) (handing : Result (Handing × ℕ) Refusal) (bytes text : List ℕ) (us L : List (List ℕ)) (r : Run) where
    abbrev xs : List ℤ
    xs = map held (samples_of L)

    abbrev G : List Peak
    G = given_by handing R lines xs

    many : length xs ≡ length L
    many = length-map (samples_of L) held ∙ length-map L (λ line. sample_of (roll line))

    before : length L ≤ 1024 → Ran D file R (lines + length L) (counted_on counted R lines xs) (handed_on handing R lines xs) (bytes ++ peaks_text file G) text (us ++ L) r
        → Ran D file R lines counted handing bytes text us r
    unfolding given_all
    before h q =
        let n : lines + length L ≡ lines + length xs = ap (λ m. lines + m) (sym many) in
        let A = given_all R (lines + length xs) q.cs (handed_on handing R lines xs) in
        record {
          cs = xs ∷ q.cs;
          vs = L ++ q.vs;
          end = subst (Done D r.pass text) (append_assoc us L q.vs) q.end;
          few = (omega (arith, many), q.few);
          samples =
              ap (λ l. xs ++ l) q.samples
              ∙ sym (ap (map held) (map-append (λ line. sample_of (roll line)) L q.vs) ∙ map-append held (samples_of L) (samples_of q.vs));
          file_is = q.file_is;
          ramp_is = q.ramp_is;
          counts = q.counts ∙ ap (λ m. on_blocks R m q.cs (counted_on counted R lines xs)) n ∙ blocks_next R lines xs q.cs counted;
          gives =
              q.gives
              ∙ ap (λ m. (bytes ++ peaks_text file G) ++ peaks_text file (given_all R m q.cs (handed_on handing R lines xs))) n
              ∙ append_assoc bytes (peaks_text file G) (peaks_text file A)
              ∙ ap (λ l. bytes ++ l) (sym (text_append file G A));
        }

  module _ (step : step_in_range D ≡ true) where
    -- after a call
    module _ (p : Pass) (kept a piece bytes : List ℕ) (us : List (List ℕ)) (at : At D p kept a us) (text : List ℕ) (r : Run) where
      abbrev L : List (List ℕ)
      L = lines_in p (kept ++ piece)

      L-few : length L ≤ 1024
      L-few = omega (arith, length-take 1024 (right_lines p.follow (kept ++ piece)))

      abbrev C : Rest → Called
      C x = rested x (with_samples p (after_lines p.follow L) (samples_in p (kept ++ piece))) (bytes_of L) (length (kept ++ piece)) (given_text p (samples_in p (kept ++ piece)))

      by_rest : (x : Rest) → RanOf (C x).pass (bytes ++ (C x).bytes) text (us ++ L) r → RanOf p bytes text us r
      unfolding after_lines
      by_rest (Waits n) q = before p.file p.ramp p.follow.lines p.counted p.handing bytes text us L r L-few q
      by_rest Over q = before p.file p.ramp p.follow.lines p.counted p.handing bytes text us L r L-few q
      by_rest Wrong q = before p.file p.ramp p.follow.lines p.counted p.handing bytes text us L r L-few q

      after_call : (more : Bool) → let c = calling p (kept ++ piece) more room_asked in RanOf c.pass (bytes ++ c.bytes) text (us ++ L) r → RanOf p bytes text us r
      after_call more q =
          by_rest (rest_of (length L) (drop (bytes_of L) (kept ++ piece)) more)
          (subst (λ c. RanOf c.pass (bytes ++ c.bytes) text (us ++ L) r) (on_is D step p kept a piece us at more)
          q)

    -- what is over stays
    abbrev Stays : Run → Run → Type 0
    Stays r s = (s.pass ≡ r.pass) × (s.bytes ≡ r.bytes)

    stay_call : (more : Bool) (r : Run) (piece : List ℕ) → r.pass.over ≡ true → Stays r (on_call more r piece)
    stay_call more r piece o =
        let e = staying r.pass (r.kept ++ piece) more room_asked o in
        (ap (λ c. c.pass) e, ap (λ c. r.bytes ++ c.bytes) e ∙ append-nil r.bytes)

    stay_last : (k : ℕ) (r : Run) → r.pass.over ≡ true → Stays r (at_last k r)
    unfolding at_last
    stay_last zero r o = (refl, refl)
    stay_last (suc k) r o =
        let e = stay_call false r [] o in
        let s = stay_last k (on_call false r []) (ap (λ p. p.over) e.0 ∙ o) in
        (s.0 ∙ e.0, s.1 ∙ e.1)

    stay : (pieces : List (List ℕ)) (k : ℕ) (r : Run) → r.pass.over ≡ true → Stays r (running pieces k r)
    unfolding running
    stay [] k r o = stay_last k r o
    stay (piece ∷ pieces) k r o =
        let e = stay_call true r piece o in
        let s = stay pieces k (on_call true r piece) (ap (λ p. p.over) e.0 ∙ o) in
        (s.0 ∙ e.0, s.1 ∙ e.1)

    -- the calls after the last piece
    ran_last : (k : ℕ) (r : Run) (a : List ℕ) (us : List (List ℕ)) → At D r.pass r.kept a us → (at_last k r).pass.over ≡ true → RanOf r.pass r.bytes a us (at_last k r)
    unfolding at_last
    ran_last zero r a us at o = absurd (true≢false (sym o ∙ at.going))
    ran_last (suc k) r a us at o =
        let n = on_call false r [] in
        let L' = lines_in r.pass (r.kept ++ []) in
        let end : a ++ [] ≡ a = append-nil a in
        after_call r.pass r.kept a [] r.bytes us at a (at_last k n) false
        (by_call (λ at2. ran_last k n a (us ++ L') at2 o) (call D step r.pass r.kept a [] us at false [] (λ z. refl)) end)
      where
        by_call : let n = on_call false r [] in let L' = lines_in r.pass (r.kept ++ []) in
            (At D n.pass n.kept a (us ++ L') → RanOf n.pass n.bytes a (us ++ L') (at_last k n))
            → At D n.pass n.kept (a ++ []) (us ++ L') ⊎ Done D n.pass ((a ++ []) ++ []) (us ++ L') → a ++ [] ≡ a
            → RanOf n.pass n.bytes a (us ++ L') (at_last k n)
        by_call go (inl at2) end =
            let n = on_call false r [] in
            go (subst (λ x. At D n.pass n.kept x (us ++ lines_in r.pass (r.kept ++ []))) end at2)
        by_call go (inr d) end =
            let n = on_call false r [] in
            let L' = lines_in r.pass (r.kept ++ []) in
            let s = stay_last k n d.over in
            over_so n.pass n.bytes a (us ++ L') (at_last k n) s.0 s.1 (subst (λ x. Done D n.pass x (us ++ L')) (append-nil (a ++ []) ∙ end) d)

    -- A READING that is over
    pub ran : (pieces : List (List ℕ)) (k : ℕ) (r : Run) (a : List ℕ) (us : List (List ℕ)) → At D r.pass r.kept a us → (running pieces k r).pass.over ≡ true
        → RanOf r.pass r.bytes (a ++ joined pieces) us (running pieces k r)
    unfolding running joined
    ran [] k r a us at o = subst (λ x. RanOf r.pass r.bytes x us (at_last k r)) (sym (append-nil a)) (ran_last k r a us at o)
    ran (piece ∷ pieces) k r a us at o =
        after_call r.pass r.kept a piece r.bytes us at (a ++ (piece ++ joined pieces)) (running pieces k (on_call true r piece)) true
        (by_call (λ at2. ran pieces k (on_call true r piece) (a ++ piece) (us ++ lines_in r.pass (r.kept ++ piece))
        at2 o) (call D step r.pass r.kept a piece us at true (joined pieces) (λ z. absurd (true≢false z))))
      where
        by_call : let n = on_call true r piece in let L' = lines_in r.pass (r.kept ++ piece) in
            (At D n.pass n.kept (a ++ piece) (us ++ L') → RanOf n.pass n.bytes ((a ++ piece) ++ joined pieces) (us ++ L') (running pieces k n))
            → At D n.pass n.kept (a ++ piece) (us ++ L') ⊎ Done D n.pass ((a ++ piece) ++ joined pieces) (us ++ L')
            → RanOf n.pass n.bytes (a ++ (piece ++ joined pieces)) (us ++ L') (running pieces k n)
        by_call go (inl at2) =
            let n = on_call true r piece in
            let L' = lines_in r.pass (r.kept ++ piece) in
            subst (λ x. RanOf n.pass n.bytes x (us ++ L') (running pieces k n)) (append_assoc a piece (joined pieces)) (go at2)
        by_call go (inr d) =
            let n = on_call true r piece in
            let L' = lines_in r.pass (r.kept ++ piece) in
            let s = stay pieces k n d.over in
            over_so n.pass n.bytes (a ++ (piece ++ joined pieces)) (us ++ L') (running pieces k n) s.0 s.1
            (subst (λ x. Done D n.pass x (us ++ L')) (append_assoc a piece (joined pieces)) d)
