-- A pass from run to run: where it stands (`Passing`), that it stands so at the second run, that it does after a run's
-- peak was taken, and what it comes to after the last. What was handed out and what is to come make what is handed out
-- in all; and what is to come, put into the places from the open chain's on, leaves the slices as the whole would.
-- Assumes nothing.
use Prim.Native.Nat.{ℕ, ◌+◌, ◌-◌, ◌*◌, ◌≤◌, ◌<◌}
use mathlib.Core.Path.{◌≡◌, refl, sym, ap, ◌∙◌}
use mathlib.Core.Bool.{cond}
use mathlib.Core.List.{List, [], ◌∷◌, map}
use native.Mathlib.Nat.{zero-add}
use native.Mathlib.Omega.{arith}
use lib.ListN.{length, drop}
use lib.Seq.{sets}
use lib.Dec.{ltb}
use lib.IntN.{ℤ}
use Rattle.peak_groups.specs.declared.Peak.{Peak}
use Rattle.peak_groups.specs.Machine.{closed}
use Rattle.peak_groups.specs.declared.Run.{Run}
use Rattle.peak_groups.specs.Runs.{peaks, first_run, peak_at, second}
use Rattle.peak_groups.proofs.Due.{due, due_first, second_fits, walk_holds, walk-next, walk_ends}
use Rattle.peak_machine.specs.declared.Envelope.{Envelope}
use Rattle.peak_machine.specs.Step.{size_of, moment_of, stepped, fresh, Fits}
use Rattle.peak_machine.proofs.Come.{to_come, come_next, come_first, come_last}
use Rattle.peak_machine.proofs.Fits.{chains_more, fits_later}
use Rattle.peak_envelope.specs.Step.{chosen, noting}
use Rattle.peak_envelope.proofs.Turns.{place_next, sets_next, noting_length, place_last, sets_last}

module _ (D n s τ : ℕ) (timed : List ℤ) (sizes₀ times₀ : List ℕ) where
  -- what is handed out in all, and what of it is to come
  abbrev all : List Peak
  all = chosen n s D τ timed

  abbrev ahead : Envelope → ℕ → List Peak
  ahead e i = to_come n s τ e (due D i timed)

  -- before the run that starts at i
  pub record Passing (sizes times : List ℕ) (e : Envelope) (i : ℕ) (run : Run) : Type 0 where
    pub within : i ≤ length timed
    pub here : run ≡ first_run (drop i timed)
    pub fits : Fits i e
    pub sizes_long : length sizes ≡ length sizes₀
    pub times_long : length times ≡ length times₀
    pub number : e.chains.opened - 1 + length (ahead e i) ≡ length all
    pub sizes_put : sets sizes (e.chains.opened - 1) (map size_of (ahead e i)) ≡ sets sizes₀ 0 (map size_of all)
    pub times_put : sets times (e.chains.opened - 1) (map moment_of (ahead e i)) ≡ sets times₀ 0 (map moment_of all)

  pub passing_starts : (i : ℕ) (run : Run) → i ≡ second timed → run ≡ first_run (drop i timed) → Passing sizes₀ times₀ fresh i run
  unfolding chosen
  passing_starts i run k r =
      let d : due D i timed ≡ peaks D timed = ap (λ (j : ℕ). due D j timed) k ∙ due_first D timed in
      let w : ahead fresh i ≡ all = ap (to_come n s τ fresh) d ∙ come_first n s τ (peaks D timed) in
      record {
        within = omega (arith, k, second_fits timed);
        here = r;
        fits = (omega arith, omega arith);
        sizes_long = refl;
        times_long = refl;
        number = zero-add _ ∙ ap length w;
        sizes_put = ap (λ (l : List Peak). sets sizes₀ 0 (map size_of l)) w;
        times_put = ap (λ (l : List Peak). sets times₀ 0 (map moment_of l)) w;
      }

  module _ {sizes times : List ℕ} {e : Envelope} {i : ℕ} {r : Run} (v : Passing sizes times e i r) where
    -- after its peak was taken
    abbrev next : Envelope
    next = stepped n s τ e (peak_at D (i * D) r)

    pub passing_on : i + r.length < length timed → (run : Run) → run ≡ first_run (drop (i + r.length) timed)
        → Passing (noting e.chains next.chains.opened e.chains.best.size sizes) (noting e.chains next.chains.opened e.chains.best.time times) next (i + r.length) run
    passing_on h run k =
        let g = e.chains in
        let o = next.chains.opened in
        let l = ahead next (i + r.length) in
        let w : ahead e i ≡ cond (closed g o) (g.best ∷ l) l = ap (to_come n s τ e) (walk-next timed i r v.here h D) ∙ come_next n s τ e (peak_at D (i * D) r) (due D (i + r.length) timed) in
        let m = chains_more n s τ e (peak_at D (i * D) r) in
        record {
          within = omega arith;
          here = k;
          fits = fits_later n s τ e (peak_at D (i * D) r) i (i + r.length) (omega (arith, walk_holds timed i r v.here h)) v.fits;
          sizes_long = noting_length g o g.best.size sizes ∙ v.sizes_long;
          times_long = noting_length g o g.best.time times ∙ v.times_long;
          number = place_next g next.chains m l ∙ ap (λ (q : List Peak). g.opened - 1 + length q) (sym w) ∙ v.number;
          sizes_put = sets_next g next.chains m l size_of sizes ∙ ap (λ (q : List Peak). sets sizes (g.opened - 1) (map size_of q)) (sym w) ∙ v.sizes_put;
          times_put = sets_next g next.chains m l moment_of times ∙ ap (λ (q : List Peak). sets times (g.opened - 1) (map moment_of q)) (sym w) ∙ v.times_put;
        }

    -- after the last run the open chain is closed
    module _ (h : length timed ≤ i + r.length) where
      rest : ahead e i ≡ cond (ltb 0 e.chains.opened) (e.chains.best ∷ []) []
      rest = ap (to_come n s τ e) (walk_ends timed i r v.here h D) ∙ come_last n s τ e

      pub passing_number : e.chains.opened ≡ length all
      passing_number = sym (place_last e.chains) ∙ ap (λ (q : List Peak). e.chains.opened - 1 + length q) (sym rest) ∙ v.number

      pub passing_sizes : noting e.chains (e.chains.opened + 1) e.chains.best.size sizes ≡ sets sizes₀ 0 (map size_of all)
      passing_sizes = sets_last e.chains size_of sizes ∙ ap (λ (q : List Peak). sets sizes (e.chains.opened - 1) (map size_of q)) (sym rest) ∙ v.sizes_put

      pub passing_times : noting e.chains (e.chains.opened + 1) e.chains.best.time times ≡ sets times₀ 0 (map moment_of all)
      passing_times = sets_last e.chains moment_of times ∙ ap (λ (q : List Peak). sets times (e.chains.opened - 1) (map moment_of q)) (sym rest) ∙ v.times_put
