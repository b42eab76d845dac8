-- A walk over the timed samples of both channels, block by block, between two blocks: how it starts, what a block does
-- to it, and what it ends in. D is the step, a the levels, τ the decorrelation time, xs the roll and ys the
-- acceleration. Assumes nothing.
use Prim.Native.Nat.{ℕ, ◌-◌, ◌≤◌}
use mathlib.Core.Path.{◌≡◌, refl, sym, ap, ◌∙◌}
use mathlib.Core.List.{List, [], foldl, foldl-append}
use native.Mathlib.Omega.{arith}
use lib.IntN.{ℤ}
use lib.ListN.{length, take, drop, drop_of_length-le}
use Rattle.sample_block.proofs.Cut.{block_length}
use Rattle.sample_channels.specs.declared.Levels.{Levels}
use Rattle.sample_channels.specs.Channels.{moments}
use Rattle.sample_channels.proofs.Blocks.{block_equal, moments_cut}
use Rattle.sample_channels.proofs.Moments.{moments_length}
use Rattle.record_list.specs.declared.Walk.{Walk}
use Rattle.record_list.specs.Walk.{start, Noting, noting, noted, Ready}
use Rattle.record_list.proofs.Steps.{ready_after, walked_length}

-- sample i is the next: the walk is ready for what is left, the slice has its length, and what is left, noted from
-- here, leaves what the whole would
pub record Underway (D : ℕ) (a : Levels) (τ : ℕ) (xs ys : List ℤ) (before ts : List ℕ) (w : Walk) (i : ℕ) : Type 0 where
  pub within : i ≤ length xs
  pub ready : Ready D τ w (length xs - i)
  pub same : length ts ≡ length before
  pub whole : foldl (noted D a τ) (noting w ts) (drop i (moments xs ys)) ≡ foldl (noted D a τ) (noting start before) (moments xs ys)

pub begins : (D : ℕ) (a : Levels) (τ : ℕ) (xs ys : List ℤ) (before : List ℕ) → Ready D τ start (length xs) → Underway D a τ xs ys before before start 0
begins D a τ xs ys before r =
    let e : length xs ≡ length xs - 0 = omega arith in
    record { within = omega arith; ready = rw e at r; same = refl; whole = refl }

module _ {D : ℕ} {a : Levels} {τ : ℕ} {xs ys : List ℤ} {before ts : List ℕ} {w : Walk} {i : ℕ} (equal : length xs ≡ length ys) (u : Underway D a τ xs ys before ts w i) where
  -- a block from i to e
  pub goes_on : {us : List ℕ} {v : Walk} (e : ℕ) → i ≤ e → e ≤ length xs → noting v us ≡ foldl (noted D a τ)
      (noting w ts) (moments (take (e - i) (drop i xs)) (take (e - i) (drop i ys))) → Underway D a τ xs ys before us v e
  goes_on {us} {v} e h l d =
      let f = noted D a τ in
      let block = moments (take (e - i) (drop i xs)) (take (e - i) (drop i ys)) in
      let n : length block ≡ e - i = moments_length _ _ (block_equal xs ys equal i e h l) ∙ block_length xs i e h l in
      record {
        within = l;
        ready = rw (ap (λ (s : Noting). s.walk) d) (ready_after a ts block (length xs - e) (omega (arith, u.within)) u.ready);
        same = ap (λ (s : Noting). length s.times) d ∙ walked_length D a τ (noting w ts) block ∙ u.same;
        whole =
            ap (λ (s : Noting). foldl f s (drop e (moments xs ys))) d ∙ sym (foldl-append f (noting w ts) block (drop e (moments xs ys)))
            ∙ sym (ap (foldl f (noting w ts)) (moments_cut xs ys equal i e h l)) ∙ u.whole;
      }

  pub arrives : length xs ≤ i → noting w ts ≡ foldl (noted D a τ) (noting start before) (moments xs ys)
  arrives l =
      let e : drop i (moments xs ys) ≡ [] = drop_of_length-le (moments xs ys) {i = i} (omega (arith, moments_length xs ys equal)) in
      sym (ap (foldl (noted D a τ) (noting w ts)) e) ∙ u.whole
