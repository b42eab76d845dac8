-- The groups' numbers: a peak more opens at most one group of either kind, so that a pass which fits a record's samples
-- has room for the next. Assumes nothing.
use Prim.Native.Nat.{ℕ, ◌+◌, ◌<◌}
use mathlib.Core.Path.{◌≡◌}
use mathlib.Core.Bool.{Bool, true, false, cond, ◌&&◌}
use native.Mathlib.Omega.{arith}
use lib.Dec.{ltb}
use borrow.Author.Tests.{lt-ltb, ltb-true}
use Rattle.truth.proofs.Laws.{and-true, both_true}
use Rattle.peak_groups.specs.declared.Peak.{Peak}
use Rattle.peak_groups.specs.declared.Group.{Group}
use Rattle.peak_groups.specs.Machine.{gave}
use Rattle.peak_groups.proofs.Left.{Next, turned_next}
use Rattle.peak_groups.specs.Peaks.{high, alike, close}
use Rattle.peak_machine.specs.declared.Envelope.{Envelope}
use Rattle.peak_machine.specs.Step.{met, chained, stepped, advanced, roomy, Fits}

fed_next : (b : Bool) (g h : Group) → Next g h → Next g (cond b h g)
fed_next true g h n = n
fed_next false g h n = (omega arith, omega arith)

module _ (n s τ : ℕ) (e : Envelope) (p : Peak) where
  pub chains_more : Next e.chains (stepped n s τ e p).chains
  unfolding stepped
  chains_more =
      fed_next (gave e.stretches (met n s e.stretches p) && high n s e.stretches.best) e.chains (chained τ e.chains e.stretches.best)
      (turned_next (close τ e.chains.last e.stretches.best) e.chains e.stretches.best)

  pub fits_next : (k : ℕ) → Fits k e → Fits (k + 1) (stepped n s τ e p)
  unfolding stepped
  fits_next k f =
      let h = turned_next (alike n s e.stretches.last p) e.stretches p in
      let c = chains_more in
      (omega arith, omega arith)

  -- groups that fit k numbers fit m, if that is more
  pub fits_later : (k m : ℕ) → k < m → Fits k e → Fits m (stepped n s τ e p)
  fits_later k m l f = let g = fits_next k f in (omega (arith, g.0), omega (arith, g.1))

  -- where the groups fit, the pass moves on
  pub advanced_fits : Fits 19999999 e → advanced n s τ e p ≡ stepped n s τ e p
  unfolding advanced
  advanced_fits f =
      let s = e.stretches.opened in
      let c = e.chains.opened in
      let r : roomy e ≡ true = both_true (lt-ltb s 20000000 (omega (arith, f.0))) (lt-ltb c 20000000 (omega (arith, f.1))) in
      rw r

pub room_fits : (e : Envelope) → roomy e ≡ true → Fits 19999999 e
room_fits e r =
    let s = e.stretches.opened in
    let c = e.chains.opened in
    let b = and-true (ltb s 20000000) (ltb c 20000000) r in
    (omega (arith, ltb-true s 20000000 b.0), omega (arith, ltb-true c 20000000 b.1))
