-- A record that fits is ready to be walked. Assumes nothing.
use Prim.Native.Nat.{ℕ, suc, ◌-◌, ◌*◌}
use mathlib.Core.Path.{◌≡◌, ap}
use mathlib.Core.List.{List}
use native.Mathlib.Omega.{arith}
use lib.ListN.{length, drop, length-drop}
use lib.IntN.{ℤ}
use Rattle.sample_items.specs.declared.Items.{Items}
use Rattle.sample_items.proofs.Ranges.{within_ranges, in_time}
use Rattle.record_whole.specs.Tests.{Fitting}
use Rattle.record_list.specs.Walk.{start, Ready}

pub ready : (items : Items) (xs : List ℤ) {m : ℕ} → Fitting items (length xs) m → Ready items.step items.decorrelation start (length (drop items.ramp xs))
ready items xs f =
    let i = within_ranges items f.ranged in
    let k = length xs - 1 - items.ramp in
    let t = in_time k items.step (omega (arith, f.most)) in
    let n : length (drop items.ramp xs) ≡ suc k = omega (arith, length-drop items.ramp xs, f.few) in
    record { step = i.step_low; decorrelation = i.decorrelation; counted = omega arith; room = omega (arith, ap (λ (m : ℕ). m * items.step) n, i.step-high) }
