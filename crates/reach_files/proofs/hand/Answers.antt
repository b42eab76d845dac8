-- `reach_files::hand` meets its contract: what was refused stays. Assumes nothing.
use Prim.Native.Nat.{ℕ}
use mathlib.Core.Path.{sym, ap, ◌∙◌}
use lib.ListN.{length}
use Rattle.reach_files.specs.Gathering.{counted_to, put_from, handed_by, sizes_by}
use Rattle.reach_files.proofs.Keeping.{counted_none, put_none}
use Rattle.reach_files.proofs.hand.Goals as goal
use Rattle.refusal.specs.declared.Refusal.{Refusal}
use Rattle.peak_stream.specs.declared.Handing.{Handing}
use Rattle.std.specs.Prelude.{Result, Err}

pub returns-in-Err : goal.returns-in-Err
returns-in-Err c =
    let a = c.args in
    let xs = a.samples.now in
    let e = sym c.in-Err.is in
    record {
      value = ap (λ (n : ℕ). record { handed = Err c.in-Err.q; peaks = n }) (counted_none a.k.peaks)
          ∙ ap (λ (x : Result (Handing × ℕ) Refusal). record { handed = handed_by a.ramp a.lines x xs; peaks = counted_to a.k.peaks (length (sizes_by a.ramp a.lines x xs)) }) e;
      list_after = put_none a.k.peaks a.list.now ∙ ap (λ (x : Result (Handing × ℕ) Refusal). put_from a.k.peaks (sizes_by a.ramp a.lines x xs) a.list.now) e;
    }
