-- `reach_files::last` meets its contract, by its two cases. Assumes nothing.
use Prim.Native.Nat.{ℕ}
use mathlib.Core.Path.{sym, ap, ◌∙◌}
use mathlib.Core.List.{List}
use lib.ListN.{length}
use Rattle.reach_files.specs.Gathering.{counted_to, put_from, last_sizes, last_one}
use Rattle.reach_files.proofs.Keeping.{counted_none, put_none, last-is}
use Rattle.reach_files.proofs.last.Goals as goal

pub returns-in-Ok : goal.returns-in-Ok
returns-in-Ok c =
    let a = c.args in
    let s = ap last_one c.finish.ensures ∙ last-is c.in-Ok.h ∙ sym (ap last_sizes c.in-Ok.is) in
    let f = c.put_last.ensures in
    record { value = f.value ∙ ap (λ (l : List ℕ). counted_to a.k.peaks (length l)) s; list_after = f.list_after ∙ ap (λ (l : List ℕ). put_from a.k.peaks l a.list.now) s }

pub returns-in-Err : goal.returns-in-Err
returns-in-Err c =
    let a = c.args in
    let s = sym (ap last_sizes c.in-Err.is) in
    record { value = counted_none a.k.peaks ∙ ap (λ (l : List ℕ). counted_to a.k.peaks (length l)) s; list_after = put_none a.k.peaks a.list.now ∙ ap (λ (l : List ℕ). put_from a.k.peaks l a.list.now) s }
