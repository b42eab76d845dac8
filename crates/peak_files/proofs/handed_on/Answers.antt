-- `peak_files::handed_on` meets its contract: by its two cases. Assumes nothing.
use mathlib.Core.Path.{sym, subst}
use mathlib.Core.List.{List}
use Prim.Native.Nat.{ℕ}
use Rattle.peak_lines.specs.Lines.{peaks_text}
use Rattle.peak_files.specs.Passing.{handed_on, given_by, Gives}
use Rattle.peak_files.proofs.Laws.{gives_none}
use Rattle.peak_files.proofs.handed_on.Goals as goal
use Rattle.refusal.specs.declared.Refusal.{Refusal}
use Rattle.peak_stream.specs.declared.Handing.{Handing}
use Rattle.std.specs.Prelude.{Result, Err}

pub returns-in-Err : goal.returns-in-Err
returns-in-Err c =
    let By : Result (Handing × ℕ) Refusal → Result (Handing × ℕ) Refusal → ℕ → List ℕ → Type 0 = (λ a h put later. Gives (handed_on a c.args.ramp c.args.lines c.args.samples.now)
    (peaks_text c.args.file (given_by a c.args.ramp c.args.lines c.args.samples.now))
    c.args.out.now h put later) in
    subst (λ a. By a (Err c.in-Err.q) 0 c.args.out.now) (sym c.in-Err.is) (gives_none c.args.file c.args.out.now c.in-Err.q)
