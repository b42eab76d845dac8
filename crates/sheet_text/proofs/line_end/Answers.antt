use mathlib.Core.Path.{◌≡◌, sym, ◌∙◌}
use native.Mathlib.Omega.{arith}
use borrow.Author.Tests.{eq-eqb, ne_eqb}
use Rattle.sheet_text.proofs.Lines.{reached_found, reached_on, reached_end}
use Rattle.sheet_text.proofs.line_end.Goals as goal

pub returns-then-text-i-eq-LF : goal.returns-then-text-i-eq-LF
returns-then-text-i-eq-LF c =
    sym (reached_found _ _ c.loop-i.i (omega arith) (omega arith) (eq-eqb _ _ c.if-text-i-eq-LF.true)) ∙ c.loop-i.invariant.2

pub loop-i-preserved : goal.loop-i-preserved
loop-i-preserved c =
    (omega arith, omega arith, sym (reached_on _ _ c.loop-i.i (omega arith) (omega arith) (ne_eqb _ _ c.if-text-i-eq-LF.false)) ∙ c.loop-i.invariant.2)

pub returns : goal.returns
returns c =
    let end : c.furthest-stop.result ≡ c.loop-i.i = omega arith in
    end ∙ sym (reached_end _ _ _ (omega arith)) ∙ c.loop-i.invariant.2
