use Prim.Native.Nat.{◌-◌}
use mathlib.Core.Path.{◌≡◌, refl, sym, ◌∙◌}
use mathlib.Core.Bool.{Bool, true, false, not, ◌&&◌}
use native.Mathlib.Omega.{arith}
use borrow.Author.Rules.{rules}
use borrow.Author.Count.{below_more}
use Rattle.sample_channels.specs.Channels.{above, moments}
use Rattle.sample_channels.proofs.Quiet.{quiet_at}
use Rattle.crossing_places.specs.Reading.{sample_at, rises}
use Rattle.crossing_search.proofs.rise_in.Goals as goal
use Rattle.crossing_search.proofs.rise_in.Goals.{After-moment_at-x, After-rises}

and-false : (b : Bool) → (b && false) ≡ false
and-false true = refl
and-false false = refl

pub returns-then-not-loud : goal.returns-then-not-loud
returns-then-not-loud c =
    let g = c.args in
    let q = sym c.loud.ensures ∙ c.if-not-loud.true in
    record {
      after = omega arith;
      within = omega arith;
      none = λ k h l. rw (quiet_at g.levels g.roll.now g.acceleration.now g.from g.end k
          (omega arith) (omega arith) h l q)
          (and-false (not (above g.levels (sample_at (moments g.roll.now g.acceleration.now) (k - 1)))));
      found = λ h. absurd (omega arith);
    }

-- what the call of `rises` answers
told : (c : After-rises) →
    let b = c.before.before.before.before in
    let l = b.loop-i in let a = b.args in
    c.rises.result ≡ rises a.levels (sample_at (moments a.roll.now a.acceleration.now) (l.i - 1)) (sample_at (moments a.roll.now a.acceleration.now) l.i)
told c =
    let after-moment-at : After-moment_at-x = search rules in
    c.rises.ensures ∙ rw (after-moment-at.moment_at-x.ensures, c.moment_at-y.ensures)

pub loop-i-preserved : goal.loop-i-preserved
loop-i-preserved c = below_more _ _ c.loop-i.invariant (λ l. sym (told c.before) ∙ c.if-rises.false)
