use mathlib.Core.Path.{◌≡◌, subst}
use mathlib.Core.Bool.{Bool, true}
use mathlib.Core.List.{List}
use Prim.Native.Nat.{ℕ, ◌+◌, ◌≤◌, ◌<◌}
use native.Mathlib.Omega.{arith}
use lib.ListN.{length}
use Rattle.sheet_records.specs.Pass.{EntryAt, EntryHere, HeadOf, Passes, taken_after}
use Rattle.sheet_records.proofs.Along.{bad_standard, ended, few, few_failures, no_head, not_taken, on, other_line, start}
use Rattle.sheet_records.proofs.pass.Goals as goal
use Rattle.sheet_records.proofs.pass.Goals.{Else-not-takes, In_ok-failed, In_ok-q}
use mathlib.Core.Path.{sym}
use mathlib.Core.Path.{◌∙◌}
use Rattle.std.specs.Prelude.{Some}

-- line 1 was read
module _ (c : In_ok-q) where
  abbrev Text : List ℕ
  Text = c.args.text.now

  abbrev Q : ℕ
  Q = c.in_ok-q.q

  abbrev Next : ℕ
  Next = c.in_ok-q.begin

  stands : HeadOf Text (Some (Q, Next))
  stands =
      subst (HeadOf Text) c.in_ok-q.was c.line_one.ensures

module _ (c : In_ok-failed) where
  abbrev Text₂ : List ℕ
  Text₂ = c.args.text.now

  abbrev Q₂ : ℕ
  Q₂ = c.in_ok-q.q

  abbrev Next₂ : ℕ
  Next₂ = c.in_ok-q.begin

  stands₂ : HeadOf Text₂ (Some (Q₂, Next₂))
  stands₂ =
      subst (HeadOf Text₂) c.in_ok-q.was c.line_one.ensures

-- a record's line was read
module _ (c : In_ok-failed) where
  abbrev Failed : Bool
  Failed = c.in_ok-failed.failed

  abbrev After : ℕ
  After = c.in_ok-failed.next

  entry : EntryHere (Text₂ c) c.loop-at.at (c.loop-at.count + 1) Failed After
  unfolding EntryAt
  entry =
      subst (EntryAt (Text₂ c) c.loop-at.at (c.loop-at.count + 1)) c.in_ok-failed.was c.entry_at.ensures

  further : (c.loop-at.at < After) × (After ≤ length (Text₂ c))
  further = (entry.starts.further, entry.starts.within)

-- its record is taken
taken : (c : Else-not-takes) → taken_after c.loop-at.count c.loop-at.failures ≡ true
taken c = (sym c.takes.ensures ∙ c.if-not-takes.false)

pub returns-in_err-q : goal.returns-in_err-q
unfolding Passes
returns-in_err-q c =
    let text = c.args.text.now in
    rw c.from_residual.ensures (no_head text (subst (HeadOf text) c.in_err-q.was c.line_one.ensures))

pub returns-then-not-both : goal.returns-then-not-both
unfolding Passes
returns-then-not-both c =
    let k = (goal.at.returns-then-not-both c).In_ok-q in
    bad_standard (Text k) (Q k) (Next k) (stands k) (sym c.both.ensures ∙ c.if-not-both.true)

pub loop-at-init : goal.loop-at-init
loop-at-init c =
    let k = (goal.at.loop-at-init c).In_ok-q in
    start (Text k) (Q k) (Next k) (stands k) (sym c.both.ensures ∙ c.if-not-both.false)

pub overflow_add-count : goal.overflow_add-count
overflow_add-count c = omega (arith, few c.loop-at.invariant)

pub returns-in_err-failed : goal.returns-in_err-failed
unfolding Passes
returns-in_err-failed c =
    let text = Text (goal.at.returns-in_err-failed c).In_ok-q in
    rw c.from_residual-in_err-failed.ensures (other_line c.loop-at.invariant c.loop-at-test.true (subst (EntryAt text c.loop-at.at (c.loop-at.count + 1)) c.in_err-failed.was c.entry_at.ensures))

pub returns-then-not-takes : goal.returns-then-not-takes
unfolding Passes
returns-then-not-takes c =
    let k = (goal.at.returns-then-not-takes c).In_ok-failed in
    not_taken c.loop-at.invariant (Failed k) (After k) (entry k) (sym c.takes.ensures ∙ c.if-not-takes.true)

pub overflow_add-failures : goal.overflow_add-failures
overflow_add-failures c =
    omega (arith, few_failures c.loop-at.invariant)

pub overflow_add-count-in-loop-at : goal.overflow_add-count-in-loop-at
overflow_add-count-in-loop-at c = omega (arith, few c.loop-at.invariant)

pub loop-at-smaller : goal.loop-at-smaller
loop-at-smaller c =
    let k = (goal.at.loop-at-smaller c).In_ok-failed in
    omega (arith, (further k).0, (further k).1)

pub loop-at-preserved : goal.loop-at-preserved
loop-at-preserved c =
    let k = (goal.at.loop-at-preserved c).In_ok-failed in
    let l = c.loop-at in
    rw c.pick-failures.ensures (on l.invariant (Failed k) (After k) (entry k) (taken (goal.at.loop-at-preserved c).Else-not-takes))

pub returns : goal.returns
unfolding Passes
returns c = ended c.loop-at.invariant c.loop-at-test.false
