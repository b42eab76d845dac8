use Prim.Native.Nat.{◌+◌, ◌*◌, ◌≤◌}
use mathlib.Core.Path.{◌≡◌, ap, ◌∙◌}
use native.Mathlib.Omega.{arith}
use borrow.Author.Rules.{rules}
use lib.ListN.{length}
use Rattle.peak_groups.specs.Runs.{first_run, peak_at}
use Rattle.peak_groups.proofs.Due.{from_place, second_fits, walk_fits, walk_holds}
use Rattle.peak_machine.specs.declared.Envelope.{Envelope}
use Rattle.peak_machine.specs.Step.{stepped}
use Rattle.peak_envelope.specs.Step.{noting}
use Rattle.peak_envelope.proofs.Passing.{passing_starts, passing_on, passing_number, passing_sizes, passing_times}
use Rattle.peak_envelope.proofs.pass.Goals as goal
use Rattle.peak_envelope.proofs.pass.Goals.{After-second_run-i, Start}

-- ways back to earlier places of the function
abbrev start : After-second_run-i → Start
start c = search rules

-- the second run starts within the samples
within : (c : After-second_run-i) → c.second_run-i.result ≤ length (start c).args.timed.now
within c =
    let start : Start = search rules in
    omega (arith, c.second_run-i.ensures, second_fits start.args.timed.now)

pub offset_bounds-timed-i : goal.offset_bounds-timed-i
offset_bounds-timed-i c = omega (arith, within c)

pub slice_bounds-first_run-count : goal.slice_bounds-first_run-count
slice_bounds-first_run-count c = within c

pub slice_bounds-first_run-start : goal.slice_bounds-first_run-start
slice_bounds-first_run-start c = within c

pub loop-i-init : goal.loop-i-init
loop-i-init c =
    let a = c.args in
    let k = c.second_run-i.result in
    rw c.fresh-e.ensures (passing_starts a.step a.n a.s a.decorrelation a.timed.now
    a.sizes.now a.times.now k c.first_run-run.result c.second_run-i.ensures (c.first_run-run.ensures ∙
    ap first_run (from_place k a.timed.now)))

pub overflow_add-i : goal.overflow_add-i
overflow_add-i c = let l = c.loop-i in omega (arith, walk_fits _ l.i l.run l.invariant.here l.invariant.within)

pub peak-requires : goal.peak-requires
peak-requires c =
    omega (arith, c.loop-i-test.true, (walk_holds _ c.loop-i.i c.loop-i.run c.loop-i.invariant.here c.loop-i-test.true).1)

pub loop-i-smaller : goal.loop-i-smaller
loop-i-smaller c =
    omega (arith, c.loop-i-test.true, (walk_holds _ _ c.loop-i.run c.loop-i.invariant.here c.loop-i-test.true).0)

pub loop-i-preserved : goal.loop-i-preserved
loop-i-preserved c =
    let l = c.loop-i in
    let a = c.args in
    let i = l.i in
    let r = l.run in
    let e = l.e in
    let ss = l.sizes in
    let ts = l.times in
    let f = stepped a.n a.s a.decorrelation e (peak_at a.step (i * a.step) r) in
    let o = c.onward-e in
    let q : o.result ≡ f = o.ensures.0 ∙ ap (stepped a.n a.s a.decorrelation e) c.peak.ensures in
    let hs : o.new.sizes ≡ noting e.chains f.chains.opened e.chains.best.size ss =
    o.ensures.1 ∙ ap (λ (g : Envelope). noting e.chains g.chains.opened e.chains.best.size ss) q in
    let ht : o.new.times ≡ noting e.chains f.chains.opened e.chains.best.time ts =
    o.ensures.2 ∙ ap (λ (g : Envelope). noting e.chains g.chains.opened e.chains.best.time ts) q in
    rw (q, hs, ht) (passing_on a.step a.n a.s a.decorrelation a.timed.now a.sizes.now
    a.times.now l.invariant c.loop-i-test.true c.first_run-run-in-loop-i.result (c.first_run-run-in-loop-i.ensures ∙
    ap first_run (from_place (i + r.length) a.timed.now)))

pub returns : goal.returns
returns c =
    let e = c.hand.ensures in
    let a = c.args in
    let v = c.loop-i.invariant in
    let h : length a.timed.now ≤ c.loop-i.i + c.loop-i.run.length = omega (arith, c.loop-i-test.false) in (
      passing_number a.step a.n a.s a.decorrelation a.timed.now a.sizes.now a.times.now v h,
      e.0 ∙ passing_sizes a.step a.n a.s a.decorrelation a.timed.now a.sizes.now a.times.now v h,
      e.1 ∙ passing_times a.step a.n a.s a.decorrelation a.timed.now a.sizes.now a.times.now v h,
    )
