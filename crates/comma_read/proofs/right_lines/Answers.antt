use Rattle.std.proofs.Common.{◌≡◌, ℕ, ◌+◌, ◌*◌, ◌<◌, ◌≤◌, true, cond, eqb, List, length, ℤ, sym, ap, subst, ◌∙◌, arith, to_z-of_z, w32, SFits, rules, le-leb}
use Rattle.truth.proofs.Laws.{both_true}
use Rattle.sample_items.specs.Limits.{step_in_range}
use Rattle.comma_line.proofs.At.{LineRead, line_read, line_wrong}
use Rattle.comma_read.proofs.Going.{going_low, going_length}
use Rattle.comma_read.proofs.Way.{Way, way_as, way_start, way_run, way_line, way_full, way_stopped}
use Rattle.comma_read.proofs.right_lines.Goals as goal
use Rattle.comma_read.proofs.right_lines.Goals.{After-carried-sound, After-plain_taken-run, Else-samples-count, In-Some}

in_range : {D : ℕ} → 1 ≤ D → D ≤ 10000 → step_in_range D ≡ true
in_range {D} some few = both_true (le-leb 1 D some) (le-leb D 10000 few)

-- the plain lines are passed
module _ (c : After-plain_taken-run) where
  abbrev Text : List ℕ
  Text = c.args.text.now

  abbrev At : ℕ
  At = c.plain_taken-run.result.at

  abbrev Count : ℕ
  Count = c.loop-count.count + c.plain_taken-run.result.lines

  abbrev Due : ℕ
  Due = c.loop-count.due.time + c.plain_taken-run.result.lines * c.args.step.ms

  abbrev Later : List ℤ
  Later = c.plain_taken-run.new.samples

  gone : Way c.args.step.ms c.args.before Text c.args.samples.now At Count Due
      (cond (eqb c.loop-count.sound c.loop-count.count) (c.loop-count.sound + c.plain_taken-run.result.lines) c.loop-count.sound) Later
  gone =
      way_run c.args.step.ms c.args.before Text c.args.samples.now (in_range c.args.step.some c.args.step.few) c.loop-count.invariant (rw c.at-due.ensures.0 at c.plain_taken-run.ensures.plain_put)
      (omega (arith, c.plain_taken-run.ensures.lines_in_bounds, going_length c.loop-count.invariant.going c.loop-count.invariant.room))

  same : length Later ≡ length c.args.samples.now
  same = going_length gone.going gone.room

module _ (c : After-carried-sound) where
  abbrev Text₂ : List ℕ
  Text₂ = c.args.text.now

  abbrev At₂ : ℕ
  At₂ = c.plain_taken-run.result.at

  abbrev Count₂ : ℕ
  Count₂ = c.loop-count.count + c.plain_taken-run.result.lines

  abbrev Due₂ : ℕ
  Due₂ = c.loop-count.due.time + c.plain_taken-run.result.lines * c.args.step.ms

  abbrev Later₂ : List ℤ
  Later₂ = c.plain_taken-run.new.samples

  gone₂ : Way c.args.step.ms c.args.before Text₂ c.args.samples.now At₂ Count₂ Due₂
      (cond (eqb c.loop-count.sound c.loop-count.count) (c.loop-count.sound + c.plain_taken-run.result.lines) c.loop-count.sound) Later₂
  gone₂ =
      way_run c.args.step.ms c.args.before Text₂ c.args.samples.now (in_range c.args.step.some c.args.step.few) c.loop-count.invariant (rw c.at-due.ensures.0 at c.plain_taken-run.ensures.plain_put)
      (omega (arith, c.plain_taken-run.ensures.lines_in_bounds, going_length c.loop-count.invariant.going c.loop-count.invariant.room))

  same₂ : length Later₂ ≡ length c.args.samples.now
  same₂ = going_length gone₂.going gone₂.room

module _ (c : Else-samples-count) where
  abbrev Text₃ : List ℕ
  Text₃ = c.args.text.now

  abbrev At₃ : ℕ
  At₃ = c.plain_taken-run.result.at

  abbrev Count₃ : ℕ
  Count₃ = c.loop-count.count + c.plain_taken-run.result.lines

  abbrev Due₃ : ℕ
  Due₃ = c.loop-count.due.time + c.plain_taken-run.result.lines * c.args.step.ms

  abbrev Later₃ : List ℤ
  Later₃ = c.plain_taken-run.new.samples

  gone₃ : Way c.args.step.ms c.args.before Text₃ c.args.samples.now At₃ Count₃ Due₃
      (cond (eqb c.loop-count.sound c.loop-count.count) (c.loop-count.sound + c.plain_taken-run.result.lines) c.loop-count.sound) Later₃
  gone₃ =
      way_run c.args.step.ms c.args.before Text₃ c.args.samples.now (in_range c.args.step.some c.args.step.few) c.loop-count.invariant (rw c.at-due.ensures.0 at c.plain_taken-run.ensures.plain_put)
      (omega (arith, c.plain_taken-run.ensures.lines_in_bounds, going_length c.loop-count.invariant.going c.loop-count.invariant.room))

  same₃ : length Later₃ ≡ length c.args.samples.now
  same₃ = going_length gone₃.going gone₃.room

module _ (c : In-Some) where
  abbrev Text₄ : List ℕ
  Text₄ = c.args.text.now

  abbrev At₄ : ℕ
  At₄ = c.plain_taken-run.result.at

  abbrev Count₄ : ℕ
  Count₄ = c.loop-count.count + c.plain_taken-run.result.lines

  abbrev Due₄ : ℕ
  Due₄ = c.loop-count.due.time + c.plain_taken-run.result.lines * c.args.step.ms

  abbrev Later₄ : List ℤ
  Later₄ = c.plain_taken-run.new.samples

  gone₄ : Way c.args.step.ms c.args.before Text₄ c.args.samples.now At₄ Count₄ Due₄
      (cond (eqb c.loop-count.sound c.loop-count.count) (c.loop-count.sound + c.plain_taken-run.result.lines) c.loop-count.sound) Later₄
  gone₄ =
      way_run c.args.step.ms c.args.before Text₄ c.args.samples.now (in_range c.args.step.some c.args.step.few) c.loop-count.invariant (rw c.at-due.ensures.0 at c.plain_taken-run.ensures.plain_put)
      (omega (arith, c.plain_taken-run.ensures.lines_in_bounds, going_length c.loop-count.invariant.going c.loop-count.invariant.room))

  same₄ : length Later₄ ≡ length c.args.samples.now
  same₄ = going_length gone₄.going gone₄.room

-- and what was noted of them
module _ (c : After-carried-sound) where
  noted : Way c.args.step.ms c.args.before (Text₂ c) c.args.samples.now (At₂ c) (Count₂ c) (Due₂ c) c.carried-sound.result (Later₂ c)
  noted = way_as c.carried-sound.ensures (gone₂ c)

-- there is a place for one more
module _ (c : Else-samples-count) where
  room : Count₃ c < length c.args.samples.now
  room = omega (arith, c.if-samples-count.false, same₃ c)

-- which is a right line
module _ (c : In-Some) where
  read : LineRead (Text₄ c) (At₄ c) (Due₄ c) c.in-Some.minus c.in-Some.size c.in-Some.end
  read =
      subst (λ (t : ℕ). LineRead (Text₄ c) (At₄ c) t c.in-Some.minus c.in-Some.size c.in-Some.end)
      (c.after-due.ensures ∙ ap (λ (t : ℕ). t + c.plain_taken-run.result.lines * c.args.step.ms) c.at-due.ensures.0)
      (line_read (Text₄ c) (At₄ c) c.after-due.result.time _ _ _ (sym c.line_at.ensures ∙ c.in-Some.is))

pub loop-count-init : goal.loop-count-init
loop-count-init c = let a = c.args in rw c.first-due.ensures (way_start a.step.ms a.before a.text.now a.samples.now (in_range c.args.step.some c.args.step.few) c.requires)

pub carried-sound-requires : goal.carried-sound-requires
carried-sound-requires c =
    let p = (goal.at.carried-sound-requires c).After-plain_taken-run in
    omega (arith, (gone p).few, (gone p).early, going_low c.loop-count.invariant.going)

pub overflow_mul-run : goal.overflow_mul-run
overflow_mul-run c =
    omega (arith, (gone (goal.at.overflow_mul-run c).After-plain_taken-run).early)

pub after-due-requires : goal.after-due-requires
after-due-requires c =
    omega (arith, (gone (goal.at.after-due-requires c).After-plain_taken-run).early, c.at-due.ensures.0)

pub tallied-sound-requires : goal.tallied-sound-requires
tallied-sound-requires c =
    let w = noted (goal.at.tallied-sound-requires c).After-carried-sound in (going_low w.going, omega (arith, w.few, w.early))

pub after-due-requires-in-loop-count : goal.after-due-requires-in-loop-count
after-due-requires-in-loop-count c = omega (arith, (gone (goal.at.after-due-requires-in-loop-count c).After-plain_taken-run).early, c.after-due.ensures, c.at-due.ensures.0, c.args.step.few)

pub loop-count-preserved : goal.loop-count-preserved
loop-count-preserved c =
    let a = c.args in
    let fits : SFits w32 c.sample.result = search rules in
    rw (c.store.ensures, c.after-due-in-loop-count.ensures, c.after-due.ensures, c.at-due.ensures.0)
    (way_line a.step.ms a.before a.text.now a.samples.now (in_range c.args.step.some c.args.step.few) (noted (goal.at.loop-count-preserved c).After-carried-sound) (read (goal.at.loop-count-preserved c).In-Some) (room (goal.at.loop-count-preserved c).Else-samples-count) c.tallied-sound.ensures
    (to_z-of_z fits ∙ c.sample.ensures))

pub returns-after-loop-count : goal.returns-after-loop-count
returns-after-loop-count c =
    let a = c.args in let w = c.loop-count.invariant in
    let whole = way_full a.step.ms a.before a.text.now a.samples.now (in_range c.args.step.some c.args.step.few) w (omega (arith, c.loop-count-test.false, going_length w.going w.room)) in record { value = whole.0; samples_after = whole.1.0; result_bound = whole.1.1 }

pub returns-then-samples-count : goal.returns-then-samples-count
returns-then-samples-count c =
    let a = c.args in
    let whole = way_full a.step.ms a.before a.text.now a.samples.now (in_range c.args.step.some c.args.step.few) (noted (goal.at.returns-then-samples-count c).After-carried-sound) (omega (arith, c.if-samples-count.true, same (goal.at.returns-then-samples-count c).After-plain_taken-run)) in record { value = whole.0; samples_after = whole.1.0; result_bound = whole.1.1 }

pub returns-in_default : goal.returns-in_default
returns-in_default c =
    let p = (goal.at.returns-in_default c).After-plain_taken-run in
    let a = c.args in
    let whole = way_stopped a.step.ms a.before a.text.now a.samples.now (in_range c.args.step.some c.args.step.few) (noted (goal.at.returns-in_default c).After-carried-sound)
    (rw (c.after-due.ensures, c.at-due.ensures.0) at (line_wrong (Text p) (At p) c.after-due.result.time (sym c.line_at.ensures ∙ c.in_default.is))) in record { value = whole.0; samples_after = whole.1.0; result_bound = whole.1.1 }
