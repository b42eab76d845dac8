-- `record_feed::feed` meets its contract: each answer is the law of `Fed` whose tests held on the way to it. Assumes
-- nothing.
use mathlib.Core.Path.{◌≡◌, sym, ◌∙◌}
use mathlib.Core.Bool.{true}
use native.Mathlib.Omega.{arith}
use borrow.Author.Rules.{rules}
use Rattle.sample_items.specs.Limits.{most_samples}
use Rattle.record_state.specs.State.{sound}
use Rattle.record_state.proofs.Relations.{Kept, kept_from}
use Rattle.record_state.proofs.Bounds.{most_of}
use Rattle.record_feed.proofs.Fed.{fed_broken, fed_unequal, fed_full}
use Rattle.record_feed.proofs.feed.Goals as goal
use Rattle.record_feed.proofs.feed.Goals.{After-most_samples, Else-not-sound}

pub returns-then-not-sound : goal.returns-then-not-sound
returns-then-not-sound c = sym (fed_broken _ _ _ (sym c.sound.ensures ∙ c.if-not-sound.true))

-- past the first test the state is sound
held : (c : Else-not-sound) → sound c.args.r ≡ true
held c = sym c.sound.ensures ∙ c.if-not-sound.false

facts : (c : Else-not-sound) → Kept c.args.r
facts c = kept_from _ (held c)

pub returns-then-roll-acceleration : goal.returns-then-roll-acceleration
returns-then-roll-acceleration c = sym (fed_unequal _ _ _ (held c.before) c.if-roll-acceleration.true)

-- the room for samples
most : (c : After-most_samples) →
    let i = c.args.r.items in
    c.most_samples.result ≡ most_samples i.step i.ramp
most c = c.most_samples.ensures ∙ most_of (facts c.before.before)

pub overflow_sub-room : goal.overflow_sub-room
overflow_sub-room c = let else1 : Else-not-sound = search rules in omega (arith, most c.before, (facts else1).length)

pub pass-requires : goal.pass-requires
pass-requires c =
    let b = c.before.before.before in
    (held b.before, b.if-roll-acceleration.false, omega (arith, most c.before.before, (facts b.before).length))

pub returns : goal.returns
returns c =
    let b = c.before.before.before in
    let k = facts b.before.before in
    c.fault.ensures ∙ sym (fed_full _ _ _ (held b.before.before) b.if-roll-acceleration.false (omega (arith, most b, k.length)))
