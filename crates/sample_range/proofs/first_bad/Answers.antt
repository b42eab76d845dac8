-- Whether the block has a sample past the limit is what its ends say, and the laws of a block and what follows it do
-- the rest. Assumes nothing.
use mathlib.Core.Path.{◌≡◌, sym, ap, ◌∙◌}
use mathlib.Core.Bool.{true, false}
use native.Mathlib.Omega.{arith}
use lib.ListN.{length, length-append}
use Rattle.std.specs.Slice.Iter.{chunks_rest}
use Rattle.sample_block.specs.Block.{any_above}
use Rattle.sample_range.specs.Range.{sample_limit, first_bad}
use Rattle.sample_range.proofs.Bad.{bad_within, loud_first, quiet_passed, ends_tell}
use Rattle.sample_range.proofs.first_bad.Goals as goal

pub overflow_add-result : goal.overflow_add-result
overflow_add-result c =
    let p = c.in-Some.block.now in
    let t : any_above sample_limit p ≡ true = sym (ends_tell p _ c.ends_of.ensures.lowest_value c.ends_of.ensures.highest_value) ∙ sym c.if-outside.ensures in
    omega (arith, ap first_bad c.in-Some.ensures.steps.1.0, loud_first p (chunks_rest c.next.new.self) t, bad_within c.args.samples.now)

pub returns-then-outside : goal.returns-then-outside
returns-then-outside c =
    let p = c.in-Some.block.now in
    let t : any_above sample_limit p ≡ true = sym (ends_tell p _ c.ends_of.ensures.lowest_value c.ends_of.ensures.highest_value) ∙ sym c.if-outside.ensures in
    omega (arith, ap first_bad c.in-Some.ensures.steps.1.0, loud_first p (chunks_rest c.next.new.self) t)

pub loop-block-preserved : goal.loop-block-preserved
loop-block-preserved c =
    let p = c.in-Some.block.now in
    let q = chunks_rest c.next.new.self in
    let s = c.in-Some.ensures.steps.1.0 in
    let t : any_above sample_limit p ≡ false = sym (ends_tell p _ c.ends_of.ensures.lowest_value c.ends_of.ensures.highest_value) ∙ sym c.if-outside.ensures in
    record {
      some = omega arith;
      long = omega (arith, ap length s, length-append p q);
      first = omega (arith, ap first_bad s, quiet_passed p q t);
    }

pub returns : goal.returns
returns c = omega (arith, bad_within (chunks_rest c.loop-block.block-iterator), c.in-None.ensures.steps)
