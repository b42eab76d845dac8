-- `comma_stream::left` meets its contract: each return has the tests that pick its case. Assumes nothing.
use Prim.Native.Nat.{ℕ, ◌-◌, ◌≤◌, ◌<◌}
use mathlib.Core.Path.{◌≡◌, sym, ap, ◌∙◌}
use mathlib.Core.Bool.{Bool, true, false, cond, ◌&&◌}
use mathlib.Core.List.{List}
use native.Mathlib.Omega.{arith}
use lib.ListN.{length, take, drop, length-drop, drop_of_length-le}
use borrow.Author.Tests.{ne_eqb, lt-ltb, le-ltb}
use Rattle.std.proofs.lemmas.Slice.{between_to_end}
use Rattle.comma_stream.specs.declared.Rest.TheVariants.{Waits, Wrong}
use Rattle.comma_stream.specs.Follow.{longest_comma_line, unended, may_begin, resting, waiting_for}
use Rattle.comma_stream.proofs.left.Goals as goal
use Rattle.comma_stream.proofs.left.Goals.{Else-not-more}

-- what was asked of the part from a place on is so of what is left there
asked : (text : List ℕ) (at : ℕ) {b : Bool} → b ≡ unended (take (length text - at) (drop at text)) → unended (drop at text) ≡ b
asked text at e = ap unended (sym (between_to_end text at (length text) (omega arith))) ∙ sym e

-- something is left
module _ (text : List ℕ) (at : ℕ) (inside : at < length text) where
  abbrev Left : List ℕ
  Left = drop at text

  bytes : length Left ≡ length text - at
  bytes = length-drop at text

  some : (more : Bool) → resting Left more ≡ cond (more && may_begin Left) (Waits (length text - at)) Wrong
  unfolding resting
  some more = rw (ne_eqb (length Left) 0 (λ z. omega (arith, bytes)), bytes)

  over : resting Left false ≡ Wrong
  over = some false

  long : longest_comma_line ≤ length text - at → resting Left true ≡ Wrong
  unfolding may_begin
  long h = some true ∙ rw (le-ltb (length Left) longest_comma_line (omega (arith, bytes)))

  short : length text - at < longest_comma_line → (b : Bool) → unended Left ≡ b → resting Left true ≡ cond b (Waits (length text - at)) Wrong
  unfolding may_begin
  short h b e = some true ∙ rw (lt-ltb (length Left) longest_comma_line (omega (arith, bytes)), e)

pub returns-then-more : goal.returns-then-more
unfolding resting waiting_for
returns-then-more c =
    let a = c.args in
    record { value = rw (drop_of_length-le a.text.now c.if-text-at.true, c.if-more.true); result_bound = omega arith }

pub returns-then-text-at : goal.returns-then-text-at
unfolding resting waiting_for
returns-then-text-at c =
    let a = c.args in
    record { value = rw (drop_of_length-le a.text.now c.if-text-at.true, c.if-more.false); result_bound = omega arith }

pub returns-then-not-more : goal.returns-then-not-more
unfolding waiting_for
returns-then-not-more c =
    let a = c.args in
    record { value = rw (c.if-not-more.true) (sym (over a.text.now a.at c.if-text-at.false)); result_bound = omega arith }

-- more may come
more-comes : (c : Else-not-more) → c.args.more ≡ true
more-comes c = c.if-not-more.false

pub returns-then-text-at-ge-LONGEST_LINE : goal.returns-then-text-at-ge-LONGEST_LINE
unfolding waiting_for
returns-then-text-at-ge-LONGEST_LINE c =
    let a = c.args in
    record { value = rw (more-comes (goal.at.returns-then-text-at-ge-LONGEST_LINE c).Else-not-more) (sym (long a.text.now a.at c.if-text-at.false c.if-text-at-ge-LONGEST_LINE.true)); result_bound = omega arith }

pub returns-then-not-unended : goal.returns-then-not-unended
unfolding waiting_for
returns-then-not-unended c =
    let a = c.args in
    record { value = rw (more-comes (goal.at.returns-then-not-unended c).Else-not-more) (sym (short a.text.now a.at c.if-text-at.false c.if-text-at-ge-LONGEST_LINE.false false (asked a.text.now a.at c.unended.ensures ∙ c.if-not-unended.true))); result_bound = omega arith }

pub returns : goal.returns
unfolding waiting_for
returns c =
    let a = c.args in
    record { value = rw (more-comes (goal.at.returns c).Else-not-more) (sym (short a.text.now a.at c.if-text-at.false c.if-text-at-ge-LONGEST_LINE.false true (asked a.text.now a.at c.unended.ensures ∙ c.if-not-unended.false))); result_bound = omega (arith, c.if-text-at-ge-LONGEST_LINE.false) }
