-- Two answers that a promise allows are the same answer, with the same bytes left: each promise equates them with a
-- definition's value. Assumes nothing.
use mathlib.Core.Path.{◌≡◌}
use mathlib.Core.Bool.{Bool}
use mathlib.Core.List.{List}
use Prim.Native.Nat.{ℕ}
use lib.ListN.{take}
use Rattle.truth.proofs.Unique.{settled}
use Rattle.sample_items.specs.declared.Items.{Items}
use Rattle.comma_stream.specs.declared.Follow.{Follow}
use Rattle.desk_line.specs.declared.Finished.{Finished}
use Rattle.desk_line.specs.Said.{putting, put_left}
use Rattle.comma_count.specs.declared.Counting.{Counting}
use Rattle.comma_count.specs.declared.Took.{Took}
use Rattle.comma_count.specs.declared.Turned.{Turned}
use Rattle.comma_count.specs.Taking.{opening, agrees, taking, turning, turn_left, end_of, saying}
use Rattle.refusal.specs.declared.Refusal.{Refusal}
use Rattle.record_state.specs.declared.Record.{Record}
use Rattle.std.specs.Prelude.{Result}

pub open_unique : (i : Items) (c d : Counting) → c ≡ opening i → d ≡ opening i → c ≡ d
open_unique i c d = settled

pub agrees_unique : (f : Follow) (a : Result Record Refusal) (b d : Bool) → b ≡ agrees f a → d ≡ agrees f a → b ≡ d
agrees_unique f a b d = settled

pub came_to_unique : (c : Counting) (r q : Result Record (ℕ × Refusal)) → r ≡ end_of c → q ≡ end_of c → r ≡ q
came_to_unique c r q = settled

module _ (c : Counting) (text : List ℕ) where
  pub take_unique : (more : Bool) (r q : Took) → r ≡ taking c text more → q ≡ taking c text more → r ≡ q
  take_unique more r q = settled

  pub turn_unique : (end : ℕ) (more : Bool) (r q : Turned) → r ≡ turning c (take end text) more → q ≡ turning c (take end text) more → r ≡ q
  turn_unique end more r q = settled

  pub turn_left_unique : (end : ℕ) (more : Bool) (later other : List ℕ) → later ≡ turn_left c end more text → other ≡ turn_left c end more text → later ≡ other
  turn_left_unique end more later other = settled

  pub finish_unique : (r q : Finished) → r ≡ putting (saying c) text → q ≡ putting (saying c) text → r ≡ q
  finish_unique r q = settled

  pub finish_left_unique : (later other : List ℕ) → later ≡ put_left (saying c) text → other ≡ put_left (saying c) text → later ≡ other
  finish_left_unique later other = settled
