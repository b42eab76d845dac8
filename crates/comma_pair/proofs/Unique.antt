-- Two answers that a promise allows are the same answer, with the same bytes left: each promise equates them with a
-- definition's value. Assumes nothing.
use mathlib.Core.Path.{◌≡◌}
use mathlib.Core.Bool.{Bool}
use mathlib.Core.List.{List}
use Prim.Native.Nat.{ℕ}
use Rattle.truth.proofs.Unique.{settled}
use Rattle.sample_items.specs.declared.Items.{Items}
use Rattle.desk_line.specs.declared.Finished.{Finished}
use Rattle.desk_line.specs.Said.{putting, put_left}
use Rattle.comma_pair.specs.declared.Watching.{Watching}
use Rattle.comma_pair.specs.declared.Took.{Took}
use Rattle.comma_pair.specs.Taking.{opening, taking, end_of, saying}
use Rattle.record_state.specs.declared.Record.{Record}
use Rattle.comma_pair.specs.declared.PairFault.{PairFault}
use Rattle.std.specs.Prelude.{Result}

pub open_unique : (i : Items) (v w : Watching) → v ≡ opening i → w ≡ opening i → v ≡ w
open_unique i v w = settled

pub take_unique : (w : Watching) (x : List ℕ) (xMore : Bool) (y : List ℕ) (yMore : Bool) (t u : Took) → t ≡ taking w x xMore y yMore → u ≡ taking w x xMore y yMore → t ≡ u
take_unique w x xMore y yMore t u = settled

pub came_to_unique : (w : Watching) (r q : Result Record PairFault) → r ≡ end_of w → q ≡ end_of w → r ≡ q
came_to_unique w r q = settled

module _ (w : Watching) (out : List ℕ) where
  pub finish_unique : (r q : Finished) → r ≡ putting (saying w) out → q ≡ putting (saying w) out → r ≡ q
  finish_unique r q = settled

  pub finish_left_unique : (later other : List ℕ) → later ≡ put_left (saying w) out → other ≡ put_left (saying w) out → later ≡ other
  finish_left_unique later other = settled
