-- What opening answers: document 01, "Refusal numbers". Assumes nothing.
use Rattle.std.specs.Prelude.{cond, [], eqb, Result, Ok, Err}
use Rattle.refusal.specs.declared.Refusal.TheVariants.{Item}
use Rattle.sample_items.specs.declared.Items.{Items}
use Rattle.sample_items.specs.Limits.{item_outside}
use Rattle.record_state.specs.State.{state_of}
use Rattle.refusal.specs.declared.Refusal.{Refusal}
use Rattle.record_state.specs.declared.Record.{Record}

-- Opening 1: the lowest item outside its range, or the state of no samples
unfoldable pub opened : Items → Result Record Refusal
opened items =
    cond (eqb (item_outside items) 0)
    (Ok (state_of items []))
    (Err (Item (item_outside items)))
