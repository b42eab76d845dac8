-- What feeding answers: document 01, "Refusal numbers", with document 02's [8], in the order of refusals. Assumes
-- nothing.
use Rattle.std.specs.Prelude.{◌+◌, cond, not, length, eqb, ltb, ℤ, Result, Ok, Err}
use mathlib.Core.List.{List, foldl}
use Rattle.refusal.specs.declared.Refusal.TheVariants.{TooLong, BrokenState, Unequal}
use Rattle.sample_channels.specs.Channels.{moments, any_bad, bad_sample}
use Rattle.sample_items.specs.Limits.{most_samples}
use Rattle.sample_range.specs.Range.{first_bad}
use Rattle.record_state.specs.declared.Record.{Record}
use Rattle.record_state.specs.State.{sound}
use Rattle.record_step.specs.Step.{stepped}
use Rattle.refusal.specs.declared.Refusal.{Refusal}

-- A piece 8, 12, 2, 3: the state after its samples one by one, xs of the roll and ys of the acceleration
unfoldable pub fed : Record → List ℤ → List ℤ → Result Record Refusal
fed r xs ys =
    cond (not (sound r)) (Err BrokenState)
    (cond (not (eqb (length xs) (length ys))) (Err Unequal)
    (cond (any_bad xs ys) (Err (bad_sample (first_bad xs) (first_bad ys)))
    (cond (ltb (most_samples r.items.step r.items.ramp) (r.n + length xs)) (Err TooLong)
    (Ok (foldl stepped r (moments xs ys))))))
