-- What each entry answers, in the order of refusals of document 02, [7]. Assumes nothing.
use Rattle.std.specs.Prelude.{cond, not, ℕ, eqb, Result, Ok, Err}
use Rattle.sample_items.specs.Limits.{step_in_range}
use Rattle.refusal.specs.declared.Refusal.TheVariants.{BrokenState, Item, SumFull, TooShort}
use Rattle.record_state.specs.State as reading
use Rattle.record_state.specs.State.{too_short}
use Rattle.record_state.specs.declared.Record.{Record}
use Rattle.binomial_sum.specs.declared.Sum.{Sum}
use Rattle.binomial_sum.specs.State.{empty, grown, sound, timed, would_pass}
use Rattle.refusal.specs.declared.Refusal.{Refusal}

-- Opening 1: item 1
abbrev pub opened : ℕ → Result Sum Refusal
opened D = cond (step_in_range D) (Ok (empty D)) (Err (Item 1))

-- 11, else g groups and p timed samples are added
abbrev pub taken : Sum → ℕ → ℕ → Result Sum Refusal
taken s g p = cond (would_pass s g p) (Err SumFull) (Ok (grown s g p))

-- Adding 8 (the sum, the record), 4, 1 with item 1 if the record's step differs, 11
unfoldable pub adding : Sum → Record → Result Sum Refusal
adding s r =
    cond (not (sound s)) (Err BrokenState)
    (cond (not (reading.sound r)) (Err BrokenState)
    (cond (too_short r) (Err TooShort)
    (cond (not (eqb r.items.step s.step)) (Err (Item 1))
    (taken s r.groups (timed r)))))
