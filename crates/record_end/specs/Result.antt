-- Document 02, [4] and [5]: what ending a record gives, and what a campaign takes of it. Assumes nothing.
use Rattle.std.specs.Prelude.{ℕ, cond, not, eqb, Result, Ok, Err}
use Rattle.refusal.specs.declared.Refusal.TheVariants.{BrokenState, TooShort}
use Rattle.record_state.specs.State.{failed, first_time, sound, too_short, whole_time}
use Rattle.record_state.specs.declared.Record.{Record}
use Rattle.record_end.specs.declared.Outcome.{Outcome}
use Rattle.record_end.specs.declared.RecordResult.{RecordResult}
use Rattle.refusal.specs.declared.Refusal.{Refusal}

-- the exposure of a record: the time of its first failure, or else the full time
abbrev pub exposure_of : Record → ℕ
exposure_of r = cond (failed r) (first_time r) (whole_time r)

-- its crossings, count, first failure and exposure; the groups are what is counted, and the largest set stands beside
-- it
abbrev pub result_of : Record → RecordResult
result_of r =
    record { crossings = r.crossings; counted = r.groups; first = r.first; exposure = exposure_of r; largest = r.largest }

-- Ending 8, 4
unfoldable pub ending : Record → Result RecordResult Refusal
ending r = cond (not (sound r)) (Err BrokenState) (cond (too_short r) (Err TooShort) (Ok (result_of r)))

-- all that entering reads: whether there is a first failure, 0 being no place of one, and the exposure
abbrev pub outcome_of : RecordResult → Outcome
outcome_of x = record { failed = not (eqb x.first 0); exposure = x.exposure }
