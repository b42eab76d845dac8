-- What a C function leaves: the number that it answers, what it carries, and the later contents of the lent array. 0 is
-- answered for an entry that is taken, and for one that is refused the number of document 01, "Refusal numbers"; a
-- refusal leaves the array as it stood. Assumes nothing.
use Rattle.std.specs.Prelude.{ℕ, cond, List, eqb, length, Result, Ok, Err}
use Rattle.refusal.specs.Numbers.{number_of, value_of, channel_of}
use Rattle.refusal.specs.declared.Refusal.{Refusal}
use Rattle.refusal.specs.declared.Refusal.TheVariants.{BrokenState}
use Rattle.capi.specs.Numbers.{record_numbers, of_record, result_numbers, of_result, campaign_numbers, of_campaign}
use Rattle.record_state.specs.declared.Record.{Record}
use Rattle.record_end.specs.declared.RecordResult.{RecordResult}
use Rattle.campaign_state.specs.declared.Campaign.{Campaign}

-- the number, what it carries, and a lent array afterwards
pub record Told : Type 0 where
  pub number : ℕ
  pub carried : ℕ
  pub lent : List ℕ

abbrev pub told : ℕ → ℕ → List ℕ → Told
told n v s = record { number = n; carried = v; lent = s }

abbrev pub refused : Refusal → List ℕ → Told
refused f s = told (number_of f) (value_of f) s

-- numbers in an array that has as many places
unfoldable pub placed : List ℕ → List ℕ → List ℕ
placed from to = cond (eqb (length to) (length from)) from to

-- the state that was taken stands in the array
unfoldable pub record_told : Result Record Refusal → List ℕ → Told
record_told (Ok r) s = told 0 0 (of_record r)
record_told (Err f) s = refused f s

unfoldable pub result_told : Result RecordResult Refusal → List ℕ → Told
result_told (Ok x) s = told 0 0 (of_result x)
result_told (Err f) s = refused f s

unfoldable pub campaign_told : Result Campaign Refusal → List ℕ → Told
campaign_told (Ok c) s = told 0 0 (of_campaign c)
campaign_told (Err f) s = refused f s

-- a text that was written: its bytes are carried; and the lent bytes
unfoldable pub write_told : Result ℕ Refusal → List ℕ → Told
write_told (Ok n) out = told 0 n out
write_told (Err f) out = refused f out

-- the channel that refusal 2 names, 0 where there is none
unfoldable pub channel_in : Result Record Refusal → ℕ
channel_in (Ok r) = 0
channel_in (Err f) = channel_of f

-- an array of another length than an answer has numbers is 8, before any other refusal
abbrev pub in_places : ℕ → List ℕ → Told → Told
in_places places s answer = cond (eqb (length s) places) answer (refused BrokenState s)

unfoldable pub record_kept : Result Record Refusal → List ℕ → Told
record_kept a s = in_places record_numbers s (record_told a s)

unfoldable pub result_kept : Result RecordResult Refusal → List ℕ → Told
result_kept a s = in_places result_numbers s (result_told a s)

unfoldable pub campaign_kept : Result Campaign Refusal → List ℕ → Told
campaign_kept a s = in_places campaign_numbers s (campaign_told a s)
