-- What each C function tells of a call's answer: the number, what it carries, and lent rates, which a refusal leaves as
-- they stood. Of an answer that the call never gets, nothing. Assumes nothing.
use Rattle.std.specs.Prelude.{Float, Result, Ok, Err}
use Rattle.refusal.specs.Numbers.{number_of, value_of}
use Rattle.campaign_verdict.specs.declared.Rates.{Rates}
use Rattle.capi_verdict.specs.Told.{Count, Judgement, Rating, count, judgement, ratings, told_rates, verdict_told}
use Rattle.bureau_table.specs.declared.Reply.TheVariants.{Entered, Freed, Judged, Placed, Rated}
use Rattle.refusal.specs.declared.Refusal.{Refusal}
use Rattle.bureau_table.specs.declared.Reply.{Reply}

-- taking carries the place
unfoldable pub plain : Result Reply Refusal → Count
plain (Ok (Placed i)) = count 0 i
plain (Ok Entered) = count 0 0
plain (Ok Freed) = count 0 0
plain (Ok (Judged v)) = count 0 0
plain (Ok (Rated r)) = count 0 0
plain (Err f) = count (number_of f) (value_of f)

unfoldable pub judged : Result Reply Refusal → Float → Float → Judgement
judged (Ok (Judged v)) x y = verdict_told v
judged (Ok (Placed i)) x y = judgement 0 0 x y
judged (Ok Entered) x y = judgement 0 0 x y
judged (Ok (Rated r)) x y = judgement 0 0 x y
judged (Ok Freed) x y = judgement 0 0 x y
judged (Err f) x y = judgement (number_of f) (value_of f) x y

unfoldable pub rated : Result Reply Refusal → Rates → Rating
rated (Ok (Rated r)) y = told_rates r
rated (Ok (Placed i)) y = ratings 0 0 y
rated (Ok Entered) y = ratings 0 0 y
rated (Ok (Judged v)) y = ratings 0 0 y
rated (Ok Freed) y = ratings 0 0 y
rated (Err f) y = ratings (number_of f) (value_of f) y
