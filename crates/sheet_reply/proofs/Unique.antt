-- Two answers that a promise allows are the same answer, with the same bytes left: each promise equates them with a
-- definition's value. Assumes nothing.
use mathlib.Core.Path.{◌≡◌}
use mathlib.Core.List.{List}
use Prim.Native.Nat.{ℕ}
use Rattle.refusal.specs.declared.Refusal.{Refusal}
use Rattle.truth.proofs.Unique.{settled}
use Rattle.text.specs.Write.{written}
use Rattle.campaign_state.specs.declared.Campaign.{Campaign}
use Rattle.sheet_reply.specs.Written.{record_writing, record_left, refused_text, writing_reply}
use Rattle.std.specs.Prelude.{Result}

module _ (c : Campaign) (out : List ℕ) (at : ℕ) where
  pub write_record_unique : (r q : Result ℕ Refusal) → r ≡ record_writing c out at → q ≡ record_writing c out at → r ≡ q
  write_record_unique r q = settled

  pub write_record_left_unique : (later other : List ℕ) → later ≡ record_left c out at → other ≡ record_left c out at → later ≡ other
  write_record_left_unique later other = settled

module _ (line column : ℕ) (why : Refusal) (out : List ℕ) (at : ℕ) where
  pub write_refused_unique : (r q : Result ℕ Refusal) → r ≡ writing_reply out at (refused_text line column why) → q ≡ writing_reply out at (refused_text line column why) → r ≡ q
  write_refused_unique r q = settled

  pub write_refused_left_unique : (later other : List ℕ) → later ≡ written out at (refused_text line column why) → other ≡ written out at (refused_text line column why) → later ≡ other
  write_refused_left_unique later other = settled
