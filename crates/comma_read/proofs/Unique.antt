-- Two answers that a promise allows are the same answer, with the same later contents of what was lent. Assumes
-- nothing.
use Rattle.std.proofs.Common.{◌≡◌, ℕ, List, length, ℤ}
use Rattle.decimal.specs.Lines.{lines_of}
use Rattle.comma_line.specs.Text.{samples_of}
use Rattle.comma_read.specs.Answers.{reading_comma, filled_by}
use Rattle.comma_read.specs.Taken.{lines_taken, put_by}
use Rattle.refusal.specs.declared.Refusal.{Refusal}
use Rattle.std.specs.Prelude.{Result}

-- the answer and the samples
pub read_unique : (text : List ℕ) (D : ℕ) (slice later other : List ℤ) (r q : Result ℕ Refusal)
    → r ≡ reading_comma D text (length slice) → later ≡ filled_by r (samples_of (lines_of text)) slice
    → q ≡ reading_comma D text (length slice) → other ≡ filled_by q (samples_of (lines_of text)) slice → (r ≡ q) × (later ≡ other)
read_unique text D slice later other r q e f g h = (cc, cc)

pub take_unique : (text : List ℕ) (D before : ℕ) (slice later other : List ℤ) (r q : Result (ℕ × ℕ × ℕ) Refusal)
    → r ≡ lines_taken D before text (length slice) → later ≡ put_by r text slice
    → q ≡ lines_taken D before text (length slice) → other ≡ put_by q text slice → (r ≡ q) × (later ≡ other)
take_unique text D before slice later other r q e f g h = (cc, cc)
