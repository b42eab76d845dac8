-- Two answers that a promise allows are the same answer: the promise equates it with a definition's value. Assumes
-- nothing.
use mathlib.Core.Path.{◌≡◌}
use mathlib.Core.List.{List}
use Prim.Native.Nat.{ℕ}
use lib.IntN.{ℤ}
use Rattle.text.specs.Write.{laid_by}
use Rattle.sheet_records.specs.Ledger.{sheet_text}
use Rattle.sheet_records.specs.Answers.{writing_sheet}
use lib.ListN.{length}
use Rattle.sheet_records.specs.Records.{filled_by, records_of, resuming}
use Rattle.refusal.specs.declared.Refusal.{Refusal}
use Rattle.std.specs.Prelude.{Result}

pub write_unique : (q : ℕ) (xs : List ℤ) (out later other : List ℕ) (r s : Result ℕ Refusal)
    → r ≡ writing_sheet q xs out → later ≡ laid_by r (sheet_text q xs) out → s ≡ writing_sheet q xs out → other ≡ laid_by s (sheet_text q xs) out → (r ≡ s) × (later ≡ other)
write_unique q xs out later other r s e f g h = (cc, cc)

pub records_unique : (text : List ℕ) (slice later other : List ℤ) (r s : Result (ℕ × ℕ) (ℕ × ℕ × Refusal))
    → r ≡ resuming text (length slice) → later ≡ filled_by r (records_of text) slice
    → s ≡ resuming text (length slice) → other ≡ filled_by s (records_of text) slice → (r ≡ s) × (later ≡ other)
records_unique text slice later other r s e f g h = (cc, cc)
