-- Two answers that a promise allows are the same answer, with the same later contents of what was lent. Assumes
-- nothing.
use Prim.Native.Nat.{ℕ}
use mathlib.Core.Path.{◌≡◌}
use mathlib.Core.List.{List}
use lib.IntN.{ℤ}
use Rattle.comma_line.specs.Text.{text_of}
use Rattle.text.specs.Write.{laid_by}
use Rattle.comma_write.specs.Answers.{writing_comma}
use Rattle.refusal.specs.declared.Refusal.{Refusal}
use Rattle.std.specs.Prelude.{Result}

-- the answer and the bytes
pub write_unique : (xs : List ℤ) (D : ℕ) (out later other : List ℕ) (r q : Result ℕ Refusal)
    → r ≡ writing_comma D xs out → later ≡ laid_by r (text_of D xs) out → q ≡ writing_comma D xs out → other ≡ laid_by q (text_of D xs) out → (r ≡ q) × (later ≡ other)
write_unique xs D out later other r q e f g h = (cc, cc)
