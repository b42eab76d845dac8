-- What writing a text into lent bytes leaves there, and the place that it answers; and what writing a whole paper comes
-- to and leaves. Assumes nothing.
use Rattle.std.specs.Prelude.{ℕ, ◌+◌, Bool, cond, List, ◌++◌, length, take, drop, leb, ltb, Result, Ok, Err}
use Rattle.refusal.specs.declared.Refusal.TheVariants.{Room}
use Rattle.refusal.specs.declared.Refusal.{Refusal}

-- the text ends within the lent bytes
abbrev pub fits : List ℕ → ℕ → List ℕ → Bool
fits out at text = leb (at + length text) (length out)

-- the text over the bytes from a place on, the bytes before and after it as they were
unfoldable pub laid : List ℕ → ℕ → List ℕ → List ℕ
laid out at text = take at out ++ (text ++ drop (at + length text) out)

-- the lent bytes afterwards: with the text, or unchanged where it has no room
unfoldable pub written : List ℕ → ℕ → List ℕ → List ℕ
written out at text = cond (fits out at text) (laid out at text) out

-- the place after the text, or the same place where it has no room
unfoldable pub place_after : List ℕ → ℕ → List ℕ → ℕ
place_after out at text = cond (fits out at text) (at + length text) at

-- ---- a whole paper: 7 with the bytes needed where there is no room for them, else so many bytes
abbrev pub within_room : ℕ → ℕ → Result ℕ Refusal
within_room needed room = cond (ltb room needed) (Err (Room needed)) (Ok needed)

-- the bytes afterwards: the text from their start and the rest as it stood; on a refusal all as it stood
unfoldable pub laid_by : Result ℕ Refusal → List ℕ → List ℕ → List ℕ
laid_by (Ok n) text out = text ++ drop n out
laid_by (Err r) text out = out
