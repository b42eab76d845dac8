-- A file that comes in pieces: what a piece does not use goes before the next one, and after the last piece the file
-- ends. Assumes nothing.
use Rattle.std.specs.Prelude.{ℕ, true, false, List, [], ◌∷◌, ◌++◌, drop}
use Rattle.comma_count.specs.declared.Counting.{Counting}
use Rattle.comma_count.specs.Taking.{taking}

unfoldable pub carrying : Counting → List ℕ → List (List ℕ) → Counting
carrying c kept [] = (taking c kept false).counting
carrying c kept (piece ∷ pieces) =
    carrying (taking c (kept ++ piece) true).counting (drop (taking c (kept ++ piece) true).used (kept ++ piece)) pieces
