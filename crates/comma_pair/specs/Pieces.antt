-- Two files that come in pieces, in whatever order: in each turn a piece of the roll and one of the acceleration, of
-- which either may be empty; then one file has ended, and the other goes on, piece after piece, to its own end. What a
-- turn does not use goes before the next piece. Assumes nothing.
use Rattle.std.specs.Prelude.{ℕ, true, false, List, [], ◌∷◌, ◌++◌, drop}
use Rattle.text.specs.Pieces.{joined}
use Rattle.comma_pair.specs.declared.Watching.{Watching}
use Rattle.comma_pair.specs.Taking.{taking}

-- a piece of each file
pub record Turn : Type 0 where
  pub roll : List ℕ
  pub acceleration : List ℕ

-- which file goes on after the other has ended, and its pieces
pub data Rest : Type 0 where
  roll_goes_on : List (List ℕ) → Rest
  acceleration_goes_on : List (List ℕ) → Rest

-- ---- the whole texts
unfoldable pub roll_text : List Turn → Rest → List ℕ
roll_text [] (roll_goes_on pieces) = joined pieces
roll_text [] (acceleration_goes_on pieces) = []
roll_text (t ∷ turns) rest = t.roll ++ roll_text turns rest

unfoldable pub acceleration_text : List Turn → Rest → List ℕ
acceleration_text [] (roll_goes_on pieces) = []
acceleration_text [] (acceleration_goes_on pieces) = joined pieces
acceleration_text (t ∷ turns) rest = t.acceleration ++ acceleration_text turns rest

-- ---- turn after turn; kr and ka are what was not used of the roll and of the acceleration
unfoldable pub roll_goes : Watching → List ℕ → List ℕ → List (List ℕ) → Watching
roll_goes w kr ka [] = (taking w kr false ka false).watching
roll_goes w kr ka (piece ∷ pieces) =
    let t = taking w (kr ++ piece) true ka false in
    roll_goes t.watching (drop t.roll (kr ++ piece)) (drop t.acceleration ka) pieces

unfoldable pub acceleration_goes : Watching → List ℕ → List ℕ → List (List ℕ) → Watching
acceleration_goes w kr ka [] = (taking w kr false ka false).watching
acceleration_goes w kr ka (piece ∷ pieces) =
    let t = taking w kr false (ka ++ piece) true in
    acceleration_goes t.watching (drop t.roll kr) (drop t.acceleration (ka ++ piece)) pieces

unfoldable pub carrying : Watching → List ℕ → List ℕ → List Turn → Rest → Watching
carrying w kr ka [] (roll_goes_on pieces) = roll_goes w kr ka pieces
carrying w kr ka [] (acceleration_goes_on pieces) = acceleration_goes w kr ka pieces
carrying w kr ka (s ∷ turns) rest =
    let t = taking w (kr ++ s.roll) true (ka ++ s.acceleration) true in
    carrying t.watching (drop t.roll (kr ++ s.roll)) (drop t.acceleration (ka ++ s.acceleration)) turns rest
