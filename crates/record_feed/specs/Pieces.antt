-- Document 01, "Reading a record", with document 02's [8]: a record handed over in pieces of both channels. Assumes
-- nothing.
use Rattle.std.specs.Prelude.{◌≡◌, List, [], ◌∷◌, ◌++◌, ℤ, length, Ok}
use Rattle.sample_channels.specs.declared.Moment.{Moment}
use Rattle.sample_channels.specs.Channels.{moments}
use Rattle.record_state.specs.declared.Record.{Record}
use Rattle.record_feed.specs.Answers.{fed}

-- a slice of each channel
pub record Piece : Type 0 where
  pub roll : List ℤ
  pub acceleration : List ℤ

-- the pieces, handed over one after the other from the state r, are all taken and end in the state t
pub data AllTaken : Record → List Piece → Record → Type 0 where
  end : {r : Record} → AllTaken r [] r
  piece : {r s t : Record} {p : Piece} {ps : List Piece} → fed r p.roll p.acceleration ≡ Ok s → AllTaken s ps t → AllTaken r (p ∷ ps) t

-- the joined record, channel by channel
unfoldable pub joined : List Piece → Piece
joined [] = record { roll = []; acceleration = [] }
joined (p ∷ ps) = record { roll = p.roll ++ (joined ps).roll; acceleration = p.acceleration ++ (joined ps).acceleration }

-- its samples
abbrev pub samples_of : Piece → List Moment
samples_of p = moments p.roll p.acceleration

-- both slices are cut at the same places
pub data Even : List Piece → Type 0 where
  none : Even []
  more : {p : Piece} {ps : List Piece} → length p.roll ≡ length p.acceleration → Even ps → Even (p ∷ ps)
