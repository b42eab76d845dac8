-- Document 02 [1]: a file that comes in pieces, from its start to its end. D is the job's step. Assumes nothing.
use Rattle.std.specs.Prelude.{ℕ, ◌+◌, ◌-◌, cond, List, [], ◌∷◌, ◌++◌, eqb, ℤ, length, drop, Result, Ok, Err}
use Rattle.refusal.specs.declared.Refusal.TheVariants.{Sample, CommaLine}
use Rattle.comma_line.specs.Text.{samples_of}
use Rattle.comma_stream.specs.declared.Follow.{Follow}
use Rattle.comma_stream.specs.Follow.{bytes_of, right_lines, after_lines}
use Rattle.refusal.specs.declared.Refusal.{Refusal}

-- where the reading stands, the samples that were taken, and the bytes that are left after them
pub record Passed : Type 0 where
  pub stands : Follow
  pub samples : List ℤ
  pub left : List ℕ

-- before the first piece
abbrev pub nothing : ℕ → Passed
nothing D = record { stands = record { step = D; lines = 0; outside = 0 }; samples = []; left = [] }

-- what is left goes before the next piece
abbrev pub with_piece : Passed → List ℕ → Passed
with_piece p piece =
    let more = right_lines p.stands (p.left ++ piece) in
    record { stands = after_lines p.stands more; samples = p.samples ++ samples_of more; left = drop (bytes_of more) (p.left ++ piece) }

unfoldable pub passing : Passed → List (List ℕ) → Passed
passing p [] = p
passing p (piece ∷ pieces) = passing (with_piece p piece) pieces

-- after the last piece: 10 for bytes that are no right line, 2 for a sample out of range, or the number of samples
unfoldable pub ending : Passed → Result ℕ Refusal
ending p =
    cond (eqb (length p.left) 0)
    (cond (eqb p.stands.outside 0) (Ok p.stands.lines) (Err (Sample (p.stands.outside - 1))))
    (Err (CommaLine (p.stands.lines + 1)))
