-- `desk_line::put_refused` meets its contract. The invariant: of the refused line the numbers of the places from here on
-- and the reason are left to write. Assumes nothing.
use lib.ListN.{drop}
use Rattle.refusal.specs.Numbers.{number_of, value_of}
use Rattle.text.proofs.Parts.{Left}
use Rattle.desk_line.specs.Said.{why_text, places_then, refused_line}
use Rattle.desk_line.proofs.put_refused.Given as goal

abbrev pub invariant-loop-place : goal.invariant-loop-place
invariant-loop-place l =
    Left l.fn.out 0 (refused_line l.places l.fn.r) (places_then (drop l.place-index l.places) (why_text (number_of l.fn.r) (value_of l.fn.r))) l.out l.at
