-- What is seen of a table, place by place. That it comes to the figures of the table's relations is proofs/Found.
-- Assumes nothing.
use Rattle.std.specs.Prelude.{cond, false, true, ◌&&◌, ◌||◌, List, [], ◌∷◌, ℕ, suc, ◌+◌, eqb, ltb}
use Rattle.bureau_table.specs.declared.Place.{Place}
use Rattle.bureau_table.specs.Table.{most_jobs, place_kept}
use Rattle.bureau_survey.specs.declared.Seen.{Seen}

-- one more, up to 17
abbrev pub more : ℕ → ℕ
more c = cond (ltb most_jobs c) c (c + 1)

-- how many places are bureau b's
abbrev pub counted : ℕ → ℕ → Place → ℕ
counted c b p = cond (eqb p.owner b) (more c) c

abbrev pub unseen : Seen
unseen = record { whole = true; found = false; lowest = 0; first = 0; second = 0 }

abbrev pub surveyed : Seen → ℕ → Place → Seen
surveyed s i p =
    record {
      whole = s.whole && place_kept p;
      found = s.found || eqb p.owner 0;
      lowest = cond (eqb p.owner 0) (cond s.found s.lowest i) s.lowest;
      first = counted s.first 1 p;
      second = counted s.second 2 p;
    }

-- the places from number i on
unfoldable pub looked : Seen → ℕ → List Place → Seen
looked s i [] = s
looked s i (p ∷ ps) = looked (surveyed s i p) (suc i) ps
