-- What the private steps promise one another. Assumes nothing.
use Rattle.std.specs.Prelude.{ℕ, min, List, ℤ, length, take, Result, Ok, Err}
use Rattle.peak_stream.specs.declared.Handing.{Handing}
use Rattle.reach_files.specs.declared.Kept.{Kept}
use Rattle.reach_files.specs.Gathering.{counted_to, put_from, kept_by, list_by}
use Rattle.refusal.specs.declared.Refusal.{Refusal}

-- with an answer after a block: so many of the sizes go into the list
abbrev pub kept_with : Result (Handing × ℕ) Refusal → ℕ → List ℕ → Kept
kept_with (Ok (h, k)) peaks sizes =
    record { handed = Ok (h, k); peaks = counted_to peaks (length (take (min k (length sizes)) sizes)) }
kept_with (Err f) peaks sizes = record { handed = Err f; peaks = peaks }

abbrev pub list_with : Result (Handing × ℕ) Refusal → ℕ → List ℕ → List ℕ → List ℕ
list_with (Ok (h, k)) peaks sizes list = put_from peaks (take (min k (length sizes)) sizes) list
list_with (Err f) peaks sizes list = list

-- a pass that goes on
abbrev pub kept_on : ℕ → ℕ → Handing → ℕ → List ℤ → Kept
kept_on R lines h peaks xs = kept_by R lines (record { handed = Ok (h, 0); peaks = peaks }) xs

abbrev pub list_on : ℕ → ℕ → Handing → ℕ → List ℤ → List ℕ → List ℕ
list_on R lines h peaks xs list = list_by R lines (record { handed = Ok (h, 0); peaks = peaks }) xs list
