-- Document 02 [13], the case that it gives whole: document 01's campaign after two records, then an empty one. Assumes
-- nothing.
use Rattle.std.specs.Prelude.{ℕ, false, true, List, [], ◌∷◌}
use Rattle.campaign_state.specs.declared.Campaign.{Campaign}
use Rattle.campaign_state.specs.State.{empty, entered}

unfoldable pub two_situations : List Campaign
two_situations = entered (entered (empty 7200000) false 1800000) true 933980 ∷ empty 7200000 ∷ []

-- what is written of them, line by line
unfoldable pub their_report : List ℕ
their_report =
    49 ∷ 9 ∷ 49 ∷ 9 ∷ 49 ∷ 9 ∷ 50 ∷ 55 ∷ 51 ∷ 51 ∷ 57 ∷ 56 ∷ 48 ∷ 9 ∷ 67 ∷ 9 ∷ 49 ∷ 10 ∷
    50 ∷ 9 ∷ 48 ∷ 9 ∷ 48 ∷ 9 ∷ 48 ∷ 9 ∷ 69 ∷ 9 ∷ 48 ∷ 10 ∷
    116 ∷ 111 ∷ 116 ∷ 97 ∷ 108 ∷ 9 ∷ 50 ∷ 9 ∷ 49 ∷ 9 ∷ 50 ∷ 55 ∷ 51 ∷ 51 ∷ 57 ∷ 56 ∷ 48 ∷ 9 ∷ 49 ∷ 9 ∷ 79 ∷ 10 ∷ []

-- ---- a case with all letters: two situations that failed once, the first with a record after it, and an accepted one
abbrev accepting : Campaign
accepting = entered (entered (entered (empty 7200000) false 10000000) false 10000000) false 6559937

unfoldable pub three_situations : List Campaign
three_situations =
    entered (entered (empty 7200000) true 933980) false 1800000
    ∷ entered (empty 7200000) true 182282
    ∷ accepting
    ∷ []

-- 1 1 2 2733980 C 1; 2 1 1 182282 R 1; 3 0 1 26559937 A 0; total 6 2 29476199 2 R
unfoldable pub report_on_three : List ℕ
report_on_three =
    49 ∷ 9 ∷ 49 ∷ 9 ∷ 50 ∷ 9 ∷ 50 ∷ 55 ∷ 51 ∷ 51 ∷ 57 ∷ 56 ∷ 48 ∷ 9 ∷ 67 ∷ 9 ∷ 49 ∷ 10 ∷
    50 ∷ 9 ∷ 49 ∷ 9 ∷ 49 ∷ 9 ∷ 49 ∷ 56 ∷ 50 ∷ 50 ∷ 56 ∷ 50 ∷ 9 ∷ 82 ∷ 9 ∷ 49 ∷ 10 ∷
    51 ∷ 9 ∷ 48 ∷ 9 ∷ 49 ∷ 9 ∷ 50 ∷ 54 ∷ 53 ∷ 53 ∷ 57 ∷ 57 ∷ 51 ∷ 55 ∷ 9 ∷ 65 ∷ 9 ∷ 48 ∷ 10 ∷
    116 ∷ 111 ∷ 116 ∷ 97 ∷ 108 ∷ 9 ∷ 54 ∷ 9 ∷ 50 ∷ 9 ∷ 50 ∷ 57 ∷ 52 ∷ 55 ∷ 54 ∷ 49 ∷ 57 ∷ 57 ∷ 9 ∷ 50 ∷ 9 ∷ 82 ∷ 10 ∷ []

-- the third alone: 1 0 1 26559937 A 0; total 3 0 26559937 0 A
unfoldable pub third_alone : List Campaign
third_alone = accepting ∷ []

unfoldable pub report_on_third : List ℕ
report_on_third =
    49 ∷ 9 ∷ 48 ∷ 9 ∷ 49 ∷ 9 ∷ 50 ∷ 54 ∷ 53 ∷ 53 ∷ 57 ∷ 57 ∷ 51 ∷ 55 ∷ 9 ∷ 65 ∷ 9 ∷ 48 ∷ 10 ∷
    116 ∷ 111 ∷ 116 ∷ 97 ∷ 108 ∷ 9 ∷ 51 ∷ 9 ∷ 48 ∷ 9 ∷ 50 ∷ 54 ∷ 53 ∷ 53 ∷ 57 ∷ 57 ∷ 51 ∷ 55 ∷ 9 ∷ 48 ∷ 9 ∷ 65 ∷ 10 ∷ []
