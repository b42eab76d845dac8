-- The table by name: row i stands for e ^ (2 ^ i / 2 ^ 20), with so many times 2 ^ shift / 2 ^ 31. That each row meets
-- its rule is the theorem `rows`. Assumes nothing.
use Rattle.std.specs.Prelude.{List, [], ◌∷◌, ℕ}

unfoldable pub mantissas : List ℕ
mantissas =
    2147485696 ∷ 2147487744 ∷ 2147491840 ∷ 2147500032 ∷ 2147516416 ∷ 2147549185 ∷ 2147614724 ∷ 2147745808 ∷
    2148008000 ∷ 2148532480 ∷ 2149581824 ∷ 2151682050 ∷ 2155888661 ∷ 2164326571 ∷ 2181301594 ∷ 2215652096 ∷
    2285984443 ∷ 2433417773 ∷ 2757423585 ∷ 3540601968 ∷ 2918732888 ∷ 3966969286 ∷ 3664019825 ∷ 3125761002 ∷
    2274844293 ∷ 2409758306 ∷ []

unfoldable pub shifts : List ℕ
shifts =
    0 ∷ 0 ∷ 0 ∷ 0 ∷ 0 ∷ 0 ∷ 0 ∷ 0 ∷ 0 ∷ 0 ∷ 0 ∷ 0 ∷ 0 ∷ 0 ∷ 0 ∷ 0 ∷ 0 ∷ 0 ∷ 0 ∷ 0 ∷ 1 ∷ 2 ∷ 5 ∷ 11 ∷ 23 ∷ 46 ∷ []
