-- What a high stretch with a peak that is not high on both sides is, said without the way it is found. Assumes nothing.
use Rattle.std.specs.Prelude.{◌≡◌, Bool, true, false, List, ◌∷◌, ◌++◌}
use Rattle.peak_groups.specs.declared.Peak.{Peak}
use Rattle.peak_groups.specs.Largest.{All}

-- g is a stretch of high peaks of l, with a peak that is not high on both sides
pub record Stands (high : Peak → Bool) (l g : List Peak) : Type 0 where
  pub before : List Peak
  pub first : Peak
  pub last : Peak
  pub after : List Peak
  pub is : l ≡ before ++ (first ∷ (g ++ (last ∷ after)))
  pub all_high : All (λ p. high p ≡ true) g
  pub low_before : high first ≡ false
  pub low_after : high last ≡ false
