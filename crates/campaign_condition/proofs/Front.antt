-- A turn of a loop over the campaigns at the start of an array: what is left at i is the campaign at i and what is left
-- at i + 1; at the end nothing is left. Assumes nothing.
use Prim.Native.Nat.{ℕ, ◌+◌, ◌≤◌, ◌<◌}
use mathlib.Core.Path.{◌≡◌}
use mathlib.Core.List.{List, [], ◌∷◌}
use native.Mathlib.Numerals.{add-one}
use native.Mathlib.Omega.{arith}
use lib.ListN.{length, get_or, drop, take, drop_of_length-le}
use lib.Seq.{drop-cons, get_or-take, length-take-le}
use Rattle.campaign_state.specs.declared.Campaign.{Campaign}

module _ (all : List Campaign) (n : ℕ) (room : n ≤ length all) where
  pub front_next : (i : ℕ) (d : Campaign) → i < n → drop i (take n all) ≡ get_or all i d ∷ drop (i + 1) (take n all)
  front_next i d h =
      let inside : i < length (take n all) = omega (arith, length-take-le n all room) in
      rw (add-one, drop-cons (take n all) i d inside, get_or-take n all i d h)

  pub front_end : (i : ℕ) → n ≤ i → drop i (take n all) ≡ []
  front_end i h = drop_of_length-le (take n all) {i = i} (omega (arith, length-take-le n all room))
