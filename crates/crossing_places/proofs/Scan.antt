-- The crossings met one by one (`places_from`) are those that pass the test on the whole list. Assumes nothing.
use Prim.Native.Nat.{ℕ, ◌+◌, ◌-◌}
use mathlib.Core.Path.{◌≡◌, refl, sym, ap, ◌∙◌}
use mathlib.Core.Bool.{Bool, true, false, cond, ◌&&◌}
use mathlib.Core.List.{List, [], ◌∷◌}
use native.Mathlib.Nat.{add-zero}
use native.Mathlib.Omega.{arith}
use lib.ListN.{length, drop}
use lib.Seq.{get_or-drop, drop-drop}
use lib.Dec.{ltb}
use borrow.Author.Tests.{ltb-true}
use Rattle.sample_channels.specs.declared.Levels.{Levels}
use Rattle.sample_channels.specs.declared.Moment.{Moment}
use Rattle.sample_channels.specs.Channels.{still}
use Rattle.crossing_places.specs.Reading.{sample_at, rises, crosses_at, passing, crossings}

-- the crossings among the samples that follow `before`, the first of which is sample i
unfoldable pub places_from : ℕ → Levels → ℕ → Moment → List Moment → List ℕ
places_from R a i before [] = []
places_from R a i before (x ∷ xs) =
    cond (ltb R i && rises a before x) (i ∷ places_from R a (i + 1) x xs) (places_from R a (i + 1) x xs)

-- what is tested one by one is what is tested on the whole list
test_same : (b : Bool) (a : Levels) (p q x y : Moment) → (b ≡ true → p ≡ q) → x ≡ y → (b && rises a p x) ≡ (b && rises a q y)
test_same false a p q x y h e = refl
test_same true a p q x y h e = rw (h refl, e)

module _ (R : ℕ) (a : Levels) (w : List Moment) where
  pub scan : (k : ℕ) (before : Moment) (xs : List Moment) → drop k w ≡ xs → (ltb R k ≡ true → before ≡ sample_at w (k - 1)) → places_from R a k before xs ≡ passing (crosses_at R a w) k (length xs)
  unfolding places_from passing
  scan k before [] e h = refl
  scan k before (x ∷ xs) e h =
      let y : x ≡ sample_at w k = sym (ap (λ (l : List Moment). sample_at l 0) e) ∙ get_or-drop k w 0 still ∙ ap (sample_at w) (add-zero k) in
      let d : drop (k + 1) w ≡ xs = sym (drop-drop 1 k w) ∙ ap (drop 1) e in
      let i = scan (k + 1) x xs d (λ t. y ∙ ap (sample_at w) (omega arith)) in
      rw (i, test_same (ltb R k) a before (sample_at w (k - 1)) x (sample_at w k) h y)

-- the crossings met one by one from a fresh record are those of the list
pub places_whole : (R : ℕ) (a : Levels) (xs : List Moment) → places_from R a 0 still xs ≡ crossings R a xs
places_whole R a xs = scan R a xs 0 still xs refl (λ t. absurd (omega (arith, ltb-true R 0 t)))
