-- Numbers put into an array that has as many places stand there; and a refusal of an answer whose array has another
-- length is 8. Assumes nothing.
use Prim.Native.Nat.{ℕ}
use mathlib.Core.Path.{◌≡◌, refl}
use mathlib.Core.Bool.{Bool, cond, false, true}
use mathlib.Core.List.{List}
use borrow.Author.Tests.{eq-eqb}
use lib.Dec.{eqb}
use lib.ListN.{length}
use Rattle.refusal.specs.declared.Refusal.{Refusal}
use Rattle.refusal.specs.declared.Refusal.TheVariants.{BrokenState}
use Rattle.capi.specs.Told.{in_places, placed, refused}

pub placed_right : (from to : List ℕ) → length to ≡ length from → placed from to ≡ from
unfolding placed
placed_right from to e = rw (eq-eqb (length to) (length from) e)

pub refused_there : (f : Refusal) (places : ℕ) (s : List ℕ) → refused (cond (eqb (length s) places) f BrokenState) s ≡ in_places places s (refused f s)
refused_there f places s = go (eqb (length s) places)
  where
    go : (b : Bool) → refused (cond b f BrokenState) s ≡ cond b (refused f s) (refused BrokenState s)
    go true = refl
    go false = refl
