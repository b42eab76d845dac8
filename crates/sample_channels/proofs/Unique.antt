-- Two answers that a promise allows are the same answer: each promise is an equation. Assumes nothing.
use Prim.Native.Nat.{ℕ, min}
use mathlib.Core.Path.{◌≡◌, sym, ◌∙◌}
use mathlib.Core.Bool.{Bool, ◌||◌}
use mathlib.Core.List.{List, map}
use lib.IntN.{ℤ}
use lib.ListN.{get_or, length}
use lib.Seq.{paste}
use Rattle.sample_block.specs.declared.Ends.{Ends}
use Rattle.sample_channels.specs.declared.Levels.{Levels}
use Rattle.sample_channels.specs.declared.Moment.{Moment}
use Rattle.sample_channels.specs.Channels.{still, above, moments, past_ends, outside_ends, any_above, looked}
use Rattle.refusal.specs.declared.Refusal.{Refusal}
use Rattle.std.specs.Prelude.{Result}

pub above_unique : (a : Levels) (z : Moment) (x y : Bool) → x ≡ above a z → y ≡ above a z → x ≡ y
above_unique a z x y e f = e ∙ sym f

pub past_unique : (a : Levels) (e f : Ends) (x y : Bool) → x ≡ (past_ends a.roll e || past_ends a.acceleration f) → y ≡ (past_ends a.roll e || past_ends a.acceleration f) → x ≡ y
past_unique a e f x y p q = p ∙ sym q

pub loud_unique : (a : Levels) (xs ys : List ℤ) (x y : Bool) → x ≡ any_above a xs ys → y ≡ any_above a xs ys → x ≡ y
loud_unique a xs ys x y e f = e ∙ sym f

pub outside_unique : (e f : Ends) (x y : Bool) → x ≡ (outside_ends e || outside_ends f) → y ≡ (outside_ends e || outside_ends f) → x ≡ y
outside_unique e f x y p q = p ∙ sym q

pub moment_at_unique : (xs ys : List ℤ) (i : ℕ) (x y : Moment) → x ≡ get_or (moments xs ys) i still → y ≡ get_or (moments xs ys) i still → x ≡ y
moment_at_unique xs ys i x y e f = e ∙ sym f

pub mark_unique : (a : Levels) (xs ys : List ℤ) (ups x y : List Bool) → x ≡ paste ups 0
    (map (above a) (moments xs ys)) (min (length ups) (length (moments xs ys))) → y ≡ paste ups 0
    (map (above a) (moments xs ys)) (min (length ups) (length (moments xs ys))) → x ≡ y
mark_unique a xs ys ups x y e f = e ∙ sym f

pub look_over_unique : (xs ys : List ℤ) (x y : Result (Unit {0}) Refusal) → x ≡ looked xs ys → y ≡ looked xs ys → x ≡ y
look_over_unique xs ys x y e f = e ∙ sym f
