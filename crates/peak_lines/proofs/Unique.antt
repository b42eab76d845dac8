-- Two answers that the promise allows are the same answer, and so are the bytes that it leaves. Assumes nothing.
use Prim.Native.Nat.{ℕ}
use mathlib.Core.Path.{◌≡◌, sym, ◌∙◌}
use mathlib.Core.List.{List}
use Rattle.peak_lines.specs.Lines.{lines_place, lines_left}

module _ (file : ℕ) (sizes times out : List ℕ) (at : ℕ) where
  pub lines_place_unique : (m n : ℕ) → m ≡ lines_place file sizes times out at → n ≡ lines_place file sizes times out at → m ≡ n
  lines_place_unique m n e f = e ∙ sym f

  pub lines_left_unique : (l m : List ℕ) → l ≡ lines_left file sizes times out at → m ≡ lines_left file sizes times out at → l ≡ m
  lines_left_unique l m e f = e ∙ sym f
