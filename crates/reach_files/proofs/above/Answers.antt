use Prim.Native.Nat.{ℕ, ◌+◌, ◌≤◌}
use mathlib.Core.Path.{◌≡◌, sym, ap, ◌∙◌}
use mathlib.Core.Bool.{cond}
use mathlib.Core.List.{List, ◌∷◌}
use native.Mathlib.Nat.{add_assoc, add-zero}
use native.Mathlib.Numerals.{add-one}
use native.Mathlib.Omega.{arith}
use lib.Dec.{ltb}
use lib.ListN.{length, drop, drop_of_length-le, get_or}
use lib.Seq.{drop-cons}
use Rattle.reach_files.specs.Line.{above_level}
use Rattle.reach_files.proofs.above.Goals as goal

next : (level n i x : ℕ) (ys : List ℕ) → i ≤ length ys → x ≡ cond (ltb level (get_or ys i 0)) 1 0 → n + above_level level (drop i ys) ≡ above_level level ys
    → (drop i ys ≡ get_or ys i 0 ∷ drop (i + 1) ys) → n + x + above_level level (drop (i + 1) ys) ≡ above_level level ys
unfolding above_level
next level n i x ys h e inv d =
    add_assoc n x (above_level level (drop (i + 1) ys))
    ∙ ap (λ (m : ℕ). n + (m + above_level level (drop (i + 1) ys))) e
    ∙ ap (λ (l : List ℕ). n + above_level level l) (sym d)
    ∙ inv

done : (level n i : ℕ) (ys : List ℕ) → length ys ≤ i → n + above_level level (drop i ys) ≡ above_level level ys → n ≡ above_level level ys
unfolding above_level
done level n i ys h inv = sym (add-zero n) ∙ ap (λ (l : List ℕ). n + above_level level l) (sym (drop_of_length-le ys {i = i} h)) ∙ inv

pub loop-y-preserved : goal.loop-y-preserved
loop-y-preserved c =
    let l = c.loop-y in
    let a = c.args in
    let ys = a.ys.now in
    let h = c.loop-y-test.true in (
      omega (arith, h),
      omega (arith, l.invariant.1, c.is_above-n.ensures.upper_bound),
      next a.level l.n l.y-index c.is_above-n.result ys l.invariant.0 c.is_above-n.ensures.value l.invariant.2 (rw add-one (drop-cons ys l.y-index 0 h)),
    )

pub returns : goal.returns
returns c =
    let l = c.loop-y in
    let a = c.args in
    done a.level l.n l.y-index a.ys.now c.loop-y-test.false l.invariant.2
