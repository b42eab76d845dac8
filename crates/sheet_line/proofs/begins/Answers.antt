-- `sheet_line::begins` meets its contract: std's test of a start. Assumes nothing.
use Prim.Native.Nat.{ℕ}
use mathlib.Core.Path.{◌≡◌, refl, sym, ◌∙◌}
use mathlib.Core.List.{List, [], ◌∷◌}
use borrow.Author.Tests.{eq-eqb, eqb-true, eqb-false, ne_eqb}
use lib.Dec.{eqb}
use Rattle.std.specs.List.{starts_with}
use Rattle.truth.proofs.Cases.{by_test}
use Rattle.sheet_line.specs.Form.{begins}
use Rattle.sheet_line.proofs.begins.Goals as goal

either_way : (b w : ℕ) → eqb b w ≡ eqb w b
either_way b w =
    by_test (eqb b w)
    (λ e. rw (e, eq-eqb w b (sym (eqb-true b w e))))
    (λ e. rw (e, ne_eqb w b (λ h. eqb-false b w e (sym h))))

started : (text word : List ℕ) → starts_with eqb text word ≡ begins word text
unfolding begins
started text [] = refl
started [] (w ∷ word) = refl
started (b ∷ text) (w ∷ word) = rw (either_way b w, started text word)

pub returns : goal.returns
returns c = c.starts_with.ensures.value ∙ started c.args.text.now c.args.word.now
