-- `comma_stream::unended` meets its contract: no byte is an LF. Assumes nothing.
use Prim.Native.Nat.{ℕ}
use mathlib.Core.Path.{◌≡◌, refl, ◌∙◌}
use mathlib.Core.Bool.{Bool, not}
use mathlib.Core.List.{List, [], ◌∷◌}
use borrow.Author.Rules.{rules}
use lib.Dec.{eqb}
use Rattle.std.proofs.Common.{tests}
use Rattle.std.specs.List.{list_all}
use Rattle.std.proofs.lemmas.Iterator.{YieldsList-from_slice}
use Rattle.std.proofs.lemmas.Iterator.Search.{all_from_yields_List}
use Rattle.decimal.specs.Field.{line_feed}
use Rattle.comma_stream.specs.Follow.{unended}
use Rattle.comma_stream.proofs.unended.Goals as goal

abbrev other : ℕ → Bool
other b = not (eqb b line_feed)

others : (text : List ℕ) → list_all other text ≡ unended text
unfolding unended
others [] = refl
others (b ∷ text) = rw (others text)

pub returns : goal.returns
returns c =
    let text = c.args.text.now in
    all_from_yields_List other _ _ _ c.all.ensures.ran (YieldsList-from_slice text cc) (λ x b q k. search (rules, tests)) ∙ others text
