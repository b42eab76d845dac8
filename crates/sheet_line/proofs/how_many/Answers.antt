-- `sheet_line::how_many` meets its contract: std's count of the bytes that are it. Assumes nothing.
use Prim.Native.Nat.{ℕ, suc, ◌+◌}
use mathlib.Core.Path.{◌≡◌, refl, sym, ap, ◌∙◌}
use mathlib.Core.Bool.{cond}
use mathlib.Core.List.{List}
use native.Mathlib.Omega.{arith}
use borrow.Author.Rules.{rules}
use lib.Dec.{eqb}
use Rattle.std.specs.Prelude.{count_by}
use Rattle.std.proofs.lemmas.List.Recursion.{is_count_by}
use Rattle.sheet_line.specs.Column.{how_many}
use Rattle.sheet_line.proofs.how_many.Goals as goal

counted : (byte : ℕ) (text : List ℕ) → how_many byte text ≡ count_by (λ b. eqb b byte) text
unfolding how_many
counted byte =
    is_count_by (how_many byte) (λ b. eqb b byte) refl
    (λ b text. let n = how_many byte text in ap (λ k. cond (eqb b byte) k n) (let e : suc n ≡ 1 + n = omega arith in e))

pub returns : goal.returns
returns c =
    let a = c.args in
    let count : c.count.result ≡ count_by (λ b. eqb b a.byte) a.text.now = search rules in
    count ∙ sym (counted a.byte a.text.now)
