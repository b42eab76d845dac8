-- `peak_files::refuse_at` meets its contract: a file alone, or one among several. Assumes nothing.
use mathlib.Core.Path.{◌≡◌, ap, ◌∙◌}
use mathlib.Core.List.{[], ◌∷◌}
use borrow.Author.Tests.{eq-eqb, ne_eqb}
use Rattle.desk_line.specs.Said.{refused, putting, put_left}
use Rattle.peak_files.specs.Said.{places_of}
use Prim.Native.Nat.{ℕ}
use Rattle.peak_files.proofs.refuse_at.Goals as goal

alone : (file line : ℕ) → file ≡ 0 → line ∷ [] ≡ places_of file line
unfolding places_of
alone file line e = rw (eq-eqb file 0 e)

among : (file line : ℕ) → (file ≡ 0 → ⊥) → file ∷ line ∷ [] ≡ places_of file line
unfolding places_of
among file line e = rw (ne_eqb file 0 e)

pub returns-then-file-eq0 : goal.returns-then-file-eq0
returns-then-file-eq0 c =
    let a = c.args in
    let e = alone a.file a.line c.if-file-eq0.true in
    record { value = c.refuse.ensures.value ∙ ap (λ x. putting (refused x a.r) a.out.now) e; out_after = c.refuse.ensures.out_after ∙ ap (λ x. put_left (refused x a.r) a.out.now) e }

pub returns : goal.returns
returns c =
    let a = c.args in
    let e = among a.file a.line c.if-file-eq0.false in
    record { value = c.refuse_in.ensures.value ∙ ap (λ x. putting (refused x a.r) a.out.now) e; out_after = c.refuse_in.ensures.out_after ∙ ap (λ x. put_left (refused x a.r) a.out.now) e }
