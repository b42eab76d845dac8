-- `peak_files::judge_items` meets its contract: without room nothing is written, and with it the refused line or nothing. Assumes nothing.
use mathlib.Core.Path.{◌≡◌, refl, sym, ap, ◌∙◌}
use Rattle.desk_line.specs.Said.{refused}
use Rattle.desk_line.proofs.Put.{puts_same, with_room, finished, without}
use Rattle.peak_files.proofs.Put.{puts_none}
use borrow.Author.Tests.{eq-eqb, ne_eqb}
use mathlib.Core.List.{[], ◌∷◌}
use Prim.Native.Nat.{ℕ}
use Rattle.refusal.specs.declared.Refusal.TheVariants.{Item}
use Rattle.sample_items.specs.Limits.{item_outside}
use Rattle.peak_files.specs.Said.{nothing, searched, items_said}
use Rattle.peak_files.proofs.judge_items.Goals as goal

none_out : (D R τ item : ℕ) → item ≡ item_outside (searched D R τ) → item ≡ 0 → nothing ≡ items_said D R τ
unfolding items_said
none_out D R τ item e z = rw (eq-eqb (item_outside (searched D R τ)) 0 (sym e ∙ z))

some_out : (D R τ item : ℕ) → item ≡ item_outside (searched D R τ) → (item ≡ 0 → ⊥) → refused (0 ∷ []) (Item item) ≡ items_said D R τ
unfolding items_said
some_out D R τ item e z = rw (ne_eqb (item_outside (searched D R τ)) 0 (λ y. z (e ∙ y))) (ap (λ n. refused (0 ∷ []) (Item n)) e)

pub returns-then-out-lt-LONGEST_LINE : goal.returns-then-out-lt-LONGEST_LINE
returns-then-out-lt-LONGEST_LINE c =
    let whole = without (items_said c.args.step c.args.ramp c.args.decorrelation) c.args.out.now c.if-out-lt-LONGEST_LINE.true in record { value = whole.0; out_after = whole.1 }

pub returns-then-item-eq0 : goal.returns-then-item-eq0
returns-then-item-eq0 c =
    let a = c.args in
    let whole = finished (items_said a.step a.ramp a.decorrelation) c.if-out-lt-LONGEST_LINE.false
    (puts_same (none_out a.step a.ramp a.decorrelation _ c.item_outside-item.ensures c.if-item-eq0.true) (puts_none a.out.now nothing refl)) in record { value = whole.0; out_after = whole.1 }

pub returns : goal.returns
returns c =
    let a = c.args in
    let room = c.if-out-lt-LONGEST_LINE.false in
    let whole = finished (items_said a.step a.ramp a.decorrelation) room
    (puts_same (some_out a.step a.ramp a.decorrelation _ c.item_outside-item.ensures c.if-item-eq0.false)
    (with_room (refused (0 ∷ []) (Item c.item_outside-item.result)) room c.refuse.ensures.value c.refuse.ensures.out_after)) in record { value = whole.0; out_after = whole.1 }
