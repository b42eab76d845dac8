-- `sheet_after::take_up` meets its contract: an item, or what the sheet's reader of records says (`up_same`). Assumes
-- nothing.
use mathlib.Core.Path.{◌≡◌, refl, sym, ap, ◌∙◌}
use Prim.Native.Nat.{ℕ}
use mathlib.Core.List.{List}
use lib.IntN.{ℤ}
use lib.ListN.{length}
use borrow.Author.Tests.{eq-eqb, ne_eqb}
use Rattle.refusal.specs.declared.Refusal.TheVariants.{Item}
use Rattle.sample_items.specs.Limits.{item_outside}
use Rattle.sheet_records.specs.Records.{filled_by, records_of, resuming}
use Rattle.sheet_after.specs.Taking.{taking_up, taken_left, up_by, up_of}
use Rattle.sheet_after.proofs.Old.{up_same}
use Rattle.sheet_after.proofs.take_up.Goals as goal
use Rattle.refusal.specs.declared.Refusal.{Refusal}
use Rattle.std.specs.Prelude.{Result, Err}

told : (s : List ℕ) (places : List ℤ) {r : (Result (ℕ × ℕ) (ℕ × ℕ × Refusal))} {later : List ℤ} {a : (Result (ℕ × ℕ × ℕ) (ℕ × ℕ × Refusal))} → r ≡ resuming s (length places)
    → later ≡ filled_by r (records_of s) places → a ≡ up_by r later
    → (a ≡ up_of (resuming s (length places)) s) × (later ≡ filled_by (resuming s (length places)) (records_of s) places)
told s places {r} {later} e f g =
    let left = f ∙ ap (λ x. filled_by x (records_of s) places) e in
    (g ∙ ap (up_by r) left ∙ ap (λ x. up_by x (filled_by (resuming s (length places)) (records_of s) places)) e ∙ up_same s places, left)

pub returns-then-item-ne0 : goal.returns-then-item-ne0
unfolding taking_up taken_left
returns-then-item-ne0 c =
    let a = c.args in
    let is = c.item_outside-item.ensures in
    rw (ne_eqb (item_outside a.items) 0 (λ z. c.if-item-ne0.true (is ∙ z))) (record { value = ap (λ n. Err (0, 0, Item n)) is; records_after = refl })

pub returns : goal.returns
unfolding taking_up taken_left
returns c =
    let a = c.args in
    rw (eq-eqb (item_outside a.items) 0 (sym c.item_outside-item.ensures ∙ c.if-item-ne0.false))
    (let whole = told a.sheet.now a.records.now c.records-r.ensures.value c.records-r.ensures.places_after c.by_reading.ensures in record { value = whole.0; records_after = whole.1 })
