-- Two answers that a promise allows are the same answer, and leave the same table: every promise of this crate equates
-- both with what a call is said to answer and leave. Assumes nothing.
use mathlib.Core.Path.{◌≡◌}
use mathlib.Core.List.{List}
use Prim.Native.Nat.{ℕ}
use Rattle.bureau_table.specs.declared.Ask.{Ask}
use Rattle.bureau_table.specs.declared.Ask.TheVariants.{On, Take}
use Rattle.bureau_table.specs.declared.Place.{Place}
use Rattle.bureau_table.specs.declared.Work.TheVariants.{Enter, GiveBack, Judge, Rate}
use Rattle.bureau_table.specs.Calls.{called}
use Rattle.record_end.specs.declared.Outcome.{Outcome}
use Rattle.truth.proofs.Unique.{settled}
use Rattle.refusal.specs.declared.Refusal.{Refusal}
use Rattle.bureau_table.specs.declared.Reply.{Reply}
use Rattle.std.specs.Prelude.{Result}

-- what the promise says of an answer and the table afterwards
abbrev Says : List Place → ℕ → Ask → Result Reply Refusal → List Place → Type 0
Says t b a r u = (r ≡ (called t b a).answer) × (u ≡ (called t b a).table)

pub serve_unique : (t : List Place) (b : ℕ) (a : Ask) (r s : Result Reply Refusal) (u v : List Place) → Says t b a r u → Says t b a s v → (r ≡ s) × (u ≡ v)
serve_unique t b a r s u v p q = (settled p.0 q.0, settled p.1 q.1)

pub take_unique : (t : List Place) (b q : ℕ) (r s : Result Reply Refusal) (u v : List Place) → Says t b (Take q) r u → Says t b (Take q) s v → (r ≡ s) × (u ≡ v)
take_unique t b q = serve_unique t b (Take q)

pub enter_unique : (t : List Place) (b i : ℕ) (o : Outcome) (r s : Result Reply Refusal) (u v : List Place) → Says t b (On i (Enter o)) r u → Says t b (On i (Enter o)) s v → (r ≡ s) × (u ≡ v)
enter_unique t b i o = serve_unique t b (On i (Enter o))

pub verdict_unique : (t : List Place) (b i : ℕ) (r s : Result Reply Refusal) (u v : List Place) → Says t b (On i Judge) r u → Says t b (On i Judge) s v → (r ≡ s) × (u ≡ v)
verdict_unique t b i = serve_unique t b (On i Judge)

pub rates_unique : (t : List Place) (b i : ℕ) (r s : Result Reply Refusal) (u v : List Place) → Says t b (On i Rate) r u → Says t b (On i Rate) s v → (r ≡ s) × (u ≡ v)
rates_unique t b i = serve_unique t b (On i Rate)

pub give_back_unique : (t : List Place) (b i : ℕ) (r s : Result Reply Refusal) (u v : List Place) → Says t b (On i GiveBack) r u → Says t b (On i GiveBack) s v → (r ≡ s) × (u ≡ v)
give_back_unique t b i = serve_unique t b (On i GiveBack)

-- of a table by value
pub lent_unique : (t : List Place) (b : ℕ) (a : Ask) (r s : Result Reply Refusal) (u v : List Place) → Says t b a r u → Says t b a s v → (r ≡ s) × (u ≡ v)
lent_unique = serve_unique
