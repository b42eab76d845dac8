-- What is told of a text that was written does not depend on the bytes that it left. Assumes nothing.
use Prim.Native.Nat.{ℕ}
use mathlib.Core.Path.{◌≡◌}
use mathlib.Core.List.{List, []}
use Rattle.capi.specs.Told.{told, write_told}
use Rattle.capi.proofs.Unique.{told_parts}
use Rattle.refusal.specs.declared.Refusal.{Refusal}
use Rattle.std.specs.Prelude.{Result, Ok, Err}

pub writing_told : (w : Result ℕ Refusal) (n v : ℕ) (out : List ℕ) → told n v [] ≡ write_told w [] → told n v out ≡ write_told w out
unfolding write_told
writing_told (Ok k) n v out e = let p = told_parts e in rw (p.0, p.1)
writing_told (Err f) n v out e = let p = told_parts e in rw (p.0, p.1)
