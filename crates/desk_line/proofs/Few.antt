-- How long refused lines are: any has room in 128 bytes, since a number of 64 bits has at most 20 digits. Assumes
-- nothing.
use Prim.Native.Nat.{ℕ, suc, ◌+◌, ◌*◌, ◌≤◌, ◌<◌}
use mathlib.Core.List.{List, [], ◌∷◌}
use native.Mathlib.Omega.{arith}
use lib.Dec.{eqb}
use lib.ListN.{length, get_or, length-append}
use Rattle.truth.proofs.Cases.{by_test}
use Rattle.decimal.specs.Field.{tab, line_feed, field_text}
use Rattle.decimal.proofs.Text.{field_few}
use Rattle.refusal.specs.declared.Refusal.{Refusal}
use Rattle.refusal.specs.Numbers.{number_of, value_of}
use Rattle.refusal.proofs.Small.{number_small}
use Rattle.desk_line.specs.Said.{why_text, places_then, refused_line, longest_said}

-- what 64 bits hold
abbrev pub Small : ℕ → Type 0
Small v = v < 18446744073709551616

pub field_small : (v end : ℕ) → Small v → length (field_text v end) ≤ 21
field_small v end h = field_few v end 19 (omega arith)

why_few : (number value : ℕ) → number < 100 → Small value → length (why_text number value) ≤ 24
unfolding why_text
why_few number value h k =
    by_test (eqb number 1)
    (λ e. rw (e, length-append) (omega (arith, field_few number tab 1 h, field_small value line_feed k)))
    (λ e. rw e (omega (arith, field_few number line_feed 1 h)))

-- each place has a number of 64 bits
places_few : (places rest : List ℕ) → ((i : ℕ) → Small (get_or places i 0))
    → length (places_then places rest) ≤ 21 * length places + length rest
unfolding places_then
places_few [] rest h = omega arith
places_few (n ∷ places) rest h =
    let tail = places_few places rest (λ i. h (suc i)) in
    rw length-append (omega (arith, field_small n tab (h 0), tail))

pub refused_few : (places : List ℕ) (r : Refusal) → ((i : ℕ) → Small (get_or places i 0)) → length places ≤ 2 → Small (value_of r)
    → length (refused_line places r) ≤ longest_said
unfolding refused_line
refused_few places r h few k =
    let why = why_text (number_of r) (value_of r) in
    simp length-append (omega (arith, places_few places why h, why_few (number_of r) (value_of r) (number_small r) k))
