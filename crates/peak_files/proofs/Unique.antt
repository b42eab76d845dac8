-- Two answers that a promise allows are the same answer, with the same bytes left. Assumes nothing.
use Prim.Native.Nat.{ℕ}
use mathlib.Core.Path.{◌≡◌, sym, ◌∙◌}
use mathlib.Core.Bool.{Bool}
use mathlib.Core.List.{List}
use lib.ListN.{length}
use Rattle.truth.proofs.Unique.{settled}
use Rattle.desk_line.specs.declared.Finished.{Finished}
use Rattle.desk_line.specs.Said.{putting, put_left}
use Rattle.peak_files.specs.declared.Pass.{Pass}
use Rattle.peak_files.specs.declared.Took.{Took}
use Rattle.peak_files.specs.Said.{items_said}
use Rattle.peak_files.specs.Passing.{opening, again, calling, Calls, judged, finishing}

pub judge_items_unique : (D R τ : ℕ) (out : List ℕ) (f g : Finished) → f ≡ putting (items_said D R τ) out → g ≡ putting (items_said D R τ) out → f ≡ g
judge_items_unique D R τ out f g = settled

pub judge_items_left_unique : (D R τ : ℕ) (out l m : List ℕ) → l ≡ put_left (items_said D R τ) out → m ≡ put_left (items_said D R τ) out → l ≡ m
judge_items_left_unique D R τ out l m = settled

pub open_unique : (D R file : ℕ) (p q : Pass) → p ≡ opening D R file → q ≡ opening D R file → p ≡ q
open_unique D R file p q = settled

pub again_unique : (p : Pass) (τ : ℕ) (q r : Pass) → q ≡ again p τ → r ≡ again p τ → q ≡ r
again_unique p τ q r = settled

pub take_unique : (p : Pass) (text : List ℕ) (more : Bool) (out : List ℕ) (t u : Took) (l m : List ℕ)
    → Calls (calling p text more (length out)) out t l → Calls (calling p text more (length out)) out u m → (t ≡ u) × (l ≡ m)
take_unique p text more out t u l m x y =
    let q = x.pass_is ∙ sym y.pass_is in
    let a = x.used_is ∙ sym y.used_is in
    let b = x.put_is ∙ sym y.put_is in
    ((λ i. record { pass = q i; used = a i; put = b i }), x.left ∙ sym y.left)

pub judge_unique : (p : Pass) (out : List ℕ) (f g : Finished) → f ≡ putting (judged p) out → g ≡ putting (judged p) out → f ≡ g
judge_unique p out f g = settled

pub judge_left_unique : (p : Pass) (out l m : List ℕ) → l ≡ put_left (judged p) out → m ≡ put_left (judged p) out → l ≡ m
judge_left_unique p out l m = settled

pub finish_unique : (a b : Pass) (out : List ℕ) (f g : Finished) → f ≡ putting (finishing a b) out → g ≡ putting (finishing a b) out → f ≡ g
finish_unique a b out f g = settled

pub finish_left_unique : (a b : Pass) (out l m : List ℕ) → l ≡ put_left (finishing a b) out → m ≡ put_left (finishing a b) out → l ≡ m
finish_left_unique a b out l m = settled
