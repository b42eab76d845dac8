-- What a list is like that 17 is not given for: its peaks are from 1 to 1,000,000 and lie downwards. Assumes nothing.
use mathlib.Core.Path.{◌≡◌, refl}
use mathlib.Core.Bool.{Bool, true, false, cond}
use mathlib.Core.List.{List, [], ◌∷◌}
use Prim.Native.Nat.{ℕ, zero, suc, ◌+◌, ◌≤◌, ◌<◌}
use native.Mathlib.Nat.{le_of_suc-le-suc, le_trans}
use native.Mathlib.Numerals.{add-one}
use native.Mathlib.Omega.{arith}
use borrow.Author.Tests.{leb-true}
use lib.Dec.{leb}
use lib.ListN.{drop, get_or, length}
use lib.Seq.{drop-cons}
use Rattle.truth.proofs.Laws.{and-true}
use Rattle.sample_items.specs.Limits.{within}
use Rattle.sorting.specs.Sorting.{Downwards}
use Rattle.peak_reach.specs.Answers.{first_out_after}

pub inside : (low high x : ℕ) → within low high x ≡ true → (low ≤ x) × (x ≤ high)
inside low high x e = let (a, b) = and-true (leb low x) (leb x high) e in (leb-true _ _ a, leb-true _ _ b)

-- the first value is in its place, and so are the others after it
first_in : (b y : ℕ) (ys : List ℕ) → suc (length ys) ≤ first_out_after b (y ∷ ys) → (within 1 b y ≡ true) × (length ys ≤ first_out_after y ys)
unfolding first_out_after
first_in b y ys h = go (within 1 b y) refl h
  where
    go : (t : Bool) → within 1 b y ≡ t → suc (length ys) ≤ cond t (suc (first_out_after y ys)) 0 → (within 1 b y ≡ true) × (length ys ≤ first_out_after y ys)
    go true e l = (e, le_of_suc-le-suc l)
    go false e l = absurd (omega arith)

pub in_range : (b : ℕ) (ys : List ℕ) → length ys ≤ first_out_after b ys → (i : ℕ) → i < length ys → (1 ≤ get_or ys i 0) × (get_or ys i 0 ≤ b)
in_range b [] h i l = absurd (omega arith)
in_range b (y ∷ ys) h zero l = inside 1 b y (first_in b y ys h).0
in_range b (y ∷ ys) h (suc i) l =
    let (e, k) = first_in b y ys h in
    let (low, high) = in_range y ys k i (le_of_suc-le-suc l) in
    (low, le_trans high (inside 1 b y e).1)

pub lies_downwards : (b : ℕ) (ys : List ℕ) → length ys ≤ first_out_after b ys → Downwards ys
lies_downwards b [] h i j less l = absurd (omega arith)
lies_downwards b (y ∷ ys) h zero zero less l = absurd (omega arith)
lies_downwards b (y ∷ ys) h zero (suc j) less l = (in_range y ys (first_in b y ys h).1 j (le_of_suc-le-suc l)).1
lies_downwards b (y ∷ ys) h (suc i) zero less l = absurd (omega arith)
lies_downwards b (y ∷ ys) h (suc i) (suc j) less l =
    lies_downwards y ys (first_in b y ys h).1 i j (le_of_suc-le-suc less) (le_of_suc-le-suc l)

-- the search, place by place
module _ (p : List ℕ) (b i : ℕ) (h : i < length p) where
  pub out_at : within 1 b (get_or p i 0) ≡ false → first_out_after b (drop i p) ≡ 0
  unfolding first_out_after
  out_at e = rw (drop-cons p i 0 h, e)

  pub in_at : within 1 b (get_or p i 0) ≡ true → first_out_after b (drop i p) ≡ suc (first_out_after (get_or p i 0) (drop (i + 1) p))
  unfolding first_out_after
  in_at e = rw (add-one, drop-cons p i 0 h, e)
