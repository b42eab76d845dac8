-- Rows and the campaigns that they stand for: one row more, and what more than 64 of them come to. Assumes nothing.
use Prim.Native.Nat.{ℕ, ◌+◌, ◌<◌}
use mathlib.Core.Path.{◌≡◌, refl, ap}
use mathlib.Core.Bool.{false, ◌&&◌}
use mathlib.Core.List.{List, [], ◌∷◌, ◌++◌}
use native.Mathlib.Numerals.{add-one}
use lib.Dec.{leb}
use lib.ListN.{get_or, length, set, take}
use lib.Seq.{take-suc, take-suc-set}
use borrow.Author.Tests.{lt-leb}
use Rattle.truth.proofs.Cases.{by_test}
use Rattle.refusal.specs.declared.Refusal.TheVariants.{Situations}
use Rattle.campaign_state.specs.declared.Campaign.{Campaign}
use Rattle.campaign_condition.specs.Answers.{judging}
use Rattle.campaign_report.specs.Answers.{writing_report}
use Rattle.capi.specs.Numbers.{campaign_of}
use Rattle.capi_condition.specs.Told.{campaigns_of}
use Rattle.std.specs.Prelude.{Err}

map_join : (xs ys : List (List ℕ)) → campaigns_of (xs ++ ys) ≡ campaigns_of xs ++ campaigns_of ys
map_join [] ys = refl
map_join (x ∷ xs) ys = ap (λ (l : List Campaign). campaign_of x ∷ l) (map_join xs ys)

-- a row more, stored in its place
pub row_more : (rows : List (List ℕ)) (all : List Campaign) (i : ℕ) (d : List ℕ) → i < length rows → i < length all → take i all ≡ campaigns_of (take i rows)
    → take (i + 1) (set all i (campaign_of (get_or rows i d))) ≡ campaigns_of (take (i + 1) rows)
row_more rows all i d h k e =
    rw (add-one, take-suc-set all i (campaign_of (get_or rows i d)) k, take-suc rows i d h, map_join, e)

-- ---- more than 64
module _ (n : ℕ) (cs : List Campaign) (many : 64 < n) where
  pub many_refused : judging n cs ≡ Err Situations
  unfolding judging
  many_refused = rw (lt-leb n 64 many, below n)
    where
      below : (k : ℕ) → (leb 1 k && false) ≡ false
      below k = by_test (leb 1 k) (λ e. rw e) (λ e. rw e)

  pub many_declined : (out : List ℕ) → writing_report n cs out ≡ Err Situations
  unfolding writing_report
  many_declined out = rw many_refused
