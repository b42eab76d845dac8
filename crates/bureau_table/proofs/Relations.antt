-- The table's relations as facts: what the test `kept` finds (`kept_from`, `kept_to`), what they say of one place, and
-- when a store keeps them. Assumes nothing.
use mathlib.Core.Path.{◌≡◌, sym, ap, ◌∙◌}
use mathlib.Core.Bool.{false, not, true}
use mathlib.Core.List.{List}
use Prim.Native.Nat.{ℕ, ◌+◌, ◌≤◌, ◌<◌}
use native.Mathlib.Omega.{arith}
use lib.Dec.{eqb, leb}
use lib.ListN.{get_or-eq_default, length, length-set, set}
use borrow.Author.Tests.{eq-eqb, eqb-true, le-leb, leb-true, ne_eqb, not-true}
use Rattle.truth.proofs.Cases.{by_order, by_test}
use Rattle.truth.proofs.Laws.{and-true, both_true, true≢false}
use Rattle.campaign_state.specs.declared.Campaign.{Campaign}
use Rattle.campaign_state.specs.State.{sound}
use Rattle.bureau_table.specs.declared.Place.{Place}
use Rattle.bureau_table.specs.Table.{all_kept, at, free, is_bureau, jobs, kept, one, owned, place_kept, zeros}
use Rattle.bureau_table.proofs.Places.{all_set, jobs_set}

pub record Kept (t : List Place) : Type 0 where
  pub long : length t ≡ 32
  pub all : all_kept t ≡ true
  pub first : jobs 1 t ≤ 16
  pub second : jobs 2 t ≤ 16

pub kept_from : (t : List Place) → kept t ≡ true → Kept t
unfolding kept
kept_from t e =
    let a = and-true (eqb (length t) 32) _ e in
    let b = and-true (all_kept t) _ a.1 in
    let c = and-true (leb (jobs 1 t) 16) _ b.1 in
    record { long = eqb-true _ _ a.0; all = b.0; first = leb-true _ _ c.0; second = leb-true _ _ c.1 }

pub kept_to : (t : List Place) → Kept t → kept t ≡ true
unfolding kept
kept_to t k =
    both_true (eq-eqb (length t) 32 k.long)
    (both_true k.all (both_true (le-leb (jobs 1 t) 16 k.first) (le-leb (jobs 2 t) 16 k.second)))

-- ---- a bureau
pub bureau_is : (b : ℕ) {P : Type 0} → is_bureau b ≡ true → (b ≡ 1 → P) → (b ≡ 2 → P) → P
bureau_is b e f g =
    by_test (eqb b 1) (λ h. f (eqb-true b 1 h))
    (λ h. by_test (eqb b 2) (λ h₂. g (eqb-true b 2 h₂)) (λ h₂. let z : false ≡ true = rw (h, h₂) at e in absurd (true≢false (sym z))))

pub not_none : (b : ℕ) → is_bureau b ≡ true → ¬ (b ≡ 0)
not_none b e z = bureau_is b e (λ h. omega arith) (λ h. omega arith)

-- ---- one place
-- a bureau's place is in the table
pub own_inside : (t : List Place) (b i : ℕ) → is_bureau b ≡ true → (at t i).owner ≡ b → i < length t
own_inside t b i e o =
    by_order i (length t) (λ l. l)
    (λ h. absurd (not_none b e (sym o ∙ ap (λ (p : Place). p.owner) (get_or-eq_default t free h))))

-- a bureau's place holds a campaign that keeps the relations
pub owned_sound : (p : Place) (b : ℕ) → is_bureau b ≡ true → p.owner ≡ b → place_kept p ≡ true → sound p.campaign ≡ true
owned_sound p b e o k =
    let n : ¬ (p.owner ≡ 0) = λ z. not_none b e (sym o ∙ z) in
    (and-true (is_bureau p.owner) _ (rw (ne_eqb p.owner 0 n) at k)).1

pub owned_kept : (b : ℕ) (c : Campaign) → is_bureau b ≡ true → sound c ≡ true → place_kept (owned b c) ≡ true
owned_kept b c e s = rw (ne_eqb b 0 (not_none b e), e, s)

all_zero : (p : Place) → p.owner ≡ 0 → p.campaign.standard ≡ 0 → p.campaign.records ≡ 0 → p.campaign.failures ≡ 0 → p.campaign.exposure ≡ 0 → p.campaign.failed ≡ false → p ≡ free
all_zero p o s r n x f = λ i. record { owner = o i; campaign = record { standard = s i; records = r i; failures = n i; exposure = x i; failed = f i } }

-- a place that no bureau owns is all zeros
pub free_is : (p : Place) → place_kept p ≡ true → p.owner ≡ 0 → p ≡ free
free_is p k o =
    let c = p.campaign in
    let z : zeros c ≡ true = rw (eq-eqb p.owner 0 o) at k in
    let a = and-true (eqb c.standard 0) _ z in
    let b = and-true (eqb c.records 0) _ a.1 in
    let d = and-true (eqb c.failures 0) _ b.1 in
    let e = and-true (eqb c.exposure 0) (not c.failed) d.1 in
    all_zero p o (eqb-true _ _ a.0) (eqb-true _ _ b.0) (eqb-true _ _ d.0) (eqb-true _ _ e.0) (not-true c.failed e.1)

-- ---- a store
module _ (t : List Place) (i : ℕ) (p : Place) (k : Kept t) (l : i < length t) where
  pub set_kept : place_kept p ≡ true → jobs 1 t + one 1 p ≤ 16 + one 1 (at t i) → jobs 2 t + one 2 p ≤ 16 + one 2 (at t i) → Kept (set t i p)
  set_kept h f g =
      record {
        long = length-set t i p ∙ k.long;
        all = all_set t i p k.all h;
        first = omega (arith, jobs_set 1 t i p l);
        second = omega (arith, jobs_set 2 t i p l);
      }
