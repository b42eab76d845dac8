-- Two answers that a promise allows are the same answer, with the same later contents of everything that was lent.
-- Assumes nothing.
use Prim.Native.Nat.{ℕ}
use mathlib.Core.Path.{◌≡◌}
use mathlib.Core.List.{List}
use Rattle.truth.proofs.Unique.{settled}
use Rattle.capi.specs.Told.{Told}
use Rattle.capi_campaign.specs.Told.{campaign_entered, campaign_opened, campaign_result_entered}

pub campaign_open_unique : (q : ℕ) (s : List ℕ) (x y : Told) → x ≡ campaign_opened q s → y ≡ campaign_opened q s → x ≡ y
campaign_open_unique q s x y = settled

pub campaign_enter_unique : (s : List ℕ) (f t : ℕ) (x y : Told) → x ≡ campaign_entered s f t → y ≡ campaign_entered s f t → x ≡ y
campaign_enter_unique s f t x y = settled

pub campaign_enter_result_unique : (s r : List ℕ) (x y : Told) → x ≡ campaign_result_entered s r
    → y ≡ campaign_result_entered s r → x ≡ y
campaign_enter_result_unique s r x y = settled
