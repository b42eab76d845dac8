-- Two answers that a promise allows are the same answer, with the same later contents of everything that was lent: each
-- promise says that they are the value of a definition at what was handed in. Assumes nothing.
use Prim.Native.Nat.{ℕ}
use mathlib.Core.Path.{◌≡◌, ap}
use mathlib.Core.Bool.{Bool, cond}
use mathlib.Core.List.{List, []}
use lib.Dec.{eqb}
use lib.ListN.{length}
use Rattle.truth.proofs.Unique.{settled}
use Rattle.refusal.specs.Numbers.{number_of, value_of}
use Rattle.refusal.specs.declared.Refusal.{Refusal}
use Rattle.refusal.specs.declared.Refusal.TheVariants.{BrokenState}
use Rattle.record_state.specs.declared.Record.{Record}
use Rattle.campaign_state.specs.declared.Campaign.{Campaign}
use Rattle.capi.specs.Numbers.{campaign_of, flag, record_of}
use Rattle.capi.specs.Told.{Told, campaign_kept, channel_in, in_places, placed, record_kept, result_kept, told, write_told}
use Rattle.record_end.specs.declared.RecordResult.{RecordResult}
use Rattle.std.specs.Prelude.{Result}

pub record_of_unique : (s : List ℕ) (x y : Record) → x ≡ record_of s → y ≡ record_of s → x ≡ y
record_of_unique s x y = settled

pub campaign_of_unique : (s : List ℕ) (x y : Campaign) → x ≡ campaign_of s → y ≡ campaign_of s → x ≡ y
campaign_of_unique s x y = settled

pub flag_unique : (b : Bool) (x y : ℕ) → x ≡ flag b → y ≡ flag b → x ≡ y
flag_unique b x y = settled

pub put_unique : (from to x y : List ℕ) → x ≡ placed from to → y ≡ placed from to → x ≡ y
put_unique from to x y = settled

pub give_unique : (k n m c d : ℕ) → (n ≡ 0) × (c ≡ k) → (m ≡ 0) × (d ≡ k) → (n ≡ m) × (c ≡ d)
give_unique k n m c d p q = (settled p.0 q.0, settled p.1 q.1)

pub refuse_unique : (f : Refusal) (n m c d : ℕ) → (n ≡ number_of f) × (c ≡ value_of f) → (m ≡ number_of f) × (d ≡ value_of f) → (n ≡ m) × (c ≡ d)
refuse_unique f n m c d p q = (settled p.0 q.0, settled p.1 q.1)

pub tell_writing_unique : (w : Result ℕ Refusal) (x y : Told) → x ≡ write_told w [] → y ≡ write_told w [] → x ≡ y
tell_writing_unique w x y = settled

pub channel_in_unique : (a : Result Record Refusal) (x y : ℕ) → x ≡ channel_in a → y ≡ channel_in a → x ≡ y
channel_in_unique a x y = settled

pub keep_unique : (numbers s : List ℕ) (x y : Told) → x ≡ in_places (length numbers) s (told 0 0 numbers)
    → y ≡ in_places (length numbers) s (told 0 0 numbers) → x ≡ y
keep_unique numbers s x y = settled

pub for_places_unique : (f : Refusal) (places lent : ℕ) (x y : Refusal) → x ≡ cond (eqb lent places) f BrokenState
    → y ≡ cond (eqb lent places) f BrokenState → x ≡ y
for_places_unique f places lent x y = settled

pub keep_record_unique : (a : Result Record Refusal) (s : List ℕ) (x y : Told) → x ≡ record_kept a s → y ≡ record_kept a s → x ≡ y
keep_record_unique a s x y = settled

pub keep_result_unique : (a : Result RecordResult Refusal) (s : List ℕ) (x y : Told) → x ≡ result_kept a s → y ≡ result_kept a s → x ≡ y
keep_result_unique a s x y = settled

pub keep_campaign_unique : (a : Result Campaign Refusal) (s : List ℕ) (x y : Told) → x ≡ campaign_kept a s → y ≡ campaign_kept a s → x ≡ y
keep_campaign_unique a s x y = settled

-- where they are the same together, each part is
pub told_parts : {n m c d : ℕ} {s t : List ℕ} → told n c s ≡ told m d t → (n ≡ m) × (c ≡ d) × (s ≡ t)
told_parts e = (ap (λ (x : Told). x.number) e, ap (λ (x : Told). x.carried) e, ap (λ (x : Told). x.lent) e)
