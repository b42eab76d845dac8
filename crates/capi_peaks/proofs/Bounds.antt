-- Samples in range keep a pass within the numbers that an array may hold: every peak in it is no larger than such a
-- sample and no later than a record may be long. Assumes nothing.
use Prim.Native.Nat.{ℕ, suc, zero, ◌+◌, ◌*◌, ◌≤◌}
use mathlib.Core.Path.{◌≡◌, refl, ◌∙◌}
use mathlib.Core.Bool.{Bool, cond, false, true, ◌&&◌}
use mathlib.Core.List.{List, [], ◌∷◌, ◌++◌, foldl}
use native.Mathlib.Omega.{arith}
use lib.Dec.{ltb}
use lib.IntN.{ℤ, nat_abs}
use lib.ListN.{drop, length}
use borrow.Author.Tests.{le-leb, le-ltb, leb-true}
use Rattle.sample_range.specs.Range.{first_bad, sample_in_range}
use Rattle.sample_items.specs.Limits.{most_in_range}
use Rattle.peak_groups.specs.declared.Group.{Group}
use Rattle.peak_groups.specs.declared.Peak.{Peak}
use Rattle.peak_groups.specs.Groups.{larger}
use Rattle.peak_groups.specs.Machine.{gave, turned}
use Rattle.peak_groups.specs.Peaks.{high}
use Rattle.peak_machine.specs.declared.Envelope.{Envelope}
use Rattle.peak_machine.specs.Step.{chained, met, stepped}
use Rattle.peak_stream.proofs.Bounds.{soon}
use Rattle.peak_stream.proofs.Passing.{read_grows}
use Rattle.peak_stream.specs.declared.Handing.{Handing}
use Rattle.peak_stream.specs.declared.Reading.{Reading}
use Rattle.peak_stream.specs.declared.Surveying.{Surveying}
use Rattle.peak_stream.specs.Hands.{moved}
use Rattle.peak_stream.specs.Reading.{closes, grown, here, read, stays, waits}
use Rattle.peak_stream.specs.Survey.{Small, surveyed}

abbrev pub Within : Peak → Type 0
Within p = (p.size ≤ 1000000) × (p.time ≤ 10000000)

-- ---- samples in range
abbrev pub InRange : List ℤ → Type 0
InRange [] = Unit {0}
InRange (x ∷ xs) = (nat_abs x ≤ 1000000) × InRange xs

pub range_drop : (k : ℕ) (xs : List ℤ) → InRange xs → InRange (drop k xs)
range_drop zero xs g = g
range_drop (suc k) [] g = tt
range_drop (suc k) (x ∷ xs) g = range_drop k xs g.1

pub range_small : (xs : List ℤ) → InRange xs → Small xs
range_small [] g = tt
range_small (x ∷ xs) g = (omega (arith, g.0), range_small xs g.1)

pub range_left : (xs ys : List ℤ) → InRange (xs ++ ys) → InRange xs
range_left [] ys g = tt
range_left (x ∷ xs) ys g = (g.0, range_left xs ys g.1)

pub range_right : (xs ys : List ℤ) → InRange (xs ++ ys) → InRange ys
range_right [] ys g = g
range_right (x ∷ xs) ys g = range_right xs ys g.1

first_good : (x : ℤ) (xs : List ℤ) → length (x ∷ xs) ≤ first_bad (x ∷ xs)
    → (sample_in_range x ≡ true) × (length xs ≤ first_bad xs)
unfolding first_bad
first_good x xs = go (sample_in_range x)
  where
    go : (b : Bool) → suc (length xs) ≤ cond b (suc (first_bad xs)) 0 → (b ≡ true) × (length xs ≤ first_bad xs)
    go true h = (refl, omega arith)
    go false h = absurd (omega arith)

pub in_range : (xs : List ℤ) → length xs ≤ first_bad xs → InRange xs
in_range [] h = tt
in_range (x ∷ xs) h =
    let g = first_good x xs h in
    (leb-true (nat_abs x) 1000000 g.0, in_range xs g.1)

none_bad : (xs : List ℤ) → InRange xs → length xs ≤ first_bad xs
unfolding first_bad
none_bad [] g = omega arith
none_bad (x ∷ xs) g = rw (le-leb (nat_abs x) 1000000 g.0) (omega (arith, none_bad xs g.1))

pub not_bad : (xs : List ℤ) → InRange xs → ltb (first_bad xs) (length xs) ≡ false
not_bad xs g = le-ltb (first_bad xs) (length xs) (none_bad xs g)

-- ---- a reading
best_within : (r : Reading) (x : ℤ) → Within r.best → nat_abs x ≤ 1000000 → r.n * r.step ≤ 10000000
    → Within (read r x).best
unfolding read larger
best_within r x h k t = go (waits r x) (stays r x) (ltb r.best.size (nat_abs x))
  where
    go : (a b d : Bool)
        → Within (cond a (grown r r.opened r.best) (cond b (grown r r.opened (cond d (here r x) r.best))
        (grown r (r.opened + 1) (here r x)))).best
    go true b d = h
    go false true true = (k, t)
    go false true false = h
    go false false d = (k, t)

-- with m samples more
pub record Read (r s : Reading) (m : ℕ) : Type 0 where
  pub step : s.step ≡ r.step
  pub n : s.n ≡ r.n + m
  pub opened : s.opened ≤ s.n
  pub best : Within s.best

pub reads : (r : Reading) (xs : List ℤ) → r.n + length xs ≤ most_in_range r.step 0 → r.opened ≤ r.n → InRange xs
    → Within r.best → Read r (foldl read r xs) (length xs)
reads r [] h o g w = record { step = refl; n = omega arith; opened = o; best = w }
reads r (x ∷ xs) h o g w =
    let m = read_grows r x in
    let b = best_within r x w g.0 (soon r.n r.step (omega arith)) in
    let e = reads (read r x) xs (rw m.step (omega (arith, m.n, h))) (omega (arith, m.n, m.opened)) g.1 b in
    record { step = e.step ∙ m.step; n = omega (arith, e.n, m.n); opened = e.opened; best = e.best }

pub survey_reads : (s : Surveying) (xs : List ℤ) → (foldl surveyed s xs).reading ≡ foldl read s.reading xs
unfolding surveyed
survey_reads s [] = refl
survey_reads s (x ∷ xs) = survey_reads (surveyed s x) xs

pub handing_reads : (h : Handing) (xs : List ℤ) → (foldl moved h xs).reading ≡ foldl read h.reading xs
unfolding moved
handing_reads h [] = refl
handing_reads h (x ∷ xs) = handing_reads (moved h x) xs

-- ---- groups
abbrev pub Groups : Group → Type 0
Groups g = Within g.last × Within g.best

abbrev pub Held : Envelope → Type 0
Held e = Groups e.stretches × Groups e.chains

turned_within : (joins : Bool) (g : Group) (y : Peak) → Groups g → Within y → Groups (turned joins g y)
unfolding turned larger
turned_within joins g y h w = go (ltb 0 g.opened && joins) (ltb g.best.size y.size)
  where
    go : (a b : Bool)
        → Groups (cond a (record { opened = g.opened; last = y; best = cond b y g.best })
        (record { opened = g.opened + 1; last = y; best = y }))
    go true true = (w, w)
    go true false = (w, h.1)
    go false b = (w, w)

stepped_within : (n s τ : ℕ) (e : Envelope) (p : Peak) → Held e → Within p → Held (stepped n s τ e p)
unfolding stepped
stepped_within n s τ e p h w =
    let m = met n s e.stretches p in
    (turned_within _ e.stretches p h.0 w, go (gave e.stretches m && high n s e.stretches.best))
  where
    go : (b : Bool) → Groups (cond b (chained τ e.chains e.stretches.best) e.chains)
    go true = turned_within _ e.chains e.stretches.best h.1 h.0.1
    go false = h.1

moved_within : (h : Handing) (x : ℤ) → Held h.envelope → Within h.reading.best → Held (moved h x).envelope
unfolding moved
moved_within h x e w = go (closes h.reading (read h.reading x))
  where
    go : (b : Bool)
        → Held (cond b (stepped h.number h.sum h.decorrelation h.envelope h.reading.best) h.envelope)
    go true = stepped_within h.number h.sum h.decorrelation h.envelope h.reading.best e w
    go false = e

moved_reads : (h : Handing) (x : ℤ) → (moved h x).reading ≡ read h.reading x
unfolding moved
moved_reads h x = refl

pub hands_within : (h : Handing) (xs : List ℤ) → h.reading.n + length xs ≤ most_in_range h.reading.step 0
    → InRange xs → Within h.reading.best → Held h.envelope → Held (foldl moved h xs).envelope
hands_within h [] l g w e = e
hands_within h (x ∷ xs) l g w e =
    let r = h.reading in
    let m = read_grows r x in
    let b = best_within r x w g.0 (soon r.n r.step (omega arith)) in
    hands_within (moved h x) xs (rw (moved_reads h x, m.step) (omega (arith, m.n, l))) g.1
    (rw (moved_reads h x) b) (moved_within h x e w)

-- the decorrelation time, the number and the sum stay
pub record Same (h f : Handing) : Type 0 where
  pub decorrelation : f.decorrelation ≡ h.decorrelation
  pub number : f.number ≡ h.number
  pub sum : f.sum ≡ h.sum

pub hands_same : (h : Handing) (xs : List ℤ) → Same h (foldl moved h xs)
unfolding moved
hands_same h [] = record { decorrelation = refl; number = refl; sum = refl }
hands_same h (x ∷ xs) =
    let e = hands_same (moved h x) xs in
    record { decorrelation = e.decorrelation; number = e.number; sum = e.sum }
