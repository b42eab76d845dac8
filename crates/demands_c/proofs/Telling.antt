-- What C is told, one definition for every entry: `Left` is what a call leaves, and `Tells` says that it is what a list
-- of tests decides (demand 1), in numbers. Below them stands how demand 1's statement of a Rattle answer is carried
-- over to what C is told of it. Assumes nothing.
use Prim.Native.Nat.{ℕ, ◌≤◌}
use mathlib.Core.Path.{◌≡◌, refl, ap, ◌∙◌}
use mathlib.Core.Bool.{Bool, false, true}
use mathlib.Core.List.{List, [], ◌∷◌}
use mathlib.Core.Logic.{◌⊎◌, inl, inr}
use native.Mathlib.Omega.{arith}
use Rattle.refusal.specs.Numbers.{channel_of, number_of, value_of}
use Rattle.refusal.specs.declared.Refusal.{Refusal}
use Rattle.refusal.specs.declared.Refusal.TheVariants.{Item, Sample, TooLong, TooShort, CampaignFull, RowsUsedUp, Room}
use Rattle.refusal.specs.declared.Refusal.TheVariants.{BrokenState, Line, CommaLine, SumFull, Unequal, NoBureau}
use Rattle.refusal.specs.declared.Refusal.TheVariants.{BureauFull, NotItsOwn, Tail, Peak, Situations, Situation}
use Rattle.refusal.specs.declared.Refusal.TheVariants.{Acceleration, LowLevel, NoSpread, TimedSamples}
use Rattle.demands.proofs.Demand1.{Decides, First, None, Test, end, here, later, not_it, ◌gives◌}

-- ---- what is told
-- what a call from C leaves: the number that it answers, *carried, and what stands in the memory that it was lent
pub record Left (L : Type 0) : Type 0 where
  pub number : ℕ
  pub carried : ℕ
  pub lent : L

abbrev pub left : {L : Type 0} → ℕ → ℕ → L → Left L
left n v after = record { number = n; carried = v; lent = after }

-- a refusal: document 01's number, what goes with it, and everything that was lent as it stood
abbrev pub refusal : {L : Type 0} → L → Refusal → Left L
refusal before r = left (number_of r) (value_of r) before

-- a call that is taken: 0, the answer if it is one number and else 0, and what is left in the lent memory
abbrev pub taken : {L : Type 0} → ℕ → L → Left L
taken answer after = left 0 answer after

-- the call x, lent `before`, is what the tests decide: with the first that holds it is that refusal; without one it is
-- taken, with this answer and `after` in the lent memory; and 0 is answered then and only then
pub record Tells {L : Type 0} (ts : List Test) (before : L) (answer : ℕ) (after : L) (x : Left L) : Type 0 where
  pub refuses : (r : Refusal) → First ts r → x ≡ refusal before r
  pub only_then : ¬ (x.number ≡ 0) → (r : Refusal) × First ts r
  pub answers : None ts → x ≡ taken answer after
  pub taken_only : x.number ≡ 0 → None ts

-- *channel: with the first test that holds the channel that document 02, [8], names, and else 0
pub record Names (ts : List Test) (channel : ℕ) : Type 0 where
  pub refuses : (r : Refusal) → First ts r → channel ≡ channel_of r
  pub answers : None ts → channel ≡ 0

-- ---- how it is carried over
pub some_number : (r : Refusal) → 1 ≤ number_of r
some_number (Item i) = omega arith
some_number (Sample p) = omega arith
some_number TooLong = omega arith
some_number TooShort = omega arith
some_number CampaignFull = omega arith
some_number RowsUsedUp = omega arith
some_number (Room k) = omega arith
some_number BrokenState = omega arith
some_number (Line l) = omega arith
some_number (CommaLine l) = omega arith
some_number SumFull = omega arith
some_number Unequal = omega arith
some_number NoBureau = omega arith
some_number BureauFull = omega arith
some_number NotItsOwn = omega arith
some_number Tail = omega arith
some_number (Peak p) = omega arith
some_number Situations = omega arith
some_number (Situation k) = omega arith
some_number (Acceleration p) = omega arith
some_number TimedSamples = omega arith
some_number (LowLevel y) = omega arith
some_number NoSpread = omega arith

-- one test is the first that holds, or none holds
pub settle : (ts : List Test) → None ts ⊎ ((r : Refusal) × First ts r)
settle [] = inl end
settle (t ∷ ts) = go t.holds refl (settle ts)
  where
    go : (b : Bool) → t.holds ≡ b → None ts ⊎ ((r : Refusal) × First ts r)
        → None (t ∷ ts) ⊎ ((r : Refusal) × First (t ∷ ts) r)
    go true h rest = inr (t.gives, here h)
    go false h (inl n) = inl (not_it h n)
    go false h (inr (r, f)) = inr (r, later h f)

-- the two halves that are said are enough
module _ {L : Type 0} (ts : List Test) (before : L) (answer : ℕ) (after : L) (x : Left L) where
  pub both_ways : ((r : Refusal) → First ts r → x ≡ refusal before r) → (None ts → x ≡ taken answer after)
      → Tells ts before answer after x
  both_ways f g =
      record {
        refuses = f;
        only_then = λ n. said n (settle ts);
        answers = g;
        taken_only = λ z. zero z (settle ts);
      }
    where
      said : ¬ (x.number ≡ 0) → None ts ⊎ ((r : Refusal) × First ts r) → (r : Refusal) × First ts r
      said n (inl none) = absurd (n (ap (λ (y : Left L). y.number) (g none)))
      said n (inr one) = one

      zero : x.number ≡ 0 → None ts ⊎ ((r : Refusal) × First ts r) → None ts
      zero z (inl none) = none
      zero z (inr (r, h)) =
          let e : x.number ≡ number_of r = ap (λ (y : Left L). y.number) (f r h) in
          absurd (omega (arith, some_number r))

-- a Rattle answer that the tests decide, told by numbers
pub tells : {A L : Type 0} {refused : Refusal → A} {ts : List Test} {proper a : A} → Decides refused ts proper a
    → (tell : A → Left L) (before : L) (answer : ℕ) (after : L) (x : Left L)
    → ((r : Refusal) → tell (refused r) ≡ refusal before r) → tell proper ≡ taken answer after → x ≡ tell a
    → Tells ts before answer after x
tells {ts = ts} d tell before answer after x on-refused on-proper e =
    both_ways ts before answer after x
    (λ r f. e ∙ ap tell (d.refuses r f) ∙ on-refused r)
    (λ n. e ∙ ap tell (d.answers n) ∙ on-proper)

-- the channel that it names
pub names : {A : Type 0} {refused : Refusal → A} {ts : List Test} {proper a : A} → Decides refused ts proper a
    → (name : A → ℕ) → ((r : Refusal) → name (refused r) ≡ channel_of r) → name proper ≡ 0 → Names ts (name a)
names d name on-refused on-proper =
    record {
      refuses = λ r f. ap name (d.refuses r f) ∙ on-refused r;
      answers = λ n. ap name (d.answers n)
          ∙ on-proper;
    }

-- one test more before the others
pub tested_first : {L : Type 0} {ts : List Test} {before : L} {answer : ℕ} {after : L} {y : Left L}
    → Tells ts before answer after y
    → (b : Bool) (r : Refusal) (x : Left L) → (b ≡ true → x ≡ refusal before r) → (b ≡ false → x ≡ y)
    → Tells (b gives r ∷ ts) before answer after x
tested_first {ts = ts} {before} {answer} {after} {y} t b r x holding not_so = both_ways
    (b gives r ∷ ts) before answer after x refuses answers
  where
    refuses : (s : Refusal) → First (b gives r ∷ ts) s → x ≡ refusal before s
    refuses s (here h) = holding h
    refuses s (later h f) = not_so h ∙ t.refuses s f

    answers : None (b gives r ∷ ts) → x ≡ taken answer after
    answers (not_it h n) = not_so h ∙ t.answers n
