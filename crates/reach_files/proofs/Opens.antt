-- What opening, adding and refusing answer, one law for each way. Assumes nothing.
use Prim.Native.Nat.{ℕ, ◌+◌, ◌-◌, ◌≤◌, ◌<◌}
use mathlib.Core.Path.{◌≡◌, sym, ◌∙◌}
use mathlib.Core.Bool.{true, false}
use mathlib.Core.List.{[], ◌∷◌}
use native.Mathlib.Omega.{arith}
use lib.Dec.{ltb}
use borrow.Author.Tests.{eq-eqb, ne_eqb, lt-ltb, le-ltb}
use Rattle.truth.proofs.Cases.{by_order}
use Rattle.refusal.specs.declared.Refusal.{Refusal}
use Rattle.refusal.specs.declared.Refusal.TheVariants.{Item, Tail, TimedSamples}
use Rattle.refusal.specs.Numbers.{number_of, value_of}
use Rattle.sample_items.specs.Limits.{item_outside}
use Rattle.desk_line.specs.Said.{refused}
use Rattle.peak_tail.specs.Fitting.{longest_list, tail_outside}
use Rattle.peak_reach.specs.Answers.{standard_in_range}
use Rattle.reach_files.specs.declared.Job.{Job}
use Rattle.reach_files.specs.declared.Gathered.{Gathered}
use Rattle.reach_files.specs.Files.{items_of, most_timed}
use Rattle.reach_files.specs.Line.{low, refused_list}
use Rattle.reach_files.specs.Gathering.{nothing, opened, grown_by}
use Rattle.std.specs.Prelude.{Ok, Err}

module _ (j : Job) where
  pub opens_item : {n : ℕ} → n ≡ item_outside (items_of j) → (n ≡ 0 → ⊥) → Err (0, 0, Item n) ≡ opened j
  unfolding opened
  opens_item e f = rw (← e, ne_eqb _ 0 f)

  module _ (e : item_outside (items_of j) ≡ 0) where
    pub opens_standard : standard_in_range j.standard ≡ false → Err (0, 0, Item 5) ≡ opened j
    unfolding opened
    opens_standard s = rw (e, s)

    module _ (s : standard_in_range j.standard ≡ true) where
      pub opens_tail : tail_outside longest_list j.tail ≡ true → Err (0, 0, Tail) ≡ opened j
      unfolding opened
      opens_tail t = rw (e, s, t)

      pub opens : tail_outside longest_list j.tail ≡ false → Ok nothing ≡ opened j
      unfolding opened
      opens t = rw (e, s, t)

-- so many more pass the bound exactly if they pass what is left of it
pub passes_left : (samples more : ℕ) → samples ≤ most_timed → ltb (most_timed - samples) more ≡ ltb most_timed (samples + more)
passes_left samples more h =
    by_order (most_timed - samples) more
    (λ l. rw (lt-ltb (most_timed - samples) more l, lt-ltb most_timed (samples + more) (omega arith)))
    (λ l. rw (le-ltb (most_timed - samples) more l, le-ltb most_timed (samples + more) (omega arith)))

pub few_left : (samples more : ℕ) → ltb most_timed (samples + more) ≡ false → samples + more ≤ most_timed
few_left samples more e = by_order most_timed (samples + more) (λ l. absurd (no (sym (lt-ltb most_timed (samples + more) l) ∙ e))) (λ l. l)
  where
    no : true ≡ false → ⊥
    no e = Rattle.truth.proofs.Laws.true≢false e

module _ (j : Job) (file : ℕ) (g : Gathered) (lines peaks : ℕ) where
  pub grows_long : longest_list < peaks → Err (file, 0, Tail) ≡ grown_by j file g lines peaks
  grows_long h = rw (lt-ltb longest_list peaks h)

  module _ (h : peaks ≤ longest_list) where
    pub grows_full : {m : ℕ} → m ≡ lines - j.ramp → ltb most_timed (g.samples + m) ≡ true → Err (file, 0, TimedSamples) ≡ grown_by j file g lines peaks
    grows_full e f = rw (le-ltb longest_list peaks h, ← e, f)

    pub grows : {m : ℕ} → m ≡ lines - j.ramp → ltb most_timed (g.samples + m) ≡ false
        → Ok (record { files = file; peaks = peaks; samples = g.samples + m }) ≡ grown_by j file g lines peaks
    grows e f = rw (le-ltb longest_list peaks h, ← e, f)

-- ---- the refused line after the files
pub refuses_low : (r : Refusal) → number_of r ≡ 20 → low (value_of r) ≡ refused_list r
unfolding refused_list
refuses_low r e = rw (eq-eqb (number_of r) 20 e)

pub refuses_other : (r : Refusal) → (number_of r ≡ 20 → ⊥) → refused (0 ∷ 0 ∷ []) r ≡ refused_list r
unfolding refused_list
refuses_other r f = rw (ne_eqb (number_of r) 20 f)
