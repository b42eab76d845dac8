-- Request 9: what a place that a bureau is given comes to. Assumes nothing.
use Rattle.std.specs.Prelude.{◌≡◌, true, List, ℕ, ◌<◌, length, set}
use Rattle.campaign_state.specs.State.{empty, standard_in_range}
use Rattle.bureau_table.specs.declared.Place.{Place}
use Rattle.bureau_table.specs.Table.{at, free, is_bureau, jobs, kept, owned}
use Rattle.bureau_table.specs.Calls.{Done}

-- a table that keeps the relations, a bureau under 16 jobs, and a standard in range
pub record Room (t : List Place) (b q : ℕ) : Type 0 where
  pub kept : kept t ≡ true
  pub bureau : is_bureau b ≡ true
  pub under : jobs b t < 16
  pub standard : standard_in_range q ≡ true

-- place i, the lowest that was free, was given to bureau b for a job at the standard q
pub record TakenAt (t : List Place) (b q i : ℕ) (d : Done) : Type 0 where
  pub room : Room t b q
  pub inside : i < length t
  pub was_free : at t i ≡ free
  pub none_lower : (j : ℕ) → j < i → ¬ ((at t j).owner ≡ 0)
  pub fresh : d.table ≡ set t i (owned b (empty q))
