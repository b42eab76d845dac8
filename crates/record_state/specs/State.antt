-- What is kept of a record between two pieces: the state of a list of samples, document 01's "Relations for 8" sentence
-- by sentence, those that document 02's [5] and [8] add, and what closing reads off a state. Assumes nothing.
use Rattle.std.specs.Prelude.{ℕ, ◌-◌, Bool, cond, not, ◌&&◌, ◌||◌, List, length, ltb, leb, eqb, nat_abs}
use Rattle.sample_channels.specs.declared.Moment.{Moment}
use Rattle.sample_items.specs.declared.Items.{Items}
use Rattle.sample_channels.specs.Channels.{still, in_range}
use Rattle.sample_items.specs.Limits.{item_outside, most_samples}
use Rattle.crossing_places.specs.Reading.{time_at, crossings, last_of, first_crossing, groups, largest_set, full_time, too_few}
use Rattle.record_state.specs.declared.Record.{Record}

-- the state of the samples xs: "Reading a record", figure by figure
unfoldable pub state_of : Items → List Moment → Record
state_of items xs =
    record {
      items = items;
      n = length xs;
      last = last_of still xs;
      crossings = length (crossings items.ramp items.levels xs);
      largest = length (largest_set items xs);
      first = first_crossing 0 items.ramp items.levels xs;
      last_chosen = last_of 0 (largest_set items xs);
      last_crossing = last_of 0 (crossings items.ramp items.levels xs);
      groups = length (groups items xs);
    }

-- ---- the relations
-- there is a first failure: its place is above R, so 0 stands for none
abbrev pub failed : Record → Bool
failed r = not (eqb r.first 0)

-- items in range
abbrev pub items_kept : Record → Bool
items_kept r = eqb (item_outside r.items) 0

-- a sample is 0 in both channels
abbrev pub is_still : Moment → Bool
is_still x = eqb (nat_abs x.roll) 0 && eqb (nat_abs x.acceleration) 0

-- the sample kept for the next piece is one that may be handed in; before the first it is 0
abbrev pub last_kept : Record → Bool
last_kept r = in_range r.last && (not (eqb r.n 0) || is_still r.last)

-- no more samples than refusal 3 lets through
abbrev pub length_kept : Record → Bool
length_kept r = leb r.n (most_samples r.items.step r.items.ramp)

-- no more in the largest set than crossings
abbrev pub counts_kept : Record → Bool
counts_kept r = leb r.largest r.crossings

-- without a first failure both are 0, and the largest set's last place, which has no meaning yet, holds 0
abbrev pub none_kept : Record → Bool
none_kept r = eqb r.crossings 0 && (eqb r.largest 0 && eqb r.last_chosen 0)

-- and so are the last crossing's place and the groups
abbrev pub no_groups : Record → Bool
no_groups r = eqb r.last_crossing 0 && eqb r.groups 0

-- with one neither is 0; crossings at most n - 1 - R, its place above R and at most the largest set's last place, which
-- is below n
abbrev pub failure_kept : Record → Bool
failure_kept r =
    leb 1 r.largest
    && (leb r.crossings (r.n - 1 - r.items.ramp)
    && (ltb r.items.ramp r.first && (leb r.first r.last_chosen && ltb r.last_chosen r.n)))

-- the last crossing's place is not before the largest set's last and below n; groups from 1 to the largest set
abbrev pub groups_kept : Record → Bool
groups_kept r =
    leb r.last_chosen r.last_crossing && (ltb r.last_crossing r.n && (leb 1 r.groups && leb r.groups r.largest))

abbrev pub figures_kept : Record → Bool
figures_kept r = cond (failed r) (failure_kept r && groups_kept r) (none_kept r && no_groups r)

-- the state keeps every relation
unfoldable pub sound : Record → Bool
sound r =
    items_kept r && (last_kept r && (length_kept r && (counts_kept r && figures_kept r)))

-- ---- what closing a record reads off its state
abbrev pub first_time : Record → ℕ
first_time r = time_at r.items.step r.items.ramp r.first

abbrev pub whole_time : Record → ℕ
whole_time r = full_time r.items.step r.items.ramp r.n

abbrev pub too_short : Record → Bool
too_short r = too_few r.items.ramp r.n
