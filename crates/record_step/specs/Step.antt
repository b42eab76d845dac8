-- One sample more: the state after sample n, which is x, from the state r before it. Assumes nothing.
use Rattle.std.specs.Prelude.{ℕ, ◌+◌, Bool, cond, not, ◌&&◌, ◌||◌, ltb, eqb}
use Rattle.sample_channels.specs.declared.Moment.{Moment}
use Rattle.sample_channels.specs.Channels.{above}
use Rattle.crossing_sets.specs.Walk.{since}
use Rattle.crossing_places.specs.Reading.{time_at, rises}
use Rattle.record_state.specs.declared.Record.{Record}

-- k more samples without a crossing, the last of them x
abbrev pub moved : Record → ℕ → Moment → Record
moved r k x =
    record {
      items = r.items;
      n = r.n + k;
      last = x;
      crossings = r.crossings;
      largest = r.largest;
      first = r.first;
      last_chosen = r.last_chosen;
      last_crossing = r.last_crossing;
      groups = r.groups;
    }

-- a crossing at sample n is the first, or its time is at least τ after that of place p
abbrev pub far : Record → ℕ → Bool
far r p = eqb r.crossings 0 || since (time_at r.items.step r.items.ramp) r.items.decorrelation p r.n

-- it joins the largest set, whose last place tells
abbrev pub counts : Record → Bool
counts r = far r r.last_chosen

-- it starts a group: it is not less than τ after the crossing just before it
abbrev pub starts : Record → Bool
starts r = far r r.last_crossing

-- a crossing at sample n
abbrev pub crossed : Record → Moment → Record
crossed r x =
    record {
      items = r.items;
      n = r.n + 1;
      last = x;
      crossings = r.crossings + 1;
      largest = cond (counts r) (r.largest + 1) r.largest;
      first = cond (eqb r.crossings 0) r.n r.first;
      last_chosen = cond (counts r) r.n r.last_chosen;
      last_crossing = r.n;
      groups = cond (starts r) (r.groups + 1) r.groups;
    }

-- sample n crosses a level
abbrev pub crosses : Record → Moment → Bool
crosses r x = ltb r.items.ramp r.n && rises r.items.levels r.last x

-- sample n - 1, from which it would, is timed and above in neither channel
abbrev pub below : Record → Bool
below r = ltb r.items.ramp r.n && not (above r.items.levels r.last)

unfoldable pub stepped : Record → Moment → Record
stepped r x = cond (crosses r x) (crossed r x) (moved r 1 x)
