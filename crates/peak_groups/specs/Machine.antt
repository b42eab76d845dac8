-- Groups found in one pass: what a `Group` becomes with the next member, and when a group is closed. Assumes nothing.
use Rattle.std.specs.Prelude.{ℕ, ◌+◌, Bool, cond, not, ◌&&◌, ltb, eqb}
use Rattle.peak_groups.specs.declared.Peak.{Peak}
use Rattle.peak_groups.specs.declared.Group.{Group}
use Rattle.peak_groups.specs.Groups.{larger, nothing}

-- no member yet
abbrev pub empty : Group
empty = record { opened = 0; last = nothing; best = nothing }

-- y joins the open group, or opens one
unfoldable pub turned : Bool → Group → Peak → Group
turned joins g y =
    cond (ltb 0 g.opened && joins)
    (record { opened = g.opened; last = y; best = larger g.best y })
    (record { opened = g.opened + 1; last = y; best = y })

-- from g to h a group was closed that is not the first: its largest is due
abbrev pub gave : Group → Group → Bool
gave g h = ltb 1 g.opened && not (eqb g.opened h.opened)

-- from g to a state with o groups a group was closed
abbrev pub closed : Group → ℕ → Bool
closed g o = ltb 0 g.opened && not (eqb g.opened o)
