-- The answers of `bureau_entries::serve`: a turn looks at one more place; after the loop the survey is that of the table, and
-- choosing and acting on it come to the call.
use mathlib.Core.Path.{◌≡◌, ap, sym, ◌∙◌}
use Prim.Native.Nat.{ℕ, ◌<◌, ◌≤◌}
use mathlib.Core.List.{List}
use mathlib.Core.Bool.{false}
use native.Mathlib.Omega.{arith}
use borrow.Author.Tests.{lt-ltb, le-ltb}
use lib.Dec.{ltb}
use lib.ListN.{length, get_or, set, drop}
use Rattle.bureau_table.specs.declared.Call.{Call}
use Rattle.bureau_table.specs.declared.Place.{Place}
use Rattle.bureau_table.specs.Table.{free}
use Rattle.bureau_table.specs.Calls.{Done, called}
use Rattle.bureau_choice.specs.declared.Choice.{Choice}
use Rattle.bureau_choice.specs.Steps.{acted, chosen, served, worked_on}
use Rattle.bureau_choice.proofs.Serves.{serves}
use Rattle.bureau_survey.specs.declared.Seen.{Seen}
use Rattle.bureau_survey.specs.Survey.{looked, unseen}
use Rattle.bureau_survey.proofs.Looking.{look_end, look_on}
use Rattle.bureau_entries.proofs.serve.Goals as goal
use Rattle.refusal.specs.declared.Refusal.{Refusal}
use Rattle.bureau_table.specs.declared.Reply.{Reply}
use Rattle.std.specs.Prelude.{Result}

-- what the promise says of an answer and a table
abbrev Says : List Place → Call → Result Reply Refusal → List Place → Type 0
Says xs c r ys = (r ≡ (called xs c.bureau c.ask).answer) × (ys ≡ (called xs c.bureau c.ask).table)

-- the place that was chosen is in the table, and worked on
worked_there : (xs : List Place) (c : Call) (d : Choice) → d ≡ chosen c (looked unseen 0 xs) (length xs) → d.at < length xs
    → Says xs c (acted c d (get_or xs d.at free)).answer (set xs d.at (acted c d (get_or xs d.at free)).place)
unfolding served
worked_there xs c d e l =
    let s : worked_on xs c d ≡ called xs c.bureau c.ask = ap (worked_on xs c) e ∙ serves xs c in
    let t = lt-ltb d.at (length xs) l in
    (ap (λ (x : Done). x.answer) (rw t at s), ap (λ (x : Done). x.table) (rw t at s))

-- none was chosen
left : (xs : List Place) (c : Call) (d : Choice) → d ≡ chosen c (looked unseen 0 xs) (length xs) → ltb d.at (length xs) ≡ false → Says xs c d.answer xs
unfolding served
left xs c d e t =
    let s : worked_on xs c d ≡ called xs c.bureau c.ask = ap (worked_on xs c) e ∙ serves xs c in
    (ap (λ (x : Done). x.answer) (rw t at s), ap (λ (x : Done). x.table) (rw t at s))

-- after the loop the survey is that of the whole table
surveyed_all : (xs : List Place) (s : Seen) (i : ℕ) → length xs ≤ i → looked s i (drop i xs) ≡ looked unseen 0 xs → s ≡ looked unseen 0 xs
surveyed_all xs s i h e = sym (look_end s i xs h) ∙ e

pub loop-i-preserved : goal.loop-i-preserved
loop-i-preserved c =
    let l = c.loop-i in
    let t = c.args.t.now in
    (omega arith, rw c.look-s.ensures (sym (look_on l.s l.i t c.loop-i-test.true) ∙ l.invariant.1))

pub returns-then-at-t : goal.returns-then-at-t
returns-then-at-t c =
    let t = c.args.t.now in
    let k = c.args.c in
    let d = c.choose-d.result in
    let seen = surveyed_all t c.loop-i.s c.loop-i.i c.loop-i-test.false c.loop-i.invariant.1 in
    rw c.act-w.ensures
    (worked_there t k d (c.choose-d.ensures ∙ ap (λ (s : Seen). chosen k s (length t)) seen) c.if-at-t.true)

pub returns : goal.returns
returns c =
    let t = c.args.t.now in
    let k = c.args.c in
    let seen = surveyed_all t c.loop-i.s c.loop-i.i c.loop-i-test.false c.loop-i.invariant.1 in
    left t k c.choose-d.result (c.choose-d.ensures ∙ ap (λ (s : Seen). chosen k s (length t)) seen)
    (le-ltb c.choose-d.result.at (length t) c.if-at-t.false)
