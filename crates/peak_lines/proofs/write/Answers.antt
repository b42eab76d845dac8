-- `peak_lines::write` meets its contract, test by test. Assumes nothing.
use Prim.Native.Nat.{◌+◌, ◌*◌, ◌<◌}
use mathlib.Core.Path.{◌≡◌, sym, ◌∙◌}
use mathlib.Core.Bool.{true}
use native.Mathlib.Omega.{arith}
use borrow.Author.Rules.{rules}
use borrow.Author.Tests.{leb-true}
use lib.ListN.{length}
use Rattle.peak_lines.specs.Lines.{room_for}
use Rattle.peak_lines.proofs.Laws.{lines_few, writes_none, writes_all, uneven, no_room, all_room}
use Rattle.peak_lines.proofs.write.Goals as goal
use Rattle.peak_lines.proofs.write.Goals.{After-put_peaks, Else-not-room_for, Else-sizes-times, Start}

file-fits : (c : Start) → c.args.file < 18446744073709551616
file-fits c = search rules

-- past the tests
room : (c : Else-not-room_for) → let a = c.args in room_for (length a.sizes.now) (length a.out.now) a.at ≡ true
room c = (sym c.room_for.ensures ∙ c.if-not-room_for.false)

pub returns-then-sizes-times : goal.returns-then-sizes-times
returns-then-sizes-times c =
    let a = c.args in
    let whole = writes_none a.file a.sizes.now a.times.now a.out.now a.at (uneven a.file a.sizes.now a.times.now a.out.now a.at c.if-sizes-times.true) in record { value = whole.0; out_after = whole.1 }

pub returns-then-not-room_for : goal.returns-then-not-room_for
returns-then-not-room_for c =
    let b = (goal.at.returns-then-not-room_for c).Else-sizes-times in
    let e = b in
    let a = c.args in
    let whole = writes_none a.file a.sizes.now a.times.now a.out.now a.at
    (no_room a.file a.sizes.now a.times.now a.out.now a.at e.if-sizes-times.false (sym c.room_for.ensures ∙ c.if-not-room_for.true)) in record { value = whole.0; out_after = whole.1 }

pub put_peaks-requires : goal.put_peaks-requires
put_peaks-requires c =
    let s = (goal.at.put_peaks-requires c).Start in (
      c.if-sizes-times.false,
      omega (
        arith,
        leb-true (c.args.at + length c.args.sizes.now * 48) (length
            c.args.out.now) (room (goal.at.put_peaks-requires c).Else-not-room_for),
        lines_few c.args.file c.args.sizes.now c.args.times.now
            (file-fits s),
      ),
    )

pub returns : goal.returns
returns c =
    let d = (goal.at.returns c).After-put_peaks in
    let p = d in
    let b = (goal.at.returns c).Else-not-room_for in
    let a = c.args in
    let whole = writes_all a.file a.sizes.now a.times.now a.out.now a.at
    (all_room a.file a.sizes.now a.times.now a.out.now a.at c.if-sizes-times.false (room
    b)) (p.put_peaks.ensures.value, p.put_peaks.ensures.out_after) in record { value = whole.0; out_after = whole.1 }
