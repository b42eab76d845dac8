-- `comma_line::line_at` meets its contract: each return by its law of `At`. Assumes nothing.
use mathlib.Core.Path.{◌≡◌, sym, ◌∙◌}
use mathlib.Core.Bool.{Bool}
use mathlib.Core.List.{List}
use Prim.Native.Nat.{ℕ, ◌+◌, ◌≤◌}
use native.Mathlib.Omega.{arith}
use lib.Dec.{eqb}
use lib.ListN.{get_or}
use Rattle.decimal.specs.Field.{line_feed}
use Rattle.decimal.specs.Leading.{stands_at}
use Rattle.decimal.proofs.Leading.{leads_number, leads_none, stands_byte}
use Rattle.degrees.proofs.Signs.{degrees_read, degrees_none}
use Rattle.comma_line.specs.Line.{comma}
use Rattle.comma_line.proofs.At.{no_number, other_time, no_comma, no_degrees, no_feed, whole_line}
use Rattle.comma_line.proofs.line_at.Goals as goal

-- a byte other than 0 stands at a place, as was asked, or it does not
stood : (s : List ℕ) (at b : ℕ) → 1 ≤ b → {said is : Bool} → said ≡ stands_at s at b → said ≡ is → eqb (get_or s at 0) b ≡ is
stood s at b some told was = sym (stands_byte s at b some) ∙ (sym told ∙ was)

pub returns-in_err-t : goal.returns-in_err-t
returns-in_err-t c =
    let a = c.args in
    c.from_residual.ensures ∙ sym (no_number a.s.now a.at a.time (leads_none a.s.now a.at (sym c.leading_at.ensures ∙ c.in_err-t.was)))

pub returns-then-t-time : goal.returns-then-t-time
returns-then-t-time c =
    let a = c.args in
    let n = c.in_ok-t in
    let leads = leads_number a.s.now a.at n.t n.end (sym c.leading_at.ensures ∙ n.was) in
    sym (other_time a.s.now a.at a.time n.t n.end leads c.if-t-time.true)

pub returns-then-not-stands : goal.returns-then-not-stands
returns-then-not-stands c =
    let a = c.args in
    let n = c.in_ok-t in
    let leads = leads_number a.s.now a.at n.t n.end (sym c.leading_at.ensures ∙ n.was) in
    let mark = stood a.s.now n.end comma (omega arith) c.stands.ensures c.if-not-stands.true in
    sym (no_comma a.s.now a.at a.time n.t n.end leads mark)

pub returns-in_err-minus : goal.returns-in_err-minus
returns-in_err-minus c =
    let a = c.args in
    let n = c.in_ok-t in
    let leads = leads_number a.s.now a.at n.t n.end (sym c.leading_at.ensures ∙ n.was) in
    let none = degrees_none a.s.now (n.end + 1) (sym c.roll_at.ensures ∙ c.in_err-minus.was) in
    c.from_residual-in_err-minus.ensures ∙ sym (no_degrees a.s.now a.at a.time n.t n.end leads none)

pub returns-then-not-stands-2 : goal.returns-then-not-stands-2
returns-then-not-stands-2 c =
    let a = c.args in
    let n = c.in_ok-t in
    let d = c.in_ok-minus in
    let leads = leads_number a.s.now a.at n.t n.end (sym c.leading_at.ensures ∙ n.was) in
    let reads = degrees_read a.s.now (n.end + 1) d.minus d.size d.next (sym c.roll_at.ensures ∙ d.was) in
    let feed = stood a.s.now d.next line_feed (omega arith) c.stands-2.ensures c.if-not-stands-2.true in
    sym (no_feed a.s.now a.at a.time n.t n.end leads d.minus d.size d.next reads feed)

pub returns : goal.returns
returns c =
    let a = c.args in
    let n = c.in_ok-t in
    let d = c.in_ok-minus in
    let leads = leads_number a.s.now a.at n.t n.end (sym c.leading_at.ensures ∙ n.was) in
    let reads = degrees_read a.s.now (n.end + 1) d.minus d.size d.next (sym c.roll_at.ensures ∙ d.was) in
    let mark = stood a.s.now n.end comma (omega arith) c.stands.ensures c.if-not-stands.false in
    let feed = stood a.s.now d.next line_feed (omega arith) c.stands-2.ensures c.if-not-stands-2.false in
    whole_line a.s.now a.at a.time n.t n.end leads d.minus d.size d.next reads c.if-t-time.false mark feed
