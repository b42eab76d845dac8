-- `comma_line::roll_at` meets its contract: plain degrees after the sign are what is read there. Assumes nothing.
use native.Mathlib.Omega.{arith}
use Rattle.comma_word.specs.Plain.{Plain}
use Rattle.comma_word.proofs.Plain.{plain_of, plain_facts, plain_size_lem, plain_read}
use Rattle.comma_line.proofs.roll_at.Goals as goal
use Rattle.comma_line.proofs.roll_at.Goals.{Else-bytes-eq0}

plain : (c : Else-bytes-eq0) → Plain c.args.s.now c.past_minus-from.result c.bytes_at-bytes.result
plain c = plain_of _ _ c.bytes_at-bytes.ensures (omega (arith, c.if-bytes-eq0.false))

pub overflow_add-result : goal.overflow_add-result
overflow_add-result c = omega (arith, (plain_facts _ _ (plain (goal.at.overflow_add-result c).Else-bytes-eq0)).room)

pub returns : goal.returns
returns c =
    let a = c.args in
    rw (c.size_at.ensures, plain_size_lem _ _ (plain (goal.at.returns c).Else-bytes-eq0)) (plain_read a.s.now a.at c.past_minus-from.result c.past_minus-from.ensures (plain (goal.at.returns c).Else-bytes-eq0))
