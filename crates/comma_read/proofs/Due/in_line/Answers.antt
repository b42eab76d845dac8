-- `comma_read::Due::in_line` meets its contract: where the comma stands after the last width, this is the time's width;
-- else its digits are counted. Assumes nothing.
use Rattle.std.proofs.Common.{drop, get_or-drop, refl}
use Rattle.comma_read.proofs.Times.{as_wide}
use Rattle.comma_read.proofs.Due.in_line.Goals as goal

pub returns-then-text-at-eq-COMMA : goal.returns-then-text-at-eq-COMMA
returns-then-text-at-eq-COMMA c =
    let d = c.args.self in (refl, λ r. as_wide d.time (drop c.args.at c.args.text.now) d.width d.narrow.few (rw get_or-drop c.if-text-at-eq-COMMA.true) r)
