-- `campaign_state::sound` meets its contract: too many records settle it, so that the exposure's bound fits; otherwise
-- it follows the definition word for word. Assumes nothing.
use borrow.Author.Tests.{le-leb, lt-leb}
use Rattle.campaign_state.specs.State.{sound}
use Rattle.campaign_state.proofs.sound.Goals as goal

pub returns-then-c-gt-MOST_RECORDS : goal.returns-then-c-gt-MOST_RECORDS
unfolding sound
returns-then-c-gt-MOST_RECORDS c = rw (lt-leb _ _ c.if-c-gt-MOST_RECORDS.true)

pub returns : goal.returns
unfolding sound
returns c =
    rw (
      le-leb _ _ c.if-c-gt-MOST_RECORDS.false,
      c.both-3.ensures,
      c.both.ensures,
      c.both-2.ensures,
      c.figures_kept.ensures,
      c.last_kept.ensures,
    )
