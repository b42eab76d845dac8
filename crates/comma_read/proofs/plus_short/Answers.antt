-- `comma_read::plus_short` meets its contract: the three numbers are those of the form. Assumes nothing.
use Rattle.comma_word.specs.Word.{word}
use Rattle.comma_word.specs.Form.{mask_of, bits_of, more_of}
use Rattle.comma_read.proofs.plus_short.Goals as goal

pub returns : goal.returns
unfolding word mask_of bits_of more_of
returns c = λ e. c.held.ensures e
