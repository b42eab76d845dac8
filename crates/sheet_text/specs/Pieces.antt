-- A sheet that is handed over in pieces, as the program reads it: the lines that are complete are taken, and the bytes
-- of a line begun go before the next piece. Assumes nothing.
use Rattle.std.specs.Prelude.{ℕ, ◌-◌, true, false, List, [], ◌∷◌, ◌++◌, length, drop}
use Rattle.sheet_text.specs.declared.Reading.{Reading}
use Rattle.sheet_text.specs.declared.Reading.TheVariants.{Read, Stopped, Waiting}
use Rattle.sheet_line.specs.declared.Sheet.{Sheet}
use Rattle.decimal.specs.Lines.{lines_of}
use Rattle.sheet_text.specs.Sheet.{Account, prefixed, reading_sheet}

-- the last n bytes of a text
abbrev pub last_bytes : ℕ → List ℕ → List ℕ
last_bytes n text = drop (length text - n) text

-- how the reading of a text goes on, by its end: where it waits, with the bytes that it left unread; else it is over
abbrev pub onward : Account → Reading → List ℕ → (Sheet → List ℕ → Account) → Account
onward a (Waiting s n) text go = prefixed a.text (go s (last_bytes n text))
onward a (Stopped line column r) text go = a
onward a (Read c) text go = a

-- piece after piece, `kept` being the bytes of a line begun; after the last piece the sheet ends
unfoldable pub feeding : List (List ℕ) → Sheet → List ℕ → Account
feeding [] s kept = reading_sheet false (lines_of kept) s
feeding (piece ∷ pieces) s kept =
    onward (reading_sheet true (lines_of (kept ++ piece)) s) (reading_sheet true (lines_of (kept ++ piece)) s).end (kept ++ piece) (feeding pieces)
