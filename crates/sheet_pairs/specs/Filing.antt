-- What the functions over a campaign's files of two channels answer and leave, and files that come in pieces. Assumes
-- nothing.
use Rattle.std.specs.Prelude.{ℕ, ◌+◌, Bool, cond, List, [], ◌∷◌, eqb, ℤ, length, Result, Ok, Err}
use Rattle.sample_items.specs.declared.Items.{Items}
use Rattle.desk_line.specs.declared.Finished.{Finished}
use Rattle.desk_line.specs.Said.{putting, put_left}
use Rattle.comma_pair.specs.Taking.{end_of, opening}
use Rattle.comma_pair.specs.Pieces.{Turn, Rest, carrying}
use Rattle.sheet_files.specs.Filing as files
use Rattle.sheet_files.specs.Filing.{opened_sheet, step_in, filed_of, left_by, is_over}
use Rattle.sheet_pairs.specs.declared.FiledPairs.{FiledPairs}
use Rattle.sheet_pairs.specs.Files.{refused_record_of}
use Rattle.comma_pair.specs.declared.PairFault.TheVariants.{Plain, AtLine}
use Rattle.record_state.specs.declared.Record.{Record}
use Rattle.comma_pair.specs.declared.PairFault.{PairFault}
use Rattle.refusal.specs.declared.Refusal.{Refusal}

-- ---- opening
abbrev pub opened_pairs : ℕ → Items → FiledPairs
opened_pairs q i = record { filed = opened_sheet q i; channel = 0 }

-- ---- a record's files: what they came to decides, unless one before was refused
abbrev pub adding_end : ℕ → Result (ℕ × ℕ) (ℕ × ℕ × Refusal) → Result Record PairFault → ℕ → FiledPairs
adding_end number f (Ok r) places =
    record { filed = filed_of (step_in number f (Ok r) places); channel = 0 }
adding_end number f (Err (Plain q)) places = record { filed = Err (number, 0, q); channel = 0 }
adding_end number f (Err (AtLine line q channel)) places =
    record { filed = Err (number, line, q); channel = channel }

abbrev pub end_left : ℕ → Result (ℕ × ℕ) (ℕ × ℕ × Refusal) → Result Record PairFault → List ℤ → List ℤ
end_left number f (Ok r) records = left_by (step_in number f (Ok r) (length records)) records
end_left number f (Err (Plain q)) records = records
end_left number f (Err (AtLine line q channel)) records = records

abbrev pub adding : ℕ → FiledPairs → Result Record PairFault → ℕ → FiledPairs
adding number a e places = cond (is_over a.filed) a (adding_end number a.filed e places)

-- the lent records afterwards
abbrev pub adding_left : ℕ → FiledPairs → Result Record PairFault → List ℤ → List ℤ
adding_left number a e records = cond (is_over a.filed) records (end_left number a.filed e records)

-- ---- the end: as without channels, or the refused line with one
abbrev pub channel_put : ℕ → Result (ℕ × ℕ) (ℕ × ℕ × Refusal) → ℕ → List ℤ → List ℕ → Finished
channel_put q (Ok (n, failures)) channel records out = files.finishing q (Ok (n, failures)) records out
channel_put q (Err (number, line, r)) channel records out = putting (refused_record_of number line r channel) out

abbrev pub channel_left : ℕ → Result (ℕ × ℕ) (ℕ × ℕ × Refusal) → ℕ → List ℤ → List ℕ → List ℕ
channel_left q (Ok (n, failures)) channel records out = files.finish_left q (Ok (n, failures)) records out
channel_left q (Err (number, line, r)) channel records out = put_left (refused_record_of number line r channel) out

abbrev pub finishing : ℕ → FiledPairs → List ℤ → List ℕ → Finished
finishing q a records out =
    cond (eqb a.channel 0) (files.finishing q a.filed records out)
    (channel_put q a.filed a.channel records out)

abbrev pub finish_left : ℕ → FiledPairs → List ℤ → List ℕ → List ℕ
finish_left q a records out =
    cond (eqb a.channel 0) (files.finish_left q a.filed records out)
    (channel_left q a.filed a.channel records out)

-- ---- records one after the other from this number on, each in the turns in which its two files come
pub record Comes : Type 0 where
  pub turns : List Turn
  pub rest : Rest

pub record Desk : Type 0 where
  pub filed : FiledPairs
  pub records : List ℤ

abbrev pub with_pair : Items → ℕ → Desk → Comes → Desk
with_pair i number d c =
    let e = end_of (carrying (opening i) [] [] c.turns c.rest) in
    record {
      filed = adding number d.filed e (length d.records);
      records = adding_left number d.filed e d.records;
    }

unfoldable pub desk_after : Items → ℕ → Desk → List Comes → Desk
desk_after i number d [] = d
desk_after i number d (c ∷ pairs) = desk_after i (number + 1) (with_pair i number d c) pairs
