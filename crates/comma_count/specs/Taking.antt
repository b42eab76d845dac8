-- What the counter's functions answer: where a count stands, from its opening over the pieces of a text to what is said
-- of it. Assumes nothing.
use Rattle.std.specs.Prelude.{ℕ, ◌+◌, ◌-◌, ◌≤◌, ◌≡◌, Bool, false, true, cond, not, ◌&&◌, List, [], ◌∷◌, eqb, leb, ltb, ℤ, length, take, drop, Result, Ok, Err}
use Rattle.refusal.specs.declared.Refusal.{Refusal}
use Rattle.refusal.specs.declared.Refusal.TheVariants.{Sample, BrokenState, CommaLine}
use Rattle.refusal.specs.Numbers.{number_of, value_of}
use Rattle.sample_items.specs.Limits.{step_in_range}
use Rattle.record_state.specs.declared.Record.{Record}
use Rattle.record_state.specs.State.{sound}
use Rattle.record_state.specs.Answers.{opened}
use Rattle.record_feed.specs.Answers.{fed}
use Rattle.record_end.specs.Result.{ending}
use Rattle.text.specs.Front.{kept}
use Rattle.comma_line.specs.Text.{samples_of}
use Rattle.comma_stream.specs.declared.Follow.{Follow}
use Rattle.comma_stream.specs.declared.Rest.{Rest}
use Rattle.comma_stream.specs.declared.Rest.TheVariants.{Waits, Over, Wrong}
use Rattle.comma_stream.specs.Follow.{bytes_of, right_lines, after_lines, resting}
use Rattle.sample_items.specs.declared.Items.{Items}
use Rattle.desk_line.specs.Said.{Said}
use Rattle.comma_count.specs.declared.Counting.{Counting}
use Rattle.comma_count.specs.declared.Took.{Took}
use Rattle.comma_count.specs.declared.Turned.{Turned}
use Rattle.comma_count.specs.Line.{zeros, counted, refused_at}
use Rattle.record_end.specs.declared.RecordResult.{RecordResult}

-- ---- opening: 1 ends it
abbrev pub is_refused : Result Record Refusal → Bool
is_refused (Ok r) = false
is_refused (Err q) = true

abbrev pub fresh : ℕ → Follow
fresh D = record { step = D; lines = 0; outside = 0 }

unfoldable pub opening : Items → Counting
opening i =
    record {
      follow = fresh i.step;
      answer = opened i;
      over = is_refused (opened i);
    }

-- ---- lines more: what is held against the lines so far stays, and a sample out of range goes before it
abbrev pub onward : Result Record Refusal → List ℤ → Result Record Refusal
onward (Ok r) xs = fed r xs (zeros xs)
onward (Err q) xs = Err q

-- f is where the reading stands after the lines of the samples xs
unfoldable pub answering : Follow → Result Record Refusal → List ℤ → Result Record Refusal
answering f a xs = cond (eqb f.outside 0) (onward a xs) (Err (Sample (f.outside - 1)))

abbrev pub going : Follow → Result Record Refusal → Counting
going f a = record { follow = f; answer = a; over = false }

abbrev pub with_lines : Counting → List (List ℕ) → Counting
with_lines c lines = going (after_lines c.follow lines) (answering (after_lines c.follow lines) c.answer (samples_of lines))

-- where the right lines lead that a text starts with
pub record Leads (f : Follow) (a : Result Record Refusal) (text : List ℕ) (g : Follow) (b : Result Record Refusal) (at : ℕ) : Type 0 where
  pub stands : g ≡ after_lines f (right_lines f text)
  pub says : b ≡ answering (after_lines f (right_lines f text)) a (samples_of (right_lines f text))
  pub place : at ≡ bytes_of (right_lines f text)
  pub within : at ≤ length text
  pub few : g.lines ≤ f.lines + length text

-- ---- a piece: its right lines, and what is left of it
-- 10 with the number of the line after the right ones ends it
abbrev pub over : Follow → Refusal → Counting
over f r = record { follow = f; answer = Err r; over = true }

abbrev pub rested : Rest → Counting → ℕ → ℕ → Took
rested (Waits n) c at all = record { counting = c; used = at }
rested Over c at all = record { counting = c; used = at }
rested Wrong c at all = record { counting = over c.follow (CommaLine (c.follow.lines + 1)); used = all }

-- ---- refusal 8: whether a count that is not over can have been handed out
-- no reading stands where times have more than 12 digits, and the line that it noted is one that it has read
abbrev pub sound_follow : Follow → Bool
sound_follow f = step_in_range f.step && (leb f.lines 1000000000000 && leb f.outside f.lines)

-- a record of the lines so far is sound, of their step, and has a sample for each of them, none out of range
abbrev pub of_lines : Follow → Record → Bool
of_lines f r = sound r && (eqb r.items.step f.step && (eqb r.n f.lines && eqb f.outside 0))

-- lines that lead to f can have been answered by a; after a refusal there is no record to ask about
abbrev pub agrees : Follow → Result Record Refusal → Bool
agrees f (Ok r) = of_lines f r
agrees f (Err q) = sound_follow f

-- ---- what is over stays, and all of the text is used; 8 where lines and answer do not agree
unfoldable pub taking : Counting → List ℕ → Bool → Took
taking c text more =
    cond c.over (record { counting = c; used = length text })
    (cond (not (agrees c.follow c.answer)) (record { counting = over c.follow BrokenState; used = length text })
    (rested (resting (drop (bytes_of (right_lines c.follow text)) text) more) (with_lines c (right_lines c.follow text)) (bytes_of (right_lines c.follow text)) (length text)))

-- ---- a turn through a buffer, whose first bytes are a piece: the bytes that the piece leaves unused go to its start
abbrev pub turning : Counting → List ℕ → Bool → Turned
turning c piece more = record { counting = (taking c piece more).counting; kept = length piece - (taking c piece more).used }

abbrev pub turn_left : Counting → ℕ → Bool → List ℕ → List ℕ
turn_left c end more text = kept (taking c (take end text) more).used (length (take end text) - (taking c (take end text) more).used) text

-- ---- what is said of a count: the line at fault is a malformed line's number, or that of the line of the first sample
-- out of range
abbrev pub line_for : Follow → Refusal → ℕ
line_for f r = cond (eqb (number_of r) 10) (value_of r) (cond (eqb (number_of r) 2) f.outside 0)

abbrev pub end_by : Follow → Result Record Refusal → Result Record (ℕ × Refusal)
end_by f (Ok r) = Ok r
end_by f (Err q) = Err (line_for f q, q)

abbrev pub end_of : Counting → Result Record (ℕ × Refusal)
end_of c = end_by c.follow c.answer

-- for programs that go on: one thing to do with a refusal, another with a record
abbrev pub on_end : {X : Type 0} → (ℕ → Refusal → X) → (Record → X) → Result Record (ℕ × Refusal) → X
on_end refuse go (Ok r) = go r
on_end refuse go (Err (line, q)) = refuse line q

abbrev pub said_ended : ℕ → Result RecordResult Refusal → Said
said_ended n (Ok x) = counted n x
said_ended n (Err r) = refused_at 0 r

abbrev pub said_end : Result Record (ℕ × Refusal) → Said
said_end (Ok r) = said_ended r.n (ending r)
said_end (Err (line, q)) = refused_at line q

unfoldable pub saying : Counting → Said
saying c = said_end (end_of c)
