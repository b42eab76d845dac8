-- What the functions over two files answer: where they stand, from their opening over the pieces of both texts to what
-- is said of them. Assumes nothing.
use Rattle.std.specs.Prelude.{ℕ, ◌+◌, ◌-◌, min, Bool, false, true, cond, not, ◌&&◌, ◌||◌, List, [], map, eqb, leb, ltb, ℤ, length, take, drop, Result, Ok, Err}
use Rattle.refusal.specs.declared.Refusal.{Refusal}
use Rattle.refusal.specs.declared.Refusal.TheVariants.{Sample, BrokenState, CommaLine, Unequal, Acceleration}
use Rattle.refusal.specs.Numbers.{number_of, value_of}
use Rattle.record_state.specs.Answers.{opened}
use Rattle.record_feed.specs.Answers.{fed}
use Rattle.record_end.specs.Result.{ending}
use Rattle.comma_line.specs.Text.{samples_of}
use Rattle.comma_stream.specs.declared.Follow.{Follow}
use Rattle.comma_stream.specs.declared.Rest.{Rest}
use Rattle.comma_stream.specs.declared.Rest.TheVariants.{Waits, Over, Wrong}
use Rattle.comma_stream.specs.Follow.{bytes_of, held, right_lines, after_lines, resting}
use Rattle.sample_items.specs.declared.Items.{Items}
use Rattle.desk_line.specs.Said.{Said}
use Rattle.comma_count.specs.declared.Counting.{Counting}
use Rattle.comma_count.specs.declared.Took as one
use Rattle.comma_count.specs.Line.{refused_at}
use Rattle.comma_count.specs.Taking as count
use Rattle.comma_count.specs.Taking.{is_refused, fresh, sound_follow, agrees, said_ended}
use Rattle.comma_pair.specs.declared.Watching.{Watching}
use Rattle.comma_pair.specs.declared.Abreast.{Abreast}
use Rattle.comma_pair.specs.declared.Took.{Took}
use Rattle.comma_pair.specs.declared.Next.{Next}
use Rattle.comma_pair.specs.declared.Next.TheVariants as next
use Rattle.comma_pair.specs.Line.{refused_of}
use Rattle.comma_pair.specs.declared.PairFault.TheVariants.{Plain, AtLine}
use Rattle.record_state.specs.declared.Record.{Record}
use Rattle.comma_pair.specs.declared.PairFault.{PairFault}

-- ---- opening: 1 ends it
unfoldable pub opening : Items → Watching
opening i =
    record {
      roll = fresh i.step;
      acceleration = fresh i.step;
      answer = opened i;
      channel = 0;
      over = is_refused (opened i);
    }

-- ---- lines more of both: a sample out of range is fed as 0, and is refused in the end
abbrev pub onward : Result Record Refusal → List ℤ → List ℤ → Result Record Refusal
onward (Ok r) xs ys = fed r xs ys
onward (Err q) xs ys = Err q

abbrev pub held_of : List (List ℕ) → List ℤ
held_of lines = map held (samples_of lines)

-- ---- the right lines that both texts start with, side by side, as far as both go
abbrev pub pairs_of : Follow → Follow → List ℕ → List ℕ → ℕ
pairs_of f g x y = min (length (right_lines f x)) (length (right_lines g y))

-- where they lead, the bytes of each, and whether the roll has one more
unfoldable pub side_by_side : Follow → Follow → Result Record Refusal → List ℕ → List ℕ → Abreast
side_by_side f g a x y =
    let us = take (pairs_of f g x y) (right_lines f x) in
    let vs = take (pairs_of f g x y) (right_lines g y) in
    record {
      roll = after_lines f us;
      acceleration = after_lines g vs;
      answer = onward a (held_of us) (held_of vs);
      at = bytes_of us;
      beside = bytes_of vs;
      ahead = ltb (length (right_lines g y)) (length (right_lines f x));
    }

-- ---- where both files stand
abbrev pub watched : Follow → Follow → Result Record Refusal → Watching
watched f g a = record { roll = f; acceleration = g; answer = a; channel = 0; over = false }

-- 10 in a channel ends it; 8 has none
abbrev pub stopped : Follow → Follow → Result Record Refusal → ℕ → Watching
stopped f g a channel = record { roll = f; acceleration = g; answer = a; channel = channel; over = true }

-- ---- what is left after the lines side by side; x and y are the lengths of both texts
-- a file has to be read first
abbrev pub waiting : Next → Abreast → Took
waiting n s =
    record {
      watching = watched s.roll s.acceleration s.answer;
      roll = s.at;
      acceleration = s.beside;
      next = n;
    }

-- all is used
abbrev pub ended : Watching → ℕ → ℕ → Took
ended w x y = record { watching = w; roll = x; acceleration = y; next = next.Neither }

-- the other file has ended: a file goes on alone, as one that is counted by itself; that they are unequal is refused in
-- the end
abbrev pub alone : Follow → Counting
alone f = count.going f (Err Unequal)

abbrev pub roll_alone : one.Took → Abreast → Bool → ℕ → ℕ → Took
roll_alone t s more x y =
    cond t.counting.over (ended (stopped t.counting.follow s.acceleration t.counting.answer 1) x y)
    (record {
      watching = watched t.counting.follow s.acceleration s.answer;
      roll = s.at + t.used;
      acceleration = s.beside;
      next = cond more next.Roll next.Neither;
    })

abbrev pub acceleration_alone : one.Took → Abreast → Bool → ℕ → ℕ → Took
acceleration_alone t s more x y =
    cond t.counting.over (ended (stopped s.roll t.counting.follow t.counting.answer 2) x y)
    (record {
      watching = watched s.roll t.counting.follow s.answer;
      roll = s.at;
      acceleration = s.beside + t.used;
      next = cond more next.Acceleration next.Neither;
    })

-- the acceleration has no right line where the roll has one
abbrev pub acceleration_behind : Rest → Abreast → List ℕ → Bool → ℕ → Took
acceleration_behind (Waits n) s x more y = waiting next.Acceleration s
acceleration_behind Over s x more y =
    roll_alone (count.taking (alone s.roll) (drop s.at x) more) s more (length x) y
acceleration_behind Wrong s x more y =
    ended (stopped s.roll s.acceleration (Err (CommaLine (s.acceleration.lines + 1))) 2) (length x) y

-- the roll has none: of two wrong lines with one number its own is named
abbrev pub roll_behind : Rest → Abreast → ℕ → List ℕ → Bool → Took
roll_behind (Waits n) s x y more = waiting next.Roll s
roll_behind Over s x y more =
    acceleration_alone (count.taking (alone s.acceleration) (drop s.beside y) more) s more x (length y)
roll_behind Wrong s x y more =
    ended (stopped s.roll s.acceleration (Err (CommaLine (s.roll.lines + 1))) 1) x (length y)

unfoldable pub judged : Abreast → List ℕ → Bool → List ℕ → Bool → Took
judged s x xMore y yMore =
    cond s.ahead (acceleration_behind (resting (drop s.beside y) yMore) s x xMore (length y))
    (roll_behind (resting (drop s.at x) xMore) s (length x) y yMore)

-- ---- refusal 8: whether a count that is not over can be that of two files
-- the lines that both have, as those of one; a sample out of range is held as 0 in the record
abbrev pub shared : Follow → Follow → Follow
shared f g = record { step = f.step; lines = min f.lines g.lines; outside = 0 }

-- the answer is that to these lines, both files have one step, and each stands where one may
abbrev pub agreeing : Follow → Follow → Result Record Refusal → Bool
agreeing f g a = agrees (shared f g) a && (eqb f.step g.step && (sound_follow f && sound_follow g))

-- ---- pieces of both: what is over stays; 8 where lines and answer do not agree
unfoldable pub taking : Watching → List ℕ → Bool → List ℕ → Bool → Took
taking w x xMore y yMore =
    cond w.over (ended w (length x) (length y))
    (cond (not (agreeing w.roll w.acceleration w.answer))
    (ended (stopped w.roll w.acceleration (Err BrokenState) 0) (length x) (length y))
    (judged (side_by_side w.roll w.acceleration w.answer x y) x xMore y yMore))

-- the bytes that are not used of the file that has to be read
abbrev pub left_over : Next → Took → List ℕ → List ℕ → ℕ
left_over next.Roll t x y = length x - t.roll
left_over next.Acceleration t x y = length y - t.acceleration
left_over next.Neither t x y = 0

-- ---- what both files come to: 10 with its line and channel, 12, 2 with the lower line and its channel, or the answer
abbrev pub end_by : ℕ → Result Record Refusal → Result Record PairFault
end_by channel (Ok r) = Ok r
end_by channel (Err q) = cond (eqb (number_of q) 10) (Err (AtLine (value_of q) q channel)) (Err (Plain q))

-- the first sample out of range is the roll's
abbrev pub roll_outside : Follow → Follow → Bool
roll_outside f g = not (eqb f.outside 0) && (eqb g.outside 0 || leb f.outside g.outside)

unfoldable pub end_of : Watching → Result Record PairFault
end_of w =
    cond w.over (end_by w.channel w.answer)
    (cond (not (eqb w.roll.lines w.acceleration.lines)) (Err (Plain Unequal))
    (cond (roll_outside w.roll w.acceleration) (Err (AtLine w.roll.outside (Sample (w.roll.outside - 1)) 1))
    (cond (not (eqb w.acceleration.outside 0))
    (Err (AtLine w.acceleration.outside (Acceleration (w.acceleration.outside - 1)) 2))
    (end_by 0 w.answer))))

-- and what is said of it
abbrev pub said_end : Result Record PairFault → Said
said_end (Ok r) = said_ended r.n (ending r)
said_end (Err (Plain q)) = refused_at 0 q
said_end (Err (AtLine line q channel)) = refused_of line q channel

unfoldable pub saying : Watching → Said
saying w = said_end (end_of w)
