-- What the functions answer: where a reading stands, from its opening over the pieces of a text to what is written of
-- it. Assumes nothing.
use Rattle.std.specs.Prelude.{ℕ, ◌≤◌, ◌≡◌, Bool, true, false, cond, not, ◌&&◌, List, [], ◌∷◌, map, ltb, ℤ, length, take, drop, Option, Some, None, Result, Ok, Err}
use Rattle.refusal.specs.declared.Refusal.TheVariants.{BrokenState}
use Rattle.sample_items.specs.Limits.{step_in_range}
use Rattle.text.specs.Write.{laid}
use Rattle.peak_groups.specs.declared.Peak.{Peak}
use Rattle.peak_lines.specs.Lines.{peaks_text}
use Rattle.peak_stream.specs.declared.Surveying.{Surveying}
use Rattle.peak_stream.specs.declared.Handing.{Handing}
use Rattle.peak_stream.specs.Survey.{started}
use Rattle.peak_stream.specs.Hands.{begun, hands_on, closed_by, at_end}
use Rattle.comma_line.specs.Text.{samples_of}
use Rattle.comma_stream.specs.declared.Follow.{Follow}
use Rattle.comma_stream.specs.declared.Rest.{Rest}
use Rattle.comma_stream.specs.declared.Rest.TheVariants.{Waits, Over, Wrong}
use Rattle.comma_stream.specs.Follow.{bytes_of, held, right_lines, after_lines, resting}
use Rattle.comma_peaks.specs.Timed.{timed_of, counting}
use Rattle.comma_peaks.specs.Judged.{judging, alike}
use Rattle.desk_line.specs.Said.{Said, failed_digit}
use Rattle.peak_files.specs.declared.Pass.{Pass}
use Rattle.peak_files.specs.declared.Took.{Took}
use Rattle.peak_files.specs.Said.{peaks_read, nothing, judged_said}
use Rattle.refusal.specs.declared.Refusal.{Refusal}

-- ---- opening
abbrev pub fresh : ℕ → Follow
fresh D = record { step = D; lines = 0; outside = 0 }

abbrev pub begins : ℕ → ℕ → ℕ → Result (Handing × ℕ) Refusal → Pass
begins D R file h =
    record {
      follow = fresh D;
      ramp = R;
      file = file;
      counted = started D;
      handing = h;
      over = false;
      wrong = false;
    }

-- a first reading hands nothing out
abbrev pub opening : ℕ → ℕ → ℕ → Pass
opening D R file = begins D R file (Err BrokenState)

abbrev pub begun_by : ℕ → ℕ → Result Surveying Refusal → Result (Handing × ℕ) Refusal
begun_by D τ (Ok s) = begun D τ s.number s.sum
begun_by D τ (Err q) = Err q

-- a second reading of the same file, after what the first counted
abbrev pub again : Pass → ℕ → Pass
again p τ = begins p.follow.step p.ramp p.file (begun_by p.follow.step τ p.counted)

-- ---- samples more, after so many lines: what they count, and what they hand out
abbrev pub counted_on : Result Surveying Refusal → ℕ → ℕ → List ℤ → Result Surveying Refusal
counted_on (Ok s) R lines xs = Ok (counting R lines s xs)
counted_on (Err q) R lines xs = Err q

-- at most so many lines are taken at once, and so many bytes have room for their peaks
abbrev pub most_lines : ℕ
most_lines = 1024

abbrev pub room_asked : ℕ
room_asked = 49152

abbrev pub hands_over : Handing → ℕ → ℕ → List ℤ → Result (Handing × ℕ) Refusal
hands_over h R lines xs = hands_on h (timed_of R lines h.reading xs) most_lines most_lines

abbrev pub unless_refused : Result (Handing × ℕ) Refusal → List Peak → List Peak
unless_refused (Ok (h, k)) l = l
unless_refused (Err q) l = []

abbrev pub hands_out : Handing → ℕ → ℕ → List ℤ → List Peak
hands_out h R lines xs = unless_refused (hands_over h R lines xs) (closed_by h (timed_of R lines h.reading xs))

abbrev pub handed_on : Result (Handing × ℕ) Refusal → ℕ → ℕ → List ℤ → Result (Handing × ℕ) Refusal
handed_on (Ok (h, k)) R lines xs = hands_over h R lines xs
handed_on (Err q) R lines xs = Err q

abbrev pub given_by : Result (Handing × ℕ) Refusal → ℕ → ℕ → List ℤ → List Peak
given_by (Ok (h, k)) R lines xs = hands_out h R lines xs
given_by (Err q) R lines xs = []

abbrev pub number_of : Result (Handing × ℕ) Refusal → ℕ
number_of (Ok (h, k)) = k
number_of (Err q) = 0

-- what is handed on, with the lines of some peaks at the start of what is lent
pub record Gives (next : Result (Handing × ℕ) Refusal) (bytes out : List ℕ) (h : Result (Handing × ℕ) Refusal) (put : ℕ) (later : List ℕ) : Type 0 where
  pub next-is : h ≡ next
  pub put_is : put ≡ length bytes
  pub left : later ≡ laid out 0 bytes
  pub fits : length bytes ≤ length out

-- f is where the reading stands after them
abbrev pub with_samples : Pass → Follow → List ℤ → Pass
with_samples p f xs =
    record {
      follow = f;
      ramp = p.ramp;
      file = p.file;
      counted = counted_on p.counted p.ramp p.follow.lines xs;
      handing = handed_on p.handing p.ramp p.follow.lines xs;
      over = p.over;
      wrong = p.wrong;
    }

abbrev pub given_text : Pass → List ℤ → List ℕ
given_text p xs = peaks_text p.file (given_by p.handing p.ramp p.follow.lines xs)

pub record Passes (p : Pass) (f : Follow) (xs : List ℤ) (out : List ℕ) (q : Pass) (n : ℕ) (later : List ℕ) : Type 0 where
  pub pass_is : q ≡ with_samples p f xs
  pub put_is : n ≡ length (given_text p xs)
  pub left : later ≡ laid out 0 (given_text p xs)
  pub fits : length (given_text p xs) ≤ length out

-- ---- a call: the right lines of a text, at most 1024, and what is left where there are fewer
-- a reading that is over, and whether a line is wrong
abbrev pub ended_as : Bool → Pass → Pass
ended_as wrong p =
    record {
      follow = p.follow;
      ramp = p.ramp;
      file = p.file;
      counted = p.counted;
      handing = p.handing;
      over = true;
      wrong = wrong;
    }

-- where it stands then, the bytes that are used, and those that are written
pub record Called : Type 0 where
  pub pass : Pass
  pub used : ℕ
  pub bytes : List ℕ

abbrev pub rested : Rest → Pass → ℕ → ℕ → List ℕ → Called
rested (Waits n) p at all bytes = record { pass = p; used = at; bytes = bytes }
rested Over p at all bytes = record { pass = ended_as false p; used = at; bytes = bytes }
rested Wrong p at all bytes = record { pass = ended_as true p; used = all; bytes = bytes }

abbrev pub took_by : Rest → Pass → ℕ → ℕ → ℕ → Took
took_by (Waits n) p at all put = record { pass = p; used = at; put = put }
took_by Over p at all put = record { pass = ended_as false p; used = at; put = put }
took_by Wrong p at all put = record { pass = ended_as true p; used = all; put = put }

abbrev pub lines_in : Pass → List ℕ → List (List ℕ)
lines_in p text = take most_lines (right_lines p.follow text)

abbrev pub samples_in : Pass → List ℕ → List ℤ
samples_in p text = map held (samples_of (lines_in p text))

abbrev pub rest_of : ℕ → List ℕ → Bool → Rest
rest_of n left more = cond (ltb n most_lines) (resting left more) (Waits 0)

-- what is over stays; without room nothing is taken; and a reading whose step is out of range is over
unfoldable pub calling : Pass → List ℕ → Bool → ℕ → Called
calling p text more room =
    cond p.over (record { pass = p; used = length text; bytes = [] })
    (cond (ltb room room_asked) (record { pass = p; used = 0; bytes = [] })
    (cond (not (step_in_range p.follow.step)) (record { pass = ended_as true p; used = length text; bytes = [] })
    (rested (rest_of (length (lines_in p text)) (drop (bytes_of (lines_in p text)) text) more)
    (with_samples p (after_lines p.follow (lines_in p text)) (samples_in p text))
    (bytes_of (lines_in p text)) (length text) (given_text p (samples_in p text)))))

-- the whole call: the bytes stand at the start of what is lent, and the rest of it as it was
pub record Calls (c : Called) (out : List ℕ) (t : Took) (later : List ℕ) : Type 0 where
  pub pass_is : t.pass ≡ c.pass
  pub used_is : t.used ≡ c.used
  pub put_is : t.put ≡ length c.bytes
  pub left : later ≡ laid out 0 c.bytes
  pub fits : length c.bytes ≤ length out

-- ---- the ends of the two readings
-- after the first: the refused line, or nothing yet
unfoldable pub judged : Pass → Said
judged p = judged_said p.file nothing (judging p.follow p.ramp p.wrong)

abbrev pub alike_taken : Follow → Surveying → Follow → Result Surveying Refusal → Bool
alike_taken f s g (Ok t) = alike f s g t
alike_taken f s g (Err q) = false

abbrev pub alike_by : Follow → Result Surveying Refusal → Follow → Result Surveying Refusal → Bool
alike_by f (Ok s) g b = alike_taken f s g b
alike_by f (Err q) g b = false

-- the second was like the first
abbrev pub same_file : Pass → Pass → Bool
same_file a b = alike_by a.follow a.counted b.follow b.counted && not b.wrong

abbrev pub peak_in : Option Peak → List Peak
peak_in (Some p) = p ∷ []
peak_in None = []

abbrev pub last_by : Result (Handing × ℕ) Refusal → List Peak
last_by (Ok (h, k)) = at_end h
last_by (Err q) = []

-- the line of the last peak; or nothing, and '2', where the file has changed
unfoldable pub finishing : Pass → Pass → Said
finishing a b =
    cond (same_file a b) (peaks_read b.file (last_by b.handing)) (record { line = []; end = failed_digit })
