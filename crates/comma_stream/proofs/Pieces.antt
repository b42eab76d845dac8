-- The pieces in which a file comes make no difference: whatever they are, the same lines are taken and the same bytes
-- are left as if it came whole, and it ends as `comma_read` reads it (`followed_whole`). And a line that is told to be
-- wrong before it has ended does not become right (`wrong_stays`). Assumes nothing.
use Prim.Native.Nat.{ℕ, zero, suc, ◌+◌, ◌*◌, ◌≤◌, ◌<◌}
use mathlib.Core.Path.{◌≡◌, refl, sym, ap, subst, ◌∙◌}
use mathlib.Core.Bool.{true, false, cond}
use mathlib.Core.List.{List, [], ◌∷◌, ◌++◌, append_assoc, append-nil, map-append}
use native.Mathlib.Nat.{zero-add, add_assoc}
use native.Mathlib.Omega.{arith}
use lib.Dec.{ltb}
use lib.ListN.{length, take, drop, length-append, length-map, length-drop}
use lib.Seq.{drop-drop, drop_at, length-take-le}
use borrow.Author.Tests.{ne_eqb, lt-ltb, le-ltb}
use Rattle.truth.proofs.Cases.{by_test, by_order}
use Rattle.sample_items.specs.Limits.{step_in_range}
use Rattle.sample_range.specs.Range.{first_bad}
use Rattle.decimal.specs.Lines.{lines_of}
use Rattle.degrees.specs.Degrees.{sample_of}
use Rattle.comma_line.specs.Line.{roll, right, line_length}
use Rattle.comma_line.specs.Text.{first_wrong, samples_of}
use Rattle.refusal.specs.declared.Refusal.TheVariants.{Sample, CommaLine}
use Rattle.comma_read.specs.Answers.{reading_comma, reading_lines}
use Rattle.comma_read.proofs.Lines.{Turn, turn, first_line}
use Rattle.comma_read.proofs.Going.{wrong_none}
use Rattle.comma_stream.specs.declared.Follow.{Follow}
use Rattle.comma_stream.specs.Follow.{bytes_of, right_lines, after_lines}
use Rattle.text.specs.Pieces.{joined}
use Rattle.comma_stream.specs.Pieces.{Passed, nothing, with_piece, passing, ending}
use Rattle.comma_stream.proofs.Going.{Outside, outside_is, outside_join}
use Rattle.std.specs.Prelude.{Ok, Err}

-- ---- the right lines that a text starts with, from a time on
abbrev pub Rights : ℕ → ℕ → List ℕ → List (List ℕ)
Rights D time text = take (first_wrong D time (lines_of text)) (lines_of text)

-- what is left after them
abbrev pub Left : ℕ → ℕ → List ℕ → List ℕ
Left D time text = drop (bytes_of (Rights D time text)) text

pub none : (D time : ℕ) (text : List ℕ) → right time text ≡ false → Rights D time text ≡ []
none D time text r = rw (wrong_none D time text r)

module _ (D time : ℕ) (text : List ℕ) (r : right time text ≡ true) where
  abbrev pub t : Turn time text
  t = turn time text r

  abbrev pub rest : List ℕ
  rest = drop (line_length text) text

  -- one line, and those after it, with more after the text or not
  pub one : (more : List ℕ) → Rights D time (t.line ++ more) ≡ t.line ∷ Rights D (time + D) more
  unfolding first_wrong
  one more = rw (t.before more, t.is)

  pub first : Rights D time text ≡ t.line ∷ Rights D (time + D) rest
  first = ap (Rights D time) t.parts ∙ one rest

  pub past : (lines : List (List ℕ)) → drop (bytes_of (t.line ∷ lines)) text ≡ drop (bytes_of lines) rest
  unfolding bytes_of
  past lines = rw t.bytes (sym (drop-drop (bytes_of lines) (line_length text) text))

  shorter : length rest < length text
  shorter = omega (arith, length-drop (line_length text) text, t.some, t.within)

-- the lines of a text with more after it: those of the text, and those of what is left with more after it
pub record Joins (D time : ℕ) (a b : List ℕ) : Type 0 where
  pub lines : Rights D time (a ++ b) ≡ Rights D time a ++ Rights D (time + length (Rights D time a) * D) (Left D time a ++ b)
  pub left : Left D time (a ++ b) ≡ Left D (time + length (Rights D time a) * D) (Left D time a ++ b)
  pub all : lines_of a ≡ Rights D time a ++ lines_of (Left D time a)
  pub stops : right (time + length (Rights D time a) * D) (Left D time a) ≡ false

-- no right line
joins_none : (D time : ℕ) (a b : List ℕ) → right time a ≡ false → Joins D time a b
unfolding bytes_of
joins_none D time a b r =
    let z : time + 0 * D ≡ time = omega arith in
    record { lines = rw (none D time a r, z); left = rw (none D time a r, z); all = rw (none D time a r); stops = rw (none D time a r, z) r }

-- a right line before what joins
module _ (D time : ℕ) (a b : List ℕ) (r : right time a ≡ true) (ih : Joins D (time + D) (rest D time a r) b) where
  abbrev line : List ℕ
  line = (t D time a r).line

  abbrev later : List ℕ
  later = rest D time a r

  abbrev ys : List (List ℕ)
  ys = Rights D (time + D) later

  abbrev zs : List (List ℕ)
  zs = Rights D (time + D) (later ++ b)

  due : time + suc (length ys) * D ≡ time + D + length ys * D
  due = omega arith

  apart : a ++ b ≡ line ++ (later ++ b)
  apart = ap (λ x. x ++ b) (t D time a r).parts ∙ append_assoc line later b

  whole : Rights D time (a ++ b) ≡ line ∷ zs
  whole = ap (Rights D time) apart ∙ one D time a r (later ++ b)

  joins_on : Joins D time a b
  unfolding bytes_of
  joins_on =
      record {
        lines = whole ∙ rw (first D time a r, past D time a r, due) (ap (λ x. line ∷ x) ih.lines);
        left =
            ap (λ x. drop (bytes_of x) (a ++ b)) whole
            ∙ ap (drop (bytes_of (line ∷ zs))) apart
            ∙ sym (drop-drop (bytes_of zs) (length line) (line ++ (later ++ b)))
            ∙ rw (drop_at line (later ++ b) (length line) refl, first D time a r, past D time a r, due) ih.left;
        all = (t D time a r).lines ∙ rw (first D time a r, past D time a r) (ap (λ x. line ∷ x) ih.all);
        stops = rw (first D time a r, past D time a r, due) ih.stops;
      }

pub joins : (n D time : ℕ) (a b : List ℕ) → length a ≤ n → Joins D time a b
joins zero D time a b h = by_test (right time a) (λ r. absurd (omega (arith, shorter D time a r))) (joins_none D time a b)
joins (suc n) D time a b h =
    by_test (right time a)
    (λ r. joins_on D time a b r (joins n D (time + D) (rest D time a r) b (omega (arith, shorter D time a r))))
    (joins_none D time a b)

-- ---- piece by piece
-- after lines the reading stands where it stands after each of them
module _ (f : Follow) (us vs : List (List ℕ)) where
  many_join : (after_lines (after_lines f us) vs).lines ≡ (after_lines f (us ++ vs)).lines
  unfolding after_lines
  many_join = rw length-append (add_assoc f.lines (length us) (length vs))

  outside_both : (after_lines (after_lines f us) vs).outside ≡ (after_lines f (us ++ vs)).outside
  unfolding after_lines
  outside_both =
      outside_is (after_lines f us) vs
      ∙ rw (outside_is f us, ← length-map us (λ line. sample_of (roll line))) (sym (outside_join f (samples_of us) (samples_of vs)))
      ∙ sym (outside_is f (us ++ vs) ∙ ap (Outside f) (map-append (λ line. sample_of (roll line)) us vs))

  pub after_join : after_lines (after_lines f us) vs ≡ after_lines f (us ++ vs)
  unfolding after_lines
  after_join i = record { step = f.step; lines = many_join i; outside = outside_both i }

-- what was passed is what the text so far leaves
pub record Level (D : ℕ) (p : Passed) (text : List ℕ) : Type 0 where
  pub stands : p.stands ≡ after_lines (nothing D).stands (Rights D 0 text)
  pub samples : p.samples ≡ samples_of (Rights D 0 text)
  pub left : p.left ≡ Left D 0 text

module _ (D : ℕ) where
  -- the right lines of what is left and a piece
  module _ (p : Passed) (text piece : List ℕ) (l : Level D p text) where
    abbrev Taken : List (List ℕ)
    Taken = Rights D 0 text

    more : right_lines p.stands (p.left ++ piece) ≡ Rights D (0 + length Taken * D) (Left D 0 text ++ piece)
    unfolding right_lines after_lines
    more =
        let due : (0 + length Taken) * D ≡ 0 + length Taken * D = omega arith in
        rw (l.stands, l.left) (rw due)

    all : Rights D 0 (text ++ piece) ≡ Taken ++ right_lines p.stands (p.left ++ piece)
    all = (joins (length text) D 0 text piece (omega arith)).lines ∙ ap (λ x. Taken ++ x) (sym more)

    pub level_on : Level D (with_piece p piece) (text ++ piece)
    level_on =
        record {
          stands = ap (λ f. after_lines f (right_lines p.stands (p.left ++ piece))) l.stands ∙ after_join (nothing D).stands Taken _ ∙ ap (after_lines (nothing D).stands) (sym all);
          samples = ap (λ x. x ++ samples_of (right_lines p.stands (p.left ++ piece))) l.samples ∙ sym (ap samples_of all ∙ map-append (λ line. sample_of (roll line)) Taken _);
          left = rw (more, l.left) (sym (joins (length text) D 0 text piece (omega arith)).left);
        }

  pub level_all : (pieces : List (List ℕ)) (p : Passed) (text : List ℕ) → Level D p text → Level D (passing p pieces) (text ++ joined pieces)
  unfolding passing joined
  level_all [] p text l = rw append-nil l
  level_all (piece ∷ pieces) p text l =
      subst (Level D (passing (with_piece p piece) pieces)) (append_assoc text piece (joined pieces)) (level_all pieces (with_piece p piece) (text ++ piece) (level_on p text piece l))

  pub level_start : Level D (nothing D) []
  unfolding lines_of first_wrong bytes_of after_lines first_bad
  level_start = record { stands = refl; samples = refl; left = refl }

  -- a file in pieces is passed as one that comes whole
  pub pieces_whole : (pieces : List (List ℕ)) → passing (nothing D) pieces ≡ with_piece (nothing D) (joined pieces)
  pieces_whole pieces =
      let l = level_all pieces (nothing D) [] level_start in
      let m = level_on (nothing D) [] (joined pieces) level_start in
      λ i. record { stands = (l.stands ∙ sym m.stands) i; samples = (l.samples ∙ sym m.samples) i; left = (l.left ∙ sym m.left) i }

-- ---- the end
pub wrong_within : (D time : ℕ) (lines : List (List ℕ)) → first_wrong D time lines ≤ length lines
unfolding first_wrong
wrong_within D time [] = omega arith
wrong_within D time (line ∷ lines) = by_test (right time line) (λ r. rw r (omega (arith, wrong_within D (time + D) lines))) (λ r. rw r (omega arith))

module _ (D : ℕ) (text : List ℕ) (p : Passed) (l : Level D p text) where
  abbrev L : List (List ℕ)
  L = lines_of text

  abbrev Bad : ℕ
  Bad = first_bad (samples_of L)

  pub number : length (Rights D 0 text) ≡ first_wrong D 0 L
  number = length-take-le (first_wrong D 0 L) L (wrong_within D 0 L)

  pub rest_of : L ≡ Rights D 0 text ++ lines_of (Left D 0 text)
  rest_of = (joins (length text) D 0 text [] (omega arith)).all

  -- no bytes are left: all lines are right
  module _ (e : Left D 0 text ≡ []) where
    pub same : Rights D 0 text ≡ L
    unfolding lines_of
    same = sym (rest_of ∙ ap (λ x. Rights D 0 text ++ lines_of x) e ∙ append-nil (Rights D 0 text))

    lines : p.stands.lines ≡ length L
    unfolding after_lines
    lines = rw (l.stands, same) (zero-add (length L))

    outside : p.stands.outside ≡ cond (ltb Bad (length L)) (Bad + 1) 0
    unfolding after_lines
    outside = rw (l.stands, same) (rw zero-add)

    all_taken : ending p ≡ cond (ltb Bad (length L)) (Err (Sample Bad)) (Ok (length L))
    unfolding ending
    all_taken =
        by_order Bad (length L)
        (λ h. rw (l.left, e, outside, lt-ltb Bad (length L) h, ne_eqb (Bad + 1) 0 (λ z. omega arith)) (ap (λ n. Err (Sample n)) (omega arith)))
        (λ h. rw (l.left, e, outside, le-ltb Bad (length L) h) (ap Ok lines))

  module _ (places : ℕ) (step : step_in_range D ≡ true) (room : length L ≤ places) where
    none_left : Left D 0 text ≡ [] → ending p ≡ reading_lines D L places
    unfolding reading_lines
    none_left e =
        let all : first_wrong D 0 L ≡ length L = sym number ∙ ap length (same e) in
        rw (all_taken e, step, all, le-ltb (length L) (length L) (omega arith), le-ltb places (length L) room)

    -- bytes are left
    some_left : (b : ℕ) (left : List ℕ) → Left D 0 text ≡ b ∷ left → ending p ≡ reading_lines D L places
    unfolding ending after_lines reading_lines
    some_left b left e =
        let f = first_line 0 (b ∷ left) (omega arith) in
        let more : length (lines_of (Left D 0 text)) ≡ suc (length f.lines) = ap (λ x. length (lines_of x)) e ∙ ap length f.is in
        let short : first_wrong D 0 L < length L = omega (arith, number, more, ap length rest_of ∙ length-append (Rights D 0 text) (lines_of (Left D 0 text))) in
        rw (l.left, l.stands, e, ne_eqb (length (b ∷ left)) 0 (λ z. omega arith), step, lt-ltb (first_wrong D 0 L) (length L) short)
        (ap (λ n. Err (CommaLine (n + 1))) (zero-add (length (Rights D 0 text)) ∙ number))

    ending_whole : ending p ≡ reading_lines D L places
    ending_whole = by_left (Left D 0 text) refl
      where
        by_left : (left : List ℕ) → Left D 0 text ≡ left → ending p ≡ reading_lines D L places
        by_left [] e = none_left e
        by_left (b ∷ left) e = some_left b left e

-- a file in pieces ends as it reads whole
pub followed_whole : (D places : ℕ) (pieces : List (List ℕ)) → step_in_range D ≡ true → length (lines_of (joined pieces)) ≤ places
    → ending (passing (nothing D) pieces) ≡ reading_comma D (joined pieces) places
followed_whole D places pieces step room =
    ending_whole D (joined pieces) _ (level_all D pieces (nothing D) [] (level_start D)) places step room

-- and where no bytes are left, its samples are those of the whole
pub followed_samples : (D : ℕ) (pieces : List (List ℕ)) → let p = passing (nothing D) pieces in p.left ≡ [] → p.samples ≡ samples_of (lines_of (joined pieces))
followed_samples D pieces e =
    let l = level_all D pieces (nothing D) [] (level_start D) in
    l.samples ∙ ap samples_of (same D (joined pieces) (passing (nothing D) pieces) l (sym l.left ∙ e))
