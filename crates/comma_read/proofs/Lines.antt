-- The lines of a text, one at a time: a right line is the text's first line, and so is a wrong one; what is after it
-- is the rest. Assumes nothing.
use Rattle.std.proofs.Common.{◌≡◌, ℕ, ◌^◌, ◌<◌, ◌≤◌, Bool, true, false, eqb, List, [], ◌∷◌, ◌++◌, length, drop, sym, refl, ap, ◌∙◌, subst, append_assoc, arith, length-append}
use Rattle.truth.proofs.Cases.{by_test}
use Rattle.truth.proofs.Laws.{true≢false}
use Rattle.decimal.specs.Decimal.{longest, is_number, value_of}
use Rattle.decimal.specs.Field.{line_feed}
use Rattle.decimal.specs.Lines.{lines_of}
use Rattle.decimal.proofs.Lines.{NoFeed, none_joined, digits_none, lines_front}
use Rattle.decimal.proofs.Text.{sound, number_below}
use Rattle.degrees.specs.Degrees.{point, below, sample_of}
use Rattle.degrees.proofs.Parts.{IsSize, plain, pointed_by, sign_bytes}
use Rattle.comma_line.specs.Line.{comma, roll, right, line_length}
use Rattle.comma_read.proofs.Shape.{Front, shape, front_line}

size_none : {u : List ℕ} {n : ℕ} → IsSize u n → NoFeed u
unfolding NoFeed
size_none (plain w number) = digits_none w (sound w number).all
size_none (pointed_by w ds number all some few) = none_joined w (point ∷ ds) (digits_none w (sound w number).all) (refl, digits_none ds all)

sign_none : (b : Bool) → NoFeed (sign_bytes b)
unfolding NoFeed
sign_none true = (refl, tt)
sign_none false = tt

pub front_none : (time : List ℕ) → is_number time ≡ true → (b : Bool) {u : List ℕ} {n : ℕ} → IsSize u n → NoFeed (Front time b u)
unfolding NoFeed
front_none time number b {u} z =
    none_joined time (comma ∷ (sign_bytes b ++ u)) (digits_none time (sound time number).all) (refl, none_joined (sign_bytes b) u (sign_none b) (size_none z))

-- the first line of a text is a front of it
record Head (text : List ℕ) : Type 0 where
  line : List ℕ
  lines : List (List ℕ)
  more : List ℕ
  is : lines_of text ≡ line ∷ lines
  parts : text ≡ line ++ more

head : (b : ℕ) (text : List ℕ) → Head (b ∷ text)
unfolding lines_of
head b [] = record { line = b ∷ []; lines = []; more = []; is = by_test (eqb b line_feed) (λ e. rw e) (λ e. rw e); parts = refl }
head b (c ∷ text) =
    by_test (eqb b line_feed)
    (λ e. record { line = b ∷ []; lines = lines_of (c ∷ text); more = c ∷ text; is = rw e; parts = refl })
    (λ e. let h = head c text in record { line = b ∷ h.line; lines = h.lines; more = h.more; is = rw (e, h.is); parts = ap (λ x. b ∷ x) h.parts })

-- ---- a text that starts with a right line
pub record Turn (time : ℕ) (text : List ℕ) : Type 0 where
  pub line : List ℕ
  pub lines : lines_of text ≡ line ∷ lines_of (drop (line_length text) text)
  pub is : right time line ≡ true
  pub sample : sample_of (roll line) ≡ sample_of (roll text)
  pub parts : text ≡ line ++ drop (line_length text) text
  pub before : (more : List ℕ) → lines_of (line ++ more) ≡ line ∷ lines_of more
  pub bytes : length line ≡ line_length text
  pub some : 1 ≤ line_length text
  pub within : line_length text ≤ length text
  pub small : time < 10 ^ longest

pub turn : (time : ℕ) (text : List ℕ) → right time text ≡ true → Turn time text
turn time text r =
    let s = shape time text r in
    let front = Front s.bytes (below (roll text)) s.size_bytes in
    let f = front_line s.bytes s.number (below (roll text)) s.is [] in
    let none = front_none s.bytes s.number (below (roll text)) s.is in
    record {
      line = front ++ (line_feed ∷ []);
      lines = ap lines_of s.parts ∙ lines_front front (drop (line_length text) text) none;
      is = subst (λ t. right t (front ++ (line_feed ∷ [])) ≡ true) s.value f.is;
      sample = rw (f.value, f.sign);
      parts = s.parts ∙ sym (append_assoc front (line_feed ∷ []) (drop (line_length text) text));
      before = λ more. ap lines_of (append_assoc front (line_feed ∷ []) more) ∙ lines_front front more none;
      bytes = length-append front (line_feed ∷ []) ∙ s.count;
      some = omega (arith, s.count);
      within = omega (arith, s.count, ap length s.parts ∙ length-append front (line_feed ∷ drop (line_length text) text));
      small = subst (λ t. t < 10 ^ longest) s.value (number_below s.bytes s.number);
    }

-- a right line in front makes the text right
pub right_front : (time : ℕ) (line more : List ℕ) → right time line ≡ true → right time (line ++ more) ≡ true
right_front time line more r =
    let s = shape time line r in
    let f = front_line s.bytes s.number (below (roll line)) s.is (drop (line_length line) line ++ more) in
    let v = value_of s.bytes in
    let front = Front s.bytes (below (roll line)) s.size_bytes in
    subst (λ t. right t (line ++ more) ≡ true) s.value
    (ap (λ x. right v (x ++ more)) s.parts ∙ ap (right v) (append_assoc front (line_feed ∷ drop (line_length line) line) more) ∙ f.is)

-- a text has a first line, which is right if the text starts with a right line
pub record First (time : ℕ) (text : List ℕ) : Type 0 where
  pub line : List ℕ
  pub lines : List (List ℕ)
  pub is : lines_of text ≡ line ∷ lines
  pub same : right time line ≡ right time text

pub first_line : (time : ℕ) (text : List ℕ) → 1 ≤ length text → First time text
first_line time [] some = absurd (omega arith)
first_line time (b ∷ text) some =
    let h = head b text in
    record {
      line = h.line;
      lines = h.lines;
      is = h.is;
      same = by_test (right time h.line)
          (λ r. rw (r, h.parts, right_front time h.line h.more r)) (λ r. rw r (by_test (right time (b ∷ text))
          (λ t. absurd (true≢false (other h.line h.lines h.is r (turn time (b ∷ text) t)))) sym));
    }
  where
    other : (line : List ℕ) (lines : List (List ℕ)) → lines_of (b ∷ text) ≡ line ∷ lines → right time line ≡ false → Turn time (b ∷ text) → true ≡ false
    other line lines e r t =
        let same : t.line ≡ line = cc (t.lines, e) in
        sym (rw same at t.is) ∙ r
