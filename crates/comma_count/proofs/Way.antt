-- The right lines of a text, taken some at a time. `Way`: what is still to come from where the reading stands is what
-- was to come from the start. A turn keeps it (`way_on`), and a turn that finds fewer lines than it has places is the
-- last (`way_ends`). Assumes nothing.
use Prim.Native.Nat.{ℕ, zero, suc, ◌+◌, ◌*◌, ◌-◌, ◌≤◌, ◌<◌}
use mathlib.Core.Path.{◌≡◌, refl, sym, ap, subst, ◌∙◌}
use mathlib.Core.Bool.{true}
use mathlib.Core.List.{List, [], ◌∷◌, ◌++◌, map, append-nil, map-append}
use native.Mathlib.Nat.{add-zero, add_assoc}
use native.Mathlib.Omega.{arith}
use lib.IntN.{ℤ}
use lib.ListN.{length, take, drop, length-append, length-map, length-drop, length-take}
use lib.Seq.{take-nil, take_all, take_at, drop-drop}
use Rattle.truth.proofs.Laws.{impossible}
use Rattle.sample_items.specs.Limits.{step_in_range}
use Rattle.decimal.specs.Lines.{lines_of}
use Rattle.degrees.specs.Degrees.{sample_of}
use Rattle.comma_line.specs.Line.{roll}
use Rattle.comma_line.specs.Text.{first_wrong, samples_of}
use Rattle.refusal.specs.declared.Refusal.{Refusal}
use Rattle.comma_stream.specs.declared.Follow.{Follow}
use Rattle.comma_stream.specs.Follow.{bytes_of, right_lines, after_lines, taken_by, taking, held, number_of, leaving}
use Rattle.comma_stream.proofs.Pieces.{Rights, after_join}
use Rattle.comma_stream.proofs.Whole.{Parts, part}
use Rattle.comma_count.specs.Taking.{answering, Leads}
use Rattle.comma_count.proofs.Joining.{answering_held, answering_join}
use Rattle.record_state.specs.declared.Record.{Record}
use Rattle.std.specs.Prelude.{Result, Ok, Err}
use Rattle.truth.proofs.Answers.{same_ok}

-- a text from a place on, by its bytes
pub from : (text : List ℕ) (at : ℕ) → take (length text - at) (drop at text) ≡ drop at text
from text at = take_all (length text - at) (drop at text) (omega (arith, length-drop at text))

-- ---- the first right lines of a text, as many as there are places
module _ (f : Follow) (text : List ℕ) (places : ℕ) where
  abbrev pub Some : List (List ℕ)
  Some = take places (right_lines f text)

  pub some_parts : Parts f.step (f.lines * f.step) text Some
  unfolding right_lines
  some_parts = part places f.step (f.lines * f.step) text

  -- those after them
  pub after_those : right_lines f text ≡ Some ++ right_lines (after_lines f Some) (drop (bytes_of Some) text)
  unfolding right_lines after_lines
  after_those =
      let due : f.lines * f.step + length Some * f.step ≡ (f.lines + length Some) * f.step = omega arith in
      some_parts.rest-is ∙ rw due

  -- fewer than places are all
  pub few_all : length Some < places → Some ≡ right_lines f text
  few_all h = all (right_lines f text) h
    where
      all : (lines : List (List ℕ)) → length (take places lines) < places → take places lines ≡ lines
      all lines h = take_all places lines (omega (arith, length-take places lines))

-- a front of a list, by its length
front : {A : Type 0} (m n : ℕ) (l : List A) → take (length (take m (take n l))) l ≡ take m (take n l)
front zero n l = refl
front (suc m) zero l = refl
front (suc m) (suc n) [] = refl
front (suc m) (suc n) (x ∷ l) = ap (λ y. x ∷ y) (front m n l)

-- ---- what taking answers and leaves
module _ (f : Follow) (text : List ℕ) (slice : List ℤ) (step : step_in_range f.step ≡ true) where
  abbrev Here : List (List ℕ)
  Here = Some f text (length slice)

  pub record Took (g : Follow) (bytes n : ℕ) (later : List ℤ) : Type 0 where
    pub stands : g ≡ after_lines f Here
    pub place : bytes ≡ bytes_of Here
    pub number : n ≡ length Here
    pub samples : take n later ≡ map held (samples_of Here)

  took_all : taking f text (length slice) ≡ taken_by f Here
  unfolding taking
  took_all = rw step

  left_front : (n : ℕ) → n ≡ length Here → take n (map held (samples_of (take n (lines_of text))) ++ drop n slice) ≡ map held (samples_of Here)
  unfolding right_lines
  left_front n e =
      let fw = first_wrong f.step (f.lines * f.step) (lines_of text) in
      let same : take n (lines_of text) ≡ Here = ap (λ k. take k (lines_of text)) e ∙ front (length slice) fw (lines_of text) in
      rw same
      (take_at (map held (samples_of Here)) (drop n slice) n (length-map (samples_of Here) held ∙ length-map Here (λ line. sample_of (roll line)) ∙ sym e))

  pub took : {part : List ℕ} {r : (Result (Follow × ℕ × ℕ) Refusal)} {g : Follow} {bytes n : ℕ} {later : List ℤ}
      → part ≡ text → r ≡ taking f part (length slice) → later ≡ leaving r part slice → r ≡ Ok (g, bytes, n) → Took g bytes n later
  unfolding taken_by leaving number_of
  took {part} {r} {g} {bytes} {n} {later} same e l is =
      let all : ◌≡◌ {A = Follow × ℕ × ℕ} (g, bytes, n) (after_lines f Here, bytes_of Here, length Here)
      = same_ok (sym is ∙ e ∙ ap (λ x. taking f x (length slice)) same ∙ took_all) in
      let count : n ≡ length Here = ap (λ (p : Follow × ℕ × ℕ). p.2) all in
      let at : bytes ≡ bytes_of Here = ap (λ (p : Follow × ℕ × ℕ). p.1) all in
      let stand : g ≡ after_lines f Here = ap (λ (p : Follow × ℕ × ℕ). p.0) all in
      record { stands = stand; place = at; number = count; samples = ap (take n) (l ∙ ap (λ x. leaving r x slice) same ∙ ap (λ x. leaving x text slice) is) ∙ left_front n count }

  pub never_refused : {part : List ℕ} {r : (Result (Follow × ℕ × ℕ) Refusal)} {q : Refusal} → part ≡ text → r ≡ taking f part (length slice) → r ≡ Err q → ⊥
  unfolding taken_by
  never_refused same e is = impossible (cc (sym is ∙ e ∙ ap (λ x. taking f x (length slice)) same ∙ took_all))

-- ---- on the way
pub record Way (f : Follow) (a : Result Record Refusal) (text : List ℕ) (g : Follow) (b : Result Record Refusal) (at : ℕ) : Type 0 where
  pub rest : List (List ℕ)
  pub is : rest ≡ right_lines g (drop at text)
  pub stands : after_lines g rest ≡ after_lines f (right_lines f text)
  pub says : answering (after_lines g rest) b (samples_of rest) ≡ answering (after_lines f (right_lines f text)) a (samples_of (right_lines f text))
  pub place : at + bytes_of rest ≡ bytes_of (right_lines f text)
  pub within : at ≤ length text
  pub few : g.lines ≤ f.lines + at
  pub step : g.step ≡ f.step

pub way_start : (f : Follow) (a : Result Record Refusal) (text : List ℕ) → Way f a text f a 0
way_start f a text =
    record { rest = right_lines f text; is = refl; stands = refl; says = refl; place = omega arith; within = omega arith; few = omega arith; step = refl }

bytes_append : (us vs : List (List ℕ)) → bytes_of (us ++ vs) ≡ bytes_of us + bytes_of vs
unfolding bytes_of
bytes_append [] vs = omega arith
bytes_append (u ∷ us) vs = omega (arith, bytes_append us vs)

-- lines more
module _ {f : Follow} {a : (Result Record Refusal)} {text : List ℕ} {g : Follow} {b : (Result Record Refusal)} {at : ℕ} (w : Way f a text g b at) (places : ℕ) where
  abbrev Us : List (List ℕ)
  Us = Some g (drop at text) places

  abbrev Next : Follow
  Next = after_lines g Us

  abbrev Vs : List (List ℕ)
  Vs = right_lines Next (drop (bytes_of Us) (drop at text))

  rest-is : w.rest ≡ Us ++ Vs
  rest-is = w.is ∙ after_those g (drop at text) places

  stand_is : after_lines Next Vs ≡ after_lines g w.rest
  stand_is = after_join g Us Vs ∙ ap (after_lines g) (sym rest-is)

  samples_are : samples_of w.rest ≡ samples_of Us ++ samples_of Vs
  samples_are = ap samples_of rest-is ∙ map-append (λ line. sample_of (roll line)) Us Vs

  pub inside : at + bytes_of Us ≤ length text
  inside = omega (arith, w.within, (some_parts g (drop at text) places).within, length-drop at text)

  pub way_on : Way f a text Next (answering Next b (samples_of Us)) (at + bytes_of Us)
  unfolding after_lines
  way_on =
      record {
        rest = Vs;
        is = ap (right_lines Next) (drop-drop (bytes_of Us) at text);
        stands = stand_is ∙ w.stands;
        says =
            answering_join g b Us Vs
            ∙ ap (answering (after_lines Next Vs) b) (sym samples_are)
            ∙ ap (λ h. answering h b (samples_of w.rest)) stand_is
            ∙ w.says;
        place = omega (arith, w.place, ap bytes_of rest-is ∙ bytes_append Us Vs);
        within = inside;
        few = omega (arith, w.few, (some_parts g (drop at text) places).some);
        step = w.step;
      }

  pub way_ends : length Us < places → Leads f a text Next (answering Next b (samples_of Us)) (at + bytes_of Us)
  unfolding after_lines
  way_ends h =
      let all : Us ≡ w.rest = few_all g (drop at text) places h ∙ sym w.is in
      record {
        stands = ap (after_lines g) all ∙ w.stands;
        says = ap (λ us. answering (after_lines g us) b (samples_of us)) all ∙ w.says;
        place = ap (λ us. at + bytes_of us) all ∙ w.place;
        within = inside;
        few = omega (arith, w.few, (some_parts g (drop at text) places).some, inside);
      }

-- the same by what a turn was told
module _ {f : Follow} {a : (Result Record Refusal)} {text : List ℕ} {g : Follow} {b : (Result Record Refusal)} {at : ℕ} (w : Way f a text g b at) {slice : List ℤ} {step : step_in_range g.step ≡ true}
    {h : Follow} {bytes n : ℕ} {later : List ℤ} (t : Took g (drop at text) slice step h bytes n later) where
  abbrev Lines : List (List ℕ)
  Lines = Some g (drop at text) (length slice)

  pub turn_few : n ≤ length slice
  turn_few = omega (arith, t.number, length-take (length slice) (right_lines g (drop at text)))

  pub turn_within : at + bytes ≤ length text
  turn_within = omega (arith, t.place, inside w (length slice))

  pub turn_falls : 1 ≤ n → length text - (at + bytes) < length text - at
  turn_falls some = omega (arith, turn_within, t.number, t.place, (some_parts g (drop at text) (length slice)).some)

  module _ {b' : (Result Record Refusal)} (said : b' ≡ answering h b (take n later)) where
    says_is : b' ≡ answering (after_lines g Lines) b (samples_of Lines)
    says_is = said ∙ ap (answering h b) t.samples ∙ ap (λ x. answering x b (map held (samples_of Lines))) t.stands ∙ answering_held g b Lines

    pub turn_on : Way f a text h b' (at + bytes)
    turn_on = rw (says_is, t.stands, t.place) (way_on w (length slice))

    pub turn_ends : n < length slice → Leads f a text h b' (at + bytes)
    turn_ends few = rw (says_is, t.stands, t.place) (way_ends w (length slice) (omega (arith, t.number)))
