-- However two files are cut into pieces and in whatever order the pieces come, what is said of them is what is said of
-- both whole texts (`cut_anywhere`). After the texts so far both files stand somewhere (`Stands.Stands`); a piece of
-- each keeps this so (`more`, `Stands.step`), or a line is wrong and stays wrong. Assumes nothing.
use Prim.Native.Nat.{ℕ, ◌+◌, ◌≤◌, ◌<◌, min}
use mathlib.Core.Path.{◌≡◌, refl, sym, ap, subst, ◌∙◌}
use mathlib.Core.Bool.{Bool, true, false, cond, not, ◌&&◌, ◌||◌}
use mathlib.Core.List.{List, [], ◌∷◌, ◌++◌, append-nil, append_assoc}
use mathlib.Core.Logic.{◌⊎◌, inl, inr}
use native.Mathlib.Omega.{arith}
use lib.Dec.{eqb, leb, ltb}
use lib.ListN.{length, take, drop}
use lib.Seq.{take-length}
use borrow.Author.Tests.{eqb-true, le-leb, lt-leb, le-ltb, lt-ltb}
use Rattle.truth.proofs.Cases.{by_test, by_order}
use Rattle.truth.proofs.Laws.{true≢false}
use Rattle.refusal.specs.declared.Refusal.TheVariants.{CommaLine}
use Rattle.sample_items.specs.declared.Items.{Items}
use Rattle.sample_items.specs.Limits.{item_outside}
use Rattle.sample_range.specs.Range.{first_bad}
use Rattle.record_state.specs.Answers.{opened}
use Rattle.record_feed.proofs.Theorems.{empty_taken}
use Rattle.text.specs.Pieces.{joined}
use Rattle.decimal.specs.Lines.{lines_of}
use Rattle.comma_line.specs.Text.{first_wrong}
use Rattle.comma_stream.specs.declared.Follow.{Follow}
use Rattle.comma_stream.specs.Follow.{bytes_of, right_lines, after_lines}
use Rattle.comma_stream.proofs.Pieces.{Left}
use Rattle.comma_count.specs.Taking.{fresh}
use Rattle.comma_count.proofs.Whole.{start, start_sound, opens}
use Rattle.comma_pair.specs.declared.Watching.{Watching}
use Rattle.comma_pair.specs.declared.Took.{Took}
use Rattle.comma_pair.specs.Line.{any_wrong, wrong_roll, end_of_both, end_of_texts, pair_said}
use Rattle.comma_pair.specs.Taking.{opening, onward, held_of, watched, stopped, taking, end_of, said_end, saying}
use Rattle.comma_pair.specs.Pieces.{Turn, Rest, roll_goes_on, acceleration_goes_on, roll_text, acceleration_text, roll_goes, acceleration_goes, carrying}
use Rattle.comma_pair.proofs.Way.{after_none}
use Rattle.comma_pair.proofs.Piece.{taking_over}
use Rattle.comma_pair.proofs.Text.{R, after, unread, more_long, more_lines, more_unread, first_wrong_lem, wrong_later, right_all, WrongHere}
use Rattle.comma_pair.proofs.Whole.{end_wrong_roll, end_wrong_acceleration, end_right, said_end_lem}
use Rattle.comma_pair.proofs.Stands.{answer_at, Ended, Stands, Out, goes, wrong_roll_lem, wrong_acceleration, step}
use Rattle.record_state.specs.declared.Record.{Record}
use Rattle.comma_pair.specs.declared.PairFault.{PairFault}
use Rattle.std.specs.Prelude.{Result, Ok, Err}

-- ---- what is over stays
module _ (w : Watching) (o : w.over ≡ true) where
  same : (x : List ℕ) (mA : Bool) (y : List ℕ) (mB : Bool) → (taking w x mA y mB).watching ≡ w
  same x mA y mB = ap (λ t. t.watching) (sym (taking_over w x mA y mB o))

-- over states go through unchanged
stays_roll : (w : Watching) → w.over ≡ true → (kr ka : List ℕ) (pieces : List (List ℕ)) → roll_goes w kr ka pieces ≡ w
unfolding roll_goes
stays_roll w o kr ka [] = same w o kr false ka false
stays_roll w o kr ka (piece ∷ pieces) =
    ap (λ t. roll_goes t.watching (drop t.roll (kr ++ piece)) (drop t.acceleration ka) pieces) (sym (taking_over w (kr ++ piece) true ka false o)) ∙ stays_roll w o _ _ pieces

stays_acceleration : (w : Watching) → w.over ≡ true → (kr ka : List ℕ) (pieces : List (List ℕ)) → acceleration_goes w kr ka pieces ≡ w
unfolding acceleration_goes
stays_acceleration w o kr ka [] = same w o kr false ka false
stays_acceleration w o kr ka (piece ∷ pieces) =
    ap (λ t. acceleration_goes t.watching (drop t.roll kr) (drop t.acceleration (ka ++ piece)) pieces) (sym (taking_over w kr false (ka ++ piece) true o)) ∙ stays_acceleration w o _ _ pieces

stays_over : (w : Watching) → w.over ≡ true → (kr ka : List ℕ) (turns : List Turn) (rest : Rest) → carrying w kr ka turns rest ≡ w
unfolding carrying
stays_over w o kr ka [] (roll_goes_on pieces) = stays_roll w o kr ka pieces
stays_over w o kr ka [] (acceleration_goes_on pieces) = stays_acceleration w o kr ka pieces
stays_over w o kr ka (s ∷ turns) rest =
    ap (λ t. carrying t.watching (drop t.roll (kr ++ s.roll)) (drop t.acceleration (ka ++ s.acceleration))
    turns rest) (sym (taking_over w (kr ++ s.roll) true (ka ++ s.acceleration) true o))
    ∙ stays_over w o _ _ turns rest

module _ (i : Items) (ok : item_outside i ≡ 0) where
  abbrev D : ℕ
  D = i.step

  abbrev At : List ℕ → Bool → List ℕ → Bool → Watching → List ℕ → List ℕ → Type 0
  At = Stands i ok

  abbrev Q : List ℕ → List ℕ → Result Record PairFault
  Q A B = end_of_texts i A B

  -- ---- more text, and flags that only fall
  ended_later : {text : List ℕ} {m m' : Bool} {k : ℕ} (p : List ℕ) → (m ≡ false → p ≡ []) → (m ≡ false → m' ≡ false) → Ended i ok text m k → Ended i ok (text ++ p) m' k
  ended_later {text} {m} {m'} {k} p none falls e =
      subst (λ t. Ended i ok t m' k) (sym (ap (λ q. text ++ q) (none e.flag) ∙ append-nil text)) (record { flag = falls e.flag; all = e.all; none = e.none })

  more : {A : List ℕ} {mA : Bool} {B : List ℕ} {mB : Bool} {w : Watching} {x y : List ℕ} → At A mA B mB w x y → (p q : List ℕ) (mA' mB' : Bool)
      → (mA ≡ false → p ≡ []) → (mB ≡ false → q ≡ []) → (mA ≡ false → mA' ≡ false) → (mB ≡ false → mB' ≡ false) → At (A ++ p) mA' (B ++ q) mB' w (x ++ p) (y ++ q)
  more {A} {mA} {B} {mB} {w} s p q mA' mB' noneA noneB fallsA fallsB =
      let k = min s.a s.b in
      let la = more_lines D A p s.a s.few_a in
      let lb = more_lines D B q s.b s.few_b in
      let ka = more_lines D A p k (omega (arith, s.few_a)) in
      let kb = more_lines D B q k (omega (arith, s.few_b)) in
      record {
        a = s.a;
        b = s.b;
        few_a = omega (arith, s.few_a, more_long D A p);
        few_b = omega (arith, s.few_b, more_long D B q);
        is =
            s.is
            ∙ ap (λ l. watched (after_lines (fresh D) l) (after D B s.b) (answer_at i ok A B k)) (sym la)
            ∙ ap (λ l. watched (after D (A ++ p) s.a) (after_lines (fresh D) l) (answer_at i ok A B k)) (sym lb)
            ∙ ap (λ l. watched (after D (A ++ p) s.a) (after D (B ++ q) s.b) (onward (Ok (start i)) (held_of l) (held_of (take k (R D B))))) (sym ka)
            ∙ ap (λ l. watched (after D (A ++ p) s.a) (after D (B ++ q) s.b) (onward (Ok (start i)) (held_of (take k (R D (A ++ p)))) (held_of l))) (sym kb);
        left_a = ap (λ l. l ++ p) s.left_a ∙ more_unread D A p s.a s.few_a;
        left_b = ap (λ l. l ++ q) s.left_b ∙ more_unread D B q s.b s.few_b;
        roll_less = λ h. ended_later p noneA fallsA (s.roll_less h);
        acceleration_less = λ h. ended_later q noneB fallsB (s.acceleration_less h);
      }

  -- ---- a wrong line goes first, whatever comes
  module _ (A : List ℕ) (mA : Bool) (B : List ℕ) (mB : Bool) (p q : List ℕ) (noneA : mA ≡ false → p ≡ []) (noneB : mB ≡ false → q ≡ []) where
    -- a file that has ended well has no wrong line
    never_b : Ended i ok B mB (length (R D B)) → any_wrong D (lines_of (B ++ q)) ≡ false
    never_b e =
        let same_text : B ++ q ≡ B = ap (λ z. B ++ z) (noneB e.flag) ∙ append-nil B in
        rw same_text (let a = right_all D B e.none in le-ltb (first_wrong D 0 (lines_of B)) (length (lines_of B)) (omega (arith, a.1)))

    never_a : Ended i ok A mA (length (R D A)) → any_wrong D (lines_of (A ++ p)) ≡ false
    never_a e =
        let same_text : A ++ p ≡ A = ap (λ z. A ++ z) (noneA e.flag) ∙ append-nil A in
        rw same_text (let a = right_all D A e.none in le-ltb (first_wrong D 0 (lines_of A)) (length (lines_of A)) (omega (arith, a.1)))

    or_right : (b c : Bool) → c ≡ true → (b || c) ≡ true
    or_right true c e = refl
    or_right false c e = e

    roll_wrong : (f g : Follow) → WrongHere (Left D 0 A) mA → (length (R D A) ≤ length (R D B)) ⊎ Ended i ok B mB (length (R D B))
        → end_of (stopped f g (Err (CommaLine (length (R D A) + 1))) 1) ≡ Q (A ++ p) (B ++ q)
    roll_wrong f g w first =
        let l = wrong_later D A mA w p noneA in
        end_wrong_roll i ok f g (lines_of (A ++ p)) (lines_of (B ++ q)) (length (R D A)) l.0 l.1 (lower first)
      where
        lower : (length (R D A) ≤ length (R D B)) ⊎ Ended i ok B mB (length (R D B))
            → (not (any_wrong D (lines_of (B ++ q))) || leb (length (R D A)) (first_wrong D 0 (lines_of (B ++ q)))) ≡ true
        lower (inl h) = or_right (not (any_wrong D (lines_of (B ++ q)))) _ (le-leb (length (R D A)) (first_wrong D 0 (lines_of (B ++ q))) (omega (arith, h, first_wrong_lem D (B ++ q), more_long D B q)))
        lower (inr e) = rw (never_b e)

    acceleration_wrong : (f g : Follow) → WrongHere (Left D 0 B) mB → (length (R D B) < length (R D A)) ⊎ Ended i ok A mA (length (R D A))
        → end_of (stopped f g (Err (CommaLine (length (R D B) + 1))) 2) ≡ Q (A ++ p) (B ++ q)
    acceleration_wrong f g w first =
        let l = wrong_later D B mB w q noneB in
        end_wrong_acceleration i ok f g (lines_of (A ++ p)) (lines_of (B ++ q)) (length (R D B)) l.0 l.1 (lower l.0 l.1 first)
      where
        lower : first_wrong D 0 (lines_of (B ++ q)) ≡ length (R D B) → length (R D B) < length (lines_of (B ++ q))
            → (length (R D B) < length (R D A)) ⊎ Ended i ok A mA (length (R D A)) → wrong_roll D (lines_of (A ++ p)) (lines_of (B ++ q)) ≡ false
        lower e h (inl k) =
            rw (e, lt-ltb (length (R D B)) (length (lines_of (B ++ q))) h, lt-leb (first_wrong D 0 (lines_of (A ++ p))) (length (R D B)) (omega (arith, k, first_wrong_lem D (A ++ p), more_long D A p)))
            (and-false (any_wrong D (lines_of (A ++ p))))
          where
            and-false : (b : Bool) → (b && false) ≡ false
            and-false true = refl
            and-false false = refl
        lower e h (inr k) = rw (never_a k)

  -- ---- the end of both files
  never_true : {m : Bool} → m ≡ true → m ≡ false → ⊥
  never_true e f = true≢false (sym e ∙ f)

  module _ {A B : List ℕ} {w : Watching} {x y : List ℕ} (s : At A false B false w x y) where
    all_lines : {text : List ℕ} {k : ℕ} → Ended i ok text false k → take k (R D text) ≡ lines_of text
    all_lines {text} {k} e = ap (λ n. take n (R D text)) e.all ∙ take-length (R D text) ∙ (right_all D text e.none).0

    ends_well : {v : Watching} {x' y' : List ℕ} (t : At A false B false v x' y') → Ended i ok A false t.a → Ended i ok B false t.b → end_of v ≡ Q A B
    ends_well t eA eB =
        let la = all_lines eA in
        let lb = all_lines eB in
        let long-a : length (lines_of A) ≡ t.a = sym (ap length (right_all D A eA.none).0) ∙ sym eA.all in
        let long-b : length (lines_of B) ≡ t.b = sym (ap length (right_all D B eB.none).0) ∙ sym eB.all in
        ap end_of t.is
        ∙ ap (λ l. end_of (watched (after_lines (fresh D) l) (after D B t.b) (answer_at i ok A B (min t.a t.b)))) la
        ∙ ap (λ l. end_of (watched (after_lines (fresh D) (lines_of A)) (after_lines (fresh D) l) (answer_at i ok A B (min t.a t.b)))) lb
        ∙ end_right i ok (lines_of A) (lines_of B) (right_all D A eA.none).1 (right_all D B eB.none).1 (answer_at i ok A B (min t.a t.b))
        (λ e.
        let ma : min t.a t.b ≡ t.a = omega (arith, e, long-a, long-b) in
        let mb : min t.a t.b ≡ t.b = omega (arith, e, long-a, long-b) in
        ap (λ n. onward (Ok (start i)) (held_of (take n (R D A))) (held_of (take (min t.a t.b) (R D B)))) ma
        ∙ ap (λ n. onward (Ok (start i)) (held_of (take t.a (R D A))) (held_of (take n (R D B)))) mb
        ∙ ap (λ l. onward (Ok (start i)) (held_of l) (held_of (take t.b (R D B)))) la
        ∙ ap (λ l. onward (Ok (start i)) (held_of (lines_of A)) (held_of l)) lb)

    by_out : Out i ok A false B false x y (taking w x false y false) → end_of (taking w x false y false).watching ≡ Q A B
    by_out (goes t (inl z)) = absurd (true≢false (sym z))
    by_out (goes t (inr (inl z))) = absurd (true≢false (sym z))
    by_out (goes t (inr (inr (eA, eB)))) = ends_well t eA eB
    by_out (wrong_roll_lem f g e v o) = ap end_of e ∙ roll_wrong A false B false [] [] (λ z. refl) (λ z. refl) f g v o ∙ ap (λ z. Q z (B ++ [])) (append-nil A) ∙ ap (Q A) (append-nil B)
    by_out (wrong_acceleration f g e v o) =
        ap end_of e ∙ acceleration_wrong A false B false [] [] (λ z. refl) (λ z. refl) f g v o ∙ ap (λ z. Q z (B ++ [])) (append-nil A) ∙ ap (Q A) (append-nil B)

    both_end : end_of (taking w x false y false).watching ≡ Q A B
    both_end = by_out (step i ok s)

  -- the same text, flags that fall
  falling : {A : List ℕ} {mA : Bool} {B : List ℕ} {mB : Bool} {w : Watching} {x y : List ℕ} → At A mA B mB w x y →
      (mA' mB' : Bool) → (mA ≡ false → mA' ≡ false) → (mB ≡ false → mB' ≡ false) → At A mA' B mB' w x y
  falling s mA' mB' fallsA fallsB =
      record {
        a = s.a;
        b = s.b;
        few_a = s.few_a;
        few_b = s.few_b;
        is = s.is;
        left_a = s.left_a;
        left_b = s.left_b;
        roll_less = λ h. let e = s.roll_less h in record { flag = fallsA e.flag; all = e.all; none = e.none };
        acceleration_less = λ h. let e = s.acceleration_less h in record { flag = fallsB e.flag; all = e.all; none = e.none };
      }

  -- nothing comes after a file that has not ended, and nothing but its end after one that has
  lives : {p : List ℕ} → true ≡ false → p ≡ []
  lives z = absurd (true≢false z)

  -- ---- the roll goes on after the acceleration has ended
  roll-out : (pieces : List (List ℕ)) (A B x y : List ℕ) {t : Took} → ((v : Watching) (x' y' : List ℕ) → At A true B false v x' y' → end_of (roll_goes v x' y' pieces) ≡ Q (A ++ joined pieces) B)
      → Out i ok A true B false x y t → end_of (roll_goes t.watching (drop t.roll x) (drop t.acceleration y) pieces) ≡ Q (A ++ joined pieces) B
  roll-out pieces A B x y {t} later (goes u why) = later t.watching _ _ u
  roll-out pieces A B x y {t} later (wrong_roll_lem f g e v o) =
      ap end_of (stays_roll t.watching (ap (λ z. z.over) e) _ _ pieces ∙ e)
      ∙ roll_wrong A true B false (joined pieces) [] lives (λ z. refl) f g v o
      ∙ ap (Q (A ++ joined pieces)) (append-nil B)
  roll-out pieces A B x y {t} later (wrong_acceleration f g e v o) =
      ap end_of (stays_roll t.watching (ap (λ z. z.over) e) _ _ pieces ∙ e)
      ∙ acceleration_wrong A true B false (joined pieces) [] lives (λ z. refl) f g v o
      ∙ ap (Q (A ++ joined pieces)) (append-nil B)

  more_roll : (A B piece : List ℕ) {w : Watching} {x y : List ℕ} → At A true B false w x y → At (A ++ piece) true B false w (x ++ piece) y
  more_roll A B piece {w} {x} {y} s =
      subst (λ v. At (A ++ piece) true B false w (x ++ piece) v) (append-nil y)
      (subst (λ v. At (A ++ piece) true v false w (x ++ piece) (y ++ [])) (append-nil B) (more s piece [] true false lives (λ z. refl) (λ z. z) (λ z. z)))

  roll_on : (pieces : List (List ℕ)) (A B : List ℕ) {w : Watching} {x y : List ℕ} → At A true B false w x y → end_of (roll_goes w x y pieces) ≡ Q (A ++ joined pieces) B
  unfolding roll_goes joined
  roll_on [] A B s = both_end (falling s false false (λ z. refl) (λ z. z)) ∙ ap (λ z. Q z B) (sym (append-nil A))
  roll_on (piece ∷ pieces) A B {w} {x} {y} s =
      roll-out pieces (A ++ piece) B (x ++ piece) y (λ v x' y' u. roll_on pieces (A ++ piece) B u) (step i ok (more_roll A B piece s))
      ∙ ap (λ z. Q z B) (append_assoc A piece (joined pieces))

  -- ---- the acceleration goes on after the roll has ended
  acceleration_out : (pieces : List (List ℕ)) (A B x y : List ℕ) {t : Took} →
      ((v : Watching) (x' y' : List ℕ) → At A false B true v x' y' →
      end_of (acceleration_goes v x' y' pieces) ≡ Q A (B ++ joined pieces))
      → Out i ok A false B true x y t → end_of (acceleration_goes t.watching (drop t.roll x) (drop t.acceleration y) pieces) ≡ Q A (B ++ joined pieces)
  acceleration_out pieces A B x y {t} later (goes u why) = later t.watching _ _ u
  acceleration_out pieces A B x y {t} later (wrong_roll_lem f g e v o) =
      ap end_of (stays_acceleration t.watching (ap (λ z. z.over) e) _ _ pieces ∙ e)
      ∙ roll_wrong A false B true [] (joined pieces) (λ z. refl) lives f g v o
      ∙ ap (λ z. Q z (B ++ joined pieces)) (append-nil A)
  acceleration_out pieces A B x y {t} later (wrong_acceleration f g e v o) =
      ap end_of (stays_acceleration t.watching (ap (λ z. z.over) e) _ _ pieces ∙ e)
      ∙ acceleration_wrong A false B true [] (joined pieces) (λ z. refl) lives f g v o
      ∙ ap (λ z. Q z (B ++ joined pieces)) (append-nil A)

  more_acceleration : (A B piece : List ℕ) {w : Watching} {x y : List ℕ} → At A false B true w x y → At A false (B ++ piece) true w x (y ++ piece)
  more_acceleration A B piece {w} {x} {y} s =
      subst (λ v. At A false (B ++ piece) true w v (y ++ piece)) (append-nil x)
      (subst (λ v. At v false (B ++ piece) true w (x ++ []) (y ++ piece)) (append-nil A) (more s [] piece false true (λ z. refl) lives (λ z. z) (λ z. z)))

  acceleration_on : (pieces : List (List ℕ)) (A B : List ℕ) {w : Watching} {x y : List ℕ} → At A false B true w x y → end_of (acceleration_goes w x y pieces) ≡ Q A (B ++ joined pieces)
  unfolding acceleration_goes joined
  acceleration_on [] A B s = both_end (falling s false false (λ z. z) (λ z. refl)) ∙ ap (Q A) (sym (append-nil B))
  acceleration_on (piece ∷ pieces) A B {w} {x} {y} s =
      acceleration_out pieces A (B ++ piece) x (y ++ piece) (λ v x' y' u. acceleration_on pieces A (B ++ piece) u) (step i ok (more_acceleration A B piece s))
      ∙ ap (Q A) (append_assoc B piece (joined pieces))

  -- ---- turn after turn
  turn_out : (turns : List Turn) (rest : Rest) (A B x y : List ℕ) {t : Took}
      → ((v : Watching) (x' y' : List ℕ) → At A true B true v x' y' → end_of (carrying v x' y' turns rest) ≡ Q (A ++ roll_text turns rest) (B ++ acceleration_text turns rest))
      → Out i ok A true B true x y t → end_of (carrying t.watching (drop t.roll x) (drop t.acceleration y) turns rest) ≡ Q (A ++ roll_text turns rest) (B ++ acceleration_text turns rest)
  turn_out turns rest A B x y {t} later (goes u why) = later t.watching _ _ u
  turn_out turns rest A B x y {t} later (wrong_roll_lem f g e v o) =
      ap end_of (stays_over t.watching (ap (λ z. z.over) e) _ _ turns rest ∙ e)
      ∙ roll_wrong A true B true (roll_text turns rest) (acceleration_text turns rest) lives lives f g v o
  turn_out turns rest A B x y {t} later (wrong_acceleration f g e v o) =
      ap end_of (stays_over t.watching (ap (λ z. z.over) e) _ _ turns rest ∙ e)
      ∙ acceleration_wrong A true B true (roll_text turns rest) (acceleration_text turns rest) lives lives f g v o

  turns_on : (turns : List Turn) (rest : Rest) (A B : List ℕ) {w : Watching} {x y : List ℕ} → At A true B true w x y
      → end_of (carrying w x y turns rest) ≡ Q (A ++ roll_text turns rest) (B ++ acceleration_text turns rest)
  unfolding carrying roll_text acceleration_text
  turns_on [] (roll_goes_on pieces) A B s = roll_on pieces A B (falling s true false (λ z. z) (λ z. refl)) ∙ ap (Q (A ++ joined pieces)) (sym (append-nil B))
  turns_on [] (acceleration_goes_on pieces) A B s = acceleration_on pieces A B (falling s false true (λ z. refl) (λ z. z)) ∙ ap (λ z. Q z (B ++ joined pieces)) (sym (append-nil A))
  turns_on (u ∷ turns) rest A B {w} {x} {y} s =
      turn_out turns rest (A ++ u.roll) (B ++ u.acceleration) (x ++ u.roll) (y ++ u.acceleration) (λ v x' y' z. turns_on turns rest (A ++ u.roll) (B ++ u.acceleration) z)
      (step i ok (more s u.roll u.acceleration true true lives lives (λ z. z) (λ z. z)))
      ∙ ap (λ z. Q z ((B ++ u.acceleration) ++ acceleration_text turns rest)) (append_assoc A u.roll (roll_text turns rest))
      ∙ ap (Q (A ++ (u.roll ++ roll_text turns rest))) (append_assoc B u.acceleration (acceleration_text turns rest))

  -- ---- from the start
  starts : At [] true [] true (opening i) [] []
  unfolding opening bytes_of
  starts =
      record {
        a = 0;
        b = 0;
        few_a = omega arith;
        few_b = omega arith;
        is =
            rw (opens i ok)
            (ap (watched (fresh D) (fresh D)) (sym (empty_taken (start i) (start_sound i ok)))
            ∙ ap (λ f. watched f (fresh D) (onward (Ok (start i)) [] [])) (sym (after_none (fresh D)))
            ∙ ap (λ f. watched (after_lines (fresh D) []) f (onward (Ok (start i)) [] [])) (sym (after_none (fresh D))));
        left_a = refl;
        left_b = refl;
        roll_less = λ h. absurd (omega (arith, h));
        acceleration_less = λ h. absurd (omega (arith, h));
      }

  end_items : (turns : List Turn) (rest : Rest) → end_of (carrying (opening i) [] [] turns rest) ≡ Q (roll_text turns rest) (acceleration_text turns rest)
  end_items turns rest = turns_on turns rest [] [] starts

-- an item out of range
module _ (i : Items) (turns : List Turn) (rest : Rest) (e : eqb (item_outside i) 0 ≡ false) where
  over_first : carrying (opening i) [] [] turns rest ≡ opening i
  unfolding opening opened
  over_first = stays_over (opening i) (rw e) [] [] turns rest

  end_first : end_of (opening i) ≡ end_of_texts i (roll_text turns rest) (acceleration_text turns rest)
  unfolding opening opened end_of end_of_both
  end_first = rw e

-- WHAT TWO FILES COME TO, however they are cut and in whatever order the pieces come, is what both whole texts come to
pub end_anywhere : (i : Items) (turns : List Turn) (rest : Rest) → end_of (carrying (opening i) [] [] turns rest) ≡ end_of_texts i (roll_text turns rest) (acceleration_text turns rest)
end_anywhere i turns rest =
    by_test (eqb (item_outside i) 0)
    (λ e. end_items i (eqb-true (item_outside i) 0 e) turns rest)
    (λ e. ap end_of (over_first i turns rest e) ∙ end_first i turns rest e)

-- and so is WHAT IS FINISHED WITH
pub cut_anywhere : (i : Items) (turns : List Turn) (rest : Rest) → saying (carrying (opening i) [] [] turns rest) ≡ pair_said i (roll_text turns rest) (acceleration_text turns rest)
unfolding saying
cut_anywhere i turns rest = ap said_end (end_anywhere i turns rest) ∙ said_end_lem i (lines_of (roll_text turns rest)) (lines_of (acceleration_text turns rest))
