-- Where both files stand after texts so far, and what one call makes of it. The roll has `a` lines taken of its text A,
-- the acceleration `b` of its text B; they differ only where the file with fewer has ended (`Stands`). A call with what
-- is unread of both leads to such a place again, or to a line that is wrong and goes first (`Out`). Assumes nothing.
use Prim.Native.Nat.{ℕ, ◌+◌, ◌-◌, ◌≤◌, ◌<◌, min}
use mathlib.Core.Path.{◌≡◌, refl, sym, ap, subst, ◌∙◌}
use mathlib.Core.Bool.{Bool, true, false, cond, not, ◌&&◌, ◌||◌}
use mathlib.Core.List.{List, [], ◌∷◌, ◌++◌, append-nil}
use mathlib.Core.Logic.{◌⊎◌, inl, inr}
use native.Mathlib.Omega.{arith}
use lib.Dec.{eqb, ltb}
use lib.ListN.{length, take, drop, length-drop, length-take}
use lib.Seq.{length-take-le, take-length, drop-drop}
use borrow.Author.Tests.{lt-ltb, le-ltb, eq-eqb, eqb-true, eqb-false}
use Rattle.truth.proofs.Cases.{by_test, by_order}
use Rattle.truth.proofs.Laws.{both_true, impossible, true≢false}
use Rattle.refusal.specs.declared.Refusal.TheVariants.{CommaLine, Unequal}
use Rattle.sample_items.specs.declared.Items.{Items}
use Rattle.sample_items.specs.Limits.{item_outside}
use Rattle.comma_stream.specs.declared.Follow.{Follow}
use Rattle.comma_stream.specs.declared.Rest.{Rest}
use Rattle.comma_stream.specs.declared.Rest.TheVariants.{Waits, Over, Wrong}
use Rattle.comma_stream.specs.Follow.{bytes_of, right_lines, after_lines, resting}
use Rattle.comma_stream.proofs.Pieces.{Left}
use Rattle.comma_count.specs.declared.Took as one
use Rattle.comma_count.specs.Taking as count
use Rattle.comma_count.specs.Taking.{sound_follow, with_lines}
use Rattle.comma_count.proofs.Whole.{start, step_ok}
use Rattle.comma_count.proofs.Agreeing.{start_of, fed_agrees}
use Rattle.comma_pair.specs.declared.Watching.{Watching}
use Rattle.comma_pair.specs.declared.Abreast.{Abreast}
use Rattle.comma_pair.specs.declared.Took.{Took}
use Rattle.comma_pair.specs.declared.Next.TheVariants as next
use Rattle.comma_pair.specs.Taking.{onward, held_of, pairs_of, side_by_side, shared, agreeing, watched, stopped}
use Rattle.comma_pair.specs.Taking.{ended, alone, roll_alone, acceleration_alone, acceleration_behind, roll_behind, judged, taking}
use Rattle.comma_pair.proofs.Front.{after_them, lines_on, held_on, held_many}
use Rattle.comma_pair.proofs.Joining.{Good, held_good, onward_join}
use Rattle.comma_pair.proofs.Way.{good}
use Rattle.comma_pair.proofs.Piece.{shared_stands}
use Rattle.comma_pair.proofs.Text.{R, after, unread, unread_all, unread_on, lines_at, step_after, stands_well, rest_waits, rest_over, rest_wrong, WrongHere}
use Rattle.refusal.specs.declared.Refusal.{Refusal}
use Rattle.record_state.specs.declared.Record.{Record}
use Rattle.std.specs.Prelude.{Result, Ok, Err}

module _ (i : Items) (ok : item_outside i ≡ 0) where
  abbrev D : ℕ
  D = i.step

  -- the answer to the first k lines of both
  abbrev pub answer_at : List ℕ → List ℕ → ℕ → Result Record Refusal
  answer_at A B k = onward (Ok (start i)) (held_of (take k (R D A))) (held_of (take k (R D B)))

  -- a file has ended, and all its lines are taken
  pub record Ended (text : List ℕ) (more : Bool) (k : ℕ) : Type 0 where
    pub flag : more ≡ false
    pub all : k ≡ length (R D text)
    pub none : Left D 0 text ≡ []

  pub record Stands (A : List ℕ) (mA : Bool) (B : List ℕ) (mB : Bool) (w : Watching) (x y : List ℕ) : Type 0 where
    pub a : ℕ
    pub b : ℕ
    pub few_a : a ≤ length (R D A)
    pub few_b : b ≤ length (R D B)
    pub is : w ≡ watched (after D A a) (after D B b) (answer_at A B (min a b))
    pub left_a : x ≡ unread D A a
    pub left_b : y ≡ unread D B b
    pub roll_less : a < b → Ended A mA a
    pub acceleration_less : b < a → Ended B mB b

  -- what a call leads to
  pub data Out (A : List ℕ) (mA : Bool) (B : List ℕ) (mB : Bool) (x y : List ℕ) : Took → Type 0 where
    goes : {t : Took} (s : Stands A mA B mB t.watching (drop t.roll x) (drop t.acceleration y))
        → ((mA ≡ true) ⊎ ((mB ≡ true) ⊎ (Ended A mA s.a × Ended B mB s.b))) → Out A mA B mB x y t
    wrong_roll_lem : {t : Took} (f g : Follow) → t.watching ≡ stopped f g (Err (CommaLine (length (R D A) + 1))) 1 → WrongHere (Left D 0 A) mA
        → (length (R D A) ≤ length (R D B)) ⊎ Ended B mB (length (R D B)) → Out A mA B mB x y t
    wrong_acceleration : {t : Took} (f g : Follow) → t.watching ≡ stopped f g (Err (CommaLine (length (R D B) + 1))) 2 → WrongHere (Left D 0 B) mB
        → (length (R D B) < length (R D A)) ⊎ Ended A mA (length (R D A)) → Out A mA B mB x y t

  min_on : (m n k : ℕ) → min m n + k ≡ min (m + k) (n + k)
  min_on m n k = omega arith

  none-some : {l : List ℕ} → l ≡ [] → 1 ≤ length l → ⊥
  none-some e h = let z = ap length e in omega (arith, z)

  -- ---- a file that goes on alone: a line is wrong, or not
  module _ (t : one.Took) (s : Abreast) (more : Bool) (x y : ℕ) where
    roll_ends : t.counting.over ≡ true → roll_alone t s more x y ≡ ended (stopped t.counting.follow s.acceleration t.counting.answer 1) x y
    roll_ends o = rw o

    roll_goes_on : t.counting.over ≡ false
        → roll_alone t s more x y
        ≡ record { watching = watched t.counting.follow s.acceleration s.answer; roll = s.at + t.used; acceleration = s.beside; next = cond more next.Roll next.Neither }
    roll_goes_on o = rw o

    acceleration_ends : t.counting.over ≡ true → acceleration_alone t s more x y ≡ ended (stopped s.roll t.counting.follow t.counting.answer 2) x y
    acceleration_ends o = rw o

    acceleration_goes_on : t.counting.over ≡ false
        → acceleration_alone t s more x y
        ≡ record { watching = watched s.roll t.counting.follow s.answer; roll = s.at; acceleration = s.beside + t.used; next = cond more next.Acceleration next.Neither }
    acceleration_goes_on o = rw o

  -- ---- one file that goes on alone from k lines
  module _ (text : List ℕ) (more : Bool) (k : ℕ) (h : k ≤ length (R D text)) where
    abbrev T : one.Took
    T = count.taking (alone (after D text k)) (unread D text k) more

    lines_left : right_lines (after D text k) (unread D text k) ≡ drop k (R D text)
    lines_left = after_them (count.fresh D) text k h

    left_long : length (drop k (R D text)) ≡ length (R D text) - k
    left_long = length-drop k (R D text)

    all_left : take (length (drop k (R D text))) (drop k (R D text)) ≡ drop k (R D text)
    all_left = take-length (drop k (R D text))

    to_end : k + length (drop k (R D text)) ≡ length (R D text)
    to_end = omega (arith, left_long)

    follow_end : after_lines (after D text k) (drop k (R D text)) ≡ after D text (length (R D text))
    follow_end =
        ap (after_lines (after D text k)) (sym all_left)
        ∙ lines_on (count.fresh D) text k (length (drop k (R D text)))
        ∙ ap (after D text) to_end

    bytes_end : drop (bytes_of (drop k (R D text))) (unread D text k) ≡ Left D 0 text
    bytes_end =
        ap (λ l. drop (bytes_of l) (unread D text k)) (sym all_left)
        ∙ unread_on D text k (length (drop k (R D text)))
        ∙ ap (unread D text) to_end
        ∙ unread_all D text

    abbrev by_rest : Rest → one.Took
    by_rest r = count.rested r (with_lines (alone (after D text k)) (drop k (R D text))) (bytes_of (drop k (R D text))) (length (unread D text k))

    goes_alone : T ≡ by_rest (resting (Left D 0 text) more)
    unfolding count.taking
    goes_alone =
        rw (stands_well D (step_ok i ok) text k, lines_left)
        (ap (λ l. by_rest (resting l more)) bytes_end)

    -- it waits or is over
    pub record Goes : Type 0 where
      pub on : T.counting.over ≡ false
      pub stands : T.counting.follow ≡ after D text (length (R D text))
      pub left : drop T.used (unread D text k) ≡ Left D 0 text

    pub goes_on : (r : Rest) → resting (Left D 0 text) more ≡ r → (r ≡ Wrong → ⊥) → Goes
    goes_on Wrong e n = absurd (n refl)
    goes_on Over e n =
        let t : T ≡ by_rest Over = goes_alone ∙ ap by_rest e in
        record { on = ap (λ q. q.counting.over) t; stands = ap (λ q. q.counting.follow) t ∙ follow_end; left = ap (λ q. drop q.used (unread D text k)) t ∙ bytes_end }
    goes_on (Waits m) e n =
        let t : T ≡ by_rest (Waits m) = goes_alone ∙ ap by_rest e in
        record { on = ap (λ q. q.counting.over) t; stands = ap (λ q. q.counting.follow) t ∙ follow_end; left = ap (λ q. drop q.used (unread D text k)) t ∙ bytes_end }

    -- or a line is wrong
    pub goes_wrong : resting (Left D 0 text) more ≡ Wrong → (T.counting.over ≡ true) × (T.counting.answer ≡ Err (CommaLine (length (R D text) + 1)))
    goes_wrong e =
        let t : T ≡ by_rest Wrong = goes_alone ∙ ap by_rest e in (
          ap (λ q. q.counting.over) t,
          ap (λ q. q.counting.answer) t
              ∙ ap (λ f. Err (CommaLine (f.lines + 1))) follow_end
              ∙ ap (λ n. Err (CommaLine (n + 1))) (lines_at D text (length (R D text)) (omega arith)),
        )

  -- ---- a call from a lines of the roll and b of the acceleration
  module _ (A : List ℕ) (mA : Bool) (B : List ℕ) (mB : Bool) (a b : ℕ) (few_a : a ≤ length (R D A)) (few_b : b ≤ length (R D B))
      (roll_less : a < b → Ended A mA a) (acceleration_less : b < a → Ended B mB b) where
    abbrev U : ℕ
    U = length (R D A)

    abbrev N : ℕ
    N = length (R D B)

    -- the pairs more
    abbrev p : ℕ
    p = min (U - a) (N - b)

    abbrev w : Watching
    w = watched (after D A a) (after D B b) (answer_at A B (min a b))

    abbrev x : List ℕ
    x = unread D A a

    abbrev y : List ℕ
    y = unread D B b

    abbrev us : List (List ℕ)
    us = take p (drop a (R D A))

    abbrev vs : List (List ℕ)
    vs = take p (drop b (R D B))

    -- nothing more of one file, nothing more of both
    answer_none : (k : ℕ) → k ≤ U → k ≤ N → onward (answer_at A B k) [] [] ≡ answer_at A B k
    answer_none k h l =
        let g = good (take k (R D A)) (take k (R D B)) (length-take-le k (R D A) h ∙ sym (length-take-le k (R D B) l)) in
        onward_join (Ok (start i)) (held_of (take k (R D A))) (held_of (take k (R D B))) [] [] g (good [] [] refl)
        ∙ ap (λ z. onward (Ok (start i)) z (held_of (take k (R D B)) ++ [])) (append-nil (held_of (take k (R D A))))
        ∙ ap (onward (Ok (start i)) (held_of (take k (R D A)))) (append-nil (held_of (take k (R D B))))

    -- one file has ended before the other
    answer_apart : p ≡ 0 → onward (answer_at A B (min a b)) (held_of us) (held_of vs) ≡ answer_at A B (min a b + p)
    answer_apart z =
        let same : min a b ≡ min a b + p = omega (arith, z) in
        ap (λ n. onward (answer_at A B (min a b)) (held_of (take n (drop a (R D A)))) (held_of (take n (drop b (R D B))))) z
        ∙ answer_none (min a b) (omega arith) (omega arith)
        ∙ ap (answer_at A B) same

    -- both go side by side
    answer_equal : a ≡ b → onward (answer_at A B (min a b)) (held_of us) (held_of vs) ≡ answer_at A B (min a b + p)
    answer_equal e =
        let m : min a b ≡ a = omega (arith, e) in
        let vs-are : vs ≡ take p (drop a (R D B)) = ap (λ n. take p (drop n (R D B))) (sym e) in
        let g = good (take a (R D A)) (take a (R D B)) (length-take-le a (R D A) few_a ∙ sym (length-take-le a (R D B) (omega (arith, e)))) in
        let us-long : length us ≡ p = length-take-le p (drop a (R D A)) (omega (arith, length-drop a (R D A))) in
        let vs-long : length (take p (drop a (R D B))) ≡ p = length-take-le p (drop a (R D B)) (omega (arith, e, length-drop a (R D B))) in
        let h = good us (take p (drop a (R D B))) (us-long ∙ sym vs-long) in
        ap (λ z. onward (answer_at A B (min a b)) (held_of us) (held_of z)) vs-are
        ∙ ap (λ n. onward (answer_at A B n) (held_of us) (held_of (take p (drop a (R D B))))) m
        ∙ onward_join (Ok (start i)) (held_of (take a (R D A))) (held_of (take a (R D B))) (held_of us) (held_of (take p (drop a (R D B)))) g h
        ∙ ap (λ z. onward (Ok (start i)) z (held_of (take a (R D B)) ++ held_of (take p (drop a (R D B))))) (held_on (count.fresh D) A a p)
        ∙ ap (onward (Ok (start i)) (held_of (take (a + p) (R D A)))) (held_on (count.fresh D) B a p)
        ∙ ap (λ n. answer_at A B (n + p)) (sym m)

    answer_on : onward (answer_at A B (min a b)) (held_of us) (held_of vs) ≡ answer_at A B (min a b + p)
    answer_on =
        by_order a b
        (λ l. let e = (roll_less l).all in answer_apart (omega (arith, e)))
        (λ l. by_order b a (λ m. let e = (acceleration_less m).all in answer_apart (omega (arith, e))) (λ m. answer_equal (omega arith)))

    abbrev S : Abreast
    S =
        record {
          roll = after D A (a + p);
          acceleration = after D B (b + p);
          answer = answer_at A B (min a b + p);
          at = bytes_of us;
          beside = bytes_of vs;
          ahead = ltb (N - b) (U - a);
        }

    side : side_by_side (after D A a) (after D B b) (answer_at A B (min a b)) x y ≡ S
    unfolding side_by_side
    side =
        let f = after_them (count.fresh D) A a few_a in
        let g = after_them (count.fresh D) B b few_b in
        rw (f, g, length-drop a (R D A), length-drop b (R D B))
        (λ j. record {
          roll = lines_on (count.fresh D) A a p j;
          acceleration = lines_on (count.fresh D) B b p j;
          answer = answer_on j;
          at = bytes_of us;
          beside = bytes_of vs;
          ahead = ltb (N - b) (U - a);
        })

    -- the record is of the lines that both have
    agree : agreeing (after D A a) (after D B b) (answer_at A B (min a b)) ≡ true
    agree =
        let us = take (min a b) (R D A) in
        let vs = take (min a b) (R D B) in
        let us-long : length us ≡ min a b = length-take-le (min a b) (R D A) (omega (arith, few_a)) in
        let vs-long : length vs ≡ min a b = length-take-le (min a b) (R D B) (omega (arith, few_b)) in
        let g = good us vs (us-long ∙ sym vs-long) in
        let well-a = stands_well D (step_ok i ok) A a in
        let well-b = stands_well D (step_ok i ok) B b in
        both_true
        (fed_agrees (count.fresh D) (start i) (start_of i ok) (held_of us) (held_of vs) g.equal g.roll g.acceleration (shared (after D A a) (after D B b)) (step_after D A a)
        (omega (arith, lines_at D A a few_a, lines_at D B b few_b, held_many us, us-long)) refl (shared_stands (after D A a) (after D B b) well-a))
        (both_true (eq-eqb (after D A a).step (after D B b).step (step_after D A a ∙ sym (step_after D B b))) (both_true well-a well-b))

    call : taking w x mA y mB ≡ judged S x mA y mB
    unfolding taking
    call = rw agree (ap (λ s. judged s x mA y mB) side)

    -- ---- by which file has fewer lines left
    abbrev Reaches : Took → Type 0
    Reaches t = Out A mA B mB x y t

    -- both at their ends
    ends_stand : (t : Took) → t.watching ≡ watched (after D A U) (after D B N) (answer_at A B (min U N)) → drop t.roll x ≡ Left D 0 A → drop t.acceleration y ≡ Left D 0 B
        → (U < N → Ended A mA U) → (N < U → Ended B mB N) → Stands A mA B mB t.watching (drop t.roll x) (drop t.acceleration y)
    ends_stand t e l m r s =
        record { a = U; b = N; few_a = omega arith; few_b = omega arith; is = e; left_a = l ∙ sym (unread_all D A); left_b = m ∙ sym (unread_all D B); roll_less = r; acceleration_less = s }

    -- ---- the roll has a line where the acceleration has none
    module _ (l : N - b < U - a) where
      p_is : p ≡ N - b
      p_is = omega (arith, l)

      b_end : b + p ≡ N
      b_end = omega (arith, p_is, few_b)

      a_before : a + p < U
      a_before = omega (arith, p_is, few_a, l)

      not-less : a < b → ⊥
      not-less h = let e = (roll_less h).all in omega (arith, e, l)

      left_b : drop (bytes_of vs) y ≡ Left D 0 B
      left_b = unread_on D B b p ∙ ap (unread D B) b_end ∙ unread_all D B

      judged_ahead : judged S x mA y mB ≡ acceleration_behind (resting (Left D 0 B) mB) S x mA (length y)
      unfolding judged
      judged_ahead =
          ap (λ q. cond q (acceleration_behind (resting (drop S.beside y) mB) S x mA (length y)) (roll_behind (resting (drop S.at x) mA) S (length x) y mB)) (lt-ltb (N - b) (U - a) l)
          ∙ ap (λ z. acceleration_behind (resting z mB) S x mA (length y)) left_b

      -- the acceleration waits
      waits_b : mB ≡ true → Reaches (acceleration_behind (Waits 0) S x mA (length y))
      waits_b m =
          goes
          (record {
            a = a + p;
            b = b + p;
            few_a = omega (arith, a_before);
            few_b = omega (arith, b_end);
            is = ap (λ n. watched (after D A (a + p)) (after D B (b + p)) (answer_at A B n)) (min_on a b p);
            left_a = unread_on D A a p;
            left_b = unread_on D B b p;
            roll_less = λ h. absurd (not-less (omega arith));
            acceleration_less = λ h. absurd (true≢false (sym m ∙ (acceleration_less (omega arith)).flag));
          })
          (inr (inl m))

      -- its next line is wrong
      wrong_b : resting (Left D 0 B) mB ≡ Wrong → Reaches (acceleration_behind Wrong S x mA (length y))
      wrong_b e =
          let w = rest_wrong (Left D 0 B) mB e in
          let number : (after D B (b + p)).lines ≡ N = ap (λ n. (after D B n).lines) b_end ∙ lines_at D B N (omega arith) in
          wrong_acceleration (after D A (a + p)) (after D B (b + p))
          (ap (λ n. stopped (after D A (a + p)) (after D B (b + p)) (Err (CommaLine (n + 1))) 2) number)
          w
          (by_order b a
          (λ h. absurd (none-some (acceleration_less h).none w.0))
          (λ h. by_order a b (λ k. absurd (not-less k)) (λ k. inl (omega (arith, a_before, b_end)))))

      -- it has ended: the roll goes on alone
      abbrev Alone : one.Took
      Alone = count.taking (alone (after D A (a + p))) (drop (bytes_of us) x) mA

      min-end : min a b + p ≡ min U N
      min-end = omega (arith, b_end, a_before, not_less_le)
        where
          not_less_le : b ≤ a
          not_less_le = by_order a b (λ h. absurd (not-less h)) (λ h. h)

      alone_is : Alone ≡ T A mA (a + p) (omega (arith, a_before))
      alone_is = ap (λ z. count.taking (alone (after D A (a + p))) z mA) (unread_on D A a p)

      on_b : Ended B mB N → Goes A mA (a + p) (omega (arith, a_before)) → ((s : ℕ) → (mA ≡ true) ⊎ ((mB ≡ true) ⊎ (Ended A mA U × Ended B mB N))) → Reaches (roll_alone Alone S mA (length x) (length y))
      unfolding ends_stand
      on_b eB g why =
          subst Reaches (sym (roll_goes_on Alone S mA (length x) (length y) (ap (λ q. q.counting.over) alone_is ∙ g.on)))
          (goes
          (ends_stand (record {
            watching = watched Alone.counting.follow (after D B (b + p))
                (answer_at A B (min a b + p));
            roll = bytes_of us + Alone.used;
            acceleration = bytes_of vs;
            next = cond mA
                next.Roll next.Neither;
          })
          (λ j. watched ((ap (λ q. q.counting.follow) alone_is ∙ g.stands) j) (after D B (b_end j)) (answer_at A B (min-end j)))
          (sym (drop-drop Alone.used (bytes_of us) x) ∙ ap (drop Alone.used) (unread_on D A a p) ∙ ap (λ q. drop q.used (unread D A (a + p))) alone_is ∙ g.left)
          left_b
          (λ h. absurd (not-less (omega (arith, a_before, b_end))))
          (λ h. eB))
          (why 0))

      over_b : Ended B mB N → (r : Rest) → resting (Left D 0 A) mA ≡ r → Reaches (roll_alone Alone S mA (length x) (length y))
      over_b eB Wrong e =
          let g = goes_wrong A mA (a + p) (omega (arith, a_before)) e in
          subst Reaches (sym (roll_ends Alone S mA (length x) (length y) (ap (λ q. q.counting.over) alone_is ∙ g.0)))
          (wrong_roll_lem Alone.counting.follow (after D B (b + p))
          (ap (λ q. stopped Alone.counting.follow (after D B (b + p)) q 1) (ap (λ q. q.counting.answer) alone_is ∙ g.1))
          (rest_wrong (Left D 0 A) mA e)
          (inr eB))
      over_b eB Over e =
          let o = rest_over (Left D 0 A) mA e in
          on_b eB (goes_on A mA (a + p) (omega (arith, a_before)) Over e (λ z. impossible (cc)))
          (λ s. inr (inr (record { flag = o.0; all = refl; none = o.1 }, eB)))
      over_b eB (Waits n) e =
          on_b eB (goes_on A mA (a + p) (omega (arith, a_before)) (Waits n) e (λ z. impossible (cc)))
          (λ s. inl (rest_waits (Left D 0 A) mA e))

      by_b : (r : Rest) → resting (Left D 0 B) mB ≡ r → Reaches (acceleration_behind r S x mA (length y))
      by_b (Waits n) e = waits_b (rest_waits (Left D 0 B) mB e)
      by_b Wrong e = wrong_b e
      by_b Over e = let o = rest_over (Left D 0 B) mB e in over_b (record { flag = o.0; all = refl; none = o.1 }) (resting (Left D 0 A) mA) refl

      pub step_ahead : Reaches (taking w x mA y mB)
      step_ahead = subst Reaches (sym (call ∙ judged_ahead)) (by_b (resting (Left D 0 B) mB) refl)

    -- ---- the roll has no line there
    module _ (l : U - a ≤ N - b) where
      p_at : p ≡ U - a
      p_at = omega (arith, l)

      a_end : a + p ≡ U
      a_end = omega (arith, p_at, few_a)

      b_within : b + p ≤ N
      b_within = omega (arith, p_at, few_b, l)

      left_a : drop (bytes_of us) x ≡ Left D 0 A
      left_a = unread_on D A a p ∙ ap (unread D A) a_end ∙ unread_all D A

      -- the acceleration has fewer lines only where it has ended
      less_ended : b < a → Ended B mB (b + p)
      less_ended h = let e = acceleration_less h in record { flag = e.flag; all = omega (arith, e.all, b_within); none = e.none }

      judged_not : judged S x mA y mB ≡ roll_behind (resting (Left D 0 A) mA) S (length x) y mB
      unfolding judged
      judged_not =
          ap (λ q. cond q (acceleration_behind (resting (drop S.beside y) mB) S x mA (length y)) (roll_behind (resting (drop S.at x) mA) S (length x) y mB)) (le-ltb (N - b) (U - a) l)
          ∙ ap (λ z. roll_behind (resting z mA) S (length x) y mB) left_a

      -- the roll waits
      waits_a : mA ≡ true → Reaches (roll_behind (Waits 0) S (length x) y mB)
      waits_a m =
          goes
          (record {
            a = a + p;
            b = b + p;
            few_a = omega (arith, a_end);
            few_b = b_within;
            is = ap (λ n. watched (after D A (a + p)) (after D B (b + p)) (answer_at A B n)) (min_on a b p);
            left_a = unread_on D A a p;
            left_b = unread_on D B b p;
            roll_less = λ h. absurd (true≢false (sym m ∙ (roll_less (omega arith)).flag));
            acceleration_less = λ h. less_ended (omega arith);
          })
          (inl m)

      -- its next line is wrong
      wrong_a : resting (Left D 0 A) mA ≡ Wrong → Reaches (roll_behind Wrong S (length x) y mB)
      wrong_a e =
          let w = rest_wrong (Left D 0 A) mA e in
          let number : (after D A (a + p)).lines ≡ U = ap (λ n. (after D A n).lines) a_end ∙ lines_at D A U (omega arith) in
          wrong_roll_lem (after D A (a + p)) (after D B (b + p))
          (ap (λ n. stopped (after D A (a + p)) (after D B (b + p)) (Err (CommaLine (n + 1))) 1) number)
          w
          (by_order a b
          (λ h. absurd (none-some (roll_less h).none w.0))
          (λ h.
          by_order b a
          (λ k. let e = acceleration_less k in inr (record { flag = e.flag; all = refl; none = e.none }))
          (λ k. inl (omega (arith, a_end, b_within)))))

      -- it has ended: the acceleration goes on alone
      abbrev Other : one.Took
      Other = count.taking (alone (after D B (b + p))) (drop (bytes_of vs) y) mB

      min_all : min a b + p ≡ min U N
      min_all =
          by_order b a
          (λ h. let e = (acceleration_less h).all in omega (arith, e, a_end, b_within))
          (λ h. by_order a b (λ k. let e = (roll_less k).all in omega (arith, e, p_at, few_b)) (λ k. omega (arith, a_end, b_within)))

      other_is : Other ≡ T B mB (b + p) b_within
      other_is = ap (λ z. count.taking (alone (after D B (b + p))) z mB) (unread_on D B b p)

      on_a : Ended A mA U → Goes B mB (b + p) b_within → ((s : ℕ) → (mA ≡ true) ⊎ ((mB ≡ true) ⊎ (Ended A mA U × Ended B mB N))) → Reaches (acceleration_alone Other S mB (length x) (length y))
      unfolding ends_stand
      on_a eA g why =
          subst Reaches (sym (acceleration_goes_on Other S mB (length x) (length y) (ap (λ q. q.counting.over) other_is ∙ g.on)))
          (goes
          (ends_stand (record {
            watching = watched (after D A (a + p)) Other.counting.follow
                (answer_at A B (min a b + p));
            roll = bytes_of us;
            acceleration = bytes_of vs + Other.used;
            next = cond mB
                next.Acceleration next.Neither;
          })
          (λ j. watched (after D A (a_end j)) ((ap (λ q. q.counting.follow) other_is ∙ g.stands) j) (answer_at A B (min_all j)))
          left_a
          (sym (drop-drop Other.used (bytes_of vs) y) ∙ ap (drop Other.used) (unread_on D B b p) ∙ ap (λ q. drop q.used (unread D B (b + p))) other_is ∙ g.left)
          (λ h. eA)
          (λ h. let e = acceleration_less (omega (arith, a_end, b_within)) in record { flag = e.flag; all = refl; none = e.none }))
          (why 0))

      over_a : Ended A mA U → (r : Rest) → resting (Left D 0 B) mB ≡ r → Reaches (acceleration_alone Other S mB (length x) (length y))
      over_a eA Wrong e =
          let g = goes_wrong B mB (b + p) b_within e in
          subst Reaches (sym (acceleration_ends Other S mB (length x) (length y) (ap (λ q. q.counting.over) other_is ∙ g.0)))
          (wrong_acceleration (after D A (a + p)) Other.counting.follow
          (ap (λ q. stopped (after D A (a + p)) Other.counting.follow q 2) (ap (λ q. q.counting.answer) other_is ∙ g.1))
          (rest_wrong (Left D 0 B) mB e)
          (inr eA))
      over_a eA Over e =
          let o = rest_over (Left D 0 B) mB e in
          on_a eA (goes_on B mB (b + p) b_within Over e (λ z. impossible (cc)))
          (λ s. inr (inr (eA, record { flag = o.0; all = refl; none = o.1 })))
      over_a eA (Waits n) e =
          on_a eA (goes_on B mB (b + p) b_within (Waits n) e (λ z. impossible (cc)))
          (λ s. inr (inl (rest_waits (Left D 0 B) mB e)))

      by_a : (r : Rest) → resting (Left D 0 A) mA ≡ r → Reaches (roll_behind r S (length x) y mB)
      by_a (Waits n) e = waits_a (rest_waits (Left D 0 A) mA e)
      by_a Wrong e = wrong_a e
      by_a Over e = let o = rest_over (Left D 0 A) mA e in over_a (record { flag = o.0; all = refl; none = o.1 }) (resting (Left D 0 B) mB) refl

      pub step_not_ahead : Reaches (taking w x mA y mB)
      step_not_ahead = subst Reaches (sym (call ∙ judged_not)) (by_a (resting (Left D 0 A) mA) refl)

    pub step-at : Reaches (taking w x mA y mB)
    step-at = by_order (N - b) (U - a) step_ahead step_not_ahead

  -- ---- A CALL from where both files stand
  pub step : {A : List ℕ} {mA : Bool} {B : List ℕ} {mB : Bool} {w : Watching} {x y : List ℕ} → Stands A mA B mB w x y → Out A mA B mB x y (taking w x mA y mB)
  step {A} {mA} {B} {mB} {w} {x} {y} s =
      subst (λ v. Out A mA B mB x y (taking v x mA y mB)) (sym s.is)
      (subst (λ v. Out A mA B mB v y (taking (watched (after D A s.a) (after D B s.b) (answer_at A B (min s.a s.b))) v mA y mB)) (sym s.left_a)
      (subst (λ v. Out A mA B mB (unread D A s.a) v (taking (watched (after D A s.a) (after D B s.b) (answer_at A B (min s.a s.b))) (unread D A s.a) mA v mB)) (sym s.left_b)
      (step-at A mA B mB s.a s.b s.few_a s.few_b s.roll_less s.acceleration_less)))
