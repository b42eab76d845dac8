-- The lines of a reading, call by call: where it stands is after a front of the right lines of the text so far (`At`),
-- until it is over, after all of them (`Done`). A call keeps this (`call`), however the text is cut. Assumes nothing.
use Prim.Native.Nat.{ℕ, zero, suc, ◌+◌, ◌*◌, ◌≤◌, ◌<◌}
use mathlib.Core.Path.{◌≡◌, refl, sym, ap, subst, ◌∙◌}
use mathlib.Core.Logic.{◌⊎◌, inl, inr}
use mathlib.Core.Bool.{Bool, true, false, cond, ◌&&◌}
use mathlib.Core.List.{List, [], ◌∷◌, ◌++◌, append-nil}
use native.Mathlib.Nat.{zero-add}
use native.Mathlib.Omega.{arith}
use lib.Dec.{eqb, ltb}
use lib.ListN.{length, take, drop, length-append, length-take}
use lib.Seq.{take_all, drop-drop}
use borrow.Author.Tests.{ne_eqb, eqb-false, ltb-true}
use Rattle.truth.proofs.Cases.{by_test}
use Rattle.truth.proofs.Laws.{impossible}
use Rattle.sample_items.specs.Limits.{step_in_range}
use Rattle.sample_range.specs.Range.{first_bad}
use Rattle.comma_stream.specs.declared.Rest.{Rest}
use Rattle.comma_stream.specs.declared.Rest.TheVariants.{Waits, Over, Wrong}
use Rattle.comma_stream.specs.Follow.{bytes_of, right_lines, after_lines, may_begin, resting}
use Rattle.comma_stream.proofs.Pieces.{Rights, Left, joins, after_join}
use Rattle.comma_stream.proofs.Whole.{Parts, part, stays}
use Rattle.peak_files.specs.declared.Pass.{Pass}
use Rattle.peak_files.specs.Passing.{fresh, with_samples, given_text, Called, rested, lines_in, samples_in, rest_of, calling, room_asked}
use Rattle.peak_files.proofs.Laws.{going_on}

-- ---- lists
bytes_append : (us vs : List (List ℕ)) → bytes_of (us ++ vs) ≡ bytes_of us + bytes_of vs
unfolding bytes_of
bytes_append [] vs = omega arith
bytes_append (u ∷ us) vs = omega (arith, bytes_append us vs)

by_length : {A : Type 0} (n : ℕ) (l : List A) → take (length (take n l)) l ≡ take n l
by_length zero l = refl
by_length (suc n) [] = refl
by_length (suc n) (x ∷ l) = ap (λ y. x ∷ y) (by_length n l)

take_join : {A : Type 0} (xs ys : List A) (n : ℕ) → take (length xs + n) (xs ++ ys) ≡ xs ++ take n ys
take_join [] ys n = rw (zero-add n)
take_join (x ∷ xs) ys n = let e : suc (length xs) + n ≡ suc (length xs + n) = omega arith in rw e (ap (λ l. x ∷ l) (take_join xs ys n))

take-front : {A : Type 0} (n : ℕ) (xs ys : List A) → n ≤ length xs → take n (xs ++ ys) ≡ take n xs
take-front zero xs ys h = refl
take-front (suc n) [] ys h = absurd (omega arith)
take-front (suc n) (x ∷ xs) ys h = ap (λ l. x ∷ l) (take-front n xs ys (omega arith))

drop-front : {A : Type 0} (n : ℕ) (xs ys : List A) → n ≤ length xs → drop n (xs ++ ys) ≡ drop n xs ++ ys
drop-front zero xs ys h = refl
drop-front (suc n) [] ys h = absurd (omega arith)
drop-front (suc n) (x ∷ xs) ys h = drop-front n xs ys (omega arith)

-- ---- what is left
left_wrong : (text : List ℕ) (more : Bool) → resting text more ≡ Wrong → (1 ≤ length text) × (more ≡ true → may_begin text ≡ false)
unfolding resting
left_wrong text more e =
    by_test (eqb (length text) 0)
    (λ z. absurd (none more (sym (rw z at e))))
    (λ z.
    let some = eqb-false (length text) 0 z in
    (omega arith, λ m. by_test (may_begin text) (λ b. absurd (waits (sym (rw (z, m, b) at e)))) (λ b. b)))
  where
    none : (b : Bool) → Wrong ≡ cond b (Waits 0) Over → ⊥
    none true f = impossible (cc)
    none false f = impossible (cc)

    waits : {n : ℕ} → Wrong ≡ Waits n → ⊥
    waits f = impossible (cc)

left_over : (text : List ℕ) (more : Bool) → resting text more ≡ Over → (text ≡ []) × (more ≡ false)
unfolding resting
left_over [] more e = (refl, told more e)
  where
    told : (b : Bool) → cond b (Waits 0) Over ≡ Over → b ≡ false
    told true f = absurd (impossible (cc))
    told false f = refl
left_over (x ∷ text) more e =
    absurd (told (more && may_begin (x ∷ text)) (rw (ne_eqb (length (x ∷ text)) 0 (λ z. omega arith)) at e))
  where
    told : (b : Bool) → cond b (Waits (length (x ∷ text))) Wrong ≡ Over → ⊥
    told true f = impossible (cc)
    told false f = impossible (cc)

-- fewer lines than are taken at once
told_few : (n : ℕ) (left : List ℕ) (more : Bool) (r : Rest) → (r ≡ Waits 0 → ⊥) → rest_of n left more ≡ r → (n < 1024) × (resting left more ≡ r)
told_few n left more r f e =
    by_test (ltb n 1024)
    (λ h. (ltb-true n 1024 h, rw h at e))
    (λ h. absurd (f (sym (rw h at e))))

-- ---- where a reading stands
module _ (D : ℕ) where
  pub record At (p : Pass) (kept a : List ℕ) (us : List (List ℕ)) : Type 0 where
    pub stands : p.follow ≡ after_lines (fresh D) us
    pub front : take (length us) (Rights D 0 a) ≡ us
    pub left : kept ≡ drop (bytes_of us) a
    pub going : p.over ≡ false

  pub record Done (p : Pass) (text : List ℕ) (us : List (List ℕ)) : Type 0 where
    pub stands : p.follow ≡ after_lines (fresh D) us
    pub all : us ≡ Rights D 0 text
    pub over : p.over ≡ true
    pub how : ((p.wrong ≡ true) × (1 ≤ length (Left D 0 text))) ⊎ ((p.wrong ≡ false) × (Left D 0 text ≡ []))

  pub at_start : (p : Pass) → p.follow ≡ fresh D → p.over ≡ false → At p [] [] []
  unfolding bytes_of after_lines first_bad
  at_start p f o = record { stands = f; front = refl; left = refl; going = o }

  module _ (step : step_in_range D ≡ true) (p : Pass) (kept a piece : List ℕ) (us : List (List ℕ)) (at : At p kept a us) where
    abbrev pub text : List ℕ
    text = kept ++ piece

    abbrev pub L : List (List ℕ)
    L = lines_in p text

    abbrev pub later : List ℕ
    later = a ++ piece

    few_lines : length us ≤ length (Rights D 0 a)
    few_lines = omega (arith, ap length at.front, length-take (length us) (Rights D 0 a))

    -- the text so far with the piece starts with the same lines
    front_later : take (length us) (Rights D 0 later) ≡ us
    front_later =
        ap (take (length us)) (joins (length a) D 0 a piece (omega arith)).lines
        ∙ take-front (length us) (Rights D 0 a) _ few_lines
        ∙ at.front

    parts : Parts D 0 later us
    parts = subst (Parts D 0 later) front_later (part (length us) D 0 later)

    within : bytes_of us ≤ length a
    within = subst (λ x. bytes_of x ≤ length a) at.front (part (length us) D 0 a).within

    text_is : text ≡ drop (bytes_of us) later
    text_is = ap (λ x. x ++ piece) at.left ∙ sym (drop-front (bytes_of us) a piece within)

    rights_is : right_lines p.follow text ≡ Rights D (0 + length us * D) (drop (bytes_of us) later)
    unfolding right_lines after_lines
    rights_is =
        let due : (0 + length us) * D ≡ 0 + length us * D = omega arith in
        ap (λ f. right_lines f text) at.stands ∙ rw (due, text_is)

    all_lines : Rights D 0 later ≡ us ++ right_lines p.follow text
    all_lines = parts.rest-is ∙ ap (λ l. us ++ l) (sym rights_is)

    stands_later : after_lines p.follow L ≡ after_lines (fresh D) (us ++ L)
    stands_later = ap (λ f. after_lines f L) at.stands ∙ after_join (fresh D) us L

    left_later : drop (bytes_of L) text ≡ drop (bytes_of (us ++ L)) later
    left_later =
        let e : bytes_of us + bytes_of L ≡ bytes_of (us ++ L) = sym (bytes_append us L) in
        ap (drop (bytes_of L)) text_is ∙ drop-drop (bytes_of L) (bytes_of us) later ∙ ap (λ n. drop n later) e

    front_on : take (length (us ++ L)) (Rights D 0 later) ≡ us ++ L
    front_on =
        ap (λ l. take (length (us ++ L)) l) all_lines
        ∙ ap (λ n. take n (us ++ right_lines p.follow text)) (length-append us L)
        ∙ take_join us (right_lines p.follow text) (length L)
        ∙ ap (λ l. us ++ l) (by_length 1024 (right_lines p.follow text))

    -- all of them, where there are fewer than are taken at once
    all_on : length L < 1024 → us ++ L ≡ Rights D 0 later
    all_on h =
        let e : L ≡ right_lines p.follow text = take_all 1024 (right_lines p.follow text) (omega (arith, length-take 1024 (right_lines p.follow text))) in
        ap (λ l. us ++ l) e ∙ sym all_lines

    left_all : length L < 1024 → drop (bytes_of L) text ≡ Left D 0 later
    left_all h = left_later ∙ ap (λ l. drop (bytes_of l) later) (all_on h)

    abbrev next : Pass
    next = with_samples p (after_lines p.follow L) (samples_in p text)

    abbrev Called' : Rest → Called
    Called' r = rested r next (bytes_of L) (length text) (given_text p (samples_in p text))

    by_rest : (more : Bool) (b : List ℕ) → (more ≡ false → b ≡ []) → (r : Rest) → rest_of (length L) (drop (bytes_of L) text) more ≡ r
        → At (Called' r).pass (drop (Called' r).used text) later (us ++ L) ⊎ Done (Called' r).pass (later ++ b) (us ++ L)
    by_rest more b ok (Waits n) e = inl (record { stands = stands_later; front = front_on; left = left_later; going = at.going })
    by_rest more b ok Over e =
        let t = told_few (length L) (drop (bytes_of L) text) more Over (λ z. impossible (cc)) e in
        let o = left_over (drop (bytes_of L) text) more t.1 in
        let end : later ++ b ≡ later = ap (λ x. later ++ x) (ok o.1) ∙ append-nil later in
        inr
        (record {
          stands = stands_later;
          all = all_on t.0 ∙ ap (Rights D 0) (sym end);
          over = refl;
          how = inr (refl, ap (Left D 0) end ∙ sym (left_all t.0) ∙ o.0);
        })
    by_rest more b ok Wrong e =
        let t = told_few (length L) (drop (bytes_of L) text) more Wrong (λ z. impossible (cc)) e in
        let w = left_wrong (drop (bytes_of L) text) more t.1 in
        let some : 1 ≤ length (Left D 0 later) = subst (λ x. 1 ≤ length x) (left_all t.0) w.0 in
        let on : (Rights D 0 (later ++ b) ≡ Rights D 0 later) × (1 ≤ length (Left D 0 (later ++ b))) = wrong_on more b ok some (λ m. ap may_begin (sym (left_all t.0)) ∙ w.1 m) in
        inr (record { stands = stands_later; all = all_on t.0 ∙ sym on.0; over = refl; how = inl (refl, on.1) })
      where
        wrong_on : (more : Bool) (b : List ℕ) → (more ≡ false → b ≡ []) → 1 ≤ length (Left D 0 later) → (more ≡ true → may_begin (Left D 0 later) ≡ false)
            → (Rights D 0 (later ++ b) ≡ Rights D 0 later) × (1 ≤ length (Left D 0 (later ++ b)))
        wrong_on false b ok some m = let e : later ++ b ≡ later = ap (λ x. later ++ x) (ok refl) ∙ append-nil later in rw e (refl, some)
        wrong_on true b ok some m =
            let s = stays D later b (m refl) in
            (s.0, rw (s.1, length-append) (omega (arith, some)))

    step_is : step_in_range p.follow.step ≡ true
    unfolding after_lines
    step_is = ap (λ f. step_in_range f.step) at.stands ∙ step

    pub on_is : (more : Bool) → calling p text more room_asked ≡ Called' (rest_of (length L) (drop (bytes_of L) text) more)
    on_is more = going_on p text more room_asked at.going (omega arith) step_is

    -- A CALL
    pub call : (more : Bool) (b : List ℕ) → (more ≡ false → b ≡ []) → let c = calling p text more room_asked in
        At c.pass (drop c.used text) later (us ++ L) ⊎ Done c.pass (later ++ b) (us ++ L)
    call more b ok =
        subst (λ c. At c.pass (drop c.used text) later (us ++ L) ⊎ Done c.pass (later ++ b) (us ++ L)) (sym (on_is more)) (by_rest more b ok _ refl)
