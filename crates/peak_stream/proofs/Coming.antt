-- What is still to come of a second pass (`coming`): what a piece hands out, and what comes after it. However the
-- samples are cut, what is handed out in order is what the whole record hands out. Assumes nothing.
use Prim.Native.Nat.{ℕ, ◌+◌, ◌-◌, ◌≤◌, ◌<◌}
use mathlib.Core.Path.{◌≡◌, refl, sym, ap, ◌∙◌}
use mathlib.Core.Bool.{Bool, true, false, cond, ◌&&◌}
use mathlib.Core.List.{List, [], ◌∷◌, ◌++◌, foldl, map}
use native.Mathlib.Numerals.{add-one}
use native.Mathlib.Nat.{zero-add}
use native.Mathlib.Omega.{arith}
use lib.ListN.{length, set, length-set, drop, drop_of_length-le, get_or}
use lib.Seq.{sets}
use lib.Dec.{leb}
use lib.IntN.{ℤ, pos}
use borrow.Author.Tests.{leb-true, le-leb}
use Rattle.truth.proofs.Laws.{and-true, both_true}
use Rattle.crossing_sets.specs.Parting.{together}
use Rattle.peak_groups.specs.declared.Peak.{Peak}
use Rattle.peak_groups.specs.Groups.{tops}
use Rattle.peak_groups.specs.Machine.{closed}
use Rattle.peak_groups.proofs.Left.{closed_none}
use Rattle.sample_items.specs.Limits.{most_in_range}
use Rattle.peak_groups.specs.Runs.{peaks}
use Rattle.peak_groups.specs.Peaks.{close, standing, handed}
use Rattle.peak_machine.specs.declared.Envelope.{Envelope}
use Rattle.peak_machine.specs.Step.{stepped, Fits}
use Rattle.peak_machine.specs.Step.{size_of, moment_of}
use Rattle.sample_size.proofs.Turn.{turn}
use Rattle.peak_stream.proofs.Bounds.{most_few}
use Rattle.peak_machine.proofs.Come.{to_come, come_next, come_first, come_last}
use Rattle.peak_machine.proofs.Fits.{fits_next}
use Rattle.peak_stream.specs.declared.Reading.{Reading}
use Rattle.peak_stream.specs.declared.Surveying.{Surveying}
use Rattle.peak_stream.specs.declared.Handing.{Handing}
use Rattle.peak_stream.specs.Reading.{read, closes, readable}
use Rattle.peak_stream.specs.Survey.{Totalled}
use Rattle.peak_stream.specs.Hands.{waiting, moved, closing, closed_by, at_end, ready}
use Rattle.peak_stream.proofs.Ahead.{ahead, ahead_next, ahead_last, ahead_first}
use Rattle.peak_stream.proofs.Passing.{read_grows}

-- ---- as the code moves
module _ (h : Handing) (x : ℤ) (r : Reading) (e : r ≡ read h.reading x) where
  pub moved_yes : closes h.reading r ≡ true → record {
    reading = r;
    envelope = stepped h.number h.sum h.decorrelation h.envelope h.reading.best;
    decorrelation = h.decorrelation;
    number = h.number;
    sum = h.sum;
  } ≡ moved h x
  unfolding moved
  moved_yes k = let c : closes h.reading (read h.reading x) ≡ true = ap (closes h.reading) (sym e) ∙ k in rw (c, e)

  pub moved_no : closes h.reading r ≡ false → record { reading = r; envelope = h.envelope; decorrelation = h.decorrelation; number = h.number; sum = h.sum } ≡ moved h x
  unfolding moved
  moved_no k = let c : closes h.reading (read h.reading x) ≡ false = ap (closes h.reading) (sym e) ∙ k in rw (c, e)

-- ---- what is to come
unfoldable pub coming : Handing → List ℤ → List Peak
coming h xs = to_come h.number h.sum h.decorrelation h.envelope (ahead h.reading xs)

-- a peak comes, or none
fed : (n s τ : ℕ) (e : Envelope) (b : Peak) (l : List Peak) (k : Bool) → (let f = cond k (stepped n s τ e b) e in
    to_come n s τ e (cond k (b ∷ l) l) ≡ cond (closed e.chains f.chains.opened) (e.chains.best ∷ to_come n s τ
    f l) (to_come n s τ f l))
fed n s τ e b l true = come_next n s τ e b l
fed n s τ e b l false = rw (closed_none e.chains)

coming_next : (h : Handing) (x : ℤ) (xs : List ℤ) → coming h (x ∷ xs) ≡ cond (closing h (moved h x)) (h.envelope.chains.best ∷ coming (moved h x) xs) (coming (moved h x) xs)
unfolding coming moved
coming_next h x xs =
    let r = h.reading in
    ap (to_come h.number h.sum h.decorrelation h.envelope) (ahead_next r x xs)
    ∙ fed h.number h.sum h.decorrelation h.envelope r.best (ahead (read r x) xs) (closes r (read r x))

coming_last : (h : Handing) → coming h [] ≡ at_end h
unfolding coming at_end
coming_last h = ap (to_come h.number h.sum h.decorrelation h.envelope) (ahead_last h.reading) ∙ come_last h.number h.sum h.decorrelation h.envelope

-- what a piece hands out comes first
pub piece : (h : Handing) (xs ys : List ℤ) → coming h (xs ++ ys) ≡ closed_by h xs ++ coming (foldl moved h xs) ys
unfolding closed_by
piece h [] ys = refl
piece h (x ∷ xs) ys =
    let b = closing h (moved h x) in
    let p = h.envelope.chains.best in
    coming_next h x (xs ++ ys) ∙ ap (λ (l : List Peak). cond b (p ∷ l) l) (piece (moved h x) xs ys) ∙ go b
  where
    go : (b : Bool) → (let p = h.envelope.chains.best in let g = closed_by (moved h x) xs in let z = coming (foldl moved h (x ∷ xs)) ys in cond b (p ∷ (g ++ z)) (g ++ z) ≡ cond b (p ∷ g) g ++ z)
    go true = refl
    go false = refl

-- no more than there are samples
pub closed_few : (h : Handing) (xs : List ℤ) → length (closed_by h xs) ≤ length xs
unfolding closed_by
closed_few h [] = omega arith
closed_few h (x ∷ xs) = go (closing h (moved h x)) (closed_few (moved h x) xs)
  where
    go : (b : Bool) → length (closed_by (moved h x) xs) ≤ length xs → length (cond b (h.envelope.chains.best ∷ closed_by (moved h x) xs) (closed_by (moved h x) xs)) ≤ length (x ∷ xs)
    go true i = omega arith
    go false i = omega arith

-- piece after piece, and the end
unfoldable pub outs : Handing → List (List ℤ) → List Peak
outs h [] = at_end h
outs h (p ∷ ps) = closed_by h p ++ outs (foldl moved h p) ps

pub outs_anywhere : (h : Handing) (ps : List (List ℤ)) → outs h ps ≡ coming h (together ps)
unfolding outs
outs_anywhere h [] = sym (coming_last h)
outs_anywhere h (p ∷ ps) = ap (λ (l : List Peak). closed_by h p ++ l) (outs_anywhere (foldl moved h p) ps) ∙ sym (piece h p (together ps))

all_coming : (D τ n s : ℕ) (xs : List ℤ) → coming (waiting D τ n s) xs ≡ tops (close τ) (standing n s (peaks D xs))
unfolding coming
all_coming D τ n s xs = come_first n s τ (ahead (waiting D τ n s).reading xs) ∙ ap (λ (l : List Peak). tops (close τ) (standing n s l)) (ahead_first D xs)

-- with the totals of a first pass over the same samples, however they were cut then, a second hands out the record's
-- peaks, however they are cut now
pub handed_anywhere : (D τ : ℕ) (ps : List (List ℤ)) (s : Surveying) → Totalled D (together ps) s → outs (waiting D τ s.number s.sum) ps ≡ handed D 0 τ (together ps)
handed_anywhere D τ ps s t =
    let xs = together ps in
    outs_anywhere (waiting D τ s.number s.sum) ps
    ∙ all_coming D τ s.number s.sum xs
    ∙ ap (λ (n : ℕ). tops (close τ) (standing n s.sum (peaks D xs))) t.number
    ∙ ap (λ (m : ℕ). tops (close τ) (standing (length (peaks D xs)) m (peaks D xs))) t.sum

-- ---- with room for k samples more
pub record Set (h : Handing) (k : ℕ) : Type 0 where
  pub room : h.reading.n + k ≤ most_in_range h.reading.step 0
  pub opened : h.reading.opened ≤ h.reading.n
  pub fits : Fits h.reading.n h.envelope

pub set_out : (h : Handing) (k : ℕ) → ready h ≡ true → h.reading.n + k ≤ most_in_range h.reading.step 0 → Set h k
set_out h k e l =
    let r = h.reading in
    let s = h.envelope.stretches.opened in
    let c = h.envelope.chains.opened in
    let a = and-true (readable r) (leb s r.n && leb c r.n) e in
    let b = and-true (leb r.n (most_in_range r.step 0)) (leb r.opened r.n) a.0 in
    let d = and-true (leb s r.n) (leb c r.n) a.1 in
    record { room = l; opened = leb-true r.opened r.n b.1; fits = (leb-true s r.n d.0, leb-true c r.n d.1) }

set_step : (h : Handing) (x : ℤ) (k : ℕ) → Set h (k + 1) → Set (moved h x) k
unfolding moved
set_step h x k g =
    let r = h.reading in
    let m = read_grows r x in
    record {
      room = rw m.step (omega (arith, m.n, g.room));
      opened = omega (arith, m.n, m.opened, g.opened);
      fits = rw m.n (go (closes r (read r x)));
    }
  where
    go : (b : Bool) → Fits (h.reading.n + 1) (cond b (stepped h.number h.sum h.decorrelation h.envelope h.reading.best) h.envelope)
    go true = fits_next h.number h.sum h.decorrelation h.envelope h.reading.best h.reading.n g.fits
    go false = (omega (arith, g.fits.0), omega (arith, g.fits.1))

pub set_next : (h f : Handing) (x : ℤ) (j k : ℕ) → f ≡ moved h x → j ≡ k + 1 → Set h j → Set f k
set_next h f x j k e l g = rw e (set_step h x k (rw l at g))

pub ready_set : (h : Handing) (k : ℕ) → Set h k → ready h ≡ true
ready_set h k g = both_true (both_true (le-leb h.reading.n (most_in_range h.reading.step 0) (omega (
  arith,
  g.room,
))) (le-leb _ _ g.opened)) (both_true (le-leb _ _ g.fits.0) (le-leb _ _ g.fits.1))

-- ---- a piece written into the slices: before sample i, with k peaks written
module _ (h₀ : Handing) (xs : List ℤ) (sizes₀ times₀ : List ℕ) where
  abbrev all : List Peak
  all = closed_by h₀ xs

  pub record Going (h : Handing) (i k : ℕ) (sizes times : List ℕ) : Type 0 where
    pub within : i ≤ length xs
    pub few : k ≤ i
    pub short : length xs ≤ 10000001
    pub set : Set h (length xs - i)
    pub state : foldl moved h (drop i xs) ≡ foldl moved h₀ xs
    pub number : k + length (closed_by h (drop i xs)) ≡ length all
    pub sizes_long : length sizes ≡ length sizes₀
    pub times_long : length times ≡ length times₀
    pub sizes_put : sets sizes k (map size_of (closed_by h (drop i xs))) ≡ sets sizes₀ 0 (map size_of all)
    pub times_put : sets times k (map moment_of (closed_by h (drop i xs))) ≡ sets times₀ 0 (map moment_of all)

  pub going_starts : ready h₀ ≡ true → h₀.reading.n + length xs ≤ most_in_range h₀.reading.step 0 → Going h₀ 0 0 sizes₀ times₀
  going_starts e l =
      record {
        within = omega arith;
        few = omega arith;
        short = omega (arith, most_few h₀.reading.step);
        set = set_out h₀ (length xs - 0) e (omega arith);
        state = refl;
        number = zero-add _;
        sizes_long = refl;
        times_long = refl;
        sizes_put = refl;
        times_put = refl;
      }

  -- one more, or none
  count_put : (b : Bool) (k : ℕ) (p : Peak) (l : List Peak) → cond b (k + 1) k + length l ≡ k + length (cond b (p ∷ l) l)
  count_put true k p l = omega arith
  count_put false k p l = refl

  put_next : (f : Peak → ℕ) (b : Bool) (k : ℕ) (p : Peak) (l : List Peak) (slice : List ℕ) → sets (cond b (set slice
      k (f p)) slice) (cond b (k + 1) k) (map f l) ≡ sets slice k (map f (cond b (p ∷ l) l))
  put_next f true k p l slice = rw add-one
  put_next f false k p l slice = refl

  put_long : (b : Bool) (k v : ℕ) (slice : List ℕ) → length (cond b (set slice k v) slice) ≡ length slice
  put_long true k v slice = length-set slice k v
  put_long false k v slice = refl

  put_few : (b : Bool) (i k : ℕ) → k ≤ i → cond b (k + 1) k ≤ i + 1
  put_few true i k h = omega arith
  put_few false i k h = omega arith

  module _ {h : Handing} {i k : ℕ} {sizes times : List ℕ} (v : Going h i k sizes times) (l : i < length xs) where
    abbrev x : ℤ
    x = get_or xs i (pos 0)

    closed_on : closed_by h (drop i xs) ≡ cond (closing h (moved h x)) (h.envelope.chains.best ∷ closed_by (moved h x) (drop (i + 1) xs)) (closed_by (moved h x) (drop (i + 1) xs))
    unfolding closed_by
    closed_on = turn (closed_by h) xs i l

    pub going_on : (let b = closing h (moved h x) in let p = h.envelope.chains.best in Going (moved h x) (i + 1)
        (cond b (k + 1) k) (cond b (set sizes k p.size) sizes) (cond b (set times k p.time) times))
    going_on =
        let b = closing h (moved h x) in
        let p = h.envelope.chains.best in
        let m = closed_by (moved h x) (drop (i + 1) xs) in
        let g = set_next h (moved h x) x (length xs - i) (length xs - (i + 1)) refl (omega arith) v.set in
        record {
          within = omega arith;
          few = put_few b i k v.few;
          short = v.short;
          set = g;
          state = sym (turn (foldl moved h) xs i l) ∙ v.state;
          number = count_put b k p m ∙ ap (λ (q : List Peak). k + length q) (sym closed_on) ∙ v.number;
          sizes_long = put_long b k p.size sizes ∙ v.sizes_long;
          times_long = put_long b k p.time times ∙ v.times_long;
          sizes_put = put_next size_of b k p m sizes ∙ ap (λ (q : List Peak). sets sizes k (map size_of q)) (sym closed_on) ∙ v.sizes_put;
          times_put = put_next moment_of b k p m times ∙ ap (λ (q : List Peak). sets times k (map moment_of q)) (sym closed_on) ∙ v.times_put;
        }

  module _ {h : Handing} {i k : ℕ} {sizes times : List ℕ} (v : Going h i k sizes times) (l : length xs ≤ i) where
    none_left : drop i xs ≡ []
    none_left = drop_of_length-le xs {i = i} l

    pub going_state : h ≡ foldl moved h₀ xs
    going_state = sym (ap (foldl moved h) none_left) ∙ v.state

    nothing_given : closed_by h (drop i xs) ≡ []
    unfolding closed_by
    nothing_given = ap (closed_by h) none_left

    pub going_number : k ≡ length all
    going_number = omega (arith, v.number, ap length nothing_given)

    pub going_sizes : sizes ≡ sets sizes₀ 0 (map size_of all)
    going_sizes = sym (ap (λ (q : List Peak). sets sizes k (map size_of q)) nothing_given) ∙ v.sizes_put

    pub going_times : times ≡ sets times₀ 0 (map moment_of all)
    going_times = sym (ap (λ (q : List Peak). sets times k (map moment_of q)) nothing_given) ∙ v.times_put
