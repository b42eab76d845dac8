-- However many records are added, the sum is that of the list of them; it has a timed sample as soon as it has a
-- record; and records that are all taken are all taken in any other order, with the same sum. Neighbours may change
-- places: what is left of both limits after two records is left for either of them first. Assumes nothing.
use mathlib.Core.Path.{◌≡◌, ap, refl, ◌∙◌}
use mathlib.Core.List.{List, [], ◌∷◌, ◌++◌}
use Prim.Native.Nat.{ℕ, ◌+◌}
use native.Mathlib.Omega.{arith}
use Rattle.record_state.specs.declared.Record.{Record}
use Rattle.binomial_sum.specs.declared.Sum.{Sum}
use Rattle.binomial_sum.specs.Answers.{opened}
use Rattle.binomial_sum.specs.Records.{AllAdded, groups_in, none, one, sum_of, timed_in}
use Rattle.binomial_sum.specs.State.{grown, timed}
use Rattle.binomial_sum.proofs.Answered.{Added, added_back, added_from, added_sound, opened_from}
use Rattle.binomial_sum.proofs.Relations.{brings}
use Rattle.std.specs.Prelude.{Ok}

-- sums are the same where their numbers are
same : {s t : Sum} → s.step ≡ t.step → s.failures ≡ t.failures → s.samples ≡ t.samples → s ≡ t
same {s} {t} d n p = rw (d, n, p)

-- ---- the sum of the list
-- what is added to a sum comes on top of it
over : {s t : Sum} {rs : List Record} → AllAdded s rs t → (t.step ≡ s.step) × (t.failures ≡ s.failures + groups_in rs) × (t.samples ≡ s.samples + timed_in rs)
unfolding groups_in timed_in
over none = (refl, omega arith, omega arith)
over (one {s = s} {t = t} {r = r} {rs = rs} e a) =
    let o = over a in
    let b = added_from s r t e in
    let d = ap (λ (x : Sum). x.step) b.after in
    let n = ap (λ (x : Sum). x.failures) b.after in
    let p = ap (λ (x : Sum). x.samples) b.after in
    (o.0 ∙ d, omega (arith, o.1), omega (arith, o.2))

pub grown_by_adding : (D : ℕ) (s t : Sum) (rs : List Record) → opened D ≡ Ok s → AllAdded s rs t → t ≡ sum_of D rs
unfolding sum_of
grown_by_adding D s t rs e a =
    let f = (opened_from D s e).1 in
    let o = over a in
    let d = ap (λ (x : Sum). x.step) f in
    let n = ap (λ (x : Sum). x.failures) f in
    let p = ap (λ (x : Sum). x.samples) f in
    same (o.0 ∙ d) (omega (arith, o.1)) (omega (arith, o.2))

-- ---- every record has a timed sample
pub none_timed : {s t : Sum} {rs : List Record} → AllAdded s rs t → t.samples ≡ 0 → rs ≡ []
unfolding timed_in
none_timed none z = refl
none_timed (one {s = s} {t = t} {r = r} {rs = rs} e a) z =
    let b = added_from s r t e in
    let p = ap (λ (x : Sum). x.samples) b.after in
    absurd (omega (arith, (over a).2, (brings r b.record_sound b.long).some))

-- ---- in any order
module _ {s t u : Sum} {a b : Record} (first : Added s a t) (second : Added t b u) where
  -- b before a
  between : Sum
  between = grown s b.groups (timed b)

  n : t.failures ≡ s.failures + a.groups
  n = ap (λ (x : Sum). x.failures) first.after

  p : t.samples ≡ s.samples + timed a
  p = ap (λ (x : Sum). x.samples) first.after

  d : t.step ≡ s.step
  d = ap (λ (x : Sum). x.step) first.after

  before_it : Added s b between
  unfolding between
  before_it =
      record {
        sum = first.sum;
        record_sound = second.record_sound;
        long = second.long;
        step = second.step ∙ d;
        failures = omega (arith, second.failures, n);
        samples = omega (arith, second.samples, p);
        after = refl;
      }

  after_it : Added between a u
  unfolding between
  after_it =
      record {
        sum = added_sound before_it;
        record_sound = first.record_sound;
        long = first.long;
        step = first.step;
        failures = omega (arith, second.failures, n);
        samples = omega (arith, second.samples, p);
        after =
            let e = second.after in
            let x = ap (λ (y : Sum). y.step) e in
            let y = ap (λ (y : Sum). y.failures) e in
            let z = ap (λ (y : Sum). y.samples) e in
            same (x ∙ d) (omega (arith, n)) (omega (arith, p));
      }

pub any_order : (before : List Record) (a b : Record) (after : List Record) {s t : Sum} → AllAdded s (before ++ (a ∷ (b ∷ after))) t → AllAdded s (before ++ (b ∷ (a ∷ after))) t
any_order [] a b after (one {s = s} {t = t} e (one {t = u} f rest)) =
    let first = added_from s a t e in
    let second = added_from t b u f in
    one (added_back _ _ _ (before_it first second)) (one (added_back _ _ _ (after_it first second)) rest)
any_order (r ∷ before) a b after (one e rest) = one e (any_order before a b after rest)
