-- Two answers that are the same carry the same, and a pair that is the same has the same parts. No answer is both `Ok`
-- and `Err`, or `Some` and `None`. What `?` hands on is the error that it was given. Assumes nothing.
use mathlib.Core.Path.{◌≡◌, ap, sym}
use Rattle.std.specs.Prelude.{Option, Some, None, Result, Ok, Err, IsErr, IsErrAnd}
use Rattle.truth.proofs.Laws.{impossible, true≢false}

module _ {A E : Type 0} where
  pub same_ok : {x y : A} → ◌≡◌ {A = Result A E} (Ok x) (Ok y) → x ≡ y
  same_ok e = cc

  pub same_err : {x y : E} → ◌≡◌ {A = Result A E} (Err x) (Err y) → x ≡ y
  same_err e = cc

  pub ok_not_err : {x : A} {y : E} → ◌≡◌ {A = Result A E} (Ok x) (Err y) → ⊥
  ok_not_err e = impossible (cc)

  pub err_not_ok : {x : A} {y : E} → ◌≡◌ {A = Result A E} (Err y) (Ok x) → ⊥
  err_not_ok e = impossible (cc)

  pub handed_on : {e : E} (r : Result A E) → IsErr r × IsErrAnd r (λ (x : E). x ≡ e) → r ≡ Err e
  handed_on (Ok x) h = absurd (true≢false (sym h.0))
  handed_on (Err x) h = ap Err h.1

module _ {A : Type 0} where
  pub same_some : {x y : A} → ◌≡◌ {A = Option A} (Some x) (Some y) → x ≡ y
  same_some e = cc

  pub none_not_some : {x : A} → ◌≡◌ {A = Option A} None (Some x) → ⊥
  none_not_some e = impossible (cc)

  pub some_not_none : {x : A} → ◌≡◌ {A = Option A} (Some x) None → ⊥
  some_not_none e = impossible (cc)

module _ {A B : Type 0} where
  pub same_first : {p q : A × B} → p ≡ q → p.0 ≡ q.0
  same_first e = ap (λ (r : A × B). r.0) e

  pub same_second : {p q : A × B} → p ≡ q → p.1 ≡ q.1
  same_second e = ap (λ (r : A × B). r.1) e
