-- One file of which k right lines are taken: what comes after them (`after_them`), and k and then n lines are k + n
-- (`lines_on`, `bytes_on`, `held_on`). Assumes nothing.
use Prim.Native.Nat.{ℕ, suc, zero, ◌+◌, ◌≤◌}
use mathlib.Core.Path.{◌≡◌, refl, sym, ap, subst, ◌∙◌}
use mathlib.Core.List.{List, [], ◌∷◌, ◌++◌, map, map-append}
use native.Mathlib.Omega.{arith}
use lib.IntN.{ℤ}
use lib.ListN.{length, take, drop, length-take, length-map}
use lib.Seq.{drop_at, length-take-le, take-add, take-length}
use Rattle.degrees.specs.Degrees.{sample_of}
use Rattle.comma_line.specs.Line.{roll}
use Rattle.comma_line.specs.Text.{samples_of}
use Rattle.comma_stream.specs.declared.Follow.{Follow}
use Rattle.comma_stream.specs.Follow.{bytes_of, right_lines, after_lines, held}
use Rattle.comma_stream.proofs.Pieces.{after_join}
use Rattle.comma_count.proofs.Way.{after_those, some_parts}
use Rattle.comma_pair.specs.Taking.{held_of}

-- ---- fronts of a list
pub by_length : {A : Type 0} (n : ℕ) (l : List A) → take (length (take n l)) l ≡ take n l
by_length zero l = refl
by_length (suc n) [] = refl
by_length (suc n) (x ∷ l) = ap (λ y. x ∷ y) (by_length n l)

-- ---- lines one after the other
pub bytes_append : (us vs : List (List ℕ)) → bytes_of (us ++ vs) ≡ bytes_of us + bytes_of vs
unfolding bytes_of
bytes_append [] vs = omega arith
bytes_append (u ∷ us) vs = omega (arith, bytes_append us vs)

pub samples_append : (us vs : List (List ℕ)) → samples_of (us ++ vs) ≡ samples_of us ++ samples_of vs
samples_append us vs = map-append (λ line. sample_of (roll line)) us vs

pub held_append : (us vs : List (List ℕ)) → held_of (us ++ vs) ≡ held_of us ++ held_of vs
held_append us vs = ap (map held) (samples_append us vs) ∙ map-append held (samples_of us) (samples_of vs)

pub samples_many : (us : List (List ℕ)) → length (samples_of us) ≡ length us
samples_many us = length-map us (λ line. sample_of (roll line))

pub held_many : (us : List (List ℕ)) → length (held_of us) ≡ length us
held_many us = length-map (samples_of us) held ∙ samples_many us

module _ (f : Follow) (x : List ℕ) where
  abbrev pub Us : List (List ℕ)
  Us = right_lines f x

  module _ (k : ℕ) where
    pub within : bytes_of (take k Us) ≤ length x
    within = (some_parts f x k).within

    pub some : length (take k Us) ≤ bytes_of (take k Us)
    some = (some_parts f x k).some

    pub after_them : k ≤ length Us → right_lines (after_lines f (take k Us)) (drop (bytes_of (take k Us)) x) ≡ drop k Us
    after_them h = sym (ap (drop k) (after_those f x k) ∙ drop_at (take k Us) _ k (length-take-le k Us h))

    module _ (n : ℕ) where
      pub lines_on : after_lines (after_lines f (take k Us)) (take n (drop k Us)) ≡ after_lines f (take (k + n) Us)
      lines_on = after_join f (take k Us) (take n (drop k Us)) ∙ ap (after_lines f) (sym (take-add k n Us))

      pub bytes_on : bytes_of (take k Us) + bytes_of (take n (drop k Us)) ≡ bytes_of (take (k + n) Us)
      bytes_on = sym (ap bytes_of (take-add k n Us) ∙ bytes_append (take k Us) (take n (drop k Us)))

      pub held_on : held_of (take k Us) ++ held_of (take n (drop k Us)) ≡ held_of (take (k + n) Us)
      held_on = sym (ap held_of (take-add k n Us) ∙ held_append (take k Us) (take n (drop k Us)))

  pub all_within : bytes_of Us ≤ length x
  all_within = subst (λ l. bytes_of l ≤ length x) (take-length Us) (within (length Us))
