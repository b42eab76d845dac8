-- Laws of bytes side by side, whose list is one of numbers below 256: one more byte after them, and how large they
-- get. Assumes nothing.
use mathlib.Core.Path.{◌≡◌, ap, ◌∙◌}
use mathlib.Core.List.{List, [], ◌∷◌, ◌++◌, foldl-append}
use Prim.Native.Nat.{ℕ, zero, suc, ◌+◌, ◌*◌, ◌/◌, ◌^◌, ◌≤◌, ◌<◌}
use native.Mathlib.Nat.{pow-suc, add-zero, add-suc}
use native.Mathlib.Omega.{arith}
use lib.Pow.{shr-shr}
use lib.ListN.{length, get_or, take, drop, length-take, get_or-eq_default}
use lib.Seq.{take-suc, get_or-take, get_or-drop}
use Rattle.truth.proofs.Cases.{by_order}
use Rattle.comma_word.specs.Word.{beside, word, Small}

-- every number of the list is a byte
abbrev pub Bytes : List ℕ → Type 0
Bytes bytes = (i : ℕ) → get_or bytes i 0 < 256

pub bytes_from : (s : List ℕ) (at j k : ℕ) → k ≤ j → Small s at j → Bytes (take k (drop at s))
bytes_from s at j k le small i =
    by_order i k
    (λ l. rw (get_or-take k (drop at s) i 0 l, get_or-drop) (small i (omega arith)))
    (λ l. rw (get_or-eq_default (take k (drop at s)) 0 {n = i} (omega (arith, length-take k (drop at s)))) (omega arith))

pub word_last : (bytes : List ℕ) (b : ℕ) → word (bytes ++ (b ∷ [])) ≡ beside (word bytes) b
unfolding word
word_last bytes b = foldl-append beside 0 bytes (b ∷ [])

-- the first k + 1 bytes are the first k and the one after them
pub word_suc : (bytes : List ℕ) (k : ℕ) → k < length bytes → word (take (suc k) bytes) ≡ beside (word (take k bytes)) (get_or bytes k 0)
word_suc bytes k h = rw (take-suc bytes k 0 h, word_last)

pub word_below : (bytes : List ℕ) → Bytes bytes → (k : ℕ) → k ≤ length bytes → word (take k bytes) < 256 ^ k
unfolding word
word_below bytes hs zero h = omega arith
word_below bytes hs (suc k) h = rw (word_suc bytes k h, pow-suc) (omega (arith, hs k, word_below bytes hs k (omega arith)))

-- a shift to the right leaves the bytes in front
pub word_front : (bytes : List ℕ) (k j : ℕ) → ((i : ℕ) → i < k + j → get_or bytes i 0 < 256) → k + j ≤ length bytes → word (take (k + j) bytes) / 2 ^ (8 * j) ≡ word (take k bytes)
word_front bytes k zero hs h = rw add-zero (omega arith)
word_front bytes k (suc j) hs h =
    let wide : 8 * suc j ≡ 8 + 8 * j = omega arith in
    rw (add-suc, word_suc bytes (k + j) (omega arith), wide, ← shr-shr)
    (ap (λ (v : ℕ). v / 2 ^ (8 * j)) (omega (arith, hs (k + j) (omega arith))) ∙ word_front bytes k j (λ i l. hs i (omega arith)) (omega arith))
