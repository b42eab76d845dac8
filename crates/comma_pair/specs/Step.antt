-- What the functions that read lines tell each other: some lines of one file, and as many of both. Assumes nothing.
use Rattle.std.specs.Prelude.{ℕ, ◌≤◌, min, ◌≡◌, Bool, List, ltb, ℤ, length, take, Result}
use Rattle.comma_stream.specs.declared.Follow.{Follow}
use Rattle.comma_stream.specs.Follow.{bytes_of, right_lines, after_lines}
use Rattle.comma_pair.specs.Taking.{onward, held_of, pairs_of}
use Rattle.refusal.specs.declared.Refusal.{Refusal}
use Rattle.record_state.specs.declared.Record.{Record}

-- the first n right lines of a text, as many as a slice has places: where the reading stands after them, their bytes,
-- and the slice afterwards
pub record Some (f : Follow) (text : List ℕ) (slice : List ℤ) (g : Follow) (bytes n : ℕ) (later : List ℤ) : Type 0 where
  pub number : n ≡ min (length slice) (length (right_lines f text))
  pub stands : g ≡ after_lines f (take n (right_lines f text))
  pub place : bytes ≡ bytes_of (take n (right_lines f text))
  pub samples : take n later ≡ held_of (take n (right_lines f text))

-- the first n right lines of both texts, 1,024 at most, and whether the roll has one more among so many
pub record Both (f g : Follow) (a : Result Record Refusal) (x y : List ℕ) (f' g' : Follow)
    (b : Result Record Refusal) (at beside n : ℕ) (ahead : Bool) : Type 0 where
  pub number : n ≡ min 1024 (pairs_of f g x y)
  pub roll : f' ≡ after_lines f (take n (right_lines f x))
  pub acceleration : g' ≡ after_lines g (take n (right_lines g y))
  pub says : b ≡ onward a (held_of (take n (right_lines f x))) (held_of (take n (right_lines g y)))
  pub place : at ≡ bytes_of (take n (right_lines f x))
  pub other : beside ≡ bytes_of (take n (right_lines g y))
  pub more : ahead ≡ ltb n (min 1024 (length (right_lines f x)))
