-- Document 02 [1]: a comma file by its lines. D is the job's step. Assumes nothing.
use Rattle.std.specs.Prelude.{ℕ, suc, ◌+◌, cond, List, [], ◌∷◌, ◌++◌, map, ℤ}
use Rattle.degrees.specs.Degrees.{sample_of}
use Rattle.comma_line.specs.Line.{roll, right, sample_text}

-- the place of the first line that is malformed or has a wrong time, from the time of the first on; their number where
-- there is none. Times grow by D
unfoldable pub first_wrong : ℕ → ℕ → List (List ℕ) → ℕ
first_wrong D time [] = 0
first_wrong D time (line ∷ lines) = cond (right time line) (suc (first_wrong D (time + D) lines)) 0

-- the samples of the lines
abbrev pub samples_of : List (List ℕ) → List ℤ
samples_of lines = map (λ line. sample_of (roll line)) lines

-- the text of samples, from the time of the first on
unfoldable pub text_from : ℕ → ℕ → List ℤ → List ℕ
text_from D time [] = []
text_from D time (x ∷ xs) = sample_text time x ++ text_from D (time + D) xs

-- times start at 0
abbrev pub text_of : ℕ → List ℤ → List ℕ
text_of D xs = text_from D 0 xs
