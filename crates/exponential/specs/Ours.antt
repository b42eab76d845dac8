-- Our figures of e ^ x as definitions that compute: X is a sum of powers of two, so e ^ x is a product of rows, one for
-- each bit of X that is set, cut to 32 bits after each row. `Down` and `Up` say how near that is to e ^ x. Assumes
-- nothing.
use Rattle.std.specs.Prelude.{cond, ℕ, zero, suc, ◌+◌, ◌*◌, ◌/◌, ◌%◌, ◌^◌, eqb, leb, get_or}
use Rattle.exponential.specs.declared.Power.{Power}
use Rattle.exponential.specs.Exponential.{one, past}
use Rattle.exponential.specs.Tables.{mantissas, shifts}

-- row i as a figure from below; the next mantissa makes one from above
abbrev pub row_of : ℕ → Power
row_of i = record { mantissa = get_or mantissas i 0; shift = get_or shifts i 0 }

-- a product of two mantissas, halved where its top bit is set, and cut to 32 bits downwards or upwards
abbrev pub top_bit : ℕ → ℕ
top_bit n = n / 2 ^ 63

abbrev pub down_to : ℕ → ℕ → ℕ
down_to n d = cond (eqb d 1) (n / 2 ^ 32) (n / 2 ^ 31)

abbrev pub up_to : ℕ → ℕ → ℕ
up_to n d = cond (eqb d 1) ((n + 4294967295) / 2 ^ 32) ((n + 2147483647) / 2 ^ 31)

-- a figure times m 2 ^ s / 2 ^ 31
abbrev pub times_down : Power → ℕ → ℕ → Power
times_down a m s =
    record {
      mantissa = down_to (a.mantissa * m) (top_bit (a.mantissa * m));
      shift = a.shift + s + top_bit (a.mantissa * m);
    }

abbrev pub times_up : Power → ℕ → ℕ → Power
times_up a m s =
    record {
      mantissa = up_to (a.mantissa * m) (top_bit (a.mantissa * m));
      shift = a.shift + s + top_bit (a.mantissa * m);
    }

-- a figure times row i where the bit is 1
abbrev pub row_down : Power → ℕ → ℕ → Power
row_down a i bit = cond (eqb bit 1) (times_down a (row_of i).mantissa (row_of i).shift) a

abbrev pub row_up : Power → ℕ → ℕ → Power
row_up a i bit = cond (eqb bit 1) (times_up a (suc (row_of i).mantissa) (row_of i).shift) a

-- a figure times n rows from row i on, by the bits of `rest`
unfoldable pub rows_down : ℕ → ℕ → ℕ → Power → Power
rows_down zero i rest a = a
rows_down (suc n) i rest a = rows_down n (suc i) (rest / 2) (row_down a i (rest % 2))

unfoldable pub rows_up : ℕ → ℕ → ℕ → Power → Power
rows_up zero i rest a = a
rows_up (suc n) i rest a = rows_up n (suc i) (rest / 2) (row_up a i (rest % 2))

-- e ^ 0, and what is answered past 64
abbrev pub unit : Power
unit = record { mantissa = one; shift = 0 }

abbrev pub nothing : Power
nothing = record { mantissa = 0; shift = 0 }

unfoldable pub our_down : ℕ → Power
our_down X = cond (leb past X) nothing (rows_down 26 0 X unit)

unfoldable pub our_up : ℕ → Power
our_up X = cond (leb past X) nothing (rows_up 26 0 X unit)

-- the figures in units of 2 ^ -31
abbrev pub down_times : ℕ → ℕ
down_times X = (our_down X).mantissa * 2 ^ (our_down X).shift

abbrev pub up_times : ℕ → ℕ
up_times X = (our_up X).mantissa * 2 ^ (our_up X).shift
