-- The numbers of include/chimenickel.h, by its names, in its order. tests/header holds
-- this table and the header to each other; what the numbers mean here is in proofs/Header. Assumes nothing.
use Rattle.std.specs.Prelude.{ℕ}

-- ---- How many numbers an array has, and the rows of a table
abbrev pub CHIM_RECORD_NUMBERS : ℕ
CHIM_RECORD_NUMBERS = 14

abbrev pub CHIM_RESULT_NUMBERS : ℕ
CHIM_RESULT_NUMBERS = 5

abbrev pub CHIM_CAMPAIGN_NUMBERS : ℕ
CHIM_CAMPAIGN_NUMBERS = 5

abbrev pub CHIM_SUM_NUMBERS : ℕ
CHIM_SUM_NUMBERS = 3

abbrev pub CHIM_BOUNDS_NUMBERS : ℕ
CHIM_BOUNDS_NUMBERS = 4

abbrev pub CHIM_TIMES_NUMBERS : ℕ
CHIM_TIMES_NUMBERS = 3

abbrev pub CHIM_SURVEY_NUMBERS : ℕ
CHIM_SURVEY_NUMBERS = 10

abbrev pub CHIM_HANDING_NUMBERS : ℕ
CHIM_HANDING_NUMBERS = 24

abbrev pub CHIM_BENCH_PLACES : ℕ
CHIM_BENCH_PLACES = 32

abbrev pub CHIM_PLACE_NUMBERS : ℕ
CHIM_PLACE_NUMBERS = 6

-- ---- The most situations of a loading condition, and room for the report of any
abbrev pub CHIM_MOST_SITUATIONS : ℕ
CHIM_MOST_SITUATIONS = 64

abbrev pub CHIM_REPORT_BYTES : ℕ
CHIM_REPORT_BYTES = 1832

-- ---- The places of a result
abbrev pub CHIM_CROSSINGS : ℕ
CHIM_CROSSINGS = 0

abbrev pub CHIM_COUNTED : ℕ
CHIM_COUNTED = 1

abbrev pub CHIM_FIRST : ℕ
CHIM_FIRST = 2

abbrev pub CHIM_EXPOSURE : ℕ
CHIM_EXPOSURE = 3

abbrev pub CHIM_LARGEST_SET : ℕ
CHIM_LARGEST_SET = 4

-- ---- The places of the times beyond the records
abbrev pub CHIM_ESTIMATED : ℕ
CHIM_ESTIMATED = 0

abbrev pub CHIM_LONGEST_ACCEPTED : ℕ
CHIM_LONGEST_ACCEPTED = 1

abbrev pub CHIM_SHORTEST_REJECTED : ℕ
CHIM_SHORTEST_REJECTED = 2

-- ---- The places of a sum's bounds
abbrev pub CHIM_ESTIMATE : ℕ
CHIM_ESTIMATE = 0

abbrev pub CHIM_LOWER : ℕ
CHIM_LOWER = 1

abbrev pub CHIM_UPPER : ℕ
CHIM_UPPER = 2

abbrev pub CHIM_TIME : ℕ
CHIM_TIME = 3

-- ---- What a call answers: 0, or a refusal's number
abbrev pub CHIM_TAKEN : ℕ
CHIM_TAKEN = 0

abbrev pub CHIM_ITEM : ℕ
CHIM_ITEM = 1

abbrev pub CHIM_SAMPLE : ℕ
CHIM_SAMPLE = 2

abbrev pub CHIM_TOO_LONG : ℕ
CHIM_TOO_LONG = 3

abbrev pub CHIM_TOO_SHORT : ℕ
CHIM_TOO_SHORT = 4

abbrev pub CHIM_CAMPAIGN_FULL : ℕ
CHIM_CAMPAIGN_FULL = 5

abbrev pub CHIM_ROWS_USED_UP : ℕ
CHIM_ROWS_USED_UP = 6

abbrev pub CHIM_ROOM : ℕ
CHIM_ROOM = 7

abbrev pub CHIM_BROKEN_STATE : ℕ
CHIM_BROKEN_STATE = 8

abbrev pub CHIM_LINE : ℕ
CHIM_LINE = 9

abbrev pub CHIM_COMMA_LINE : ℕ
CHIM_COMMA_LINE = 10

abbrev pub CHIM_SUM_FULL : ℕ
CHIM_SUM_FULL = 11

abbrev pub CHIM_UNEQUAL : ℕ
CHIM_UNEQUAL = 12

abbrev pub CHIM_NO_BUREAU : ℕ
CHIM_NO_BUREAU = 13

abbrev pub CHIM_BUREAU_FULL : ℕ
CHIM_BUREAU_FULL = 14

abbrev pub CHIM_NOT_ITS_OWN : ℕ
CHIM_NOT_ITS_OWN = 15

abbrev pub CHIM_TAIL : ℕ
CHIM_TAIL = 16

abbrev pub CHIM_PEAK : ℕ
CHIM_PEAK = 17

abbrev pub CHIM_CONDITION : ℕ
CHIM_CONDITION = 18

abbrev pub CHIM_TIMED_SAMPLES : ℕ
CHIM_TIMED_SAMPLES = 19

abbrev pub CHIM_LOW_LEVEL : ℕ
CHIM_LOW_LEVEL = 20

abbrev pub CHIM_NO_SPREAD : ℕ
CHIM_NO_SPREAD = 21

-- ---- The channels of a record
abbrev pub CHIM_ROLL : ℕ
CHIM_ROLL = 1

abbrev pub CHIM_ACCELERATION : ℕ
CHIM_ACCELERATION = 2

-- ---- The cases of a verdict
abbrev pub CHIM_NO_RECORD : ℕ
CHIM_NO_RECORD = 0

abbrev pub CHIM_ACCEPT : ℕ
CHIM_ACCEPT = 1

abbrev pub CHIM_REJECT : ℕ
CHIM_REJECT = 2

abbrev pub CHIM_CONTINUE : ℕ
CHIM_CONTINUE = 3

-- ---- What a loading condition comes to
abbrev pub CHIM_ACCEPTED : ℕ
CHIM_ACCEPTED = 1

abbrev pub CHIM_REJECTED : ℕ
CHIM_REJECTED = 2

abbrev pub CHIM_OPEN : ℕ
CHIM_OPEN = 3
