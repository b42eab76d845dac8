-- A state as the numbers of a lent array, in both directions: fourteen for a record, five for a campaign; and a result
-- as five. An array that holds no state stands for one whose first number is 0, which no state has, so that every entry
-- refuses it by 8. Assumes nothing.
use Rattle.std.specs.Prelude.{ℕ, ◌+◌, ◌/◌, ◌%◌, Bool, cond, false, ◌&&◌, List, [], ◌∷◌, eqb, leb, ℤ, pos, negsuc, length, get_or}
use Rattle.campaign_state.specs.declared.Campaign.{Campaign}
use Rattle.sample_channels.specs.Channels.{moment, still}
use Rattle.record_state.specs.declared.Record.{Record}
use Rattle.record_end.specs.declared.RecordResult.{RecordResult}

abbrev pub number_at : List ℕ → ℕ → ℕ
number_at s i = get_or s i 0

-- ---- a sample: 0, -1, 1, -2, 2, .. are 0, 1, 2, 3, 4, ..
unfoldable pub code_of : ℤ → ℕ
code_of (pos n) = n + n
code_of (negsuc n) = n + n + 1

unfoldable pub sample_of : ℕ → ℤ
sample_of k = cond (eqb (k % 2) 0) (pos (k / 2)) (negsuc (k / 2))

-- the code of 1,000,000, the highest of a sample in range
abbrev pub highest_code : ℕ
highest_code = 2000000

-- ---- a record: fourteen numbers, of which number 5 codes the last roll and number 13 the last acceleration
abbrev pub record_numbers : ℕ
record_numbers = 14

abbrev pub of_record : Record → List ℕ
of_record r =
    r.items.step ∷ r.items.ramp ∷ r.items.levels.roll ∷ r.items.decorrelation ∷ r.n
    ∷ code_of r.last.roll ∷ r.crossings ∷ r.largest ∷ r.first ∷ r.last_chosen ∷ r.last_crossing ∷ r.groups
    ∷ r.items.levels.acceleration ∷ code_of r.last.acceleration ∷ []

abbrev pub no_record : Record
no_record =
    record {
      items = record { step = 0; ramp = 0; levels = record { roll = 0; acceleration = 0 }; decorrelation = 0 };
      n = 0;
      last = still;
      crossings = 0;
      largest = 0;
      first = 0;
      last_chosen = 0;
      last_crossing = 0;
      groups = 0;
    }

abbrev pub record_at : List ℕ → Record
record_at s =
    record {
      items =
          record {
            step = number_at s 0;
            ramp = number_at s 1;
            levels = record { roll = number_at s 2; acceleration = number_at s 12 };
            decorrelation = number_at s 3;
          };
      n = number_at s 4;
      last = moment (sample_of (number_at s 5)) (sample_of (number_at s 13));
      crossings = number_at s 6;
      largest = number_at s 7;
      first = number_at s 8;
      last_chosen = number_at s 9;
      last_crossing = number_at s 10;
      groups = number_at s 11;
    }

abbrev pub is_record : List ℕ → Bool
is_record s = eqb (length s) record_numbers && (leb (number_at s 5) highest_code && leb (number_at s 13) highest_code)

unfoldable pub record_of : List ℕ → Record
record_of s = cond (is_record s) (record_at s) no_record

-- ---- a result: five numbers
abbrev pub result_numbers : ℕ
result_numbers = 5

abbrev pub of_result : RecordResult → List ℕ
of_result x = x.crossings ∷ x.counted ∷ x.first ∷ x.exposure ∷ x.largest ∷ []

-- exposure 0, which no result has
abbrev pub no_result : RecordResult
no_result = record { crossings = 0; counted = 0; first = 0; exposure = 0; largest = 0 }

abbrev pub result_at : List ℕ → RecordResult
result_at s =
    record {
      crossings = number_at s 0;
      counted = number_at s 1;
      first = number_at s 2;
      exposure = number_at s 3;
      largest = number_at s 4;
    }

unfoldable pub result_of : List ℕ → RecordResult
result_of s = cond (eqb (length s) result_numbers) (result_at s) no_result

-- ---- a campaign: five numbers, of which number 4 is 1 if the last record failed, else 0
abbrev pub campaign_numbers : ℕ
campaign_numbers = 5

abbrev pub flag : Bool → ℕ
flag b = cond b 1 0

abbrev pub of_campaign : Campaign → List ℕ
of_campaign c = c.standard ∷ c.records ∷ c.failures ∷ c.exposure ∷ flag c.failed ∷ []

abbrev pub no_campaign : Campaign
no_campaign = record { standard = 0; records = 0; failures = 0; exposure = 0; failed = false }

abbrev pub campaign_at : List ℕ → Campaign
campaign_at s =
    record {
      standard = number_at s 0;
      records = number_at s 1;
      failures = number_at s 2;
      exposure = number_at s 3;
      failed = eqb (number_at s 4) 1;
    }

abbrev pub is_campaign : List ℕ → Bool
is_campaign s = eqb (length s) campaign_numbers && leb (number_at s 4) 1

unfoldable pub campaign_of : List ℕ → Campaign
campaign_of s = cond (is_campaign s) (campaign_at s) no_campaign
