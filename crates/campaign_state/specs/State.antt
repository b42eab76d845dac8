-- A campaign's state: what it counts, document 01's relations for refusal 8, and what entering a record does. Assumes
-- nothing.
use Rattle.std.specs.Prelude.{Bool, cond, false, not, ◌&&◌, ◌||◌, ℕ, ◌+◌, ◌-◌, ◌*◌, eqb, leb, ltb}
use Rattle.poisson.specs.Rows.{rows}
use Rattle.sample_items.specs.Limits.{longest_time, within}
use Rattle.campaign_state.specs.declared.Campaign.{Campaign}

-- item 5, the standard: one failure in q ms
abbrev pub standard_in_range : ℕ → Bool
standard_in_range = within 1 100000000000

abbrev pub most_records : ℕ
most_records = 100000

-- ---- "The campaign"
-- a campaign without a record: N = N* = T = 0
abbrev pub empty : ℕ → Campaign
empty q = record { standard = q; records = 0; failures = 0; exposure = 0; failed = false }

-- N before the last record
abbrev pub failures_before : Campaign → ℕ
failures_before c = c.failures - cond c.failed 1 0

-- the censored count N*: N before the last record, plus 1; 0 while there is no record
unfoldable pub censored : Campaign → ℕ
censored c = cond (eqb c.records 0) 0 (failures_before c + 1)

-- a record enters: with a first failure N grows by 1; T grows by its exposure, the failure's time or else the full time
abbrev pub entered : Campaign → Bool → ℕ → Campaign
entered c f t =
    record {
      standard = c.standard;
      records = c.records + 1;
      failures = cond f (c.failures + 1) c.failures;
      exposure = c.exposure + t;
      failed = f;
    }

-- ---- "Relations for 8", the campaign's, sentence by sentence
-- q in range
abbrev pub standard_kept : Campaign → Bool
standard_kept c = standard_in_range c.standard

-- M at most 100,000
abbrev pub records_kept : Campaign → Bool
records_kept c = leb c.records most_records

-- N at most 64 and at most M
abbrev pub failures_kept : Campaign → Bool
failures_kept c = leb c.failures rows && leb c.failures c.records

-- T from M to M·10,000,000
abbrev pub exposure_kept : Campaign → Bool
exposure_kept c = within c.records (c.records * longest_time) c.exposure

-- where the last record failed there is a failure
abbrev pub failed_kept : Campaign → Bool
failed_kept c = not c.failed || leb 1 c.failures

-- where there is a last record and it did not fail, fewer failed than there are
abbrev pub unfailed_kept : Campaign → Bool
unfailed_kept c = not (not c.failed && leb 1 c.records) || ltb c.failures c.records

-- without a record none failed
abbrev pub empty_kept : Campaign → Bool
empty_kept c = not (eqb c.records 0) || not c.failed

-- a failure that uses up the rows is the last record's, since nothing enters after it
abbrev pub full_kept : Campaign → Bool
full_kept c = not (eqb c.failures rows) || c.failed

-- those about M, N and T, and those about the last record
abbrev pub figures_kept : Campaign → Bool
figures_kept c = failures_kept c && exposure_kept c

abbrev pub last_kept : Campaign → Bool
last_kept c = failed_kept c && (unfailed_kept c && (empty_kept c && full_kept c))

-- the state keeps every relation
unfoldable pub sound : Campaign → Bool
sound c = records_kept c && (standard_kept c && (figures_kept c && last_kept c))
