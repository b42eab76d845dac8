-- The campaign's relations for refusal 8 again, as facts about numbers: what the test `sound` finds (`kept_from`,
-- `sound_from`). Assumes nothing.
use Rattle.std.specs.Prelude.{◌≡◌, not, ◌*◌, ◌≤◌, ◌<◌, T}
use Rattle.campaign_state.specs.declared.Campaign.{Campaign}

pub record Kept (c : Campaign) : Type 0 where
  pub standard_low : 1 ≤ c.standard
  pub standard_high : c.standard ≤ 100000000000
  pub records : c.records ≤ 100000
  pub failures_rows : c.failures ≤ 64
  pub failures_records : c.failures ≤ c.records
  pub exposure_low : c.records ≤ c.exposure
  pub exposure_high : c.exposure ≤ c.records * 10000000
  pub failed : T c.failed → 1 ≤ c.failures
  pub unfailed : T (not c.failed) → 1 ≤ c.records → c.failures < c.records
  pub empty : c.records ≡ 0 → T (not c.failed)
  pub full : c.failures ≡ 64 → T c.failed
