-- Numbers that are a second pass fit its fields.
use Rattle.std.proofs.Common.{arith}
use Rattle.capi_peaks.proofs.Fits.{handing_small}
use Rattle.capi_peaks.proofs.handing_at.Goals as goal

pub group_at-stretches-requires : goal.group_at-stretches-requires
group_at-stretches-requires c = (omega arith, (handing_small c.args.s.now c.requires.1).stretches)

pub group_at-chains-requires : goal.group_at-chains-requires
group_at-chains-requires c = (omega arith, (handing_small c.args.s.now c.requires.1).chains)
