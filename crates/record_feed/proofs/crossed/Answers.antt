-- `record_feed::crossed` meets its contract, by its test. Assumes nothing.
use Rattle.record_state.proofs.Relations.{kept_from}
use Rattle.record_state.proofs.Bounds.{last_chosen_earlier}
use Rattle.record_feed.proofs.crossed.Goals as goal

pub far-requires : goal.far-requires
far-requires c =
    let e = last_chosen_earlier (kept_from c.args.r c.requires.0) in
    (c.requires.2, e.within, e.timed)
