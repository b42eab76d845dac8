-- `record_list::settle` meets its contract: what the first pass found is the count, or that a sample is bad. Assumes
-- nothing.
use Rattle.record_list.proofs.Heard.{heard_count, heard_times}
use Rattle.record_list.proofs.settle.Goals as goal

pub write-requires : goal.write-requires
write-requires c =
    let p = c.requires in
    let h = rw c.in-Some.is at p.2 in
    (p.0, p.1, h.passes.0, heard_count _ _ _ _ _ h, heard_times _ _ _ _ _ h)
