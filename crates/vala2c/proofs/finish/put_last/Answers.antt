use Rattle.vala2c.specs.Course.{put, refused, memory}
use Rattle.vala2c.proofs.finish.put_last.Goals as goal

pub returns-in-Ok : goal.returns-in-Ok
returns-in-Ok g c = put (c.in-Ok.ensures.1, c.in-Ok.ensures.0)

pub returns-in-Failed : goal.returns-in-Failed
returns-in-Failed g c =
    let h = c.in-Err.ensures in
    rw c.when_unheard.ensures (refused c.in-Err.fault.taken h.1 (h.3, h.0) (h.2 c.in-Failed.is))

pub returns-in-Memory : goal.returns-in-Memory
returns-in-Memory g c = let h = c.in-Err.ensures in memory c.in-Err.fault.taken h.1 (h.3, h.0)
