use Rattle.vala2c.specs.Stages as stage
use Rattle.vala2c.proofs.sources.read_input.Goals as goal

pub returns-in-None : goal.returns-in-None
returns-in-None g c = rw (c.in-None.is, c.new.ensures.items) (stage.none _)
