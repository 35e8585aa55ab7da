-- The last item is the next one.
use Rattle.c_run_state.proofs.Popping.{popped}
use Rattle.c_run_state.proofs.state.Run.pop.Goals as goal

pub returns : goal.returns
returns c = popped c.args.self.now c.pop.new.self c.pop.result c.pop.ensures.items c.pop.ensures.cases
