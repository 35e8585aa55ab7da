-- The value is given when the block is freed.
use Rattle.c_meaning.specs.Blocks.{free}
use Rattle.c_run_state.proofs.Parts.{with_given}
use Rattle.c_run_state.proofs.state.Run.leave.Goals as goal

pub returns : goal.returns
returns c = λ env s shows.
    let left = c.in_ok-free_block.ensures env s shows in
    record { heap = left.heap; books = with_given env c.free_block.new.self (free s c.args.frame.block) c.args.value left.books }
