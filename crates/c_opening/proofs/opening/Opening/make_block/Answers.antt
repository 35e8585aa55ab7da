-- The run has a block more.
use Rattle.std.proofs.lemmas.Result.{on_ok_weaker}
use Rattle.c_opening.proofs.Shown.{made}
use Rattle.c_opening.proofs.opening.Opening.make_block.Goals as goal

pub returns-clause-made : goal.returns-clause-made
returns-clause-made c = on_ok_weaker c.make_block.result (made c.args.self.now c.make_block.new.self c.args.cells.now) c.make_block.ensures.made
