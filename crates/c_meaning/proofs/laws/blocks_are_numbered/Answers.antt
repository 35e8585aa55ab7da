use Rattle.c_meaning.proofs.BlockLaws.{numbered}
use Rattle.c_meaning.proofs.laws.blocks_are_numbered.Goals as goal

pub returns : goal.returns
returns c = numbered
