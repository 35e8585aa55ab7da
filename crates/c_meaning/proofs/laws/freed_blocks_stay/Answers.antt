use Rattle.c_meaning.proofs.BlockLaws.{freed_dead, dead_stay}
use Rattle.c_meaning.proofs.laws.freed_blocks_stay.Goals as goal

pub returns-clause-dead : goal.returns-clause-dead
returns-clause-dead c = freed_dead

pub returns-clause-stays : goal.returns-clause-stays
returns-clause-stays c = dead_stay
