use Rattle.c_printer.proofs.StatementReading.{block_read}
use Rattle.c_printer.proofs.laws.blocks_are_read.Goals as goal

pub returns : goal.returns
returns c style ns n w b r = block_read style n r
