use Rattle.c_printer.proofs.MovingStatements.{block_moved}
use Rattle.c_printer.proofs.laws.places_do_not_matter.Goals as goal

pub returns : goal.returns
returns c ns w x a r l = let m = block_moved r l in (m.tree, m.reads, m.same)
