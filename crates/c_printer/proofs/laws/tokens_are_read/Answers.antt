use Rattle.c_printer.proofs.Lexing.{tokens_of}
use Rattle.c_printer.proofs.laws.tokens_are_read.Goals as goal

pub returns : goal.returns
returns c = tokens_of c.tokens_cover.ensures.only
