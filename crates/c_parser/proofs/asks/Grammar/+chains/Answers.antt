use Rattle.std.proofs.Common.{refl}
use Rattle.c_grammar.specs.Parts.{Operand}
use Rattle.c_cursor.specs.Gives.{state}
use Rattle.c_cursor.specs.Scopes.{names_of}
use Rattle.c_parser.proofs.Progress.{stays}
use Rattle.c_parser.proofs.ReaderSteps.{less_by}
use Rattle.c_parser.proofs.asks.Grammar.+chains.Goals as goal

pub links-links-smaller : goal.links-links-smaller
links-links-smaller g t c =
    less_by _ _ _ (c.in-Some.ensures.shorter refl)
    (stays c.accept.new.self.end (names_of c.accept.new.self.names) (Operand c.args.tier c.args.constant) c.args.level
    (state c.accept.new.self) c.in_ok-operand.operand (state c.operand.new.parser) c.in_ok-operand.ensures.tree)
