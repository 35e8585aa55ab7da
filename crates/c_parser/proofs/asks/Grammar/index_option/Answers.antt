use Rattle.c_cursor.specs.Gives.{state}
use Rattle.c_parser.proofs.ReaderSteps.{index_taken}
use Rattle.c_parser.proofs.asks.Grammar.index_option.Goals as goal

pub returns-clause-tree : goal.returns-clause-tree
returns-clause-tree g c =
    index_taken c.args.level c.args.parser.now c.accept.new.self (state c.index.new.parser) c.in-Some.opening c.in_ok-index.field-0
    c.in-Some.ensures.took c.in-Some.ensures.names c.in-Some.ensures.ends c.in_ok-index.ensures.tree
