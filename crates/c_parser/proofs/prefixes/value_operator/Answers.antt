use Rattle.c_parser.proofs.ReaderSteps.{no_address_taken}
use Rattle.c_parser.proofs.prefixes.value_operator.Goals as goal

pub returns-clause-kind : goal.returns-clause-kind
returns-clause-kind c = no_address_taken c.args.constant c.args.level c.args.parser.now c.accept.new.self c.accept.result c.accept.ensures.took
