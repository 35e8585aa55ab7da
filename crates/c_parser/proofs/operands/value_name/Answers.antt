use Rattle.c_parser.proofs.OperandLaws.{value_name_bytes}
use Rattle.c_parser.proofs.operands.value_name.Goals as goal

pub returns-clause-letters : goal.returns-clause-letters
returns-clause-letters c = value_name_bytes c.args.constant c.args.level c.args.parser.now c.accept.new.self c.accept.result c.accept.ensures.took
