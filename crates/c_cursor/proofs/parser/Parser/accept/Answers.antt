use Rattle.c_cursor.proofs.TakeLaws.{took_law}
use Rattle.c_cursor.proofs.parser.Parser.accept.Goals as goal

pub returns-clause-took : goal.returns-clause-took
returns-clause-took c = took_law c.args.set c.args.level c.args.self.now c.accept_next.new.self c.accept_next.result c.accept_next.ensures.token
