use Rattle.std.proofs.Common.{rules}
use Rattle.command_line.proofs.Steps.{unread}
use Rattle.command_line.proofs.asked.steps_in.Goals as goal

pub returns-in-Err : goal.returns-in-Err
returns-in-Err c = unread c.args.text.now (search rules) c.in-Err.ensures.value.0
