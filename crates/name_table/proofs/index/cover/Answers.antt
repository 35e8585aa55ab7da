-- What the index has for other names.
use Rattle.name_table.proofs.Keys.{updates_name}
use Rattle.name_table.proofs.index.cover.Goals as goal

pub returns-in-Ok-clause-put : goal.returns-in-Ok-clause-put
returns-in-Ok-clause-put c = λ other. updates_name c.args.name c.args.index.now c.insert.new.self _ c.in-Ok.ensures.updates other
