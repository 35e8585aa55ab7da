-- The entry that could not be added is taken from the index again.
use Rattle.name_table.proofs.Linked.{covered}
use Rattle.name_table.proofs.table.NameTable.push.Goals as goal

pub uncover-requires : goal.uncover-requires
uncover-requires g c = covered c.self.inside.index c.cover.new.index c.args.name.now c.len.result c.in_ok-hidden.ensures.put
